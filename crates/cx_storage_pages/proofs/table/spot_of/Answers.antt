use Rattle.std.proofs.Common.{rules, of_calls, nat_lt, length, ◌≤◌}
use Rattle.std.proofs.lemmas.Fn.{always_returns_same}
use Rattle.cx_storage_pages.proofs.TableLemmas.{partitioned, spot_point}
use Rattle.cx_storage_pages.proofs.table.spot_of.Goals as goal

pub returns-clause-value : goal.returns-clause-value
returns-clause-value c =
    let same = c.as_slice.ensures.value in
    let point = c.partition_point.ensures.partitioned (λ area. nat_lt area.start c.args.start) (always_returns_same _ _ _ (λ a r f k. search (rules, of_calls)))
    (λ i j d le h e. rw same (partitioned c.args.areas.now.items c.args._pages.now.items c.args.start i j d c.requires le (rw (← same) h) (rw (← same) e))) in
    let bound : c.partition_point.result ≤ length c.args.areas.now.items = rw same at c.partition_point.ensures.bound in
    let point' = rw same at point in
    spot_point c.args.areas.now.items c.args.start c.partition_point.result bound point'.0 point'.1
