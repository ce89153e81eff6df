use Rattle.std.proofs.Common.{◌≡◌, is_some, true, length, refl, arith}
use Rattle.cx_storage.specs.Storage.{span}
use Rattle.cx_storage_pages.specs.Parts.Shown.{stored}
use Rattle.cx_storage_pages.proofs.SpanLemmas.{filled_span}
use Rattle.cx_storage_pages.proofs.store.read_each.Goals as goal

pub returns-clause-after : goal.returns-clause-after
returns-clause-after c =
    let there : is_some (span (stored c.args.areas.now c.args.pages.now) c.args.a (length c.args.buffer.now)) ≡ true = cc in
    let same : length c.loop-k.buffer ≡ length c.args.buffer.now = omega arith in
    let there' = rw (← same) at there in
    let whole = filled_span (stored c.args.areas.now c.args.pages.now) c.args.a c.loop-k.buffer c.requires.address there' (λ k h. c.loop-k.invariant k (omega arith)) in
    let whole' = rw same at whole in
    rw whole' refl
