use Rattle.std.proofs.Common.{◌≡◌, ◌+◌, ◌∙◌, sym, take}
use Rattle.indexmap.specs.IndexMap.{insert_entry}
use Rattle.cx_base.specs.Facts.Replicas.{entry_next}
use Rattle.cx_base.proofs.replica_tables.put_entry.Goals as goal

pub returns : goal.returns
returns g c =
    let es = c.args.table.now.entries in
    let name = c.unwrap.result.0.now in
    let value = c.unwrap.result.1.now in
    let at = rw c.unwrap.ensures at c.get_index.ensures.entry in
    let next = entry_next g.K.PartialEq.eq g.met.K.Eq.laws.symm es c.args.i (name, value) c.requires.distinct (sym at) in
    let put : insert_entry g.K.PartialEq.eq c.args.copy.now.entries name c.in_ok-value.value ≡ take (c.args.i + 1) es = rw (c.requires.so_far, c.in_ok-value.ensures) next in
    c.in_ok-insert.ensures.entries ∙ put
