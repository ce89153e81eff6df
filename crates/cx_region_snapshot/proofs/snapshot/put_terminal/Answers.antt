use Rattle.std.proofs.Common.{◌≡◌, ◌+◌, ◌∙◌, refl, length, take, slice_get, Some}
use Rattle.std.proofs.lemmas.Option.{slice_get_read}
use Rattle.indexmap.specs.IndexMap.{insert_entry}
use Rattle.cx_base.specs.Facts.Replicas.{entry_next}
use Rattle.cx_ebcdic.specs.Facts.Names.{is_name-laws}
use Rattle.cx_ebcdic.specs.Names.{is_name}
use Rattle.cx_region_snapshot.proofs.snapshot.put_terminal.Goals as goal

pub returns : goal.returns
returns c =
    let es = c.args.snapshots.now in
    let entry = c.index-snapshots-i.result in
    let at : slice_get es c.args.i ≡ Some entry = slice_get_read es (length es) c.args.i entry refl c.requires.within c.index-snapshots-i.is in
    let next = entry_next is_name is_name-laws.symm es c.args.i entry c.requires.distinct at in
    let put : insert_entry is_name c.args.terminals.now.entries c.name.result c.in_ok-terminal.terminal ≡ take (c.args.i + 1) es = rw (c.requires.so_far, c.name.ensures, c.in_ok-terminal.ensures) next in
    c.in_ok-insert.ensures.entries ∙ put
