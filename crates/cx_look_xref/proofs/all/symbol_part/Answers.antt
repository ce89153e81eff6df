use Rattle.std.proofs.Common.{◌≡◌, rules}
use Rattle.cx_look_symbols.specs.Symbols.{symbols_of}
use Rattle.cx_look_symbols.specs.Texts.{in_order}
use Rattle.cx_look_xref.specs.Given.{lines_given}
use Rattle.cx_look_xref.specs.References.{references_of, stores_of}
use Rattle.cx_look_xref.proofs.all.symbol_part.Goals as goal

pub returns : goal.returns
returns c =
    let stores : c.as_slice.result.now ≡ stores_of c.args.placed.now = search rules in
    let references : c.as_slice-2.result.now ≡ references_of c.args.placed.now = search rules in
    let given : c.as_slice-3.result.now ≡ lines_given c.args.placed.now = search rules in
    let symbols : c.in_ok-symbols.symbols.entries ≡ in_order (symbols_of c.args.placed.now).rows = search rules in
    rw (← stores, ← references, ← given, ← symbols) c.symbol_lines.ensures
