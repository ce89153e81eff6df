use Rattle.std.proofs.Common.{◌≡◌, drop, map}
use Rattle.cx_asm_expressions.specs.Symbols.{find_in}
use Rattle.cx_look_symbols.specs.Parts.Rows.{names_among, with_names}
use Rattle.cx_look_symbols.proofs.rows.put_texts.Given as goal

abbrev pub invariant-loop-text : goal.invariant-loop-text
invariant-loop-text l =
    with_names (find_in l.symbols) l.line l.rows.entries (names_among (map (λ text. text.now) (drop l.text-index l.texts)))
    ≡ with_names (find_in l.symbols) l.line l.initial.rows.entries (names_among (map (λ text. text.now) l.texts))
