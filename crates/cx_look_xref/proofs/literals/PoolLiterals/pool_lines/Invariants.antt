use Rattle.std.proofs.Common.{◌≡◌, ◌++◌, drop}
use Rattle.std.specs.List.{flat_map}
use Rattle.cx_look_xref.specs.Parts.Uses.{lines_of_literal}
use Rattle.cx_look_xref.specs.Texts.{literal_line}
use Rattle.cx_look_xref.proofs.literals.PoolLiterals.pool_lines.Given as goal

abbrev pub invariant-loop-index : goal.invariant-loop-index
invariant-loop-index l =
    let line = literal_line l.self.section.now (lines_of_literal l.self.used.now.entries) l.self.number in
    l.report ++ flat_map line (drop l.index l.pool) ≡ l.initial.report ++ flat_map line l.pool
