use Rattle.std.proofs.Common.{◌≡◌, ◌++◌, drop, flat_map, map}
use Rattle.std.specs.Prelude.{codes}
use Rattle.cx_code.specs.Text.{line_text}
use Rattle.cx_asm_build.proofs.program.push_disassembly.Given as goal

abbrev pub invariant-loop-line : goal.invariant-loop-line
invariant-loop-line l =
    l.text.items ++ flat_map (λ line. line ++ codes "\n") (map line_text (drop l.line-index l.lines)) ≡ l.fn.text.items ++ flat_map (λ line. line ++ codes "\n") (map line_text l.lines)
