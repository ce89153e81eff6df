use Rattle.std.proofs.Common.{◌≡◌, ◌≤◌, drop, map}
use Rattle.std.specs.Int.Digits.{number_from_digits_after}
use Rattle.cx_asm_expressions.specs.Digits.{bound}
use Rattle.cx_asm_expressions.specs.Texts.{code, single, character_number}
use Rattle.cx_asm_expressions.proofs.texts.character_number.Given as goal

abbrev pub invariant-loop-c : goal.invariant-loop-c
invariant-loop-c l =
    record {
      small : l.number ≤ bound;
      goes_on : number_from_digits_after 256 l.number (map code (single l.opened (drop l.c-index l.body))) ≡ character_number l.body;
    }
