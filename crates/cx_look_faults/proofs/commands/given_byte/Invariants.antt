use Rattle.std.proofs.Common.{◌≡◌, drop}
use Rattle.std.specs.Prelude.{bit_or, fold, if◌then◌else◌}
use Rattle.cx_base.specs.Options.{option_name}
use Rattle.cx_look_faults.specs.Commands.{operand_has_word}
use Rattle.cx_look_faults.proofs.commands.given_byte.Given as goal

abbrev pub invariant-loop-option : goal.invariant-loop-option
invariant-loop-option l =
    fold (λ byte o. if operand_has_word l.operand l.words (option_name o.name) then bit_or byte o.bit else byte) l.byte (drop l.option-index l.options)
    ≡ fold (λ byte o. if operand_has_word l.operand l.words (option_name o.name) then bit_or byte o.bit else byte) 0 l.options
