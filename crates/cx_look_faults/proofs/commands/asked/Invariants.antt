use Rattle.std.proofs.Common.{◌≡◌, ◌++◌, drop, true}
use Rattle.std.specs.Prelude.{bit_or, filter}
use Rattle.cx_base.specs.Legal.{has_bit, rule_holds}
use Rattle.cx_look_faults.specs.Parts.Names.{names_from}
use Rattle.cx_look_faults.proofs.commands.asked.Given as goal

abbrev pub invariant-loop-option : goal.invariant-loop-option
invariant-loop-option l =
    l.text.items ++ names_from l.is_first (filter (λ o. rule_holds (has_bit (bit_or l.byte o.bit)) l.rule) (drop l.option-index l.options))
    ≡ names_from true (filter (λ o. rule_holds (has_bit (bit_or l.byte o.bit)) l.rule) l.options)
