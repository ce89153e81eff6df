use Rattle.std.proofs.Common.{rules, sym, ap, ◌∙◌}
use Rattle.std.proofs.lemmas.List.{take-replicate}
use Rattle.cx_exec.specs.Logic.{logical_code}
use Rattle.cx_exec.proofs.BlockLemmas.{joined}
use Rattle.cx_exec.proofs.FillLemmas.{zeros_are_joined, zero_number}
use Rattle.cx_exec.proofs.strings.clear.Goals as goal

pub returns-clause-done : goal.returns-clause-done
returns-clause-done g c stored =
    let there = c.fill_fast.ensures.present (search (rules, stored)) in
    joined _ _ _ _ _ _ _ _ _ (search rules) (sym (take-replicate _ _ _ c.requires.count) ∙ zeros_are_joined _ _ _ c.requires.operand c.requires.count there)
    (ap logical_code (sym (zero_number _))) (c.fill_fast.ensures.done (search (rules, stored)))
