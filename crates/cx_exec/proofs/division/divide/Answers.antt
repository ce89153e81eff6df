use Rattle.std.proofs.Common.{rules, ◌∙◌, ap, FitsSigned}
use Rattle.std.specs.Int.{w64}
use Rattle.std.proofs.lemmas.Int.{to_z-of_z}
use Rattle.cx_exec.specs.Numbers.{signed_double, word_of}
use Rattle.cx_exec.proofs.DivideLemmas.{divided_written}
use Rattle.cx_exec.proofs.division.divide.Goals as goal

pub returns : goal.returns
returns c storage =
    let wide : FitsSigned w64 c.signed_double-dividend.result = search rules in
    let narrow : FitsSigned w64 c.signed.result = search rules in
    let first : FitsSigned w64 c.in-Some.found.0 = search rules in
    let second : FitsSigned w64 c.in-Some.found.1 = search rules in
    rw (← c.updated.view_is) (divided_written _ _ _ _ _ _ _ _ _ _
    (to_z-of_z w64 c.signed_double-dividend.result wide ∙ c.signed_double-dividend.ensures ∙ ap signed_double c.pair.ensures)
    (to_z-of_z w64 c.signed.result narrow ∙ c.signed.ensures) c.in-Some.ensures.divides
    (c.word_of.ensures ∙ ap word_of (to_z-of_z w64 c.in-Some.found.1 second)) (c.word_of-2.ensures ∙ ap word_of (to_z-of_z w64 c.in-Some.found.0 first)))
