use Rattle.std.proofs.Common.{◌≡◌, arith, length, subst, sym}
use Rattle.cx_search.specs.declared.marks.Rule.TheVariants.{Any}
use Rattle.cx_search.specs.Parts.Marks.{AreRight, AreStable}
use Rattle.cx_search.proofs.ForeverLemmas.{rest_of}
use Rattle.cx_search.proofs.found.Found.restless.Goals as goal

pub returns : goal.returns
returns g c = λ space start whole.
    let Goes = g.T.Space.goes space in
    let es = c.args.self.now.states.entries in
    let links = c.args.self.now.links.items in
    let many : c.len.result ≡ length es = omega (arith, c.len.ensures.len) in
    rest_of Goes start es links whole c.as_slice.result.now c.len.result c.first_unmarked.result many
    (subst (λ xs. AreRight Goes es Any xs) (sym c.as_slice.ensures.value) (c.in_ok-marks.ensures.right space whole.done whole.linked))
    (subst (λ xs. AreStable links Any xs) (sym c.as_slice.ensures.value) c.in_ok-marks.ensures.stable)
    c.first_unmarked.ensures.unmarked c.first_unmarked.ensures.none c.first_unmarked.ensures.first
