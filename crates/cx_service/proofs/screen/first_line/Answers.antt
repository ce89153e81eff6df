use Rattle.std.proofs.Common.{Some, None, ◌+◌, drop, subst}
use Rattle.std.specs.Option.{option_map}
use Rattle.cx_service.specs.Lines.{AreLinesOf}
use Rattle.cx_service.proofs.LineLemmas.{short_first, broken_first}
use Rattle.cx_service.proofs.screen.first_line.Goals as goal

pub returns-then-part-le-COLUMNS-clause-goes_on : goal.returns-then-part-le-COLUMNS-clause-goes_on
returns-then-part-le-COLUMNS-clause-goes_on c = λ lines more.
    short_first c.args.text.now c.first_part.result.0.now (option_map (λ left. left.now) c.first_part.result.1) lines c.first_part.ensures.first c.if-part-le-COLUMNS.true more

pub returns-in-Some-clause-goes_on : goal.returns-in-Some-clause-goes_on
returns-in-Some-clause-goes_on c = λ lines more.
    let left : AreLinesOf (drop (c.in-Some.k + 1) c.args.text.now) lines = subst (λ t. AreLinesOf t lines) c.split_at-in-Some.ensures.back more in
    rw c.split_at.ensures.front
    (broken_first c.args.text.now c.first_part.result.0.now (option_map (λ left. left.now) c.first_part.result.1) (Some c.in-Some.k) c.first_part.ensures.first c.if-part-le-COLUMNS.false c.in-Some.ensures lines left)

pub returns-in-None-clause-goes_on : goal.returns-in-None-clause-goes_on
returns-in-None-clause-goes_on c = λ lines more.
    let left : AreLinesOf (drop 80 c.args.text.now) lines = subst (λ t. AreLinesOf t lines) c.split_at-in-None-2.ensures.back more in
    rw c.split_at-in-None.ensures.front
    (broken_first c.args.text.now c.first_part.result.0.now (option_map (λ left. left.now) c.first_part.result.1) None c.first_part.ensures.first c.if-part-le-COLUMNS.false c.in-None.ensures lines left)
