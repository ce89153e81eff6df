use Rattle.std.proofs.Common.{subst, length, ◌≤◌, arith}
use Rattle.std.specs.Option.{option_map}
use Rattle.cx_service.proofs.ScreenLemmas.{HasShown, HasShown-none, HasShown-more, ShowsText-ended, ShowsText-full}
use Rattle.cx_service.proofs.screen.show_lines.Goals as goal

pub loop-i-init : goal.loop-i-init
loop-i-init c = HasShown-none c.args.rows.now c.args.text.now

pub loop-i-preserved : goal.loop-i-preserved
loop-i-preserved c =
    let shown = subst (λ l. HasShown c.args.rows.now c.loop-i.rows c.args.text.now (option_map (λ left. left.now) l) c.loop-i.i) c.in-Some.is c.loop-i.invariant in
    rw c.full_line.ensures
    (HasShown-more c.args.rows.now c.loop-i.rows c.args.text.now c.in-Some.current.now c.first_line.result.0.now _ c.loop-i.i shown c.first_line.ensures.goes_on)

pub returns-in-None : goal.returns-in-None
returns-in-None c =
    ShowsText-ended c.args.rows.now c.loop-i.rows c.args.text.now c.loop-i.i
    (subst (λ l. HasShown c.args.rows.now c.loop-i.rows c.args.text.now (option_map (λ left. left.now) l) c.loop-i.i) c.in-None.is c.loop-i.invariant)

pub returns : goal.returns
returns c =
    let full : length c.args.rows.now ≤ c.loop-i.i = omega arith in
    ShowsText-full c.args.rows.now c.loop-i.rows c.args.text.now (option_map (λ left. left.now) c.loop-i.left) c.loop-i.i full c.loop-i.invariant
