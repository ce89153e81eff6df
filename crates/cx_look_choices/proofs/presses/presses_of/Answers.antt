use Rattle.std.proofs.Common.{get_or, subst, sym}
use Rattle.std.specs.Prelude.{MatchOption}
use Rattle.std.proofs.lemmas.Option.{slice_get-get_or}
use Rattle.cx_choices.specs.Moves.{Chooses}
use Rattle.cx_choices.specs.declared.states.Passage.{Passage}
use Rattle.cx_look_choices.specs.Parts.Ways.{ArePressesOf, IsPressed}
use Rattle.cx_look_choices.specs.declared.presses.Pressed.{Pressed}
use Rattle.cx_look_choices.proofs.PressLemmas.{Walks, walk_begins, walk_ends, walk_on, walk_stops}
use Rattle.cx_look_choices.proofs.presses.presses_of.Goals as goal

pub loop-number-init : goal.loop-number-init
loop-number-init g c = λ to leads.
    subst (Walks c.args.choices.now.choices.items c.args.choices.now.one_number c.args.start c.args.moves.now to 0 c.args.start) (sym c.new-presses.ensures.items)
    (walk_begins c.args.choices.now.choices.items c.args.choices.now.one_number c.args.start c.args.moves.now to leads)

pub returns-in_default : goal.returns-in_default
returns-in_default g c = λ to leads.
    let l = c.loop-number in
    let choices = c.args.choices.now.choices.items in
    let one_number = c.args.choices.now.one_number in
    let number = get_or c.args.moves.now l.number-index 0 in
    absurd (walk_stops choices one_number c.args.start c.args.moves.now to l.number-index l.at l.presses.items number (l.invariant to leads)
    (slice_get-get_or c.args.moves.now l.number-index 0 c.loop-number-test.true)
    (subst
    (λ o. MatchOption o ((passage : Passage) → Chooses choices one_number l.at.region number passage → ⊥)
    (λ (p : Pressed). IsPressed choices one_number l.at number p.press p.to)) c.in_default.is c.in_ok-pressed.ensures))

pub loop-number-preserved : goal.loop-number-preserved
loop-number-preserved g c = λ to leads.
    let l = c.loop-number in
    let choices = c.args.choices.now.choices.items in
    let one_number = c.args.choices.now.one_number in
    let number = get_or c.args.moves.now l.number-index 0 in
    let pressed = c.in-Some.pressed in
    walk_on choices one_number c.choices_decide.ensures.moves c.args.start c.args.moves.now to l.number-index l.at l.presses.items c.push.new.self.items number
    pressed.press pressed.to (l.invariant to leads) (slice_get-get_or c.args.moves.now l.number-index 0 c.loop-number-test.true)
    (subst
    (λ o. MatchOption o ((passage : Passage) → Chooses choices one_number l.at.region number passage → ⊥)
    (λ (p : Pressed). IsPressed choices one_number l.at number p.press p.to)) c.in-Some.is c.in_ok-pressed.ensures)
    c.in_ok-push.ensures.items

pub returns : goal.returns
returns g c = λ to leads.
    let l = c.loop-number in
    subst (ArePressesOf c.args.choices.now.choices.items c.args.choices.now.one_number c.args.start c.args.moves.now to) (sym c.from_vec-2.ensures)
    (walk_ends c.args.choices.now.choices.items c.args.choices.now.one_number c.args.start c.args.moves.now to l.number-index l.at l.presses.items
    (l.invariant to leads) c.loop-number-test.false)
