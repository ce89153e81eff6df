use Rattle.std.proofs.Common.{◌∙◌, ◌≡◌, ◌+◌, Some, sym, subst}
use Rattle.std.specs.Prelude.{slice_get}
use Rattle.std.proofs.lemmas.Option.{none-some, same_Some}
use Rattle.cx_orders.specs.Moves.{begun}
use Rattle.cx_look_orders.specs.Outcomes.{HasText}
use Rattle.cx_look_orders.specs.Parts.Ways.{AreOfFirst}
use Rattle.cx_look_orders.specs.Rest.{RestText}
use Rattle.cx_look_orders.proofs.OutcomeLemmas.{first_known, first_new, first_past}
use Rattle.cx_look_orders.proofs.outcomes.add_outcome.Goals as goal

pub returns-in_default : goal.returns-in_default
returns-in_default g c =
    first_past (g.V.Seen.shows c.args.searched.now.seen.now) (g.V.Seen.tells c.args.searched.now.seen.now) c.args.searched.now.orders.now.keys (begun c.args.searched.now.region.now) c.args.searched.now.found.now.states.entries c.args.places.now c.shows_decide.ensures c.texts_decide.ensures.waits c.args.index c.args.outcomes.now.items c.requires.so_far
    (λ place state there at. none-some place (sym c.in_default.is ∙ c.place_at.ensures ∙ there))

pub returns-in_default-get_index : goal.returns-in_default-get_index
returns-in_default-get_index g c =
    first_past (g.V.Seen.shows c.args.searched.now.seen.now) (g.V.Seen.tells c.args.searched.now.seen.now) c.args.searched.now.orders.now.keys (begun c.args.searched.now.region.now) c.args.searched.now.found.now.states.entries c.args.places.now c.shows_decide.ensures c.texts_decide.ensures.waits c.args.index c.args.outcomes.now.items c.requires.so_far
    (λ place state there at.
    let same = same_Some c.in-Some.place place (sym c.in-Some.is ∙ c.place_at.ensures ∙ there) in
    none-some (state, at.origin)
    (c.in_default-get_index.ensures.entry ∙ subst (λ p. slice_get c.args.searched.now.found.now.states.entries p ≡ Some (state, at.origin)) (sym same) at.there))

pub returns-then-has_text : goal.returns-then-has_text
returns-then-has_text g c =
    first_known (g.V.Seen.shows c.args.searched.now.seen.now) (g.V.Seen.tells c.args.searched.now.seen.now) c.args.searched.now.orders.now.keys (begun c.args.searched.now.region.now) c.args.searched.now.found.now.states.entries c.args.places.now c.shows_decide.ensures c.texts_decide.ensures.waits c.args.index c.args.outcomes.now.items c.in_ok-text.text c.requires.so_far
    (record {
      place = c.in-Some.place;
      there = sym c.place_at.ensures ∙ c.in-Some.is;
      state = c.in-Some-get_index.state.now;
      at = record { origin = c.in-Some-get_index._origin.now; there = sym c.in-Some-get_index.ensures.entry };
      shows = subst (λ keys. RestText (g.V.Seen.shows c.args.searched.now.seen.now) keys c.in-Some-get_index.state.now c.in_ok-text.text) c.as_slice.ensures c.in_ok-text.ensures;
    })
    (subst (λ os. HasText os c.in_ok-text.text) c.as_slice-2.ensures.value c.if-has_text.ensures)

pub returns : goal.returns
returns g c =
    subst (AreOfFirst (g.V.Seen.shows c.args.searched.now.seen.now) (g.V.Seen.tells c.args.searched.now.seen.now) c.args.searched.now.orders.now.keys (begun c.args.searched.now.region.now) c.args.searched.now.found.now.states.entries c.args.places.now (c.args.index + 1))
    (sym c.in_ok-push.ensures.items)
    (first_new (g.V.Seen.shows c.args.searched.now.seen.now) (g.V.Seen.tells c.args.searched.now.seen.now) c.args.searched.now.orders.now.keys (begun c.args.searched.now.region.now) c.args.searched.now.found.now.states.entries c.args.places.now c.shows_decide.ensures c.texts_decide.ensures.waits c.requires.sorted c.requires.found c.args.index c.args.outcomes.now.items (record { text = c.in_ok-text.text; steps = c.in_ok-steps.steps }) c.requires.so_far
    (record {
      place = c.in-Some.place;
      there = sym c.place_at.ensures ∙ c.in-Some.is;
      state = c.in-Some-get_index.state.now;
      at = record { origin = c.in-Some-get_index._origin.now; there = sym c.in-Some-get_index.ensures.entry };
      shows = subst (λ keys. RestText (g.V.Seen.shows c.args.searched.now.seen.now) keys c.in-Some-get_index.state.now c.in_ok-text.text) c.as_slice.ensures c.in_ok-text.ensures;
    })
    (λ has. c.if-has_text.ensures (subst (λ os. HasText os c.in_ok-text.text) (sym c.as_slice-2.ensures.value) has))
    (c.in_ok-steps.ensures c.in-Some-get_index.state.now c.requires.found
    (record { origin = c.in-Some-get_index._origin.now; there = sym c.in-Some-get_index.ensures.entry })))
