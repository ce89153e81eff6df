use Rattle.std.proofs.Common.{◌+◌, ◌≤◌, arith, refl, subst, sym}
use Rattle.cx_search.specs.declared.found.Origin.{Origin}
use Rattle.cx_search.specs.Found.{IsAt, Searched}
use Rattle.cx_search.specs.Moves.{GoesOnly, GoesTo}
use Rattle.cx_search.specs.Parts.Searching.{AreFirstNexts}
use Rattle.cx_search.proofs.NextLemmas.{nexts_new, nexts_none, nexts_to}
use Rattle.cx_search.proofs.SearchLemmas.{at_kept, at_same, goes_none, goes_some, more_known, more_new, more_none, no_place}
use Rattle.cx_search.proofs.found.Found.try_move.Goals as goal

pub returns-in_default-2-clause-searched : goal.returns-in_default-2-clause-searched
returns-in_default-2-clause-searched g c =
    more_none (g.T.Space.goes c.args.space.now) c.args.self.now.states.entries c.args.attempt.from c.args.attempt.number c.in-Some.from.now c.in-Some.origin.now
    c.requires.searched (sym c.in-Some.ensures.entry)
    (goes_none (g.T.Space.goes c.args.space.now) c.in-Some.from.now c.args.attempt.number c.in_ok-to.field-0 c.in_ok-to.ensures c.in_default-2.is)

pub returns-in_default-2-clause-nexts : goal.returns-in_default-2-clause-nexts
returns-in_default-2-clause-nexts g c = λ state at.
    nexts_none (g.T.Space.goes c.args.space.now) c.args.self.now.states.entries state c.args.attempt.number c.args.nexts.now.items (c.requires.so_far state at)
    (goes_none (g.T.Space.goes c.args.space.now) state c.args.attempt.number c.in_ok-to.field-0
    (subst (λ s. GoesTo (g.T.Space.goes c.args.space.now) s c.args.attempt.number c.in_ok-to.field-0)
    (at_same c.args.self.now.states.entries c.args.attempt.from c.args.attempt.from c.in-Some.from.now state c.in-Some.origin.now at.origin refl (sym c.in-Some.ensures.entry) at.there).0
    c.in_ok-to.ensures)
    c.in_default-2.is)

pub returns-in-Some-place_of-clause-searched : goal.returns-in-Some-place_of-clause-searched
returns-in-Some-place_of-clause-searched g c =
    more_known (g.T.Space.goes c.args.space.now) c.args.self.now.states.entries c.args.attempt.from c.args.attempt.number c.in-Some.from.now c.in-Some.origin.now
    c.requires.searched (sym c.in-Some.ensures.entry) c.in-Some-2.to c.in-Some-place_of.place
    (goes_some (g.T.Space.goes c.args.space.now) c.in-Some.from.now c.args.attempt.number c.in_ok-to.field-0 c.in-Some-2.to c.in_ok-to.ensures c.in-Some-2.is)
    c.in-Some-place_of.ensures.found

pub returns-in-Some-place_of-clause-nexts : goal.returns-in-Some-place_of-clause-nexts
returns-in-Some-place_of-clause-nexts g c = λ state at.
    subst (λ xs. AreFirstNexts (g.T.Space.goes c.args.space.now) c.args.self.now.states.entries state (c.args.attempt.number + 1) xs) (sym c.in_ok-push.ensures.items)
    (nexts_to (g.T.Space.goes c.args.space.now) c.args.self.now.states.entries state c.args.attempt.number c.args.nexts.now.items c.in-Some-2.to
    c.in-Some-place_of.place (c.requires.so_far state at)
    (subst (λ s. GoesOnly (g.T.Space.goes c.args.space.now) s c.args.attempt.number c.in-Some-2.to)
    (at_same c.args.self.now.states.entries c.args.attempt.from c.args.attempt.from c.in-Some.from.now state c.in-Some.origin.now at.origin refl (sym c.in-Some.ensures.entry) at.there).0
    (goes_some (g.T.Space.goes c.args.space.now) c.in-Some.from.now c.args.attempt.number c.in_ok-to.field-0 c.in-Some-2.to c.in_ok-to.ensures c.in-Some-2.is))
    c.in-Some-place_of.ensures.found)

pub returns-then-place-attempt-clause-searched : goal.returns-then-place-attempt-clause-searched
returns-then-place-attempt-clause-searched g c =
    record {
      tried = c.args.attempt.number;
      searched = c.requires.searched;
      full = omega (arith, c.if-place-attempt.true, c.len-place.ensures.len);
      from = c.in-Some.from.now;
      by = c.in-Some.origin.now;
      at = sym c.in-Some.ensures.entry;
      more = c.in-Some-2.to;
      goes = (goes_some (g.T.Space.goes c.args.space.now) c.in-Some.from.now c.args.attempt.number c.in_ok-to.field-0 c.in-Some-2.to c.in_ok-to.ensures c.in-Some-2.is).goes;
      new = no_place c.place_of.result _ c.place_of.ensures.absent c.in_default-place_of.is;
    }

pub overflow_add-moves : goal.overflow_add-moves
overflow_add-moves g c =
    let few : c.in-Some.origin.now.moves ≤ c.args.attempt.from = c.requires.searched.small c.args.attempt.from c.in-Some.from.now c.in-Some.origin.now (sym c.in-Some.ensures.entry) in
    omega (arith, few, c.requires.within, c.len-place.ensures.len, c.len-place.ensures.small)

pub push-requires-2 : goal.push-requires-2
push-requires-2 g c = no_place c.place_of.result _ c.place_of.ensures.absent c.in_default-place_of.is

pub returns-clause-searched : goal.returns-clause-searched
returns-clause-searched g c =
    let new = no_place c.place_of.result _ c.place_of.ensures.absent c.in_default-place_of.is in
    let goes = goes_some (g.T.Space.goes c.args.space.now) c.in-Some.from.now c.args.attempt.number c.in_ok-to.field-0 c.in-Some-2.to c.in_ok-to.ensures c.in-Some-2.is in
    subst (λ es. Searched (g.T.Space.goes c.args.space.now) es c.args.attempt.from (c.args.attempt.number + 1)) (sym c.in_ok-push-2.ensures.ok)
    (more_new (g.T.Space.goes c.args.space.now) c.args.self.now.states.entries c.args.attempt.from c.args.attempt.number c.in-Some.from.now c.in-Some.origin.now
    c.requires.searched (sym c.in-Some.ensures.entry) c.in-Some-2.to goes new
    (record { from = c.args.attempt.from; number = c.args.attempt.number; moves = c.in-Some.origin.now.moves + 1 }) refl refl refl)

pub returns-clause-nexts : goal.returns-clause-nexts
returns-clause-nexts g c = λ state at.
    let o : Origin = record { from = c.args.attempt.from; number = c.args.attempt.number; moves = c.in-Some.origin.now.moves + 1 } in
    nexts_new (g.T.Space.goes c.args.space.now) c.args.self.now.states.entries c.in-Some-2.to o c.push-2.new.self.states.entries c.in_ok-push-2.ensures.ok
    c.args.attempt.from c.args.attempt.number c.args.nexts.now.items c.push-3.new.self.items c.len-place.result c.len-place.ensures.len c.in_ok-push-3.ensures.items
    c.in-Some.from.now (record { origin = c.in-Some.origin.now; there = sym c.in-Some.ensures.entry }) c.requires.so_far
    (goes_some (g.T.Space.goes c.args.space.now) c.in-Some.from.now c.args.attempt.number c.in_ok-to.field-0 c.in-Some-2.to c.in_ok-to.ensures c.in-Some-2.is)
    state at

pub returns-clause-kept : goal.returns-clause-kept
returns-clause-kept g c = λ place s at.
    subst (λ es. IsAt es place s) (sym c.in_ok-push-2.ensures.ok)
    (at_kept c.args.self.now.states.entries c.in-Some-2.to (record { from = c.args.attempt.from; number = c.args.attempt.number; moves = c.in-Some.origin.now.moves + 1 }) place s at)
