use Rattle.std.proofs.Common.{◌≡◌, ◌<◌, ◌∙◌, None, Some, ap, arith, length, subst, sym}
use Rattle.std.specs.Option.{option_copied}
use Rattle.std.specs.Prelude.{find}
use Rattle.std.proofs.lemmas.List.{length-replicate}
use Rattle.std.proofs.lemmas.Option.{none-some, slice_get_within}
use Rattle.cx_search.specs.Parts.Marks.{IsComeTo, is_free, unmarked}
use Rattle.cx_search.proofs.ForeverLemmas.{loops, next_free, seen_none, seen_on, some_next}
use Rattle.cx_search.proofs.MarkLemmas.{fewer_unmarked, row_of}
use Rattle.cx_search.proofs.found.Found.repeated.Goals as goal

pub walk-init : goal.walk-init
walk-init g c = record {
  free = c.requires.unmarked;
  long = ap length c.in_ok-seen.ensures ∙ length-replicate _ _ ∙ c.many_links-many.ensures;
  come = λ space done state linked enough at.
      subst (λ xs. IsComeTo (g.T.Space.goes space) c.args.self.now.states.entries xs 0) (sym c.in_ok-seen.ensures)
      (seen_none (g.T.Space.goes space) c.args.self.now.states.entries c.args.self.now.links.items done linked enough c.many_links-many.result state at);
}

pub mark-requires : goal.mark-requires
mark-requires g c =
    omega (
      arith,
      c.walk.invariant.long,
      slice_get_within c.args.self.now.links.items c.walk.at c.in-Some.nexts.now (sym c.nexts_of.ensures ∙ ap option_copied c.in-Some.is),
    )

pub walk-preserved : goal.walk-preserved
walk-preserved g c =
    let links = c.args.self.now.links.items in
    let marks = c.args.marks.now.items in
    let row = sym c.nexts_of.ensures ∙ ap option_copied c.in-Some.is in
    let it = subst (λ n. find (is_free marks n) c.in-Some.nexts.now ≡ Some c.in-Some-unmarked_of.next) c.many_links-many.ensures
    (sym c.unmarked_of.ensures ∙ c.in-Some-unmarked_of.is) in
    record {
      free = (next_free marks (length links) c.in-Some-unmarked_of.next c.in-Some.nexts.now it).1;
      long = c.mark.ensures.long ∙ c.walk.invariant.long;
      come = λ space done state linked enough at.
          subst (λ xs. IsComeTo (g.T.Space.goes space) c.args.self.now.states.entries xs c.in-Some-unmarked_of.next) (sym c.mark.ensures.set)
          (seen_on (g.T.Space.goes space) c.args.self.now.states.entries links done linked enough c.walk.seen.items marks c.walk.at
          c.in-Some-unmarked_of.next c.in-Some.nexts.now (c.walk.invariant.come space done state linked enough at) row it);
    }

pub walk-smaller : goal.walk-smaller
walk-smaller g c =
    let row = sym c.nexts_of.ensures ∙ ap option_copied c.in-Some.is in
    let within : c.walk.at < length c.walk.seen.items =
    omega (arith, c.walk.invariant.long, slice_get_within c.args.self.now.links.items c.walk.at c.in-Some.nexts.now row) in
    let less = fewer_unmarked c.walk.seen.items c.walk.at within (sym c.has_mark.ensures ∙ c.walk-test.true) in
    let same : unmarked c.mark.new.marks.items ≡ _ = ap unmarked c.mark.ensures.set in
    omega (arith, less, same)

pub returns-in_default : goal.returns-in_default
returns-in_default g c = λ space done state linked enough at.
    let come = c.walk.invariant.come space done state linked enough at in
    let row = row_of (g.T.Space.goes space) c.args.self.now.states.entries c.args.self.now.links.items done linked enough c.walk.at come.state come.at in
    absurd (none-some row.0 (sym (sym c.nexts_of.ensures ∙ ap option_copied c.in_default.is) ∙ row.1))

pub returns-in_default-unmarked_of : goal.returns-in_default-unmarked_of
returns-in_default-unmarked_of g c = λ space done state linked enough at.
    let marks = c.args.marks.now.items in
    let row = sym c.nexts_of.ensures ∙ ap option_copied c.in-Some.is in
    let none = subst (λ n. find (is_free marks n) c.in-Some.nexts.now ≡ None) c.many_links-many.ensures
    (sym c.unmarked_of.ensures ∙ c.in_default-unmarked_of.is) in
    absurd (some_next (g.T.Space.goes space) c.args.self.now.states.entries c.args.self.now.links.items done linked enough c.walk.seen.items marks
    c.walk.at c.in-Some.nexts.now c.requires.stable c.walk.invariant.free (c.walk.invariant.come space done state linked enough at) row none)

pub returns : goal.returns
returns g c = λ space done state linked enough at.
    loops (g.T.Space.goes space) c.args.self.now.states.entries c.args.self.now.links.items done linked enough c.walk.seen.items c.walk.at
    (c.walk.invariant.come space done state linked enough at) (sym c.has_mark.ensures ∙ c.walk-test.false)
