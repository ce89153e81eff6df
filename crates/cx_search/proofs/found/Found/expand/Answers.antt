use Rattle.std.proofs.Common.{◌<◌, ◌+◌, ◌++◌, ◌∷◌, [], ap, arith, refl, subst, sym, ◌∙◌}
use Rattle.cx_search.specs.Found.{IsAt}
use Rattle.cx_search.specs.Nexts.{AreLinked, AreNexts}
use Rattle.cx_search.specs.Parts.Searching.{AreFirstNexts}
use Rattle.cx_search.proofs.ListLemmas.{item_at}
use Rattle.cx_search.proofs.NextLemmas.{linked_kept, linked_more, nexts_all, no_nexts}
use Rattle.cx_search.proofs.SearchLemmas.{all_tried, at_same, match_true, within_kept}
use Rattle.cx_search.proofs.found.Found.expand.Goals as goal

pub loop-number-init : goal.loop-number-init
loop-number-init g c = record {
  searched = c.requires.searched;
  so_far = λ state at.
      subst (λ xs. AreFirstNexts (g.T.Space.goes c.args.space.now) c.args.self.now.states.entries state 0 xs) (sym c.new-nexts.ensures.items)
      (no_nexts (g.T.Space.goes c.args.space.now) c.args.self.now.states.entries state);
  kept = λ place s it. it;
  within = c.requires.within;
  few = λ few. few;
  links = refl;
}

pub loop-number-preserved : goal.loop-number-preserved
loop-number-preserved g c = record {
  searched = match_true c.in_ok-try_move.field-0 _ _ c.in_ok-try_move.ensures.searched c.if-not-branch.false;
  so_far = match_true c.in_ok-try_move.field-0 _ _ c.in_ok-try_move.ensures.nexts c.if-not-branch.false;
  kept = λ place s it. c.in_ok-try_move.ensures.kept place s (c.loop-number.invariant.kept place s it);
  within = within_kept c.loop-number.self.states.entries c.try_move.new.self.states.entries c.args.at c.loop-number.invariant.within c.in_ok-try_move.ensures.kept;
  few = λ few. c.in_ok-try_move.ensures.at_most_most (c.loop-number.invariant.few few);
  links = c.in_ok-try_move.ensures.links ∙ c.loop-number.invariant.links;
}

pub returns-clause-searched : goal.returns-clause-searched
returns-clause-searched g c =
    let item = item_at c.args.self.now.states.entries c.args.at c.requires.within in
    let was : IsAt c.args.self.now.states.entries c.args.at item.0.0 = record { origin = item.0.1; there = item.1 } in
    let is = c.loop-number.invariant.kept c.args.at item.0.0 was in
    all_tried (g.T.Space.goes c.args.space.now) c.loop-number.self.states.entries c.args.at c.loop-number.number item.0.0 is.origin
    c.loop-number.invariant.searched is.there
    (λ b n goes.
    let below : n < c.count-number-end.result = c.count-number-end.ensures item.0.0 b n was goes in
    omega (arith, below, c.loop-number-test.false))

pub returns-clause-linked : goal.returns-clause-linked
returns-clause-linked g c =
    let item = item_at c.args.self.now.states.entries c.args.at c.requires.within in
    let was : IsAt c.args.self.now.states.entries c.args.at item.0.0 = record { origin = item.0.1; there = item.1 } in
    let is = c.loop-number.invariant.kept c.args.at item.0.0 was in
    let Goes = g.T.Space.goes c.args.space.now in
    let now = c.loop-number.self.states.entries in
    let old = linked_kept Goes c.args.self.now.states.entries now c.loop-number.invariant.kept c.args.self.now.links.items c.args.at c.requires.linked
    (omega (arith, c.requires.within)) in
    subst (λ xs. AreLinked Goes now xs (c.args.at + 1))
    (sym (c.in_ok-push.ensures.items ∙ ap (λ v. v.items ++ c.from_vec.result ∷ []) c.loop-number.invariant.links))
    (linked_more Goes now c.args.self.now.links.items c.args.at c.from_vec.result old
    (λ s at.
    let same = (at_same now c.args.at c.args.at item.0.0 s is.origin at.origin refl is.there at.there).0 in
    subst (λ xs. AreNexts Goes now s xs) (sym c.from_vec.ensures)
    (nexts_all Goes now s c.loop-number.number c.loop-number.nexts.items (c.loop-number.invariant.so_far s at)
    (λ t n goes.
    let below : n < c.count-number-end.result = c.count-number-end.ensures item.0.0 t n was (subst (λ x. Goes x n t) (sym same) goes) in
    omega (arith, below, c.loop-number-test.false)))))
