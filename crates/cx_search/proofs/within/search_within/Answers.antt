use Rattle.std.proofs.Common.{◌+◌, ◌≤◌, length, arith, subst, sym, ◌∙◌}
use Rattle.std.proofs.lemmas.Option.{slice_get_within}
use Rattle.cx_search.specs.Nexts.{AreLinked}
use Rattle.cx_search.proofs.NextLemmas.{no_links}
use Rattle.cx_search.proofs.PathLemmas.{finds_all_from, finds_from}
use Rattle.cx_search.proofs.SearchLemmas.{match_false, match_true}
use Rattle.cx_search.proofs.WithinLemmas.{few_on, finds_full, finds_within, is_closed, is_open, many_at, none_at}
use Rattle.cx_search.proofs.within.search_within.Goals as goal

pub returns-in_default-clause-finds : goal.returns-in_default-clause-finds
returns-in_default-clause-finds g c =
    finds_from (g.T.Space.goes c.args.space.now) c.args.start c.loop-at.found.states.entries c.loop-at.invariant.begins c.loop-at.at 0 c.loop-at.invariant.searched

pub returns-in_default-clause-reaches : goal.returns-in_default-clause-reaches
returns-in_default-clause-reaches g c =
    let Goes = g.T.Space.goes c.args.space.now in
    let all = none_at c.loop-at.found.states.entries c.loop-at.at (sym c.in_default.is ∙ c.moves.ensures) in (
      record {
        all = finds_all_from Goes c.args.start c.loop-at.found.states.entries c.loop-at.invariant.begins c.loop-at.at 0 c.loop-at.invariant.searched all;
        done = c.loop-at.at;
        enough = all;
        linked = c.loop-at.invariant.linked;
      },
      is_closed Goes c.args.start c.loop-at.found.states.entries c.loop-at.invariant.begins c.loop-at.at c.args.moves c.loop-at.invariant.searched
          c.loop-at.invariant.few all,
    )

pub returns-then-many-moves-clause-finds : goal.returns-then-many-moves-clause-finds
returns-then-many-moves-clause-finds g c =
    finds_from (g.T.Space.goes c.args.space.now) c.args.start c.loop-at.found.states.entries c.loop-at.invariant.begins c.loop-at.at 0 c.loop-at.invariant.searched

pub returns-then-many-moves-clause-reaches : goal.returns-then-many-moves-clause-reaches
returns-then-many-moves-clause-reaches g c =
    let Goes = g.T.Space.goes c.args.space.now in
    let at = many_at c.loop-at.found.states.entries c.loop-at.at c.in-Some.many (sym c.in-Some.is ∙ c.moves.ensures) in (
      finds_within Goes c.args.start c.loop-at.found.states.entries c.loop-at.invariant.begins c.loop-at.at c.args.moves c.loop-at.invariant.searched
          c.loop-at.invariant.few c.in-Some.many at c.if-many-moves.true,
      is_open Goes c.args.start c.loop-at.found.states.entries c.loop-at.invariant.begins c.loop-at.at c.args.moves c.loop-at.invariant.searched
          c.loop-at.invariant.few c.in-Some.many at c.if-many-moves.true,
    )

pub expand-requires-clause-within : goal.expand-requires-clause-within
expand-requires-clause-within g c =
    let at = many_at c.loop-at.found.states.entries c.loop-at.at c.in-Some.many (sym c.in-Some.is ∙ c.moves.ensures) in
    slice_get_within c.loop-at.found.states.entries c.loop-at.at (at.state, at.origin) at.there

pub returns-then-not-branch-clause-finds : goal.returns-then-not-branch-clause-finds
returns-then-not-branch-clause-finds g c =
    let cut = match_false c.in_ok-expand.field-0 _ _ c.in_ok-expand.ensures.searched c.if-not-branch.true in
    finds_from (g.T.Space.goes c.args.space.now) c.args.start c.expand.new.self.states.entries
    (c.in_ok-expand.ensures.kept 0 c.args.start c.loop-at.invariant.begins) c.loop-at.at cut.tried cut.searched

pub returns-then-not-branch-clause-reaches : goal.returns-then-not-branch-clause-reaches
returns-then-not-branch-clause-reaches g c =
    let Goes = g.T.Space.goes c.args.space.now in
    let now = c.loop-at.found.states.entries in
    let at = many_at now c.loop-at.at c.in-Some.many (sym c.in-Some.is ∙ c.moves.ensures) in (
      finds_full Goes c.args.start now c.expand.new.self.states.entries
          (finds_from Goes c.args.start now c.loop-at.invariant.begins c.loop-at.at 0 c.loop-at.invariant.searched) c.loop-at.invariant.begins
          c.in_ok-expand.ensures.kept c.loop-at.at c.args.most c.in-Some.many at
          (match_false c.in_ok-expand.field-0 _ _ c.in_ok-expand.ensures.searched c.if-not-branch.true),
      omega (arith, c.if-many-moves.false),
    )

pub loop-at-init : goal.loop-at-init
loop-at-init g c = record {
  searched = c.in_ok-found.ensures.searched c.args.space.now;
  begins = c.in_ok-found.ensures.begun;
  most = omega (arith, c.in_ok-found.ensures.one, c.requires);
  linked = subst (λ xs. AreLinked (g.T.Space.goes c.args.space.now) c.in_ok-found.found.states.entries xs 0) (sym c.in_ok-found.ensures.unlinked)
      (no_links (g.T.Space.goes c.args.space.now) c.in_ok-found.found.states.entries);
  few = λ place state origin below there. absurd (omega (arith, below));
}

pub loop-at-preserved : goal.loop-at-preserved
loop-at-preserved g c =
    let Goes = g.T.Space.goes c.args.space.now in
    let now = c.loop-at.found.states.entries in
    let searched = match_true c.in_ok-expand.field-0 _ _ c.in_ok-expand.ensures.searched c.if-not-branch.false in
    let begins = c.in_ok-expand.ensures.kept 0 c.args.start c.loop-at.invariant.begins in
    record {
      searched = searched;
      begins = begins;
      most = c.in_ok-expand.ensures.at_most_most c.loop-at.invariant.most;
      linked = match_true c.in_ok-expand.field-0 _ _ c.in_ok-expand.ensures.linked c.if-not-branch.false;
      few = few_on Goes c.args.start now c.expand.new.self.states.entries
          (finds_from Goes c.args.start now c.loop-at.invariant.begins c.loop-at.at 0 c.loop-at.invariant.searched)
          (finds_from Goes c.args.start c.expand.new.self.states.entries begins (c.loop-at.at + 1) 0 searched)
          c.in_ok-expand.ensures.kept c.loop-at.at c.in-Some.many c.args.moves
          (many_at now c.loop-at.at c.in-Some.many (sym c.in-Some.is ∙ c.moves.ensures)) (omega (arith, c.if-many-moves.false)) c.loop-at.invariant.few;
    }

pub returns-clause-finds : goal.returns-clause-finds
returns-clause-finds g c =
    finds_from (g.T.Space.goes c.args.space.now) c.args.start c.loop-at.found.states.entries c.loop-at.invariant.begins c.loop-at.at 0 c.loop-at.invariant.searched

pub returns-clause-reaches : goal.returns-clause-reaches
returns-clause-reaches g c =
    let Goes = g.T.Space.goes c.args.space.now in
    let all : length c.loop-at.found.states.entries ≤ c.loop-at.at = omega (arith, c.loop-at-test.false, c.loop-at.invariant.most) in (
      record {
        all = finds_all_from Goes c.args.start c.loop-at.found.states.entries c.loop-at.invariant.begins c.loop-at.at 0 c.loop-at.invariant.searched all;
        done = c.loop-at.at;
        enough = all;
        linked = c.loop-at.invariant.linked;
      },
      is_closed Goes c.args.start c.loop-at.found.states.entries c.loop-at.invariant.begins c.loop-at.at c.args.moves c.loop-at.invariant.searched
          c.loop-at.invariant.few all,
    )
