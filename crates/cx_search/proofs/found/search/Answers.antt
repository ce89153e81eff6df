use Rattle.std.proofs.Common.{arith, subst, sym}
use Rattle.cx_search.specs.Finds.{IsWhole}
use Rattle.cx_search.specs.Nexts.{AreLinked}
use Rattle.cx_search.proofs.NextLemmas.{no_links}
use Rattle.cx_search.proofs.PathLemmas.{finds_all_from, finds_from, reaches_nearest}
use Rattle.cx_search.proofs.SearchLemmas.{match_false, match_true}
use Rattle.cx_search.proofs.found.search.Goals as goal

pub returns-then-at-len-clause-finds : goal.returns-then-at-len-clause-finds
returns-then-at-len-clause-finds g c =
    finds_from (g.T.Space.goes c.args.space.now) c.args.start c.loop-at.found.states.entries c.loop-at.invariant.1 c.loop-at.at 0 c.loop-at.invariant.0

pub returns-then-at-len-clause-reaches : goal.returns-then-at-len-clause-reaches
returns-then-at-len-clause-reaches g c =
    record {
      all = finds_all_from (g.T.Space.goes c.args.space.now) c.args.start c.loop-at.found.states.entries c.loop-at.invariant.1 c.loop-at.at 0 c.loop-at.invariant.0 (omega (arith, c.if-at-len.true, c.len.ensures.len));
      done = c.loop-at.at;
      enough = omega (arith, c.if-at-len.true, c.len.ensures.len);
      linked = c.loop-at.invariant.3;
    }

pub returns-then-not-branch-clause-finds : goal.returns-then-not-branch-clause-finds
returns-then-not-branch-clause-finds g c =
    let cut = match_false c.in_ok-expand.field-0 _ _ c.in_ok-expand.ensures.searched c.if-not-branch.true in
    finds_from (g.T.Space.goes c.args.space.now) c.args.start c.expand.new.self.states.entries
    (c.in_ok-expand.ensures.kept 0 c.args.start c.loop-at.invariant.1) c.loop-at.at cut.tried cut.searched

pub returns-then-not-branch-clause-reaches : goal.returns-then-not-branch-clause-reaches
returns-then-not-branch-clause-reaches g c =
    reaches_nearest (g.T.Space.goes c.args.space.now) c.args.start c.expand.new.self.states.entries
    (c.in_ok-expand.ensures.kept 0 c.args.start c.loop-at.invariant.1) c.loop-at.at c.args.most
    (match_false c.in_ok-expand.field-0 _ _ c.in_ok-expand.ensures.searched c.if-not-branch.true) (IsWhole (g.T.Space.goes c.args.space.now) c.args.start c.expand.new.self.states.entries c.expand.new.self.links.items) c.moves-cut.result c.moves-cut.ensures

pub returns-clause-finds : goal.returns-clause-finds
returns-clause-finds g c =
    finds_from (g.T.Space.goes c.args.space.now) c.args.start c.loop-at.found.states.entries c.loop-at.invariant.1 c.loop-at.at 0 c.loop-at.invariant.0

pub returns-clause-reaches : goal.returns-clause-reaches
returns-clause-reaches g c =
    record {
      all = finds_all_from (g.T.Space.goes c.args.space.now) c.args.start c.loop-at.found.states.entries c.loop-at.invariant.1 c.loop-at.at 0 c.loop-at.invariant.0 (omega (arith, c.loop-at-test.false, c.loop-at.invariant.2));
      done = c.loop-at.at;
      enough = omega (arith, c.loop-at-test.false, c.loop-at.invariant.2);
      linked = c.loop-at.invariant.3;
    }

pub loop-at-init : goal.loop-at-init
loop-at-init g c = (
  c.in_ok-found.ensures.searched c.args.space.now,
  c.in_ok-found.ensures.begun,
  omega (arith, c.in_ok-found.ensures.one, c.requires),
  subst (λ xs. AreLinked (g.T.Space.goes c.args.space.now) c.in_ok-found.found.states.entries xs 0) (sym c.in_ok-found.ensures.unlinked)
      (no_links (g.T.Space.goes c.args.space.now) c.in_ok-found.found.states.entries),
)

pub loop-at-preserved : goal.loop-at-preserved
loop-at-preserved g c = (
  match_true c.in_ok-expand.field-0 _ _ c.in_ok-expand.ensures.searched c.if-not-branch.false,
  c.in_ok-expand.ensures.kept 0 c.args.start c.loop-at.invariant.1,
  c.in_ok-expand.ensures.at_most_most c.loop-at.invariant.2,
  match_true c.in_ok-expand.field-0 _ _ c.in_ok-expand.ensures.linked c.if-not-branch.false,
)
