use Rattle.std.proofs.Common.{◌≡◌, ◌∙◌, true≢false, ap, length, rules, subst, sym}
use Rattle.std.proofs.lemmas.List.{length-replicate}
use Rattle.cx_search.specs.Parts.Marks.{AreRight}
use Rattle.cx_search.proofs.MarkLemmas.{none_right, swept_less}
use Rattle.cx_search.proofs.found.Found.marks.Goals as goal

pub loop-changed-init : goal.loop-changed-init
loop-changed-init g c = record {
  long =
      let all : c.len.result ≡ length c.args.self.now.links.items = search rules in
      ap length c.in_ok-marks.ensures ∙ length-replicate _ _ ∙ all;
  right = λ space done linked.
      subst (λ xs. AreRight (g.T.Space.goes space) c.args.self.now.states.entries c.args.rule xs) (sym c.in_ok-marks.ensures)
      (none_right (g.T.Space.goes space) c.args.self.now.states.entries c.args.rule c.len.result);
  stable = λ is. absurd (true≢false is);
}

pub loop-changed-preserved : goal.loop-changed-preserved
loop-changed-preserved g c = record {
  long = c.sweep-changed.ensures.long ∙ c.loop-changed.invariant.long;
  right = λ space done linked. c.sweep-changed.ensures.right space done linked (c.loop-changed.invariant.right space done linked);
  stable = c.sweep-changed.ensures.stable;
}

pub loop-changed-smaller : goal.loop-changed-smaller
loop-changed-smaller g c =
    swept_less c.loop-changed.marks.items c.sweep-changed.new.marks.items c.loop-changed.changed c.sweep-changed.result c.loop-changed-test.true
    c.sweep-changed.ensures.same c.sweep-changed.ensures.fewer

pub returns : goal.returns
returns g c = record {
  long = c.loop-changed.invariant.long;
  right = c.loop-changed.invariant.right;
  stable = c.loop-changed.invariant.stable c.loop-changed-test.false;
}
