use Rattle.std.proofs.Common.{arith, rules, ◌≡◌, ◌+◌, ◌-◌, length}
use Rattle.cx_search.proofs.MarkLemmas.{right_swept, swept_none, swept_on}
use Rattle.cx_search.proofs.found.Found.sweep.Goals as goal

pub loop-k-init : goal.loop-k-init
loop-k-init g c = record {
  swept = swept_none c.args.self.now.links.items c.args.rule c.args.marks.now.items;
  right = λ space done linked right. right;
}

pub loop-k-preserved : goal.loop-k-preserved
loop-k-preserved g c =
    let links = c.args.self.now.links.items in
    let s = c.loop-k.invariant.swept in
    let all : c.len-len.result ≡ length links = search rules in
    let at : c.len-len.result - 1 - c.loop-k.k + c.loop-k.k + 1 ≡ length links = omega (arith, c.loop-k-test.true, all) in
    record {
      swept = swept_on links c.args.rule c.args.marks.now.items c.loop-k.marks.items c.visit-marked.new.marks.items c.loop-k.changed c.visit-marked.result c.either-changed.result
          c.loop-k.k (c.len-len.result - 1 - c.loop-k.k) s at c.requires c.visit-marked.ensures.marked c.visit-marked.ensures.left c.visit-marked.ensures.same
          c.either-changed.ensures.either c.either-changed.ensures.neither;
      right = λ space done linked right.
          right_swept (g.T.Space.goes space) c.args.self.now.states.entries links done c.args.rule c.loop-k.marks.items c.visit-marked.new.marks.items c.visit-marked.result
          (c.len-len.result - 1 - c.loop-k.k) linked (omega (arith, at)) c.visit-marked.ensures.marked c.visit-marked.ensures.left
          (c.loop-k.invariant.right space done linked right);
    }

pub returns : goal.returns
returns g c =
    let s = c.loop-k.invariant.swept in
    let all : c.len-len.result ≡ length c.args.self.now.links.items = search rules in
    record {
      long = s.long;
      right = c.loop-k.invariant.right;
      same = s.same;
      stable = λ is p nexts row. s.stable is p nexts (omega (arith, c.loop-k-test.false, all)) row;
      fewer = s.fewer;
    }
