use Rattle.std.proofs.Common.{◌≡◌, ◌∙◌, ap, arith, length, subst, sym}
use Rattle.std.proofs.lemmas.Option.{none-some, same_Some}
use Rattle.cx_search.specs.Moves.{IsFirst}
use Rattle.cx_search.proofs.PathLemmas.{Walked, moves_at, walk_begins, walk_ends, walk_on}
use Rattle.cx_search.proofs.found.Found.path.Goals as goal

pub returns-in_default : goal.returns-in_default
returns-in_default g c = λ space start state f there.
    absurd (none-some _ (sym c.in_default.is ∙ moves_at c.args.self.now.states.entries c.args.place c.moves.result c.moves.ensures state there.origin there.there))

pub loop-init : goal.loop-init
loop-init g c = record {
  many = ap length c.new-moves.ensures.items;
  walked = λ space start state f there.
      let es = c.args.self.now.states.entries in
      let many = same_Some _ _ (sym (moves_at es c.args.place c.moves.result c.moves.ensures state there.origin there.there) ∙ c.in-Some.is) in
      subst (λ xs. Walked es xs c.args.place c.args.place c.in-Some.many) (sym c.new-moves.ensures.items)
      (walk_begins (g.T.Space.goes space) start es f.begins c.args.place c.in-Some.many state there.origin there.there many);
}

pub returns-in_default-get_index : goal.returns-in_default-get_index
returns-in_default-get_index g c = λ space start state f there.
    absurd (none-some _ (c.in_default-get_index.ensures.entry ∙ (c.loop.invariant.walked space start state f there).there))

pub loop-preserved : goal.loop-preserved
loop-preserved g c = record {
  many = omega (arith, ap length c.in_ok-push.ensures.items, c.loop.invariant.many, c.in_ok-push.ensures.len);
  walked = λ space start state f there.
      let es = c.args.self.now.states.entries in
      let o = c.in-Some-get_index.origin.now in
      subst (λ xs. Walked es xs c.args.place o.from c.in-Some.many) (sym c.in_ok-push.ensures.items)
      (walk_on (g.T.Space.goes space) start es f.begins f c.loop.moves.items c.args.place c.loop.at c.in-Some.many c.in-Some-get_index.field-0-0.now o
      (c.loop.invariant.walked space start state f there) (omega (arith, c.loop-test.true, c.loop.invariant.many)) (sym c.in-Some-get_index.ensures.entry));
}

pub returns : goal.returns
returns g c = λ space start state f there.
    let es = c.args.self.now.states.entries in
    let many : c.in-Some.many ≡ length c.loop.moves.items = omega (arith, c.loop-test.false, c.loop.auto.counter-end, c.loop.invariant.many) in
    subst (λ xs. IsFirst (g.T.Space.goes space) start xs state) (sym c.reverse.ensures.items)
    (walk_ends (g.T.Space.goes space) start es f.begins f c.loop.moves.items c.args.place c.loop.at state
    (subst (λ m. Walked es c.loop.moves.items c.args.place c.loop.at m) many (c.loop.invariant.walked space start state f there)) there)
