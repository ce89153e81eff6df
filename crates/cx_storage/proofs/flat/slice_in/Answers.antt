use Rattle.std.proofs.Common.{◌≡◌, ◌<◌, ◌≤◌, ℕ, true, Some, length, get_or, sym, ap, ◌∙◌, arith, inl, inr}
use Rattle.std.proofs.lemmas.Bool.{some_since, false≢true}
use Rattle.cx_storage.specs.Storage.{Held, Storage, covers, end_of, IsTogether, IsWhole, IsSoundStorage}
use Rattle.cx_storage.specs.Facts.Sound.{covers_cases}
use Rattle.cx_storage.proofs.Walks.{full_found, span_found, together_skip, together_found, together_end, part_gives}
use Rattle.cx_storage.proofs.flat.slice_in.Goals as goal
use Rattle.cx_storage.proofs.flat.slice_in.Goals.{Then-covers}

pub loop-block-preserved : goal.loop-block-preserved
loop-block-preserved c = λ some.
    let at = rw c.deref-block-items.ensures.value at c.block-item.is in
    let within = rw c.deref-block-items.ensures.value at c.loop-block-test.true in
    together_skip c.args.blocks.now.items c.loop-block.block-index c.args.a c.args.n c.block-item.result within at (sym c.covers.ensures ∙ c.if-covers.false) some
    ∙ c.loop-block.invariant some

-- the area that the loop stopped at
record IsFound (s : Storage) (i a : ℕ) (h : Held) : Type 0 where
  ok : IsSoundStorage s
  within : i < length s
  at : h ≡ get_or s i h
  there : covers h.area a ≡ true
  whole : IsWhole h
  low : h.area.start ≤ a
  high : a < end_of h.area

found : (c : Then-covers) → IsFound c.args.blocks.now.items c.loop-block.block-index c.args.a c.block-item.result
found c =
    let s = c.args.blocks.now.items in
    let h = c.block-item.result in
    let at : h ≡ get_or s c.loop-block.block-index h = rw c.deref-block-items.ensures.value at c.block-item.is in
    let within : c.loop-block.block-index < length s = rw c.deref-block-items.ensures.value at c.loop-block-test.true in
    let there : covers h.area c.args.a ≡ true = sym c.covers.ensures ∙ c.if-covers.true in
    elim (covers_cases h.area c.args.a) [
      | inl k ↦ record { ok = c.requires.sound; within = within; at = at; there = there; whole = full_found s c.loop-block.block-index h c.requires.sound within at; low = k.1; high = k.2 }
      | inr k ↦ absurd (false≢true (sym k.0 ∙ there))
    ]

pub part-requires-clause-within : goal.part-requires-clause-within
part-requires-clause-within c =
    let f = found (goal.at.part-requires-clause-within c).Then-covers in
    omega (arith, f.whole.full, f.low, f.high)

pub returns-then-covers-clause-bytes : goal.returns-then-covers-clause-bytes
returns-then-covers-clause-bytes c =
    let f = found (goal.at.returns-then-covers-clause-bytes c).Then-covers in
    part_gives c.part.result _ _ _ (λ part h. span_found c.args.blocks.now.items c.loop-block.block-index c.args.a c.args.n c.block-item.result f.ok f.within f.at f.low h.0 ∙ ap Some (sym h.1)) c.part.ensures.cases

pub returns-then-covers-clause-no_wrap : goal.returns-then-covers-clause-no_wrap
returns-then-covers-clause-no_wrap c =
    let f = found (goal.at.returns-then-covers-clause-no_wrap c).Then-covers in
    part_gives c.part.result _ _ _ (λ part h. omega (arith, h.0, f.whole.full, f.whole.below, f.low)) c.part.ensures.cases

pub returns-then-covers-clause-together : goal.returns-then-covers-clause-together
unfolding IsTogether
returns-then-covers-clause-together c = λ together.
    let f = found (goal.at.returns-then-covers-clause-together c).Then-covers in
    let fits = together_found c.args.blocks.now.items c.loop-block.block-index c.args.a c.args.n c.block-item.result f.ok f.within f.at f.there together.0 together.1 in
    some_since c.part.result _ _ c.part.ensures.cases (λ short. omega (arith, short, fits, f.whole.full, f.low))

pub returns-clause-together : goal.returns-clause-together
unfolding IsTogether
returns-clause-together c = λ together.
    let s = c.args.blocks.now.items in
    let past = rw c.deref-block-items.ensures.value at c.loop-block-test.false in
    sym (together_end s c.loop-block.block-index c.args.a c.args.n past) ∙ c.loop-block.invariant together.0 ∙ together.1
