use Rattle.std.proofs.Common.{arith, inl, inr}
use Rattle.std.proofs.lemmas.Bool.{cases_lt}
use Rattle.cx_storage_pages.proofs.FrameLemmas.{granule_free, granule_taken}
use Rattle.cx_storage_pages.proofs.frame.Frame.free_to.Goals as goal

pub returns-then-self-k-ne0-clause-free : goal.returns-then-self-k-ne0-clause-free
returns-then-self-k-ne0-clause-free c = λ j low high. granule_free c.args.self.now j (c.loop-k.invariant j low high)

pub returns-then-self-k-ne0-clause-taken : goal.returns-then-self-k-ne0-clause-taken
returns-then-self-k-ne0-clause-taken c = λ _. granule_taken c.args.self.now c.loop-k.k (omega arith) (omega arith) (omega arith)

pub returns-clause-free : goal.returns-clause-free
returns-clause-free c = λ j low high. granule_free c.args.self.now j (elim (cases_lt j c.loop-k.k) [
  | inl before ↦ c.loop-k.invariant j low before
  | inr after ↦ c.args.self.now.topped j (omega (arith, after, high, c.loop-k-test.false)) (omega (arith, high))
])
