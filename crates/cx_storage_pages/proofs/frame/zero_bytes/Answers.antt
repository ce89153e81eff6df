use Rattle.std.proofs.Common.{◌≤◌, ◌⊎◌, inl, inr, arith}
use Rattle.std.proofs.lemmas.Bool.{cases_lt}
use Rattle.cx_storage_pages.proofs.FrameLemmas.{range_end}
use Rattle.cx_storage_pages.proofs.frame.zero_bytes.Goals as goal

pub returns : goal.returns
returns c = λ j.
    let end : (c.loop-k.k ≤ c.args.to) ⊎ (c.loop-k.k ≤ c.args.from) = elim (cases_lt c.args.to c.args.from) [
      | inl none ↦ inr (omega (arith, none, c.loop-k.invariant.0))
      | inr some ↦ inl (omega (arith, some, c.loop-k.invariant.0))
    ] in
    let done = range_end c.args.from c.args.to c.loop-k.k j (omega (arith, c.loop-k-test.false)) end in
    rw (← done) (c.loop-k.invariant.1 j)
