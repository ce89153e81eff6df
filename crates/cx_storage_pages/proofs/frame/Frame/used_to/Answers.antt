use Rattle.std.proofs.Common.{arith, inl, inr}
use Rattle.std.proofs.lemmas.Bool.{cases_lt}
use Rattle.cx_storage_pages.proofs.FrameLemmas.{granule_taken}
use Rattle.cx_storage_pages.proofs.frame.Frame.used_to.Goals as goal

pub row_to-next-requires-in-used-clause-taken : goal.row_to-next-requires-in-used-clause-taken
row_to-next-requires-in-used-clause-taken c = granule_taken c.args.self.now c.used.next (omega arith) (omega arith) (omega arith)

pub used-preserved : goal.used-preserved
used-preserved c = (
  omega (arith, c.used.invariant.0, c.row_to-next-in-used.ensures.order),
  c.row_to-next-in-used.ensures.within,
  λ j low high. elim (cases_lt j c.used.next) [
    | inl before ↦ c.used.invariant.2 j low before
    | inr after ↦ c.row_to-next-in-used.ensures.taken j after high
  ],
)
