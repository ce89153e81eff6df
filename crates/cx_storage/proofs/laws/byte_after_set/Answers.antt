use Rattle.std.proofs.Common.{inl, inr}
use Rattle.std.proofs.lemmas.Bool.{cases_eq, eq-eqb, ne_eqb}
use Rattle.cx_storage.specs.Facts.Writes.{byte_after_set, byte_after_set_elsewhere}
use Rattle.cx_storage.proofs.laws.byte_after_set.Goals as goal

pub returns : goal.returns
returns c = λ s a v x. elim (cases_eq x a) [
  | inl e ↦ rw (eq-eqb x a e) (rw e (byte_after_set s a v))
  | inr ne ↦ rw (ne_eqb x a ne) (byte_after_set_elsewhere s a v x ne)
]
