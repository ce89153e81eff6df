-- What is known of the test by which tables are searched for names.
use Rattle.std.specs.Prelude.{◌≡◌, ◌↔◌, true, List, ℕ}
use Rattle.std.specs.Cmp.{IsEquivalence}
use Rattle.std.proofs.lemmas.Cmp.{nat_list_eq_equiv}
use Rattle.std.proofs.lemmas.Slice.Eq.{bytes_eq-Decides}
use Rattle.cx_ebcdic.specs.Names.{is_name}

-- two names are the same exactly where their bytes are
pub is_name-decides : (one other : List ℕ) → (is_name one other ≡ true) ↔ (one ≡ other)
is_name-decides = bytes_eq-Decides

-- so the test is an equivalence
pub is_name-laws : IsEquivalence is_name
is_name-laws = nat_list_eq_equiv
