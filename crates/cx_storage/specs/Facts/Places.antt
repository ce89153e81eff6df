-- The least place is one.
use Rattle.std.proofs.Common.{refl, ap, arith}
use Rattle.std.specs.Prelude.{◌≡◌, ℕ, Option, Some, None}
use Rattle.cx_storage.specs.Place.{IsLeastPlace}
use Rattle.cx_storage.specs.Storage.{Storage}

-- the least place is one
pub place_decides : (s : Storage) (first last len : ℕ) (r q : Option ℕ) → IsLeastPlace s first last len r → IsLeastPlace s first last len q → r ≡ q
unfolding IsLeastPlace
place_decides s first last len None None p w = refl
place_decides s first last len None (Some b) p w = absurd (p b w.0)
place_decides s first last len (Some a) None p w = absurd (w a p.0)
place_decides s first last len (Some a) (Some b) p w = ap Some (let le = p.1 b w.0 in let ge = w.1 a p.0 in omega arith)
