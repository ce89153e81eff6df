-- What the first entries of a table are.
use Rattle.std.proofs.Common.{◌≡◌, ℕ, zero, suc, ◌+◌, Bool, false, refl, ap, ◌∙◌, arith, List, [], ◌∷◌, take, slice_get, Some}
use Rattle.std.specs.List.{AllByRecursion, IsDistinct}
use Rattle.std.specs.Map.{keys_of}
use Rattle.std.proofs.lemmas.Map.Keys.{IsDistinct-head, IsDistinct-tail}
use Rattle.indexmap.specs.IndexMap.{insert_entry}

key_at : {K V : Type 0} (P : K → Type 0) (es : List (K × V)) (i : ℕ) (entry : K × V) → AllByRecursion P (keys_of es) → slice_get es i ≡ Some entry → P entry.0
key_at P [] i entry all e = cc
key_at P (f ∷ fs) zero entry all e = let same : f ≡ entry = cc in rw (← same) all.0
key_at P (f ∷ fs) (suc i) entry all e = key_at P fs i entry all.1 e

-- the entry that comes next goes last
pub entry_next : {K V : Type 0} (eq : K → K → Bool) (symm : (a b : K) → eq a b ≡ eq b a) (es : List (K × V)) (i : ℕ) (entry : K × V) → IsDistinct eq (keys_of es) → slice_get es i ≡ Some entry
    → insert_entry eq (take i es) entry.0 entry.1 ≡ take (i + 1) es
entry_next eq symm [] i entry distinct e = cc
entry_next eq symm (f ∷ fs) zero entry distinct e = let same : f ≡ entry = cc in rw same refl
entry_next eq symm (f ∷ fs) (suc i) entry distinct e =
    let apart : eq f.0 entry.0 ≡ false = key_at (λ k. eq f.0 k ≡ false) fs i entry (IsDistinct-head eq f.0 (keys_of fs) distinct) e in
    let other : eq entry.0 f.0 ≡ false = symm entry.0 f.0 ∙ apart in
    let more : suc i + 1 ≡ suc (i + 1) = omega arith in
    rw (other, more) (ap (λ rest. f ∷ rest) (entry_next eq symm fs i entry (IsDistinct-tail eq f.0 (keys_of fs) distinct) e))
