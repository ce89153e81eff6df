-- Calls of devices, one after another.
use Rattle.std.proofs.Common.{◌≡◌, ℕ, List, [], ◌∷◌, ◌++◌, None, Some, Option, map, refl, sym, ap, ◌∙◌, subst, append_assoc}
use Rattle.std.specs.List.{FoldsTo}
use Rattle.std.specs.Option.{option_or}
use Rattle.cx_script_io.specs.Calls.{DeviceCall, Reading, Writing, did, given, last_read, taken}

pub folds_append : {P A : Type 0} (R : P → A → P → Type 0) (p q r : P) (xs ys : List A) → FoldsTo R p xs q → FoldsTo R q ys r → FoldsTo R p (xs ++ ys) r
folds_append R p q r [] ys f h = subst (λ s. FoldsTo R s ys r) (sym f) h
folds_append R p q r (x ∷ xs) ys f h = (f.0, f.1, folds_append R f.0 q r xs ys f.2 h)

-- ---- two lists of calls
pub given_append : (xs ys : List DeviceCall) → given (xs ++ ys) ≡ given xs ++ given ys
given_append [] ys = refl
given_append (Reading (Some bytes) ∷ xs) ys = ap (λ l. bytes ++ l) (given_append xs ys) ∙ sym (append_assoc bytes (given xs) (given ys))
given_append (Reading None ∷ xs) ys = given_append xs ys
given_append (Writing bytes ∷ xs) ys = given_append xs ys

pub taken_append : (xs ys : List DeviceCall) → taken (xs ++ ys) ≡ taken xs ++ taken ys
taken_append [] ys = refl
taken_append (Writing (Some bytes) ∷ xs) ys = ap (λ l. bytes ++ l) (taken_append xs ys) ∙ sym (append_assoc bytes (taken xs) (taken ys))
taken_append (Writing None ∷ xs) ys = taken_append xs ys
taken_append (Reading bytes ∷ xs) ys = taken_append xs ys

or_assoc : {A : Type 0} (a b c : Option A) → option_or (option_or a b) c ≡ option_or a (option_or b c)
or_assoc None b c = refl
or_assoc (Some x) b c = refl

pub last_append : (xs ys : List DeviceCall) → last_read (xs ++ ys) ≡ option_or (last_read ys) (last_read xs)
last_append [] ys = or_none (last_read ys)
  where
    or_none : {A : Type 0} (a : Option A) → a ≡ option_or a None
    or_none None = refl
    or_none (Some x) = refl
last_append (Reading bytes ∷ xs) ys = ap (λ o. option_or o (Some bytes)) (last_append xs ys) ∙ or_assoc (last_read ys) (last_read xs) (Some bytes)
last_append (Writing bytes ∷ xs) ys = last_append xs ys

-- ---- writes alone
pub given_writes : (ms : List (Option (List ℕ))) → given (map Writing ms) ≡ []
given_writes [] = refl
given_writes (m ∷ ms) = given_writes ms

pub last_writes : (ms : List (Option (List ℕ))) → last_read (map Writing ms) ≡ None
last_writes [] = refl
last_writes (m ∷ ms) = last_writes ms

pub taken_writes : (xs ys : List (Option (List ℕ))) → taken (map Writing (xs ++ ys)) ≡ taken (map Writing xs) ++ taken (map Writing ys)
taken_writes [] ys = refl
taken_writes (Some bytes ∷ xs) ys = ap (λ l. bytes ++ l) (taken_writes xs ys) ∙ sym (append_assoc bytes (taken (map Writing xs)) (taken (map Writing ys)))
taken_writes (None ∷ xs) ys = taken_writes xs ys

pub did_writes : {D : Type 0} (reads writes : D → Option (List ℕ) → D → Type 0) (a b : D) (ms : List (Option (List ℕ))) → FoldsTo writes a ms b → FoldsTo (did reads writes) a (map Writing ms) b
did_writes reads writes a b [] f = f
did_writes reads writes a b (m ∷ ms) f = (f.0, f.1, did_writes reads writes f.0 b ms f.2)
