-- What the reading of a call needs, over plain variables.
use Rattle.std.proofs.Common.{◌≡◌, ℕ, zero, suc, ◌+◌, ◌*◌, ◌<◌, ◌≤◌, ◌^◌, ◌%◌, Bool, false, ◌==◌, nat_lt, List, [], ◌∷◌, ◌++◌, length, drop, Option, Some, None, refl, ap, arith, inl, inr, add-one, append_assoc, append-nil, length-drop, ◌/◌, slice_index}
use Rattle.std.specs.Option.{option_map}
use Rattle.std.specs.List.{position, position_or_len}
use Rattle.std.proofs.lemmas.Bool.{cases_Bool, ltb-false, eqb-true}
use Rattle.cx_storage.specs.Storage.{Storage}
use Rattle.cx_storage.specs.Word.{word_at}
use Rattle.cx_base.specs.declared.legal.ListedCondition.{ListedCondition}
use Rattle.cx_region_state.specs.Call.{has_high_bit, listed_in, marks_last_alone, words_from}

abbrev pub listed : ℕ → ℕ → ListedCondition
listed number label = record { number = number; label = label }

-- ---- the high bit

marked : (p : ℕ → Bool) (words : List ℕ) (k : ℕ) → position p words ≡ Some k → position_or_len p words ≡ k
marked p words k e = elim (cases_Bool (nat_lt (position_or_len p words) (length words))) [
  | inl t ↦ let f : Some (position_or_len p words) ≡ Some k = rw t at e in cc
  | inr t ↦ let f : None ≡ Some k = rw t at e in cc
]

pub first_marked : (words : List ℕ) (k : ℕ) → position has_high_bit words ≡ Some k → marks_last_alone words ≡ (k + 1 == length words)
unfolding marks_last_alone
first_marked words k e = rw (marked has_high_bit words k e) refl

unmarked : (p : ℕ → Bool) (words : List ℕ) → position p words ≡ None → length words ≤ position_or_len p words
unmarked p words e = elim (cases_Bool (nat_lt (position_or_len p words) (length words))) [
  | inl t ↦ let f : Some (position_or_len p words) ≡ None = rw t at e in cc
  | inr t ↦ ltb-false _ _ t
]

pub none_marked : (words : List ℕ) → position has_high_bit words ≡ None → marks_last_alone words ≡ false
unfolding marks_last_alone
none_marked words e =
    let far = unmarked has_high_bit words e in
    elim (cases_Bool (position_or_len has_high_bit words + 1 == length words)) [
      | inl t ↦ absurd (omega (arith, eqb-true _ _ t))
      | inr f ↦ f
    ]

-- ---- the listed conditions

listed_suc : (bytes : List ℕ) (j : ℕ) → suc j < length bytes
    → listed_in (drop j bytes) ≡ listed (slice_index bytes j) (slice_index bytes (suc j)) ∷ listed_in (drop (suc (suc j)) bytes)
listed_suc [] j h = absurd (omega arith)
listed_suc (a ∷ []) j h = absurd (omega arith)
listed_suc (a ∷ b ∷ rest) zero h = refl
listed_suc (a ∷ b ∷ rest) (suc j) h = listed_suc (b ∷ rest) j (omega arith)

-- one more condition read, of the two bytes at 2k
pub listed_step : (done : List ListedCondition) (bytes : List ℕ) (k : ℕ) → 2 * k + 1 < length bytes
    → (done ++ listed (slice_index bytes (2 * k)) (slice_index bytes (2 * k + 1)) ∷ []) ++ listed_in (drop (2 * (k + 1)) bytes) ≡ done ++ listed_in (drop (2 * k) bytes)
listed_step done bytes k h =
    let e : listed_in (drop (2 * k) bytes) ≡ listed (slice_index bytes (2 * k)) (slice_index bytes (suc (2 * k))) ∷ listed_in (drop (suc (suc (2 * k))) bytes) = listed_suc bytes (2 * k) (omega arith) in
    let one : 2 * k + 1 ≡ suc (2 * k) = omega arith in
    let two : 2 * (k + 1) ≡ suc (suc (2 * k)) = omega arith in
    rw (one, two, append_assoc, e) refl

-- less than two bytes list nothing more
listed_rest : (bytes : List ℕ) (j : ℕ) → length bytes ≤ j + 1 → listed_in (drop j bytes) ≡ []
listed_rest bytes j h = short (drop j bytes) (omega (arith, length-drop j bytes))
  where
    short : (rest : List ℕ) → length rest ≤ 1 → listed_in rest ≡ []
    short [] l = refl
    short (a ∷ []) l = refl
    short (a ∷ b ∷ rest) l = absurd (omega arith)

-- all bytes gone through
pub listed_all : (done : List ListedCondition) (bytes : List ℕ) (k : ℕ) → length bytes / 2 ≤ k → done ++ listed_in (drop (2 * k) bytes) ≡ done
listed_all done bytes k h = rw (listed_rest bytes (2 * k) (omega arith)) (append-nil done)

-- ---- the words

-- the words read, and then those that are left
unfoldable pub followed : List ℕ → Option (List ℕ) → Option (List ℕ)
followed done left = option_map (λ rest. done ++ rest) left

pub followed_none : (left : Option (List ℕ)) → followed [] left ≡ left
unfolding followed
followed_none None = refl
followed_none (Some rest) = refl

-- one more word read
pub words_step : (s : Storage) (at m n : ℕ) (done : List ℕ) (word : ℕ) → word_at s at ≡ Some word → n ≡ m + 1
    → followed (done ++ word ∷ []) (words_from s ((at + 4) % 2 ^ 24) m) ≡ followed done (words_from s at n)
unfolding words_from followed
words_step s at m n done word e same = rw (same, add-one, e) (joined (words_from s ((at + 4) % 2 ^ 24) m))
  where
    joined : (o : Option (List ℕ)) → option_map (λ rest. (done ++ word ∷ []) ++ rest) o ≡ option_map (λ rest. done ++ rest) (option_map (λ rest. word ∷ rest) o)
    joined None = refl
    joined (Some rest) = rw append_assoc refl

-- a word that isn't there
pub words_absent : (s : Storage) (at n : ℕ) (done : List ℕ) → word_at s at ≡ None → 0 < n → followed done (words_from s at n) ≡ None
unfolding words_from followed
words_absent s at zero done e h = absurd (omega arith)
words_absent s at (suc n) done e h = rw e refl

-- all words read
pub words_all : (s : Storage) (at n : ℕ) (done : List ℕ) → n ≡ 0 → followed done (words_from s at n) ≡ Some done
unfolding words_from followed
words_all s at n done e = rw e (ap Some (append-nil done))
