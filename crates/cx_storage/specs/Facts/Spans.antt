-- What a span gives, byte by byte.
use Rattle.std.proofs.Common.{refl, sym, ap, ◌∙◌, inl, inr, arith, sub-one, []}
use Rattle.std.proofs.lemmas.Bool.{cases_Bool, false≢true}
use Rattle.std.specs.Option.{option_and_then, option_map}
use Rattle.std.specs.Prelude.{◌≡◌, ℕ, zero, suc, ◌-◌, ◌<◌, true, false, List, ◌∷◌, length, Option, Some, None, is_some, ◌^◌, slice_index, [], ◌≤◌, ◌+◌}
use Rattle.cx_storage.specs.Storage.{Storage, byte_at, span}
use Rattle.cx_storage.specs.Address.{address_after}

pub span_more : (s : Storage) (a n : ℕ) → 0 < n → span s a n ≡ option_and_then (λ b. option_map (λ bs. b ∷ bs) (span s (address_after a 1) (n - 1))) (byte_at s a)
unfolding span
span_more s a zero h = absurd (omega arith)
span_more s a (suc n) h = rw sub-one refl

-- one that begins at a byte that is there is there where the rest is
pub span_present : (s : Storage) (a n : ℕ) → is_some (byte_at s a) ≡ true → 0 < n → is_some (span s a n) ≡ is_some (span s (address_after a 1) (n - 1))
span_present s a n e h = rw (span_more s a n h) (at_byte (byte_at s a) (span s (address_after a 1) (n - 1)) e)
  where
    at_byte : (o : Option ℕ) (rest : Option (List ℕ)) → is_some o ≡ true → is_some (option_and_then (λ b. option_map (λ bs. b ∷ bs) rest) o) ≡ is_some rest
    at_byte None rest e = cc
    at_byte (Some b) None e = refl
    at_byte (Some b) (Some bs) e = refl

-- without its first byte, a span isn't there
pub span_gone : (s : Storage) (a n : ℕ) → is_some (byte_at s a) ≡ false → 0 < n → is_some (span s a n) ≡ false
span_gone s a n e h = rw (span_more s a n h) (at_byte (byte_at s a) (span s (address_after a 1) (n - 1)) e)
  where
    at_byte : (o : Option ℕ) (rest : Option (List ℕ)) → is_some o ≡ false → is_some (option_and_then (λ b. option_map (λ bs. b ∷ bs) rest) o) ≡ false
    at_byte None rest e = refl
    at_byte (Some b) rest e = cc

pub span_first : (s : Storage) (a n : ℕ) → is_some (span s a n) ≡ true → 0 < n → is_some (byte_at s a) ≡ true
span_first s a n e h = elim (cases_Bool (is_some (byte_at s a))) [
  | inl there ↦ there
  | inr gone ↦ absurd (false≢true (sym (span_gone s a n gone h) ∙ e))
]

-- the bytes of a span, one by one
pub span_length : (s : Storage) (a n : ℕ) (bytes : List ℕ) → span s a n ≡ Some bytes → length bytes ≡ n
unfolding span
span_length s a zero bytes e = let nil : [] ≡ bytes = cc in rw (← nil) refl
span_length s a (suc n) bytes e = go (byte_at s a) (span s (address_after a 1) n) (λ bs f. span_length s (address_after a 1) n bs f) e
  where
    go : (o : Option ℕ) (r : Option (List ℕ)) → ((bs : List ℕ) → r ≡ Some bs → length bs ≡ n) → option_and_then (λ b. option_map (λ bs. b ∷ bs) r) o ≡ Some bytes → length bytes ≡ suc n
    go None r rest e = cc
    go (Some b) None rest e = cc
    go (Some b) (Some bs) rest e =
        let shape : b ∷ bs ≡ bytes = cc in
        rw (← shape) (ap suc (rest bs refl))

pub span_at : (s : Storage) (a n : ℕ) (bytes : List ℕ) (k : ℕ) → a < 2 ^ 24 → span s a n ≡ Some bytes → k < n → byte_at s (address_after a k) ≡ Some (slice_index bytes k)
unfolding span
span_at s a zero bytes k la e h = absurd (omega arith)
span_at s a (suc n) bytes k la e h = go k h (byte_at s a) (span s (address_after a 1) n) refl (λ bs j f l. span_at s (address_after a 1) n bs j (omega arith) f l) e
  where
    go : (j : ℕ) → j < suc n → (o : Option ℕ) (r : Option (List ℕ)) → byte_at s a ≡ o
        → ((bs : List ℕ) (i : ℕ) → r ≡ Some bs → i < n → byte_at s (address_after (address_after a 1) i) ≡ Some (slice_index bs i))
        → option_and_then (λ b. option_map (λ bs. b ∷ bs) r) o ≡ Some bytes → byte_at s (address_after a j) ≡ Some (slice_index bytes j)
    go j h None r d rest e = cc
    go j h (Some b) None d rest e = cc
    go zero h (Some b) (Some bs) d rest e =
        let shape : b ∷ bs ≡ bytes = cc in
        let first : address_after a 0 ≡ a = omega arith in
        rw (← shape, first) d
    go (suc j) h (Some b) (Some bs) d rest e =
        let shape : b ∷ bs ≡ bytes = cc in
        let next : address_after a (suc j) ≡ address_after (address_after a 1) j = omega arith in
        rw (← shape, next) (rest bs j refl (omega arith))

pub span_from : (s : Storage) (a n : ℕ) (bytes : List ℕ) → a < 2 ^ 24 → length bytes ≡ n → ((k : ℕ) → k < n → byte_at s (address_after a k) ≡ Some (slice_index bytes k)) → span s a n ≡ Some bytes
unfolding span
span_from s a zero [] la e each = refl
span_from s a zero (b ∷ bs) la e each = absurd (omega arith)
span_from s a (suc n) [] la e each = absurd (omega arith)
span_from s a (suc n) (b ∷ bs) la e each =
    let first : address_after a 0 ≡ a = omega arith in
    let here : byte_at s a ≡ Some b = rw first at (each 0 (omega arith)) in
    let rest = span_from s (address_after a 1) n bs (omega arith) (omega arith) (λ k h. let next : address_after (address_after a 1) k ≡ address_after a (suc k) = omega arith in rw next (each (suc k) (omega arith))) in
    rw (here, rest) refl

-- each address of a span that is there has a byte
pub span_has : (s : Storage) (a n k : ℕ) → a < 2 ^ 24 → is_some (span s a n) ≡ true → k < n → is_some (byte_at s (address_after a k)) ≡ true
span_has s a zero k la e h = absurd (omega arith)
span_has s a (suc n) zero la e h = let first : address_after a 0 ≡ a = omega arith in rw first (span_first s a (suc n) e (omega arith))
span_has s a (suc n) (suc k) la e h =
    let here = span_first s a (suc n) e (omega arith) in
    let less : suc n - 1 ≡ n = omega arith in
    let rest : is_some (span s (address_after a 1) n) ≡ true = rw less at (sym (span_present s a (suc n) here (omega arith)) ∙ e) in
    let next : address_after a (suc k) ≡ address_after (address_after a 1) k = omega arith in
    rw next (span_has s (address_after a 1) n k (omega arith) rest (omega arith))

-- storages with the same bytes present have the same spans present
pub span_present_agree : (s t : Storage) (b n : ℕ) → ((x : ℕ) → is_some (byte_at s x) ≡ is_some (byte_at t x)) → is_some (span s b n) ≡ is_some (span t b n)
unfolding span
span_present_agree s t b zero same = refl
span_present_agree s t b (suc n) same = go (byte_at s b) (byte_at t b) (span s (address_after b 1) n) (span t (address_after b 1) n) (same b) (span_present_agree s t (address_after b 1) n same)
  where
    go : (o p : Option ℕ) (q r : Option (List ℕ)) → is_some o ≡ is_some p → is_some q ≡ is_some r
        → is_some (option_and_then (λ b. option_map (λ bs. b ∷ bs) q) o) ≡ is_some (option_and_then (λ b. option_map (λ bs. b ∷ bs) r) p)
    go None None q r e f = refl
    go None (Some y) q r e f = cc
    go (Some x) None q r e f = cc
    go (Some x) (Some y) None None e f = refl
    go (Some x) (Some y) None (Some r) e f = cc
    go (Some x) (Some y) (Some q) None e f = cc
    go (Some x) (Some y) (Some q) (Some r) e f = refl

-- a span that doesn't go on at address 0 is there where each of its addresses has a byte
pub span_inside : (s : Storage) (a n : ℕ) → a + n ≤ 2 ^ 24 → ((x : ℕ) → a ≤ x → x < a + n → is_some (byte_at s x) ≡ true) → is_some (span s a n) ≡ true
unfolding span
span_inside s a zero fits each = refl
span_inside s a (suc zero) fits each = span_present s a 1 (each a (omega arith) (omega arith)) (omega arith)
span_inside s a (suc (suc n)) fits each =
    let next : address_after a 1 ≡ a + 1 = omega arith in
    let less : suc (suc n) - 1 ≡ suc n = omega arith in
    let rest = span_inside s (a + 1) (suc n) (omega arith) (λ x low high. each x (omega arith) (omega arith)) in
    span_present s a (suc (suc n)) (each a (omega arith) (omega arith)) (omega arith) ∙ rw (less, next) rest
