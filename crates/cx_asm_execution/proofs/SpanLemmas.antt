-- Spans of storages that agree, and parts of spans.
use Rattle.std.proofs.Common.{◌≡◌, ℕ, zero, suc, ◌+◌, ◌-◌, ◌<◌, ◌≤◌, ◌^◌, true, is_some, refl, ◌∙◌, ap, arith}
use Rattle.std.specs.Option.{option_map}
use Rattle.byteorder.specs.Endian.{big_number}
use Rattle.cx_storage.specs.Storage.{Storage, byte_at, span}
use Rattle.cx_storage.specs.Address.{address_after}
use Rattle.cx_storage.specs.Word.{word_at}
use Rattle.cx_storage.specs.Facts.Spans.{span_present, span_has}

-- storages that have the same bytes at its addresses have the same span
pub span_agree : (s t : Storage) (a n : ℕ) → a < 2 ^ 24 → ((k : ℕ) → k < n → byte_at t (address_after a k) ≡ byte_at s (address_after a k)) → span t a n ≡ span s a n
unfolding span
span_agree s t a zero la same = refl
span_agree s t a (suc n) la same =
    let first : address_after a 0 ≡ a = omega arith in
    let here : byte_at t a ≡ byte_at s a = rw first at (same 0 (omega arith)) in
    let rest = span_agree s t (address_after a 1) n (omega arith) (λ k h. let next : address_after (address_after a 1) k ≡ address_after a (suc k) = omega arith in rw next (same (suc k) (omega arith))) in
    rw (here, rest) refl

pub word_agree : (s t : Storage) (a : ℕ) → a < 2 ^ 24 → ((k : ℕ) → k < 4 → byte_at t (address_after a k) ≡ byte_at s (address_after a k)) → word_at t a ≡ word_at s a
unfolding word_at
word_agree s t a la same = ap (option_map (big_number 4)) (span_agree s t a 4 la same)

-- a span is there where each of its bytes is
pub span_there : (s : Storage) (a n : ℕ) → a < 2 ^ 24 → ((k : ℕ) → k < n → is_some (byte_at s (address_after a k)) ≡ true) → is_some (span s a n) ≡ true
unfolding span
span_there s a zero la each = refl
span_there s a (suc n) la each =
    let first : address_after a 0 ≡ a = omega arith in
    let here : is_some (byte_at s a) ≡ true = rw first at (each 0 (omega arith)) in
    let less : suc n - 1 ≡ n = omega arith in
    let rest = span_there s (address_after a 1) n (omega arith) (λ k h. let next : address_after (address_after a 1) k ≡ address_after a (suc k) = omega arith in rw next (each (suc k) (omega arith))) in
    span_present s a (suc n) here (omega arith) ∙ rw less rest

-- a part of a span that is there is there
pub span_part : (s : Storage) (a n j m : ℕ) → a < 2 ^ 24 → is_some (span s a n) ≡ true → j + m ≤ n → is_some (span s (address_after a j) m) ≡ true
span_part s a n j m la there fits =
    span_there s (address_after a j) m (omega arith) (λ k h.
    let at : address_after (address_after a j) k ≡ address_after a (j + k) = omega arith in
    rw at (span_has s a n (j + k) la there (omega arith)))
