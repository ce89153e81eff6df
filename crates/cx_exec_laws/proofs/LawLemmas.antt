-- The laws of numbers, pairs, shifts and several registers.
use Rattle.std.proofs.Common.{◌≡◌, ◌≢◌, ℕ, zero, suc, ◌+◌, ◌-◌, ◌*◌, ◌/◌, ◌%◌, ◌^◌, ◌<◌, ◌≤◌, Some, map, true, false, inl, inr, List, ◌++◌, length, take, drop, slice_index, slice_set, nat_le, refl, sym, ◌∙◌, ap, arith, ℤ, pos, negsuc, neg_ℤ, ◌*ℤ◌, ◌<ℤ◌, ◌≤ℤ◌, int_lt, unsigned_abs, FitsSigned, [], ◌∷◌, Option, None}
use Rattle.std.specs.Option.{option_and_then, option_map}
use Rattle.std.specs.Int.{w32, w64, int_wrap, int_rem_euclid}
use lib.Signed.{shr_z}
use Rattle.std.proofs.Math.Seq.{get_or-append_seam}
use Rattle.std.proofs.lemmas.Bool.{cases_Bool, cases_lt}
use Rattle.std.proofs.lemmas.Int.{ints, of_z-to_z, to_z-of_z, int_wrap_fits, fits_signed_mul}
use Rattle.std.proofs.lemmas.Nat.{pow_pos, le-div, div_below, div-add-mod', mod_below}
use Rattle.std.proofs.lemmas.List.{get_or-set_same, get_or-set_other, length-set, length-append, length-drop, drop-append-le, take-append-le, drop_at, get_or_append_left}
use Rattle.std.proofs.lemmas.List.FromFn.{get_or-map-range_with_len}
use Rattle.std.specs.List.{range_with_len}
use Rattle.cx_storage.specs.Storage.{Storage}
use Rattle.cx_storage.specs.Address.{address_after}
use Rattle.cx_storage.specs.Word.{word_at}
use Rattle.byteorder.specs.Endian.{big_bytes}
use Rattle.cx_exec.specs.Numbers.{signed_word, word_of, signed_double, double_of, fits_word}
use Rattle.cx_exec.specs.Results.{pair, with_pair}
use Rattle.cx_exec.specs.Shifts.{floor_shifted, times_power, shifted_arithmetic}
use Rattle.cx_exec.specs.Registers.{place_after, register_count, words_at, loaded_register, loaded_registers, register_bytes}

fits : (x : ℤ) → fits_word x ≡ true → FitsSigned w32 x
fits x e = elim (cases_Bool (int_lt x (neg_ℤ (pos (2 ^ 31))))) [
  | inl t ↦ let wrong : false ≡ true = rw t at e in absurd (cc)
  | inr t ↦
      let above : int_lt x (pos (2 ^ 31)) ≡ true = rw t at e in
      omega (arith, ints)
]

pub result_is_exact : (x : ℤ) → fits_word x ≡ true → signed_word (word_of x) ≡ x
unfolding int_wrap
result_is_exact x e = int_wrap_fits w32 x (fits x e)

double_is_exact : (x : ℤ) → FitsSigned w64 x → signed_double (double_of x) ≡ x
unfolding int_wrap
double_is_exact x e = int_wrap_fits w64 x e

pair_kept : (regs : List ℕ) (r double : ℕ) → r + 1 < length regs → pair (with_pair regs r double) r ≡ double
pair_kept regs r double h =
    let inner : List ℕ = slice_set regs r (double / 2 ^ 32) in
    let long : length inner ≡ length regs = length-set regs r (double / 2 ^ 32) in
    let low : slice_index (slice_set inner (r + 1) (double % 2 ^ 32)) (r + 1) ≡ double % 2 ^ 32 = get_or-set_same inner (r + 1) (double % 2 ^ 32) 0 (omega arith) in
    let apart : r ≢ r + 1 = omega arith in
    let high : slice_index (slice_set inner (r + 1) (double % 2 ^ 32)) r ≡ double / 2 ^ 32 =
    get_or-set_other inner (r + 1) r (double % 2 ^ 32) 0 apart ∙ get_or-set_same regs r (double / 2 ^ 32) 0 (omega arith) in
    rw (high, low) (omega arith)

word_bound : (word : ℕ) → word < 2 ^ 32 → unsigned_abs (signed_word word) ≤ 2 ^ 31
word_bound word h = omega (arith, ints)

pub product_is_exact : (regs : List ℕ) (r first second : ℕ) → r + 1 < length regs → first < 2 ^ 32 → second < 2 ^ 32
    → signed_double (pair (with_pair regs r (double_of (signed_word first *ℤ signed_word second))) r) ≡ signed_word first *ℤ signed_word second
product_is_exact regs r first second h k j =
    ap signed_double (pair_kept regs r (double_of (signed_word first *ℤ signed_word second)) h)
    ∙ double_is_exact _ (fits_signed_mul w64 (signed_word first) (signed_word second) (2 ^ 31) (2 ^ 31) (word_bound first k) (word_bound second j) (omega arith))

-- the floor of a quotient
floor_not_above : (x : ℤ) (m : ℕ) → 0 < m → (shr_z x m *ℤ pos m) ≤ℤ x
floor_not_above (pos a) m h = let whole = div-add-mod' a m in omega (arith, ints)
floor_not_above (negsuc a) m h =
    let whole = div-add-mod' a m in
    let rest = mod_below a m h in
    let more : suc (a / m) * m ≡ a / m * m + m = omega arith in
    omega (arith, ints)

floor_greatest : (x k : ℤ) (m : ℕ) → 0 < m → (k *ℤ pos m) ≤ℤ x → k ≤ℤ shr_z x m
floor_greatest (pos a) (pos b) m h e = let low : b ≤ a / m = le-div b a m h (omega (arith, ints)) in omega (arith, ints)
floor_greatest (pos a) (negsuc b) m h e = omega (arith, ints)
floor_greatest (negsuc a) (pos b) m h e = absurd (omega (arith, ints))
floor_greatest (negsuc a) (negsuc b) m h e = let high : a / m < suc b = div_below a m (suc b) h (omega (arith, ints)) in omega (arith, ints)

pub shifted_is_floor : (x : ℤ) (n : ℕ) → ((floor_shifted x n *ℤ pos (2 ^ n)) ≤ℤ x) × ((k : ℤ) → (k *ℤ pos (2 ^ n)) ≤ℤ x → k ≤ℤ floor_shifted x n)
shifted_is_floor x n = (floor_not_above x (2 ^ n) (pow_pos n), λ k e. floor_greatest x k (2 ^ n) (pow_pos n) e)

-- a word shifted left, where its exact number fits
kept_positive : (word a : ℕ) → word < 2 ^ 31 → a < 2 ^ 31 → signed_word ((word / 2 ^ 31) * 2 ^ 31 + a % 2 ^ 31) ≡ pos a
kept_positive word a h k = omega (arith, ints)

kept_negative : (word c : ℕ) → 2 ^ 31 ≤ word → word < 2 ^ 32 → c < 2 ^ 31
    → signed_word ((word / 2 ^ 31) * 2 ^ 31 + (2 ^ 31 - 1 - c % 2 ^ 31)) ≡ negsuc c
kept_negative word c h k j =
    let bits : (word / 2 ^ 31) * 2 ^ 31 + (2 ^ 31 - 1 - c % 2 ^ 31) ≡ 2 ^ 32 - suc c = omega arith in
    let small : FitsSigned w32 (negsuc c) = omega (arith, ints) in
    ap signed_word bits ∙ to_z-of_z w32 (negsuc c) small

kept : (word : ℕ) (x : ℤ) → word < 2 ^ 32 → FitsSigned w32 x → (x <ℤ pos 0 → 2 ^ 31 ≤ word) → (pos 0 ≤ℤ x → word < 2 ^ 31)
    → signed_word ((word / 2 ^ 31) * 2 ^ 31 + unsigned_abs (int_rem_euclid x (pos (2 ^ 31)))) ≡ x
kept word (pos a) h e low high = kept_positive word a (high (omega (arith, ints))) (omega (arith, ints))
kept word (negsuc c) h e low high = kept_negative word c (low (omega (arith, ints))) h (omega (arith, ints))

-- a positive factor keeps the sign
times_negative : (v : ℤ) (m : ℕ) → 0 < m → (v *ℤ pos m) <ℤ pos 0 → v <ℤ pos 0
times_negative (pos a) m h e = absurd (omega (arith, ints))
times_negative (negsuc a) m h e = omega (arith, ints)

times_positive : (v : ℤ) (m : ℕ) → 0 < m → pos 0 ≤ℤ (v *ℤ pos m) → pos 0 ≤ℤ v
times_positive (pos a) m h e = omega (arith, ints)
times_positive (negsuc a) m h e = let more : suc a * m ≡ a * m + m = omega arith in absurd (omega (arith, ints))

word_negative : (word : ℕ) → word < 2 ^ 32 → signed_word word <ℤ pos 0 → 2 ^ 31 ≤ word
word_negative word h e = let back = of_z-to_z w32 word h in omega (arith, ints)

word_positive : (word : ℕ) → word < 2 ^ 32 → pos 0 ≤ℤ signed_word word → word < 2 ^ 31
word_positive word h e = let back = of_z-to_z w32 word h in omega (arith, ints)

pub shifted_is_exact : (word n : ℕ) → word < 2 ^ 32 → fits_word (times_power word n) ≡ true → signed_word (shifted_arithmetic word n) ≡ times_power word n
shifted_is_exact word n h e =
    kept word (times_power word n) h (fits (times_power word n) e)
    (λ low. word_negative word h (times_negative (signed_word word) (2 ^ n) (pow_pos n) low))
    (λ high. word_positive word h (times_positive (signed_word word) (2 ^ n) (pow_pos n) high))

-- the words that are stored
bytes_length : (regs : List ℕ) (first n : ℕ) → length (register_bytes regs first n) ≡ 4 * n
unfolding register_bytes
bytes_length regs first zero = refl
bytes_length regs first (suc n) =
    let word : List ℕ = big_bytes 4 (slice_index regs ((first + n) % 16)) in
    let four : length word ≡ 4 = refl in
    omega (arith, length-append (register_bytes regs first n) word, bytes_length regs first n)

pub stored_words : (regs : List ℕ) (first n k : ℕ) → k < n
    → take 4 (drop (4 * k) (register_bytes regs first n)) ≡ big_bytes 4 (slice_index regs ((first + k) % 16))
unfolding register_bytes
stored_words regs first zero k h = absurd (omega arith)
stored_words regs first (suc n) k h =
    let front : List ℕ = register_bytes regs first n in
    let word : List ℕ = big_bytes 4 (slice_index regs ((first + n) % 16)) in
    let long : length front ≡ 4 * n = bytes_length regs first n in
    elim (cases_lt k n) [
      | inl low ↦
          ap (take 4) (drop-append-le (4 * k) front word (omega arith))
          ∙ take-append-le 4 (drop (4 * k) front) word (omega (arith, length-drop (4 * k) front)) ∙ stored_words regs first n k low
      | inr high ↦
          let same : n ≡ k = omega arith in
          ap (λ (j : ℕ). take 4 (drop (4 * j) (front ++ word))) (sym same) ∙ ap (take 4) (drop_at front word (4 * n) long)
          ∙ ap (λ (j : ℕ). big_bytes 4 (slice_index regs ((first + j) % 16))) same
    ]

words_each : (s : Storage) (a n : ℕ) (words : List ℕ) → words_at s a n ≡ Some words
    → (length words ≡ n) × ((k : ℕ) → k < n → word_at s (address_after a (4 * k)) ≡ Some (slice_index words k))
unfolding words_at
words_each s a zero words e = let none : [] ≡ words = cc in (ap length (sym none), λ k h. absurd (omega (arith, h)))
words_each s a (suc n) words e = go (words_at s a n) (λ front f. words_each s a n front f) (word_at s (address_after a (4 * n))) refl e
  where
    go : (o : Option (List ℕ))
        → ((front : List ℕ) → o ≡ Some front → (length front ≡ n) × ((k : ℕ) → k < n → word_at s (address_after a (4 * k)) ≡ Some (slice_index front k)))
        → (p : Option ℕ) → word_at s (address_after a (4 * n)) ≡ p
        → option_and_then (λ words. option_map (λ word. words ++ word ∷ []) p) o ≡ Some words
        → (length words ≡ suc n) × ((k : ℕ) → k < suc n → word_at s (address_after a (4 * k)) ≡ Some (slice_index words k))
    go None each p f h = cc
    go (Some front) each None f h = cc
    go (Some front) each (Some word) f h =
        let shape : front ++ word ∷ [] ≡ words = cc in
        let before = each front refl in
        let long : length front ≡ n = before.0 in (
          sym (ap length shape) ∙ length-append front (word ∷ []) ∙ omega (arith, long),
          λ k l. rw (← shape) (elim (cases_lt k n) [
            | inl lt ↦ before.1 k lt ∙ ap Some (sym (get_or_append_left front (word ∷ []) 0 k (omega (arith, long, lt))))
            | inr ge ↦
                let same : k ≡ n = omega (arith, l, ge) in
                let here : slice_index (front ++ word ∷ []) n ≡ word = rw long at (get_or-append_seam front word [] 0) in
                rw same (f ∙ ap Some (sym here))
          ]),
        )

-- the words that are loaded
place_back : (first k : ℕ) → first < 16 → k < 16 → place_after first ((first + k) % 16) ≡ k
place_back first k h j = omega arith

pub loaded_words : (s : Storage) (a : ℕ) (regs words : List ℕ) (first last k : ℕ) → first < 16 → k < register_count first last
    → words_at s a (register_count first last) ≡ Some words
    → word_at s (address_after a (4 * k)) ≡ Some (slice_index (loaded_registers regs first last words) ((first + k) % 16))
unfolding loaded_registers
loaded_words s a regs words first last k h j e =
    let small : k < 16 = omega arith in
    let r : ℕ = (first + k) % 16 in
    let low : r < 16 = omega arith in
    let place : place_after first r ≡ k = place_back first k h small in
    let within : place_after first r ≤ place_after first last = omega arith in
    let among : nat_le (place_after first r) (place_after first last) ≡ true = grind arith in
    let here : slice_index (map (loaded_register regs first last words) (range_with_len 0 16)) r ≡ slice_index words k =
    get_or-map-range_with_len (loaded_register regs first last words) 0 16 r r 0 low (omega arith) ∙ rw among (ap (slice_index words) place) in
    (words_each s a (register_count first last) words e).1 k j ∙ ap Some (sym here)
