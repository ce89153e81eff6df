-- All sixteen registers, and the bytes of several.
use Rattle.std.proofs.Common.{◌≡◌, ◌≢◌, ℕ, zero, suc, ◌+◌, ◌-◌, ◌*◌, ◌^◌, ◌<◌, ◌≤◌, ◌%◌, List, [], ◌∷◌, ◌++◌, drop, map, Ok, length, take, slice_index, slice_set, Option, Some, None, refl, sym, ap, ◌∙◌, inl, inr, arith, add-one}
use Rattle.std.specs.Option.{option_map, option_and_then}
use Rattle.std.proofs.lemmas.Bool.{cases_lt, cases_eq, le-leb, lt-leb}
use Rattle.std.proofs.lemmas.Grind.{same_number_lists, get_or-set_at}
use Rattle.cx_storage.specs.Storage.{Storage, span}
use Rattle.cx_storage.specs.Facts.Spans.{span_at, span_from, span_length}
use Rattle.cx_storage.specs.Address.{address_after}
use Rattle.cx_storage.specs.Word.{word_at}
use Rattle.std.proofs.lemmas.List.{append_assoc, get_or-set_other, length-set, length-append, get_or-drop, get_or-take, length-drop, length-take-le, take_at, take_more, take_more_set}
use borrow.Rule.Slice.PartMut.{put_mid, post_of}
use Rattle.std.proofs.lemmas.List.FromFn.{length-map-range_with_len, get_or-map-range_with_len}
use Rattle.byteorder.specs.Endian.{big_bytes, big_number}
use Rattle.byteorder.specs.Numbers.{big_from-take}
use Rattle.std.specs.List.{range_with_len}
use Rattle.cx_exec.specs.declared.machine.Updated.{Updated}
use Rattle.cx_exec.specs.Machine.{Machine}
use Rattle.cx_exec.specs.Registers.{place_after, register_count, words_at, loaded_register, loaded_registers, register_bytes, LoadsRegisters}

pub all_loaded : (regs new : List ℕ) (first last : ℕ) (words : List ℕ) → length new ≡ 16
    → ((k : ℕ) → k < 16 → slice_index new k ≡ loaded_register regs first last words k) → new ≡ loaded_registers regs first last words
unfolding loaded_registers
all_loaded regs new first last words len each =
    same_number_lists new _ (len ∙ sym (length-map-range_with_len (loaded_register regs first last words) 0 16))
    (λ k h.
    let low : k < 16 = omega arith in
    each k low ∙ sym (get_or-map-range_with_len (loaded_register regs first last words) 0 16 k k 0 low (omega arith)))

-- `count` registers from the first one on are taken from the words that bytes hold, and the others are as they were
abbrev pub AreTaken : List ℕ → List ℕ → List ℕ → ℕ → ℕ → Type 0
AreTaken old regs part first count = record {
  taken : (r : ℕ) → r < 16 → place_after first r < count → slice_index regs r ≡ big_number 4 (drop (4 * place_after first r) part);
  others : (r : ℕ) → r < 16 → count ≤ place_after first r → slice_index regs r ≡ slice_index old r;
  size : length regs ≡ 16;
}

-- one more is taken
pub one_taken : (old regs part : List ℕ) (first r k value : ℕ) → first < 16 → k < 16 → r ≡ (first + k) % 16 → AreTaken old regs part first k
    → 4 * k + 4 ≤ length part → value ≡ big_number 4 (take (length part - 4 * k) (drop (4 * k) part))
    → AreTaken old (slice_set regs r value) part first (k + 1)
one_taken old regs part first r k value low few is so_far room read =
    let made : value ≡ big_number 4 (drop (4 * k) part) = read ∙ big_from-take 0 4 (length part - 4 * k) (drop (4 * k) part) (omega (arith, room)) in
    record {
      taken = λ s small h. elim (cases_eq s r) [
        | inl e ↦
            let place : place_after first s ≡ k = omega (arith, e, is, low, few) in
            get_or-set_at regs r s value 0 e (omega (arith, is, so_far.size)) ∙ made ∙ ap (λ (n : ℕ). big_number 4 (drop (4 * n) part)) (sym place)
        | inr ne ↦ get_or-set_other regs r s value 0 ne ∙ so_far.taken s small (omega (arith, is, ne, low, few, small, h))
      ];
      others = λ s small h.
          let ne : s ≢ r = λ e. omega (arith, h, e, is, low, few) in
          get_or-set_other regs r s value 0 ne ∙ so_far.others s small (omega (arith, h));
      size = length-set regs r value ∙ so_far.size;
    }

-- all of them are
pub taken_registers : (regs new : List ℕ) (first last : ℕ) (part words : List ℕ) → length new ≡ 16
    → ((r : ℕ) → r < 16 → place_after first r < register_count first last → slice_index new r ≡ big_number 4 (drop (4 * place_after first r) part))
    → ((r : ℕ) → r < 16 → register_count first last ≤ place_after first r → slice_index new r ≡ slice_index regs r)
    → ((k : ℕ) → k < register_count first last → slice_index words k ≡ big_number 4 (drop (4 * k) part))
    → new ≡ loaded_registers regs first last words
taken_registers regs new first last part words size taken others each = all_loaded regs new first last words size (λ r low.
    elim (cases_lt (place_after first last) (place_after first r)) [
      | inl lt ↦ let later = lt-leb (place_after first r) (place_after first last) lt in rw later (others r low (omega (arith, lt)))
      | inr ge ↦
          let among = le-leb (place_after first r) (place_after first last) ge in
          let within : place_after first r < register_count first last = omega (arith, ge) in
          rw among (taken r low within ∙ sym (each (place_after first r) within))
    ])

pub no_bytes : (regs : List ℕ) (first : ℕ) → register_bytes regs first 0 ≡ []
unfolding register_bytes
no_bytes regs first = refl

pub more_bytes : (regs : List ℕ) (first n : ℕ) → register_bytes regs first (n + 1) ≡ register_bytes regs first n ++ big_bytes 4 (slice_index regs ((first + n) % 16))
unfolding register_bytes
more_bytes regs first n = rw add-one refl

-- one more word written after those that are written
pub written_more : (regs : List ℕ) (first r k j : ℕ) (bytes part rest : List ℕ) → r ≡ (first + k) % 16 → 4 * k ≤ length bytes → take (4 * k) bytes ≡ register_bytes regs first k
    → part ≡ big_bytes 4 (slice_index regs r) ++ rest → take (4 * (k + 1)) (put_mid (4 * k) j bytes part) ≡ register_bytes regs first (k + 1)
written_more regs first r k j bytes part rest is fits so_far new =
    let word : List ℕ = big_bytes 4 (slice_index regs r) in
    let prefix : List ℕ = take (4 * k) bytes in
    let after : List ℕ = post_of (4 * k) j bytes in
    let four : length word ≡ 4 = refl in
    let most : length (prefix ++ word) ≡ 4 * (k + 1) = omega (arith, length-append prefix word, length-take-le (4 * k) bytes fits) in
    ap (λ (x : List ℕ). take (4 * (k + 1)) (prefix ++ (x ++ after))) new
    ∙ ap (λ (x : List ℕ). take (4 * (k + 1)) (prefix ++ x)) (append_assoc word rest after)
    ∙ ap (take (4 * (k + 1))) (sym (append_assoc prefix word (rest ++ after)))
    ∙ take_at (prefix ++ word) (rest ++ after) (4 * (k + 1)) most
    ∙ ap (λ (x : List ℕ). x ++ word) so_far ∙ rw is (sym (more_bytes regs first k))

-- the words in a row, one by one
pub words_none : (s : Storage) (a : ℕ) → words_at s a 0 ≡ Some []
unfolding words_at
words_none s a = refl

pub words_more : (s : Storage) (a n word : ℕ) (words : List ℕ) → words_at s a n ≡ Some words → word_at s (address_after a (4 * n)) ≡ Some word → words_at s a (n + 1) ≡ Some (words ++ word ∷ [])
unfolding words_at
words_more s a n word words so_far here = rw (add-one, so_far, here) refl

no_word : (o : Option (List ℕ)) → option_and_then (λ words. option_map (λ word. words ++ word ∷ []) None) o ≡ None
no_word None = refl
no_word (Some words) = refl

pub words_gone : (s : Storage) (a k n : ℕ) → k < n → word_at s (address_after a (4 * k)) ≡ None → words_at s a n ≡ None
unfolding words_at
words_gone s a k zero h none = absurd (omega (arith, h))
words_gone s a k (suc n) h none = elim (cases_lt k n) [
  | inl lt ↦ rw (words_gone s a k n lt none) refl
  | inr ge ↦ let same : n ≡ k = omega (arith, h, ge) in rw (same, none) (no_word (words_at s a k))
]

-- a buffer with one word more
pub words_filled : (s : Storage) (a n word : ℕ) (new : List ℕ) → n < length new → words_at s a n ≡ Some (take n new) → word_at s (address_after a (4 * n)) ≡ Some word
    → words_at s a (n + 1) ≡ Some (take (n + 1) (slice_set new n word))
words_filled s a n word new h so_far here = words_more s a n word (take n new) so_far here ∙ ap Some (sym (take_more_set new n word h))

-- the word in a span, by its place
first_four : (bytes : List ℕ) → big_number 4 (take 4 bytes) ≡ big_number 4 bytes
first_four [] = refl
first_four (b ∷ []) = refl
first_four (b ∷ c ∷ []) = refl
first_four (b ∷ c ∷ d ∷ []) = refl
first_four (b ∷ c ∷ d ∷ e ∷ rest) = refl

span_word : (s : Storage) (a n k : ℕ) (bytes : List ℕ) → a < 2 ^ 24 → span s a n ≡ Some bytes → k + 4 ≤ n → word_at s (address_after a k) ≡ Some (big_number 4 (drop k bytes))
unfolding word_at
span_word s a n k bytes low e fits =
    let size : length (drop k bytes) ≡ n - k = length-drop k bytes ∙ ap (λ m. m - k) (span_length s a n bytes e) in
    let four : length (take 4 (drop k bytes)) ≡ 4 = length-take-le 4 (drop k bytes) (omega (arith, size, fits)) in
    let there : span s (address_after a k) 4 ≡ Some (take 4 (drop k bytes)) = span_from s (address_after a k) 4 (take 4 (drop k bytes)) (omega arith) four (λ j h.
    let place : address_after (address_after a k) j ≡ address_after a (k + j) = omega arith in
    let byte : slice_index (take 4 (drop k bytes)) j ≡ slice_index bytes (k + j) = get_or-take 4 (drop k bytes) j 0 h ∙ get_or-drop k bytes j 0 in
    rw (place, byte) (span_at s a n bytes (k + j) low e (omega (arith, h, fits)))) in
    rw there (ap Some (first_four (drop k bytes)))

pub lent_words : (s : Storage) (a count : ℕ) (part words : List ℕ) → a < 2 ^ 24 → span s a (4 * count) ≡ Some part → count ≤ length words
    → ((k : ℕ) → 4 * k + 4 ≤ length part → slice_index words k ≡ big_number 4 (drop (4 * k) part)) → words_at s a count ≡ Some (take count words)
lent_words s a count part words low e room each = up count (omega arith)
  where
    up : (n : ℕ) → n ≤ count → words_at s a n ≡ Some (take n words)
    up zero h = words_none s a
    up (suc n) h =
        let within : 4 * n + 4 ≤ 4 * count = omega (arith, h) in
        let word = span_word s a (4 * count) (4 * n) part low e within in
        let taken = each n (omega (arith, within, span_length s a (4 * count) part e)) in
        let more = words_more s a n (slice_index words n) (take n words) (up n (omega (arith, h))) (rw taken word) in
        let next : n + 1 ≡ suc n = omega arith in
        rw next at (more ∙ ap Some (sym (take_more words n 0 (omega (arith, h, room)))))

-- the words in a row that bytes hold
words_of : ℕ → List ℕ → List ℕ
words_of n part = take n (map (λ k. big_number 4 (drop (4 * k) part)) (range_with_len 0 n))

word_of_lent : (n : ℕ) (part : List ℕ) (k : ℕ) → k < n → slice_index (words_of n part) k ≡ big_number 4 (drop (4 * k) part)
unfolding words_of
word_of_lent n part k h =
    let word : ℕ → ℕ = λ k. big_number 4 (drop (4 * k) part) in
    get_or-take n (map word (range_with_len 0 n)) k 0 h ∙ get_or-map-range_with_len word 0 n k k 0 h (omega arith)

words_lent : (s : Storage) (a n : ℕ) (part : List ℕ) → a < 2 ^ 24 → span s a (4 * n) ≡ Some part → words_at s a n ≡ Some (words_of n part)
unfolding words_of
words_lent s a n part low there =
    let word : ℕ → ℕ = λ k. big_number 4 (drop (4 * k) part) in
    let all : List ℕ = map word (range_with_len 0 n) in
    let size : length all ≡ n = length-map-range_with_len word 0 n in
    let long = span_length s a (4 * n) part there in
    lent_words s a n part all low there (omega (arith, size))
    (λ k h. get_or-map-range_with_len word 0 n k k 0 (omega (arith, h, long)) (omega arith))

-- registers loaded from words that are in lent bytes
pub loads_lent : (m : Machine) (first last a : ℕ) (part : List ℕ) (updated : Updated) (after : Machine) → a < 2 ^ 24 → span m.storage a (4 * register_count first last) ≡ Some part
    → ((words : List ℕ) → ((k : ℕ) → k < register_count first last → slice_index words k ≡ big_number 4 (drop (4 * k) part)) → after.regs ≡ loaded_registers m.regs first last words)
    → after.cc ≡ m.cc → after.next ≡ updated.address → after.storage ≡ m.storage
    → LoadsRegisters first last a updated m (Ok tt) after
unfolding LoadsRegisters
loads_lent m first last a part updated after low there loaded cc next storage =
    let n : ℕ = register_count first last in
    rw (words_lent m.storage a n part low there) (refl, rw (loaded (words_of n part) (word_of_lent n part), cc, next, storage) refl)
