-- The digits of bytes tell them apart.
use Rattle.std.proofs.Common.{◌≡◌, ◌<◌, ◌≤◌, ◌^◌, ◌%◌, ◌/◌, ◌-◌, ℕ, zero, suc, Bool, true, false, MatchBool, Option, Some, None, List, [], ◌∷◌, ◌++◌, codes, length, take, take_all, append_assoc, append-nil, refl, sym, ap, ◌∙◌, inl, inr, arith}
use Rattle.std.specs.Prelude.{nat_lt, slice_index, if◌then◌else◌}
use Rattle.std.specs.List.{AllByRecursion}
use Rattle.std.specs.Option.{option_map_or}
use Rattle.std.specs.Str.{bytes_eq}
use Rattle.std.proofs.lemmas.Bool.{cases_lt}
use Rattle.std.proofs.lemmas.List.{length-append}
use Rattle.std.proofs.lemmas.Slice.Eq.{bytes_eq-Decides}
use Rattle.cx_base.specs.Digits.{digits, hex_digits}
use Rattle.cx_storage.specs.Address.{address_after}
use Rattle.cx_storage.specs.Facts.Sound.{byte_small, span_small}
use Rattle.cx_storage.specs.Facts.Spans.{span_at, span_length}
use Rattle.cx_storage.specs.Storage.{Storage, IsSoundStorage, byte_at, span}
use Rattle.cx_look_ahead.specs.Parts.Seen.{AreBytes}
use Rattle.cx_look_ahead.specs.Ahead.{bytes_word}
use Rattle.cx_look_ahead.specs.declared.rows.Row.{Row}
use Rattle.cx_look_lines.specs.Words.{Lines}
use Rattle.cx_look_ahead.specs.Laws.Watching.{ChangesAreWritten}
use Rattle.cx_look_ahead.specs.Watching.{AreOfRange, ActionEffect, IsChange, change_line, kept_in, shown_in}
use Rattle.cx_look_ahead.specs.Writers.{IsUnchanged}
use Rattle.cx_look_ahead.specs.declared.watching.Kept.{Kept}

-- ---- a digit
abbrev glyph : ℕ → ℕ
glyph n = slice_index (codes "0123456789ABCDEF") n

value : ℕ → ℕ
value c = if nat_lt c 58 then c - 48 else c - 55

glyph_value : (n : ℕ) → n < 16 → (value (glyph n) ≡ n) × (47 < glyph n)
unfolding value
glyph_value zero h = (refl, omega arith)
glyph_value (suc zero) h = (refl, omega arith)
glyph_value (suc (suc zero)) h = (refl, omega arith)
glyph_value (suc (suc (suc zero))) h = (refl, omega arith)
glyph_value (suc (suc (suc (suc zero)))) h = (refl, omega arith)
glyph_value (suc (suc (suc (suc (suc zero))))) h = (refl, omega arith)
glyph_value (suc (suc (suc (suc (suc (suc zero)))))) h = (refl, omega arith)
glyph_value (suc (suc (suc (suc (suc (suc (suc zero))))))) h = (refl, omega arith)
glyph_value (suc (suc (suc (suc (suc (suc (suc (suc zero)))))))) h = (refl, omega arith)
glyph_value (suc (suc (suc (suc (suc (suc (suc (suc (suc zero))))))))) h = (refl, omega arith)
glyph_value (suc (suc (suc (suc (suc (suc (suc (suc (suc (suc zero)))))))))) h = (refl, omega arith)
glyph_value (suc (suc (suc (suc (suc (suc (suc (suc (suc (suc (suc zero))))))))))) h = (refl, omega arith)
glyph_value (suc (suc (suc (suc (suc (suc (suc (suc (suc (suc (suc (suc zero)))))))))))) h = (refl, omega arith)
glyph_value (suc (suc (suc (suc (suc (suc (suc (suc (suc (suc (suc (suc (suc zero))))))))))))) h = (refl, omega arith)
glyph_value (suc (suc (suc (suc (suc (suc (suc (suc (suc (suc (suc (suc (suc (suc zero)))))))))))))) h = (refl, omega arith)
glyph_value (suc (suc (suc (suc (suc (suc (suc (suc (suc (suc (suc (suc (suc (suc (suc zero))))))))))))))) h = (refl, omega arith)
glyph_value (suc (suc (suc (suc (suc (suc (suc (suc (suc (suc (suc (suc (suc (suc (suc (suc n)))))))))))))))) h = absurd (omega (arith, h))

glyphs_same : (m n : ℕ) → m < 16 → n < 16 → glyph m ≡ glyph n → m ≡ n
glyphs_same m n h k e = sym (glyph_value m h).0 ∙ ap value e ∙ (glyph_value n k).0

-- ---- a byte
abbrev byte_word : Option ℕ → List ℕ
byte_word o = option_map_or (digits 16 2) o (codes "--")

abbrev IsByte : Option ℕ → Type 0
IsByte o = (v : ℕ) → o ≡ Some v → v < 256

two_digits : (b : ℕ) → digits 16 2 b ≡ glyph (b / 16 % 16) ∷ glyph (b % 16) ∷ []
unfolding digits
two_digits b = refl

word_length : (o : Option ℕ) → length (byte_word o) ≡ 2
word_length None = refl
word_length (Some b) = ap length (two_digits b)

first_same : (a b c d : ℕ) → a ∷ b ∷ [] ≡ c ∷ d ∷ [] → a ≡ c
first_same a b c d e = cc

second_same : (a b c d : ℕ) → a ∷ b ∷ [] ≡ c ∷ d ∷ [] → b ≡ d
second_same a b c d e = cc

no_hyphens : (b : ℕ) → digits 16 2 b ≡ codes "--" → ⊥
no_hyphens b e =
    let above : 47 < glyph (b % 16) = (glyph_value (b % 16) (omega arith)).1 in
    let it : glyph (b % 16) ≡ 45 = second_same (glyph (b / 16 % 16)) (glyph (b % 16)) 45 45 (sym (two_digits b) ∙ e) in
    omega (arith, above, it)

words_same : (o p : Option ℕ) → IsByte o → IsByte p → byte_word o ≡ byte_word p → o ≡ p
words_same None None h k e = refl
words_same None (Some c) h k e = absurd (no_hyphens c (sym e))
words_same (Some b) None h k e = absurd (no_hyphens b e)
words_same (Some b) (Some c) h k e =
    let both = sym (two_digits b) ∙ e ∙ two_digits c in
    let high = glyphs_same (b / 16 % 16) (c / 16 % 16) (omega arith) (omega arith) (first_same (glyph (b / 16 % 16)) (glyph (b % 16)) (glyph (c / 16 % 16)) (glyph (c % 16)) both) in
    let low = glyphs_same (b % 16) (c % 16) (omega arith) (omega arith) (second_same (glyph (b / 16 % 16)) (glyph (b % 16)) (glyph (c / 16 % 16)) (glyph (c % 16)) both) in
    let one : b < 256 = h b refl in
    let other : c < 256 = k c refl in
    let same : b ≡ c = omega (arith, high, low, one, other) in
    ap (λ v. Some v) same

-- ---- bytes
word_of_two : (u v : List ℕ) → length u ≡ 2 → length v ≡ 2 → (xs ys : List ℕ) → xs ++ u ≡ ys ++ v → (xs ≡ ys) × (u ≡ v)
word_of_two u v e f [] [] h = (refl, h)
word_of_two u v e f (x ∷ xs) (y ∷ ys) h =
    let more = word_of_two u v e f xs ys cc in
    let first : x ≡ y = cc in
    (ap2 first more.0, more.1)
  where
    ap2 : x ≡ y → xs ≡ ys → x ∷ xs ≡ y ∷ ys
    ap2 p q = cc
word_of_two u v e f [] (y ∷ ys) h = absurd (longer (ap length h))
  where
    longer : length u ≡ length (y ∷ ys ++ v) → ⊥
    longer l = let many = length-append ys v in omega (arith, l, many, e, f)
word_of_two u v e f (x ∷ xs) [] h = absurd (longer (ap length h))
  where
    longer : length (x ∷ xs ++ u) ≡ length v → ⊥
    longer l = let many = length-append xs u in omega (arith, l, many, e, f)

all_same : (before after : Storage) (at n : ℕ) → IsSoundStorage before → IsSoundStorage after → bytes_word before at n ≡ bytes_word after at n
    → (k : ℕ) → k < n → byte_at before (address_after at k) ≡ byte_at after (address_after at k)
all_same before after at zero ok sound e k h = absurd (omega (arith, h))
all_same before after at (suc n) ok sound e k h =
    let o = byte_at before (address_after at n) in
    let p = byte_at after (address_after at n) in
    let both = word_of_two (byte_word o) (byte_word p) (word_length o) (word_length p) (bytes_word before at n) (bytes_word after at n) e in
    let here : o ≡ p = words_same o p (λ v is. byte_small before (address_after at n) v ok is) (λ v is. byte_small after (address_after at n) v sound is) both.1 in
    elim (cases_lt k n) [
      | inl below ↦ all_same before after at n ok sound both.0 k below
      | inr above ↦
          let it : k ≡ n = omega (arith, above, h) in
          rw it here
    ]

same_words : (before after : Storage) (at n : ℕ) → ((k : ℕ) → k < n → byte_at before (address_after at k) ≡ byte_at after (address_after at k))
    → bytes_word before at n ≡ bytes_word after at n
same_words before after at zero same = refl
same_words before after at (suc n) same =
    let front = same_words before after at n (λ k h. same k (omega (arith, h))) in
    let last = ap byte_word (same n (omega arith)) in
    rw (front, last) refl

-- ---- the same bytes exactly where they are written alike
pub alike : (before after : Storage) (range : Row) → IsSoundStorage before → IsSoundStorage after → bytes_eq (shown_in before range) (shown_in after range) ≡ true
    → IsUnchanged before after range
alike before after range ok sound same =
    all_same before after range.at range.length ok sound ((bytes_eq-Decides (shown_in before range) (shown_in after range)).0 same)

pub written_alike : (before after : Storage) (range : Row) → IsUnchanged before after range → bytes_eq (shown_in before range) (shown_in after range) ≡ true
written_alike before after range same =
    (bytes_eq-Decides (shown_in before range) (shown_in after range)).1 (same_words before after range.at range.length same)

-- ---- bytes that are lent at once
shown_first : (s : Storage) (at n : ℕ) (bytes : List ℕ) → at < 2 ^ 24 → span s at n ≡ Some bytes → (k : ℕ) → k ≤ n
    → bytes_word s at k ≡ hex_digits (take k bytes)
shown_first s at n bytes low e zero h = refl
shown_first s at n bytes low e (suc k) h =
    let front = shown_first s at n bytes low e k (omega (arith, h)) in
    let here = ap byte_word (span_at s at n bytes k low e h) in
    let many = span_length s at n bytes e in
    rw (front, here) (sym (digits_next (take k bytes) (slice_index bytes k)) ∙ ap hex_digits (take_next bytes k (omega (arith, h, many))))
  where
    take_next : (xs : List ℕ) (k : ℕ) → k < length xs → take k xs ++ slice_index xs k ∷ [] ≡ take (suc k) xs
    take_next [] k l = absurd (omega (arith, l))
    take_next (x ∷ xs) zero l = refl
    take_next (x ∷ xs) (suc k) l = ap (λ l. x ∷ l) (take_next xs k (omega (arith, l)))

    digits_next : (xs : List ℕ) (x : ℕ) → hex_digits (xs ++ x ∷ []) ≡ hex_digits xs ++ digits 16 2 x
    digits_next [] x = append-nil (digits 16 2 x)
    digits_next (y ∷ xs) x = ap (λ l. digits 16 2 y ++ l) (digits_next xs x) ∙ sym (append_assoc (digits 16 2 y) (hex_digits xs) (digits 16 2 x))

pub are_of_span : (s : Storage) (range : Row) (bytes : List ℕ) → IsSoundStorage s → range.at < 2 ^ 24 → span s range.at range.length ≡ Some bytes
    → AreBytes (shown_in s range) bytes
are_of_span s range bytes sound low e =
    let many = span_length s range.at range.length bytes e in
    let all : take range.length bytes ≡ bytes = take_all range.length bytes (omega (arith, many)) in
    (shown_first s range.at range.length bytes low e range.length (omega arith) ∙ ap hex_digits all, span_small s range.at range.length bytes sound e)

hex_same : (xs ys : List ℕ) → AllByRecursion (λ b. b < 256) xs → AllByRecursion (λ b. b < 256) ys → hex_digits xs ≡ hex_digits ys → xs ≡ ys
hex_same [] [] h k e = refl
hex_same [] (y ∷ ys) h k e =
    let bad : ◌≡◌ {A = List ℕ} [] (glyph (y / 16 % 16) ∷ glyph (y % 16) ∷ hex_digits ys) = e ∙ ap (λ l. l ++ hex_digits ys) (two_digits y) in cc
hex_same (x ∷ xs) [] h k e =
    let bad : ◌≡◌ {A = List ℕ} (glyph (x / 16 % 16) ∷ glyph (x % 16) ∷ hex_digits xs) [] = ap (λ l. l ++ hex_digits xs) (sym (two_digits x)) ∙ e in cc
hex_same (x ∷ xs) (y ∷ ys) (h, hs) (k, ks) e =
    let both : glyph (x / 16 % 16) ∷ glyph (x % 16) ∷ hex_digits xs ≡ glyph (y / 16 % 16) ∷ glyph (y % 16) ∷ hex_digits ys =
    ap (λ l. l ++ hex_digits xs) (sym (two_digits x)) ∙ e ∙ ap (λ l. l ++ hex_digits ys) (two_digits y) in
    let rest : hex_digits xs ≡ hex_digits ys = cc in
    let high : glyph (x / 16 % 16) ≡ glyph (y / 16 % 16) = cc in
    let low : glyph (x % 16) ≡ glyph (y % 16) = cc in
    let digits_are : digits 16 2 x ≡ digits 16 2 y = two_digits x ∙ rw (high, low) refl ∙ sym (two_digits y) in
    let first = words_same (Some x) (Some y) (λ v is. let it : x ≡ v = cc in rw (← it) h) (λ v is. let it : y ≡ v = cc in rw (← it) k) digits_are in
    let one : x ≡ y = cc in
    rw (one, hex_same xs ys hs ks rest) refl

bools_same : (a b : Bool) → (a ≡ true → b ≡ true) → (b ≡ true → a ≡ true) → a ≡ b
bools_same true b f g = sym (f refl)
bools_same false true f g = g refl
bools_same false false f g = refl

pub compared_alike : (shown other bytes part : List ℕ) → AreBytes shown bytes → AreBytes other part → bytes_eq bytes part ≡ bytes_eq shown other
compared_alike shown other bytes part (first, small) (second, few) =
    bools_same (bytes_eq bytes part) (bytes_eq shown other)
    (λ e. (bytes_eq-Decides shown other).1 (first ∙ ap hex_digits ((bytes_eq-Decides bytes part).0 e) ∙ sym second))
    (λ e. (bytes_eq-Decides bytes part).1 (hex_same bytes part small few (sym first ∙ (bytes_eq-Decides shown other).0 e ∙ second)))

some_line : (effect : ActionEffect) (kept : Kept) (lines : Lines) (same : Bool) → MatchBool same (lines ≡ []) (IsChange effect kept lines) → lines ≡ [] → same ≡ true
unfolding change_line
some_line effect kept lines true are none = refl
some_line effect kept lines false are none = let line = sym are.are ∙ none in cc

no_line : (effect : ActionEffect) (kept : Kept) (lines : Lines) (same : Bool) → MatchBool same (lines ≡ []) (IsChange effect kept lines) → same ≡ true → lines ≡ []
no_line effect kept lines true are e = are
no_line effect kept lines false are e = cc

pub changes_are_written : ChangesAreWritten
unfolding AreOfRange
changes_are_written effect before range lines ok sound are =
    let same : Bool = bytes_eq (shown_in before range) (shown_in effect.storage range) in (
      λ none. alike before effect.storage range ok sound (some_line effect (kept_in before range) lines same are none),
      λ unchanged. no_line effect (kept_in before range) lines same are (written_alike before effect.storage range unchanged),
    )
