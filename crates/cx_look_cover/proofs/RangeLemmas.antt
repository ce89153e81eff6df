-- Ranges of numbers.
use Rattle.std.proofs.Common.{◌≡◌, ℕ, zero, suc, ◌+◌, ◌-◌, ◌≤◌, Bool, true, false, List, [], ◌∷◌, ◌++◌, refl, ap, ◌∙◌, append_assoc, arith}
use Rattle.std.specs.Prelude.{◌==◌, cond}
use Rattle.std.specs.List.{flat_map}
use Rattle.std.proofs.lemmas.Bool.Decides.{nat_tests}
use Rattle.cx_look_cover.specs.Laws.{AreApart, AreApartAfter, RangesName, numbers_from, numbers_in}
use Rattle.cx_look_cover.specs.Ranges.{range, ranges_from}

-- ---- numbers one after another
one_number : (first n : ℕ) → numbers_from first (suc n) ≡ numbers_from first n ++ (first + n) ∷ []
one_number first zero =
    let here : first ≡ first + 0 = omega arith in
    ap (λ (k : ℕ). k ∷ []) here
one_number first (suc n) =
    let here : suc first + n ≡ first + suc n = omega arith in
    ap (λ (l : List ℕ). first ∷ l) (one_number (suc first) n ∙ ap (λ (k : ℕ). numbers_from (suc first) n ++ k ∷ []) here)

joins : (first last line : ℕ) → first ≤ last → line ≡ last + 1 → numbers_in (range first line) ≡ numbers_in (range first last) ++ line ∷ []
joins first last line le is =
    let more : suc line - first ≡ suc (suc last - first) = omega (arith, le, is) in
    let here : first + (suc last - first) ≡ line = omega (arith, le, is) in
    ap (λ (n : ℕ). numbers_from first n) more ∙ one_number first (suc last - first)
    ∙ ap (λ (k : ℕ). numbers_from first (suc last - first) ++ k ∷ []) here

alone : (line : ℕ) → numbers_in (range line line) ≡ line ∷ []
alone line =
    let one : suc line - line ≡ 1 = omega arith in
    ap (λ (n : ℕ). numbers_from line n) one

-- ---- ranges name their numbers
abbrev AreNamed : List ℕ → Type 0
AreNamed lines =
    (first last : ℕ) → first ≤ last → flat_map numbers_in (ranges_from first last lines) ≡ numbers_in (range first last) ++ lines

named_next : (first last line : ℕ) (lines : List ℕ) (next : Bool) → first ≤ last → (line == last + 1) ≡ next → AreNamed lines
    → flat_map numbers_in (cond next (ranges_from first line lines) (range first last ∷ ranges_from line line lines))
    ≡ numbers_in (range first last) ++ line ∷ lines
named_next first last line lines true le e named =
    let is : line ≡ last + 1 = grind (arith, nat_tests, e) in
    named first line (omega (arith, le, is)) ∙ ap (λ (l : List ℕ). l ++ lines) (joins first last line le is)
    ∙ append_assoc (numbers_in (range first last)) (line ∷ []) lines
named_next first last line lines false le e named =
    ap (λ (l : List ℕ). numbers_in (range first last) ++ l)
    (named line line (omega arith) ∙ ap (λ (l : List ℕ). l ++ lines) (alone line))

are_named : (lines : List ℕ) → AreNamed lines
are_named [] first last le = refl
are_named (line ∷ lines) first last le = named_next first last line lines (line == last + 1) le refl (are_named lines)

-- ---- no range goes on where the one in front of it ends
abbrev AreAfter : List ℕ → Type 0
AreAfter lines = (before first last : ℕ) → (first ≡ before + 1 → ⊥) → AreApartAfter before (ranges_from first last lines)

after_next : (before first last line : ℕ) (lines : List ℕ) (next : Bool) → (first ≡ before + 1 → ⊥) → (line == last + 1) ≡ next → AreAfter lines
    → AreApartAfter before (cond next (ranges_from first line lines) (range first last ∷ ranges_from line line lines))
after_next before first last line lines true apart e after = after before first line apart
after_next before first last line lines false apart e after = (apart, after last line line (λ is. grind (arith, nat_tests, e, is)))

are_after : (lines : List ℕ) → AreAfter lines
are_after [] before first last apart = (apart, tt)
are_after (line ∷ lines) before first last apart = after_next before first last line lines (line == last + 1) apart refl (are_after lines)

apart_next : (first last line : ℕ) (lines : List ℕ) (next : Bool) → (line == last + 1) ≡ next → ((first last : ℕ) → AreApart (ranges_from first last lines))
    → AreApart (cond next (ranges_from first line lines) (range first last ∷ ranges_from line line lines))
apart_next first last line lines true e apart = apart first line
apart_next first last line lines false e apart = are_after lines last line line (λ is. grind (arith, nat_tests, e, is))

are_apart : (lines : List ℕ) (first last : ℕ) → AreApart (ranges_from first last lines)
are_apart [] first last = tt
are_apart (line ∷ lines) first last = apart_next first last line lines (line == last + 1) refl (are_apart lines)

pub ranges_name : RangesName
ranges_name [] = record { numbers = refl; apart = tt }
ranges_name (line ∷ lines) = record {
  numbers = are_named lines line line (omega arith) ∙ ap (λ (l : List ℕ). l ++ lines) (alone line);
  apart = are_apart lines line line;
}
