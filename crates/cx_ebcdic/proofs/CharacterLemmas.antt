-- The tables of characters are the rows.
use Rattle.std.proofs.Common.{◌≡◌, ℕ, ◌<◌, ◌≤◌, ◌&&◌, ◌==◌, zero, suc, Bool, true, false, List, [], ◌∷◌, Option, Some, None, refl, ap, ◌∙◌, inl, inr, arith, get_or}
use Rattle.std.specs.Prelude.{slice_index, nat_lt}
use Rattle.std.specs.List.{find, list_all}
use Rattle.std.proofs.lemmas.Bool.{eqb-true, and_parts, cases_lt, ltb-true, ne_eqb}
use Rattle.cx_ebcdic.specs.Characters.{table, code_of, shown_as}
use Rattle.cx_ebcdic.specs.declared.characters.TheConstants as characters

-- a test of each number below another
below : (ℕ → Bool) → ℕ → Bool
below test zero = true
below test (suc n) = test n && below test n

below_each : (test : ℕ → Bool) (n k : ℕ) → below test n ≡ true → k < n → test k ≡ true
unfolding below
below_each test zero k all less = absurd (omega (arith, less))
below_each test (suc n) k all less =
    let parts = and_parts (test n) (below test n) all in
    elim (cases_lt k n) [
      | inl before ↦ below_each test n k parts.1 before
      | inr past ↦ let same : k ≡ n = omega (arith, less, past) in ap test same ∙ parts.0
    ]

all_shown : below (λ byte. slice_index characters.SHOWN byte == shown_as byte) 256 ≡ true
unfolding below table shown_as
all_shown = refl

pub shown_at : (byte : ℕ) → byte < 256 → slice_index characters.SHOWN byte ≡ shown_as byte
shown_at byte less = eqb-true _ _ (below_each (λ byte. slice_index characters.SHOWN byte == shown_as byte) 256 byte all_shown less)

-- whether a code, or none, is another
same_code : Option ℕ → Option ℕ → Bool
same_code None None = true
same_code None (Some code) = false
same_code (Some code) None = false
same_code (Some code) (Some other) = code == other

code_is : (one other : Option ℕ) → same_code one other ≡ true → one ≡ other
unfolding same_code
code_is None None same = refl
code_is None (Some code) same = cc
code_is (Some code) None same = cc
code_is (Some code) (Some other) same = ap Some (eqb-true code other same)

all_coded : below (λ character. same_code (get_or characters.CODES character None) (code_of character)) 128 ≡ true
unfolding below same_code table code_of
all_coded = refl

pub coded_at : (character : ℕ) → character < 128 → get_or characters.CODES character None ≡ code_of character
coded_at character less =
    code_is _ _ (below_each (λ c. same_code (get_or characters.CODES c None) (code_of c)) 128 character all_coded less)

-- and no other character has one
all_low : list_all (λ row. nat_lt row.0 128) table ≡ true
unfolding table
all_low = refl

none_found : (rows : List (ℕ × ℕ)) (character : ℕ) → list_all (λ row. nat_lt row.0 128) rows ≡ true → 128 ≤ character → find (λ row. row.0 == character) rows ≡ None
none_found [] character low past = refl
none_found (row ∷ rows) character low past =
    let parts = and_parts (nat_lt row.0 128) (list_all (λ row. nat_lt row.0 128) rows) low in
    let less : row.0 < 128 = ltb-true _ _ parts.0 in
    rw (ne_eqb row.0 character (λ same. omega (arith, same, less, past))) (none_found rows character parts.1 past)

pub not_coded : (character : ℕ) → 128 ≤ character → code_of character ≡ None
unfolding code_of
not_coded character past = rw (none_found table character all_low past) refl
