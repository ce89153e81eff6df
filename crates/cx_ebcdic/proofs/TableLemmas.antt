-- The two directions of the table of characters.
use Rattle.std.proofs.Common.{◌≡◌, ◌≢◌, ℕ, ◌⊎◌, Bool, true, false, ◌==◌, Option, Some, None, refl, sym, ◌∙◌, ap, inl, inr}
use Rattle.std.specs.Prelude.{option_map, unwrap_or}
use Rattle.std.specs.List.{find, list_all}
use Rattle.std.proofs.lemmas.Bool.{eqb-true}
use Rattle.cx_ebcdic.specs.Facts.Lookup.{find_meets}
use Rattle.cx_ebcdic.specs.Characters.{table, code_of, shown_as}

-- the row from which a code came
found_code : (o : Option (ℕ × ℕ)) (code : ℕ) → option_map (λ (row : ℕ × ℕ). row.1) o ≡ Some code → (row : ℕ × ℕ) × (o ≡ Some row) × (row.1 ≡ code)
found_code None code h = absurd (cc)
found_code (Some row) code h = (row, refl, cc)

-- whether a row's character has the row's code
coded : ℕ × ℕ → Bool
coded row = unwrap_or (option_map (λ code. code == row.1) (code_of row.0)) false

from_coded : (o : Option ℕ) (code : ℕ) → unwrap_or (option_map (λ c. c == code) o) false ≡ true → o ≡ Some code
from_coded None code h = absurd (cc)
from_coded (Some c) code h = ap Some (eqb-true c code h)

each_shown : list_all (λ row. shown_as row.1 == row.0) table ≡ true
unfolding table shown_as
each_shown = refl

each_coded : list_all coded table ≡ true
unfolding table code_of coded
each_coded = refl

pub shown_itself : (character code : ℕ) → code_of character ≡ Some code → shown_as code ≡ character
unfolding code_of
shown_itself character code h =
    let found = found_code (find (λ row. row.0 == character) table) code h in
    let meets = find_meets (λ row. row.0 == character) (λ row. shown_as row.1 == row.0) table found.0 each_shown found.1 in
    ap shown_as (sym found.2) ∙ eqb-true _ _ meets.1 ∙ eqb-true _ _ meets.0

pub period_code : code_of 46 ≡ Some 0x4B
unfolding code_of table
period_code = refl

shown_row : (byte : ℕ) (row : ℕ × ℕ) → find (λ r. r.1 == byte) table ≡ Some row → code_of (shown_as byte) ≡ Some byte
unfolding shown_as coded
shown_row byte row e =
    let meets = find_meets (λ r. r.1 == byte) coded table row each_coded e in
    let shown : shown_as byte ≡ row.0 = ap (λ o. unwrap_or (option_map (λ (r : ℕ × ℕ). r.0) o) 46) e in
    ap code_of shown ∙ from_coded (code_of row.0) row.1 meets.1 ∙ ap Some (eqb-true _ _ meets.0)

period_row : find (λ r. r.1 == 0x4B) table ≡ Some (46, 0x4B)
unfolding table
period_row = refl

no_row : (byte : ℕ) → find (λ r. r.1 == byte) table ≡ None → (shown_as byte ≡ 46) × ((character : ℕ) → code_of character ≢ Some byte)
unfolding shown_as
no_row byte e =
    let shown : shown_as byte ≡ 46 = ap (λ o. unwrap_or (option_map (λ (r : ℕ × ℕ). r.0) o) 46) e in (
      shown,
      λ character h.
          let same : character ≡ 46 = sym (shown_itself character byte h) ∙ shown in
          let code : Some byte ≡ Some 0x4B = sym h ∙ ap code_of same ∙ period_code in
          let is : byte ≡ 0x4B = cc in
          let none : find (λ r. r.1 == 0x4B) table ≡ None = sym (ap (λ b. find (λ r. r.1 == b) table) is) ∙ e in
          let some = period_row in
          absurd (cc),
    )

cases : (byte : ℕ) (o : Option (ℕ × ℕ)) → find (λ r. r.1 == byte) table ≡ o → (code_of (shown_as byte) ≡ Some byte) ⊎ ((shown_as byte ≡ 46) × ((character : ℕ) → code_of character ≢ Some byte))
cases byte None e = inr (no_row byte e)
cases byte (Some row) e = inl (shown_row byte row e)

pub shown_or_period : (byte : ℕ) → (code_of (shown_as byte) ≡ Some byte) ⊎ ((shown_as byte ≡ 46) × ((character : ℕ) → code_of character ≢ Some byte))
shown_or_period byte = cases byte (find (λ r. r.1 == byte) table) refl
