-- A field that is filled piece by piece.
use Rattle.std.proofs.Common.{◌≡◌, ℕ, zero, suc, ◌+◌, ◌<◌, ◌≤◌, [], ◌∷◌, ◌++◌, List, length, take, replicate, length-append, refl, sym, ap, ◌∙◌, subst, arith}
use Rattle.std.specs.Prelude.{slice_set}
use Rattle.std.proofs.lemmas.List.{append_assoc, append-nil, length-replicate, length-set, take_more}
use Rattle.std.proofs.Math.ListN.{get_or}
use Rattle.cx_base.specs.Texts.{in_columns}
use Rattle.cx_base.specs.Parts.Fields.{HoldsText}

blanks : (n : ℕ) → replicate n 32 ≡ in_columns n []
unfolding in_columns
blanks zero = refl
blanks (suc n) = ap (λ l. 32 ∷ l) (blanks n)

-- a blank field shows no text
pub blank_field : (n : ℕ) → HoldsText (replicate n 32) 0 []
blank_field n = record {
  place = omega arith;
  shows = ap (λ m. replicate m 32) (sym (length-replicate n 32)) ∙ blanks (length (replicate n 32));
}

pub length-in_columns : (n : ℕ) (text : List ℕ) → length (in_columns n text) ≡ n
unfolding in_columns
length-in_columns zero text = refl
length-in_columns (suc n) [] = ap suc (length-in_columns n [])
length-in_columns (suc n) (c ∷ text) = ap suc (length-in_columns n text)

put_at : (n : ℕ) (text : List ℕ) (c : ℕ) → length text < n → slice_set (in_columns n text) (length text) c ≡ in_columns n (text ++ c ∷ [])
unfolding in_columns
put_at zero text c within = absurd (omega (arith, within))
put_at (suc n) [] c within = refl
put_at (suc n) (d ∷ text) c within = ap (λ l. d ∷ l) (put_at n text c (omega (arith, within)))

past : (n : ℕ) (text more : List ℕ) → n ≤ length text → in_columns n (text ++ more) ≡ in_columns n text
unfolding in_columns
past zero text more full = refl
past (suc n) [] more full = absurd (omega (arith, full))
past (suc n) (d ∷ text) more full = ap (λ l. d ∷ l) (past n text more (omega (arith, full)))

-- one character more
pub one_more : (field text : List ℕ) (at c : ℕ) → at < length field → HoldsText field at text → HoldsText (slice_set field at c) (at + 1) (text ++ c ∷ [])
one_more field text at c within h =
    let kept = length-set field at c in
    let len = length-append text (c ∷ []) in
    let here : at ≡ length text = omega (arith, h.place, within) in
    record {
      place = omega (arith, kept, len, h.place, within);
      shows = rw kept (ap (λ k. slice_set field k c) here ∙ ap (λ l. slice_set l (length text) c) h.shows
          ∙ put_at (length field) text c (omega (arith, here, within)));
    }

-- there is no room for more
pub no_more : (field text : List ℕ) (at c : ℕ) → length field ≤ at → HoldsText field at text → HoldsText field at (text ++ c ∷ [])
no_more field text at c full h =
    let len = length-append text (c ∷ []) in
    let long : length field ≤ length text = omega (arith, h.place, full) in
    record {
      place = omega (arith, len, h.place, full);
      shows = h.shows ∙ sym (past (length field) text (c ∷ []) long);
    }

-- one character more after a text and the beginning of a piece
pub next_of : (field text piece : List ℕ) (at i d : ℕ) → i < length piece → HoldsText field at ((text ++ take i piece) ++ get_or piece i d ∷ []) → HoldsText field at (text ++ take (i + 1) piece)
next_of field text piece at i d within h =
    subst (λ l. HoldsText field at l) (append_assoc text (take i piece) (get_or piece i d ∷ []) ∙ ap (λ l. text ++ l) (sym (take_more piece i d within))) h

-- none of a piece yet
pub no_piece : (field text : List ℕ) (at : ℕ) → HoldsText field at text → HoldsText field at (text ++ [])
no_piece field text at h = subst (λ l. HoldsText field at l) (sym (append-nil text)) h
