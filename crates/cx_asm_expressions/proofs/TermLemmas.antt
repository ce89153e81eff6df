-- Lemmas on the terms of an expression.
use Rattle.std.proofs.Common.{◌≡◌, ℕ, suc, ◌+◌, ◌-◌, ◌<◌, take, ◌≤◌, ◌&&◌, Bool, true, false, cond, get_or, drop, add-one, List, [], ◌∷◌, ◌++◌, length, refl, sym, ap, ◌∙◌, Option, Some, None, append_assoc, arith}
use Rattle.std.specs.Prelude.{option_map, ◌==◌}
use Rattle.std.specs.List.{slice_range}
use Rattle.std.proofs.lemmas.List.{length-drop, take_more, get_or-drop}
use Rattle.std.proofs.Math.Seq.{drop-cons}
use Rattle.std.proofs.lemmas.Grind.{common_steps, pieces}
use Rattle.cx_asm_expressions.specs.Terms.{Part, part_of, expression_parts_from, is_sign}
use Rattle.cx_asm_expressions.specs.declared.terms.Sign.{Sign}
use Rattle.cx_asm_expressions.specs.declared.terms.Sign.TheVariants.{Plus, Minus}
use Rattle.cx_source.specs.Marks.{outside_apostrophes, outside_from, scan_after}
use Rattle.cx_source.specs.Marks.{at_start}
use Rattle.cx_source.specs.declared.marks.Scan.{Scan}
use Rattle.cx_ebcdic.specs.Lookup.{each_some}

abbrev pub sign_of : ℕ → Sign
sign_of c = cond (c == 45) Minus Plus

from-length : (scan : Scan) (text : List ℕ) → length (outside_from scan text) ≡ length text
from-length scan [] = refl
from-length scan (c ∷ after) = ap suc (from-length (scan_after scan c after) after)

-- each character has a mark of its own
pub outside_length : (text : List ℕ) → length (outside_apostrophes text) ≡ length text
outside_length text = from-length at_start text

some_front : {X : Type 0} (front : List X) (x : X) (rest : Option (List X))
    → option_map (λ more. front ++ more) (option_map (λ more. x ∷ more) rest) ≡ option_map (λ more. (front ++ x ∷ []) ++ more) rest
some_front front x None = refl
some_front front x (Some more) = ap Some (simp append_assoc)

-- what is there goes to the front
pub some_more : {X : Type 0} (front : List X) (x : X) (rest : List (Option X)) (all : Option (List X))
    → option_map (λ more. front ++ more) (each_some (Some x ∷ rest)) ≡ all → option_map (λ more. (front ++ x ∷ []) ++ more) (each_some rest) ≡ all
some_more front x rest all e = sym (some_front front x (each_some rest)) ∙ e

-- an item is in front of what follows it
pub drop_item : {X : Type 0} (xs : List X) (i : ℕ) (x : X) → i < length xs → x ≡ get_or xs i x → drop i xs ≡ x ∷ drop (suc i) xs
drop_item xs i x within is = drop-cons xs i x within ∙ ap (λ y. y ∷ drop (suc i) xs) (sym is)

step_cut : (sign : Sign) (part text : List ℕ) (outs : List Bool) (i : ℕ) (out : Bool) → i < length text → i < length outs → out ≡ get_or outs i out
    → (out && is_sign (get_or text i 0)) ≡ true
    → expression_parts_from sign part (drop i text) (drop i outs)
    ≡ part_of sign part ∷ expression_parts_from (sign_of (get_or text i 0)) [] (drop (suc i) text) (drop (suc i) outs)
step_cut sign part text outs i out within inside at_i cut =
    let one = drop-cons text i 0 within in
    let other = drop_item outs i out inside at_i in
    rw (one, other, cut) refl

step_kept : (sign : Sign) (part text : List ℕ) (outs : List Bool) (i : ℕ) (out : Bool) → i < length text → i < length outs → out ≡ get_or outs i out
    → (out && is_sign (get_or text i 0)) ≡ false
    → expression_parts_from sign part (drop i text) (drop i outs)
    ≡ expression_parts_from sign (part ++ get_or text i 0 ∷ []) (drop (suc i) text) (drop (suc i) outs)
step_kept sign part text outs i out within inside at_i kept =
    let one = drop-cons text i 0 within in
    let other = drop_item outs i out inside at_i in
    rw (one, other, kept) refl

pub range_more : (text : List ℕ) (start i : ℕ) → start ≤ i → i < length text
    → slice_range text start (i + 1) ≡ slice_range text start i ++ get_or text i 0 ∷ []
range_more text start i begun within =
    let shorter : i - start < length (drop start text) = omega (arith, length-drop {A = ℕ}) in
    let more : take ((i - start) + 1) (drop start text) ≡ take (i - start) (drop start text) ++ get_or (drop start text) (i - start) 0 ∷ [] =
    take_more (drop start text) (i - start) 0 shorter in
    let there : get_or (drop start text) (i - start) 0 ≡ get_or text (start + (i - start)) 0 = get_or-drop start text (i - start) 0 in
    let at : start + (i - start) ≡ i = omega arith in
    let count : (i + 1) - start ≡ (i - start) + 1 = omega arith in
    ap (λ n. take n (drop start text)) count ∙ more ∙ ap (λ x. take (i - start) (drop start text) ++ x ∷ []) (there ∙ ap (λ n. get_or text n 0) at)

pub range_none : (text : List ℕ) (i : ℕ) → slice_range text (i + 1) (i + 1) ≡ []
range_none text i = grind (arith, common_steps, pieces)

-- a sign ends a part
pub cut_more : (found : List Part) (sign : Sign) (start : ℕ) (text : List ℕ) (outs : List Bool) (i : ℕ) (out : Bool) (whole : List Part)
    → i < length text → i < length outs → out ≡ get_or outs i out → (out && is_sign (get_or text i 0)) ≡ true
    → found ++ expression_parts_from sign (slice_range text start i) (drop i text) (drop i outs) ≡ whole
    → (found ++ part_of sign (slice_range text start i) ∷ [])
    ++ expression_parts_from (sign_of (get_or text i 0)) (slice_range text (i + 1) (i + 1)) (drop (i + 1) text) (drop (i + 1) outs) ≡ whole
cut_more found sign start text outs i out whole within inside at_i cut e =
    let step = step_cut sign (slice_range text start i) text outs i out within inside at_i cut in
    rw (range_none text i, append_assoc, add-one) (rw step at e)

-- any other character belongs to the part
pub kept_more : (found : List Part) (sign : Sign) (start : ℕ) (text : List ℕ) (outs : List Bool) (i : ℕ) (out : Bool) (whole : List Part)
    → start ≤ i → i < length text → i < length outs → out ≡ get_or outs i out → (out && is_sign (get_or text i 0)) ≡ false
    → found ++ expression_parts_from sign (slice_range text start i) (drop i text) (drop i outs) ≡ whole
    → found ++ expression_parts_from sign (slice_range text start (i + 1)) (drop (i + 1) text) (drop (i + 1) outs) ≡ whole
kept_more found sign start text outs i out whole begun within inside at_i kept e =
    let step = step_kept sign (slice_range text start i) text outs i out within inside at_i kept in
    rw (range_more text start i begun within, add-one) (rw step at e)
