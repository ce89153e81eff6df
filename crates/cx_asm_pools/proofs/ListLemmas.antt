-- One item more of a table by borrowed texts.
use Rattle.std.proofs.Common.{◌≡◌, ℕ, zero, suc, ◌+◌, List, [], ◌∷◌, ◌++◌, Some, take, add-one, refl, sym, ◌∙◌, ap, subst, Bor}
use Rattle.std.specs.Prelude.{slice_get}
use Rattle.std.proofs.lemmas.List.{map-append}
use Rattle.std.proofs.lemmas.Option.{none-some, same_Some}
use Rattle.cx_asm_pools.specs.Pools.{OpenLiterals, by_text}
use Rattle.cx_asm_pools.specs.declared.open.Used.{Used}

taken_more : (es : List (Bor (List ℕ) × Used)) (i : ℕ) (e : Bor (List ℕ) × Used) → Some e ≡ slice_get es i → take (suc i) (by_text es) ≡ take i (by_text es) ++ (e.0.now, e.1) ∷ []
taken_more [] i e is = absurd (none-some e (sym is))
taken_more (x ∷ es) zero e is = let P : Bor (List ℕ) × Used → Type 0 = λ y. take 1 (by_text (x ∷ es)) ≡ (y.0.now, y.1) ∷ [] in subst P (sym (same_Some _ _ is)) refl
taken_more (x ∷ es) (suc i) e is = ap (λ l. (x.0.now, x.1) ∷ l) (taken_more es i e is)

pub entry_more : (es items new : List (Bor (List ℕ) × Used)) (whole : OpenLiterals) (i : ℕ) (e : Bor (List ℕ) × Used)
    → Some e ≡ slice_get es i → by_text es ≡ whole → new ≡ items ++ e ∷ [] → by_text items ≡ take i whole → by_text new ≡ take (i + 1) whole
entry_more es items new whole i e is all more before =
    ap by_text more ∙ map-append {B = List ℕ × Used} (λ x. (x.0.now, x.1)) items (e ∷ []) ∙ ap (λ l. l ++ (e.0.now, e.1) ∷ []) (before ∙ ap (take i) (sym all))
    ∙ sym (taken_more es i e is) ∙ ap (take (suc i)) all ∙ rw add-one refl
