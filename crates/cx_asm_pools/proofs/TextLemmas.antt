-- Tables by texts that are borrowed: what is found is what the table by the texts themselves has.
use Rattle.std.proofs.Common.{◌≡◌, ℕ, Bool, false, cond, List, [], ◌∷◌, ◌++◌, Some, None, refl, sym, ◌∙◌, ap, Bor}
use Rattle.std.specs.List.{AllByRecursion, IsDistinct}
use Rattle.std.specs.Map.{keys_of, lookup}
use Rattle.std.specs.Str.{bytes_eq}
use Rattle.std.proofs.lemmas.Bool.{cond-false}
use Rattle.std.proofs.lemmas.Cmp.{nat_list_eq_equiv}
use Rattle.std.proofs.lemmas.List.{map-append}
use Rattle.std.proofs.lemmas.Map.Keys.{IsDistinct-head, IsDistinct-tail}
use Rattle.indexmap.specs.IndexMap.{insert_entry}
use Rattle.cx_asm_pools.specs.Pools.{by_text}
use Rattle.cx_base.specs.Facts.Tables.{insert_entry_absent}

pub lookup_by_text : {V : Type 0} (test : List ℕ → Bool) (es : List (Bor (List ℕ) × V)) → lookup test (by_text es) ≡ lookup (λ k. test k.now) es
lookup_by_text test [] = refl
lookup_by_text test (e ∷ es) = ap (cond (test e.0.now) (Some e.1)) (lookup_by_text test es)

pub insert_by_text : {V : Type 0} (es : List (Bor (List ℕ) × V)) (k : Bor (List ℕ)) (v : V)
    → lookup (bytes_eq k.now) (by_text es) ≡ None
    → by_text (insert_entry (λ x y. bytes_eq x.now y.now) es k v) ≡ by_text es ++ (k.now, v) ∷ []
insert_by_text {V} es k v none =
    ap by_text (insert_entry_absent (λ x y. bytes_eq x.now y.now) es k v (sym (lookup_by_text (bytes_eq k.now) es) ∙ none))
    ∙ map-append {B = List ℕ × V} (λ e. (e.0.now, e.1)) es ((k, v) ∷ [])

in_middle : (P : List ℕ → Type 0) (xs ys : List (List ℕ)) (y : List ℕ) → AllByRecursion P (xs ++ y ∷ ys) → P y
in_middle P [] ys y all = all.0
in_middle P (x ∷ xs) ys y all = in_middle P xs ys y all.1

-- texts that occur once: the one after a table's isn't in the table
pub not_after : {V : Type 0} (es : List (List ℕ × V)) (text : List ℕ) (texts : List (List ℕ)) → IsDistinct bytes_eq (keys_of es ++ text ∷ texts) → lookup (bytes_eq text) es ≡ None
not_after [] text texts once = refl
not_after (e ∷ es) text texts once =
    let other = in_middle (λ y. bytes_eq e.0 y ≡ false) (keys_of es) texts text (IsDistinct-head bytes_eq e.0 (keys_of es ++ text ∷ texts) once) in
    cond-false _ _ _ (nat_list_eq_equiv.symm text e.0 ∙ other) ∙ not_after es text texts (IsDistinct-tail bytes_eq e.0 (keys_of es ++ text ∷ texts) once)
