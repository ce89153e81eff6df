-- The lines that are no part of an EXEC statement stay.
use Rattle.std.proofs.Common.{◌≡◌, inl, inr, ℕ, Bool, true, false, cond, ◌&&◌, ◌||◌, List, [], ◌∷◌, ◌++◌, take, drop, Option, Some, None, Ok, refl, sym, subst}
use Rattle.std.specs.List.{list_any, position}
use Rattle.std.proofs.lemmas.List.{take-append-drop}
use Rattle.cx_source.specs.declared.source.Item.{Item}
use Rattle.cx_source.specs.declared.source.Source.{Source}
use Rattle.cx_source.specs.Statements.{is_continued}
use Rattle.cx_translate.specs.Sections.{begins_exec, begins_section, begins_storage, place_after, is_end, insert_items, with_bases, with_eib, with_storage}
use Rattle.cx_translate.specs.Translation.{continues_exec, expanded_items, expansion, is_dropped, made_source, statement_faults, translation, translation_of}
use Rattle.cx_translate.specs.Laws.Kept.{AreAmong, kept}
use Rattle.cx_translate.specs.Facts.AllFaults.{accepted}
use Rattle.cx_translate.specs.Facts.Found.{bases_after, eib_before, made_lines, storage_before, storage_after}

one_more : (y : Item) (xs ys : List Item) → AreAmong xs ys → AreAmong xs (y ∷ ys)
one_more y [] ys w = tt
one_more y (x ∷ xs) ys w = inr w

more : (made xs ys : List Item) → AreAmong xs ys → AreAmong xs (made ++ ys)
more [] xs ys w = w
more (y ∷ made) xs ys w = one_more y xs (made ++ ys) (more made xs ys w)

between : (made a b xs : List Item) → AreAmong xs (a ++ b) → AreAmong xs (a ++ made ++ b)
between made [] b xs w = more made xs b w
between made (y ∷ a) b [] w = tt
between made (y ∷ a) b (x ∷ xs) (inl v) = inl (v.0, between made a b xs v.1)
between made (y ∷ a) b (x ∷ xs) (inr v) = inr (between made a b (x ∷ xs) v)

-- what is put in takes nothing away
put_in : (place : ℕ) (made items xs : List Item) → AreAmong xs items → AreAmong xs (insert_items place made items)
put_in place made items xs w =
    between made (take place items) (drop place items) xs (subst (AreAmong xs) (sym (take-append-drop place items)) w)

stays_in_storage_before : (place : Option ℕ) (items xs : List Item) → AreAmong xs items → AreAmong xs (storage_before place items)
stays_in_storage_before None items xs w = w
stays_in_storage_before (Some place) items xs w = put_in place _ items xs w

stays_in_storage_after : (place : Option ℕ) (items xs : List Item) → AreAmong xs items → AreAmong xs (storage_after place items)
stays_in_storage_after None items xs w = stays_in_storage_before (position begins_section items) items xs w
stays_in_storage_after (Some place) items xs w = put_in (place_after items place) _ items xs w

stays_in_bases : (place : Option ℕ) (items xs : List Item) → AreAmong xs items → AreAmong xs (bases_after place items)
stays_in_bases None items xs w = w
stays_in_bases (Some place) items xs w = put_in (place_after items place) _ items xs w

stays_in_eib : (place : Option ℕ) (items xs : List Item) → AreAmong xs items → AreAmong xs (eib_before place items)
stays_in_eib None items xs w = w
stays_in_eib (Some place) items xs w = put_in place _ items xs w

-- what is made in place of EXEC statements takes no other line away
stays_expanded : (continues : Bool) (items : List Item) → AreAmong (kept continues items) (expanded_items continues items)
unfolding expansion
stays_expanded continues [] = tt
stays_expanded continues (item ∷ rest) =
    go (is_dropped continues item) (begins_exec item) (stays_expanded (continues_exec continues item) rest)
  where
    go : (d e : Bool) → AreAmong (kept (continues_exec continues item) rest) (expanded_items (continues_exec continues item) rest)
        → AreAmong (cond (d || e) (kept (continues_exec continues item) rest) (item ∷ kept (continues_exec continues item) rest))
        (cond d [] (cond e (made_lines item.line item.stmt) (item ∷ [])) ++ expanded_items (continues_exec continues item) rest)
    go true e w = w
    go false true w = more (made_lines item.line item.stmt) _ _ w
    go false false w = inl (refl, w)

stays_translated : (items : List Item) → AreAmong (kept false items) (translation items)
unfolding translation with_storage with_bases with_eib
stays_translated items =
    let a = stays_expanded false items in
    let b = stays_in_storage_after (position begins_storage (expanded_items false items)) (expanded_items false items) (kept false items) a in
    let c = stays_in_bases (position begins_section (with_storage (expanded_items false items))) (with_storage (expanded_items false items)) (kept false items) b in
    stays_in_eib (position is_end (with_bases (with_storage (expanded_items false items)))) (with_bases (with_storage (expanded_items false items))) (kept false items) c

-- without EXEC each line stays
all_kept : (items : List Item) → list_any begins_exec items ≡ false → AreAmong (kept false items) items
unfolding continues_exec
all_kept [] e = tt
all_kept (item ∷ rest) e = go (begins_exec item) e (λ f. all_kept rest f)
  where
    go : (b : Bool) → (b || list_any begins_exec rest) ≡ false → (list_any begins_exec rest ≡ false → AreAmong (kept false rest) rest)
        → AreAmong (cond b (kept (b && is_continued false item.text) rest) (item ∷ kept (b && is_continued false item.text) rest)) (item ∷ rest)
    go true e f = absurd (cc)
    go false e f = inl (refl, f e)

-- each line that is no part of an EXEC statement is in the translation, in order
pub lines_stay : (source made : Source) → translation_of source ≡ Ok made → AreAmong (kept false source.items) made.items
unfolding translation_of made_source
lines_stay source made e =
    go (list_any begins_exec source.items) refl (accepted (statement_faults source.items) (made_source source) made e).1
  where
    go : (b : Bool) → list_any begins_exec source.items ≡ b → cond b (record { items = translation source.items }) source ≡ made
        → AreAmong (kept false source.items) made.items
    go true f same = subst (λ s. AreAmong (kept false source.items) s.items) same (stays_translated source.items)
    go false f same = subst (λ s. AreAmong (kept false source.items) s.items) same (all_kept source.items f)
