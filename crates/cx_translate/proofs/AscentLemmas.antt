-- The lines on which statements begin ascend in a translation where they did in its source.
use Rattle.std.proofs.Common.{◌≡◌, ◌≤◌, ℕ, suc, ◌+◌, Bool, true, false, cond, ◌&&◌, ◌||◌, List, [], ◌∷◌, ◌++◌, take, drop, get_or, Option, Some, None, Ok, refl, sym, ap, subst, ◌∙◌, arith}
use Rattle.std.specs.Prelude.{codes, is_none, is_some, slice_get}
use Rattle.std.specs.List.{list_any, position}
use Rattle.std.proofs.lemmas.List.{at_drop_more, drop-drop, take-append-drop, take_more}
use Rattle.std.proofs.lemmas.List.Quantifiers.{position-Some}
use Rattle.std.proofs.lemmas.Option.{slice_get-get_or}
use lib.Seq.{take-add}
use Rattle.cx_source.specs.declared.source.Item.{Item}
use Rattle.cx_source.specs.declared.source.Source.{Source}
use Rattle.cx_source.specs.declared.source.Stmt.{Stmt}
use Rattle.cx_source.specs.Statements.{is_continued}
use Rattle.cx_translate.specs.Words.{words_of}
use Rattle.cx_translate.specs.Expansion.{made_item, made_of}
use Rattle.cx_translate.specs.Sections.{name_at, bases, begins_exec, begins_section, begins_storage, place_after, continuation_count, has_name, has_operation, is_end, lines, put_before, put_after, storage_fields, with_bases, with_eib, with_storage}
use Rattle.cx_translate.specs.Translation.{continues_exec, expanded_items, expansion, is_dropped, made_source, statement_faults, translation, translation_of}
use Rattle.cx_translate.specs.Laws.Ascent.{AscendFrom, number_of, statement_lines}
use Rattle.cx_translate.specs.Facts.AllFaults.{accepted}
use Rattle.cx_translate.specs.Facts.Found.{bases_after, continued, eib_before, eib_section, listed_line, made_lines, storage_before, storage_after, storage_section}

abbrev Ascend : ℕ → List Item → Type 0
Ascend n items = AscendFrom n (statement_lines items)

from_lower : (n m : ℕ) (xs : List ℕ) → n ≤ m → AscendFrom m xs → AscendFrom n xs
from_lower n m [] l a = tt
from_lower n m (x ∷ xs) l a = let b : m ≤ x = a.0 in (omega (arith, l, b), a.1)

-- made lines with one number
same_line : (line : ℕ) (made : List Stmt) (rest : List Item) → Ascend line rest → Ascend line (lines line made ++ rest)
unfolding made_item
same_line line [] rest a = a
same_line line (s ∷ made) rest a = (omega arith, same_line line made rest a)

-- what ascends from a line's number, or from the one before, follows the line
step : (o : Option Stmt) (n line : ℕ) (xs ys : List ℕ) → ((m : ℕ) → AscendFrom m xs → AscendFrom m ys)
    → AscendFrom n (number_of o line ++ xs) → AscendFrom n (number_of o line ++ ys)
step None n line xs ys f a = f n a
step (Some s) n line xs ys f a = (a.0, f line a.1)

-- put before a statement
before_here : (o : Option Stmt) (n line : ℕ) (made : List Stmt) (x : Item) (rest : List Item) → x.stmt ≡ o → x.line ≡ line → is_some o ≡ true
    → AscendFrom n (number_of o line ++ statement_lines rest) → Ascend n (lines line made ++ x ∷ rest)
before_here None n line made x rest s e h a = absurd (cc)
before_here (Some t) n line made x rest s e h a =
    let b : n ≤ line = a.0 in
    from_lower n line (statement_lines (lines line made ++ x ∷ rest)) b
    (same_line line made (x ∷ rest) (rw (s, e) (omega arith, a.1)))

before_in : (a : List Item) (n : ℕ) (made : List Stmt) (x : Item) (rest : List Item) → is_some x.stmt ≡ true
    → Ascend n (a ++ x ∷ rest) → Ascend n (a ++ lines x.line made ++ x ∷ rest)
before_in [] n made x rest h w = before_here x.stmt n x.line made x rest refl refl h w
before_in (y ∷ a) n made x rest h w =
    step y.stmt n y.line (statement_lines (a ++ x ∷ rest)) (statement_lines (a ++ lines x.line made ++ x ∷ rest)) (λ m v. before_in a m made x rest h v) w

take_one : (n : ℕ) (x : Item) (xs : List Item) → take (1 + n) (x ∷ xs) ≡ x ∷ take n xs
take_one n x xs = let e : 1 + n ≡ suc n = omega arith in ap (λ k. take k (x ∷ xs)) e

drop_one : (n : ℕ) (x : Item) (xs : List Item) → drop (1 + n) (x ∷ xs) ≡ drop n xs
drop_one n x xs = let e : 1 + n ≡ suc n = omega arith in ap (λ k. drop k (x ∷ xs)) e

skip_none : (o : Option Stmt) (n line : ℕ) (xs : List ℕ) → is_none o ≡ true → AscendFrom n (number_of o line ++ xs) → AscendFrom n xs
skip_none None n line xs e a = a
skip_none (Some s) n line xs e a = absurd (cc)

add_none : (o : Option Stmt) (n line : ℕ) (xs : List ℕ) → is_none o ≡ true → AscendFrom n xs → AscendFrom n (number_of o line ++ xs)
add_none None n line xs e a = a
add_none (Some s) n line xs e a = absurd (cc)

both_true : (a b : Bool) → (a && b) ≡ true → b ≡ true
both_true true b e = e
both_true false b e = absurd (cc)

-- put after continuation lines
in_tail : (line : ℕ) (made : List Stmt) (continues : Bool) (tail : List Item) → Ascend line tail
    → Ascend line (take (continuation_count continues tail) tail ++ lines line made ++ drop (continuation_count continues tail) tail)
in_tail line made continues [] w = same_line line made [] w
in_tail line made continues (x ∷ rest) w =
    go (continues && is_none x.stmt) refl (λ v. in_tail line made (is_continued true x.text) rest v)
  where
    go : (b : Bool) → (continues && is_none x.stmt) ≡ b
        → (Ascend line rest → Ascend line (take (continuation_count (is_continued true x.text) rest) rest ++ lines line made ++ drop (continuation_count (is_continued true x.text) rest) rest))
        → Ascend line (take (cond b (1 + continuation_count (is_continued true x.text) rest) 0) (x ∷ rest) ++ lines line made ++ drop (cond b (1 + continuation_count (is_continued true x.text) rest) 0) (x ∷ rest))
    go true e f =
        let none = both_true continues (is_none x.stmt) e in
        rw (take_one (continuation_count (is_continued true x.text) rest) x rest, drop_one (continuation_count (is_continued true x.text) rest) x rest)
        (add_none x.stmt line x.line _ none (f (skip_none x.stmt line x.line (statement_lines rest) none w)))
    go false e f = same_line line made (x ∷ rest) w

after_here : (o : Option Stmt) (n line : ℕ) (xs ys : List ℕ) → is_some o ≡ true → (AscendFrom line xs → AscendFrom line ys)
    → AscendFrom n (number_of o line ++ xs) → AscendFrom n (number_of o line ++ ys)
after_here None n line xs ys h f a = absurd (cc)
after_here (Some s) n line xs ys h f a = (a.0, f a.1)

after_in : (a : List Item) (n : ℕ) (made : List Stmt) (x : Item) (continues : Bool) (tail : List Item) → is_some x.stmt ≡ true
    → Ascend n (a ++ x ∷ tail)
    → Ascend n ((a ++ x ∷ []) ++ take (continuation_count continues tail) tail ++ lines x.line made ++ drop (continuation_count continues tail) tail)
after_in [] n made x continues tail h w =
    after_here x.stmt n x.line (statement_lines tail) _ h (λ v. in_tail x.line made continues tail v) w
after_in (y ∷ a) n made x continues tail h w =
    step y.stmt n y.line (statement_lines (a ++ x ∷ tail)) _ (λ m v. after_in a m made x continues tail h v) w

-- any line
abbrev some_item : Item
some_item = record { line = 0; text = []; stmt = None }

put_before_ascends : (p : Item → Bool) (n : ℕ) (made : List Stmt) (place : ℕ) (items : List Item)
    → ((x : Item) → p x ≡ true → is_some x.stmt ≡ true) → position p items ≡ Some place
    → Ascend n items → Ascend n (put_before made place items)
put_before_ascends p n made place items f e w =
    let at = position-Some p items place some_item e in
    let x : Item = get_or items place some_item in
    let got : slice_get items place ≡ Some x = slice_get-get_or items place some_item at.0 in
    let rest : drop place items ≡ x ∷ drop (place + 1) items = at_drop_more (λ l. l) items place some_item at.0 in
    let whole : items ≡ take place items ++ x ∷ drop (place + 1) items = sym (take-append-drop place items) ∙ ap (λ l. take place items ++ l) rest in
    let done = before_in (take place items) n made x (drop (place + 1) items) (f x at.1) (subst (Ascend n) whole w) in
    subst (Ascend n) (sym (ap (λ o. take place items ++ lines (listed_line o) made ++ drop place items) got ∙ ap (λ l. take place items ++ lines x.line made ++ l) rest)) done

put_after_ascends : (p : Item → Bool) (n : ℕ) (made : List Stmt) (place : ℕ) (items : List Item)
    → ((x : Item) → p x ≡ true → is_some x.stmt ≡ true) → position p items ≡ Some place
    → Ascend n items → Ascend n (put_after made place items)
unfolding place_after
put_after_ascends p n made place items f e w =
    let at = position-Some p items place some_item e in
    let x : Item = get_or items place some_item in
    let tail : List Item = drop (place + 1) items in
    let c : ℕ = continuation_count (continued (slice_get items place)) tail in
    let got : slice_get items place ≡ Some x = slice_get-get_or items place some_item at.0 in
    let rest : drop place items ≡ x ∷ tail = at_drop_more (λ l. l) items place some_item at.0 in
    let whole : items ≡ take place items ++ x ∷ tail = sym (take-append-drop place items) ∙ ap (λ l. take place items ++ l) rest in
    let done = after_in (take place items) n made x (continued (slice_get items place)) tail (f x at.1) (subst (Ascend n) whole w) in
    let front : take (place + 1 + c) items ≡ (take place items ++ x ∷ []) ++ take c tail = take-add (place + 1) c items ∙ ap (λ l. l ++ take c tail) (take_more items place some_item at.0) in
    let back : drop (place + 1 + c) items ≡ drop c tail = sym (drop-drop c (place + 1) items) in
    let same_place : listed_line (slice_get items place) ≡ x.line = ap listed_line got in
    subst (Ascend n) (sym (λ i. front i ++ lines (same_place i) made ++ back i)) done

-- ---- the sections

named_begins : (o : Option Stmt) (operation : List ℕ) → has_operation operation o ≡ true → is_some o ≡ true
named_begins None operation e = absurd (cc)
named_begins (Some s) operation e = refl

storage_begins : (x : Item) → begins_storage x ≡ true → is_some x.stmt ≡ true
unfolding begins_storage
storage_begins x e = go x.stmt e
  where
    go : (o : Option Stmt) → (has_name (codes "DFHEISTG") o && has_operation (codes "DSECT") o) ≡ true → is_some o ≡ true
    go None e = absurd (cc)
    go (Some s) e = refl

section_begins : (x : Item) → begins_section x ≡ true → is_some x.stmt ≡ true
unfolding begins_section
section_begins x e = go x.stmt e
  where
    go : (o : Option Stmt) → (has_operation (codes "CSECT") o || has_operation (codes "START") o) ≡ true → is_some o ≡ true
    go None e = absurd (cc)
    go (Some s) e = refl

end_begins : (x : Item) → is_end x ≡ true → is_some x.stmt ≡ true
unfolding is_end
end_begins x e = named_begins x.stmt (codes "END") e

ascends_in_storage_before : (n : ℕ) (items : List Item) (o : Option ℕ) → position begins_section items ≡ o → Ascend n items → Ascend n (storage_before o items)
ascends_in_storage_before n items None e w = w
ascends_in_storage_before n items (Some place) e w = put_before_ascends begins_section n storage_section place items section_begins e w

ascends_in_storage : (n : ℕ) (items : List Item) (o : Option ℕ) → position begins_storage items ≡ o → Ascend n items → Ascend n (storage_after o items)
ascends_in_storage n items None e w = ascends_in_storage_before n items (position begins_section items) refl w
ascends_in_storage n items (Some place) e w = put_after_ascends begins_storage n storage_fields place items storage_begins e w

ascends_in_bases : (n : ℕ) (items : List Item) (o : Option ℕ) → position begins_section items ≡ o → Ascend n items → Ascend n (bases_after o items)
ascends_in_bases n items None e w = w
ascends_in_bases n items (Some place) e w = put_after_ascends begins_section n (bases (name_at place items)) place items section_begins e w

ascends_in_eib : (n : ℕ) (items : List Item) (o : Option ℕ) → position is_end items ≡ o → Ascend n items → Ascend n (eib_before o items)
ascends_in_eib n items None e w = w
ascends_in_eib n items (Some place) e w = put_before_ascends is_end n eib_section place items end_begins e w

-- ---- the lines made in place of EXEC statements

made_ascends : (o : Option Stmt) (n line : ℕ) (xs : List ℕ) (rest : List Item) → has_operation (codes "EXEC") o ≡ true → ((m : ℕ) → AscendFrom m xs → Ascend m rest)
    → AscendFrom n (number_of o line ++ xs) → Ascend n (made_lines line o ++ rest)
made_ascends None n line xs rest e f a = absurd (cc)
made_ascends (Some s) n line xs rest e f a =
    let b : n ≤ line = a.0 in
    from_lower n line (statement_lines (made_lines line (Some s) ++ rest)) b (same_line line (made_of s.name (words_of s.operand)) rest (f line a.1))

expanded_ascends : (n : ℕ) (continues : Bool) (items : List Item) → Ascend n items → Ascend n (expanded_items continues items)
unfolding expansion begins_exec
expanded_ascends n continues [] w = w
expanded_ascends n continues (item ∷ rest) w =
    go (is_dropped continues item) (has_operation (codes "EXEC") item.stmt) refl refl (λ m v. expanded_ascends m (continues_exec continues item) rest v)
  where
    go : (d e : Bool) → is_dropped continues item ≡ d → has_operation (codes "EXEC") item.stmt ≡ e
        → ((m : ℕ) → Ascend m rest → Ascend m (expanded_items (continues_exec continues item) rest))
        → Ascend n (cond d [] (cond e (made_lines item.line item.stmt) (item ∷ [])) ++ expanded_items (continues_exec continues item) rest)
    go true e p q f = f n (skip_none item.stmt n item.line (statement_lines rest) (both_true continues (is_none item.stmt) p) w)
    go false true p q f = made_ascends item.stmt n item.line (statement_lines rest) (expanded_items (continues_exec continues item) rest) q f w
    go false false p q f = step item.stmt n item.line (statement_lines rest) _ f w

translated_ascends : (n : ℕ) (items : List Item) → Ascend n items → Ascend n (translation items)
unfolding translation with_storage with_bases with_eib
translated_ascends n items w =
    let a = expanded_ascends n false items w in
    let b = ascends_in_storage n (expanded_items false items) (position begins_storage (expanded_items false items)) refl a in
    let c = ascends_in_bases n (with_storage (expanded_items false items)) (position begins_section (with_storage (expanded_items false items))) refl b in
    ascends_in_eib n (with_bases (with_storage (expanded_items false items))) (position is_end (with_bases (with_storage (expanded_items false items)))) refl c

-- the lines on which statements begin ascend where they did
pub lines_ascend : (source made : Source) → AscendFrom 0 (statement_lines source.items) → translation_of source ≡ Ok made
    → AscendFrom 0 (statement_lines made.items)
unfolding translation_of made_source
lines_ascend source made w e = go (list_any begins_exec source.items) (accepted (statement_faults source.items) (made_source source) made e).1
  where
    go : (b : Bool) → cond b (record { items = translation source.items }) source ≡ made → AscendFrom 0 (statement_lines made.items)
    go true same = subst (λ s. Ascend 0 s.items) same (translated_ascends 0 source.items w)
    go false same = subst (λ s. Ascend 0 s.items) same w
