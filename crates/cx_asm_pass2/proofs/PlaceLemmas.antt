-- The place of a line's statement among those of the whole source.
use Rattle.std.proofs.Common.{◌≡◌, ℕ, zero, suc, ◌+◌, ◌<◌, Option, Some, None, List, [], ◌∷◌, ◌++◌, length, get_or, drop, take, reverse, slice_get, add-one, append_assoc, refl, sym, ◌∙◌, ap, drop-cons}
use Rattle.std.proofs.lemmas.Grind.{reverse_onto}
use Rattle.std.proofs.lemmas.List.{reverse-append, take-append-drop}
use Rattle.std.proofs.Math.Seq.{take-suc}
use Rattle.std.specs.Prelude.{is_some, true}
use Rattle.std.proofs.Common.{length-append}
use Rattle.cx_source.specs.declared.source.Item.{Item}
use Rattle.cx_source.specs.declared.source.Stmt.{Stmt}
use Rattle.cx_asm_pass1.specs.PassState.{PassState, next_state, after_line, state_after, place_in}
use Rattle.cx_asm_pass1.specs.declared.place.Place.{Place}
use Rattle.cx_asm_pass2.specs.Statements.{PlacedItem, placed_latest_first}

abbrev placed_item : Item → Option Place → PlacedItem
placed_item item place = record { item = item; place = place }

-- what is in a list is in a longer one
stays_front : {X : Type 0} (xs : List X) (x : X) (n : ℕ) (p : X) → slice_get xs n ≡ Some p → slice_get (xs ++ x ∷ []) n ≡ Some p
stays_front [] x n p e = cc
stays_front (y ∷ xs) x zero p e = e
stays_front (y ∷ xs) x (suc n) p e = stays_front xs x n p e

last_one : {X : Type 0} (xs : List X) (x : X) → slice_get (xs ++ x ∷ []) (length xs) ≡ Some x
last_one [] x = refl
last_one (y ∷ xs) x = last_one xs x

-- A line puts at most one place after the others.
after_keeps : (line : ℕ) (stmt : Option Stmt) (state : PassState) (n : ℕ) (p : Place) → slice_get state.places n ≡ Some p → slice_get (after_line line stmt state).places n ≡ Some p
unfolding next_state
after_keeps line None state n p e = e
after_keeps line (Some stmt) state n p e = stays_front state.places (place_in stmt state) n p e

places_stay : (later before : List Item) (n : ℕ) (p : Place) → slice_get (state_after before).places n ≡ Some p → slice_get (state_after (later ++ before)).places n ≡ Some p
places_stay [] before n p e = e
places_stay (item ∷ later) before n p e = after_keeps item.line item.stmt (state_after (later ++ before)) n p (places_stay later before n p e)

own_place : (line : ℕ) (stmt : Stmt) (state : PassState) → slice_get (after_line line (Some stmt) state).places (length state.places) ≡ Some (place_in stmt state)
unfolding next_state
own_place line stmt state = last_one state.places (place_in stmt state)

count_after : (line : ℕ) (stmt : Stmt) (state : PassState) → length (after_line line (Some stmt) state).places ≡ length state.places + 1
unfolding next_state
count_after line stmt state = length-append state.places (place_in stmt state ∷ [])

front_and_rest : {X : Type 0} (xs : List X) (d : X) (i : ℕ) → i < length xs → reverse xs ≡ reverse (drop (suc i) xs) ++ (get_or xs i d ∷ reverse (take i xs))
front_and_rest xs d i within =
    ap (λ (ys : List _). reverse ys) (sym (take-append-drop i xs) ∙ ap (λ (ys : List _). take i xs ++ ys) (drop-cons xs i d within))
    ∙ reverse-append (take i xs) (get_or xs i d ∷ drop (suc i) xs)
    ∙ ap (λ (ys : List _). ys ++ reverse (take i xs)) (reverse_onto (drop (suc i) xs) (get_or xs i d) [])
    ∙ append_assoc (reverse (drop (suc i) xs)) (get_or xs i d ∷ []) (reverse (take i xs))

-- The place of the statement of line i is that of its number.
pub place_known : (xs : List Item) (d : Item) (i : ℕ) (stmt : Stmt) → i < length xs → (get_or xs i d).stmt ≡ Some stmt
    → slice_get (state_after (reverse xs)).places (length (state_after (reverse (take i xs))).places) ≡ Some (place_in stmt (state_after (reverse (take i xs))))
place_known xs d i stmt within e =
    let before : List Item = reverse (take i xs) in
    let item : Item = get_or xs i d in
    let own : slice_get (state_after (item ∷ before)).places (length (state_after before).places) ≡ Some (place_in stmt (state_after before)) =
    rw e (own_place item.line stmt (state_after before)) in
    rw (front_and_rest xs d i within) (places_stay (reverse (drop (suc i) xs)) (item ∷ before) _ _ own)

pub count_known : (item : Item) (stmt : Stmt) (before : List Item) → item.stmt ≡ Some stmt
    → length (state_after (item ∷ before)).places ≡ length (state_after before).places + 1
count_known item stmt before e = rw e (count_after item.line stmt (state_after before))

take_one : {X : Type 0} (xs : List X) (d : X) (i : ℕ) → i < length xs → reverse (take (i + 1) xs) ≡ get_or xs i d ∷ reverse (take i xs)
take_one xs d i within = rw (add-one, take-suc xs i d within) (reverse-append (take i xs) (get_or xs i d ∷ []))

-- one line more, with its place
pub placed_more : (xs : List Item) (d : Item) (i : ℕ) (stmt : Stmt) (ps : List PlacedItem) → i < length xs → (get_or xs i d).stmt ≡ Some stmt
    → ps ≡ reverse (placed_latest_first (reverse (take i xs)))
    → ps ++ placed_item (get_or xs i d) (slice_get (state_after (reverse xs)).places (length (state_after (reverse (take i xs))).places)) ∷ []
    ≡ reverse (placed_latest_first (reverse (take (i + 1) xs)))
placed_more xs d i stmt ps within e so_far =
    let place = place_known xs d i stmt within e in
    rw (take_one xs d i within, place, so_far, e) (sym (reverse_onto (placed_latest_first (reverse (take i xs))) _ []))

with_stmt : (xs : List Item) (d : Item) (i : ℕ) (stmt : Option Stmt) (ps : List PlacedItem) (n : ℕ) → i < length xs → (get_or xs i d).stmt ≡ stmt → is_some stmt ≡ true
    → ps ≡ reverse (placed_latest_first (reverse (take i xs))) → n ≡ length (state_after (reverse (take i xs))).places
    → (ps ++ placed_item (get_or xs i d) (slice_get (state_after (reverse xs)).places n) ∷ [] ≡ reverse (placed_latest_first (reverse (take (i + 1) xs))))
    × (n + 1 ≡ length (state_after (reverse (take (i + 1) xs))).places)
with_stmt xs d i None ps n within e some so_far count = cc
with_stmt xs d i (Some stmt) ps n within e some so_far count = (
  rw count (placed_more xs d i stmt ps within e so_far),
  rw (take_one xs d i within, count) (sym (count_known (get_or xs i d) stmt (reverse (take i xs)) e)),
)

-- one line more that has a statement
pub placed_with_stmt : (xs : List Item) (d : Item) (i : ℕ) (ps : List PlacedItem) (n : ℕ) → i < length xs → is_some (get_or xs i d).stmt ≡ true
    → ps ≡ reverse (placed_latest_first (reverse (take i xs))) → n ≡ length (state_after (reverse (take i xs))).places
    → (ps ++ placed_item (get_or xs i d) (slice_get (state_after (reverse xs)).places n) ∷ [] ≡ reverse (placed_latest_first (reverse (take (i + 1) xs))))
    × (n + 1 ≡ length (state_after (reverse (take (i + 1) xs))).places)
placed_with_stmt xs d i ps n within some so_far count = with_stmt xs d i (get_or xs i d).stmt ps n within refl some so_far count

-- The lines so far and one more, with the place that the next number has.
pub placed_item_more : (xs : List Item) (item : Item) (i : ℕ) (ps more : List PlacedItem) (place : Option Place) (n : ℕ) → i < length xs → item ≡ get_or xs i item
    → is_some item.stmt ≡ true → ps ≡ reverse (placed_latest_first (reverse (take i xs))) → n ≡ length (state_after (reverse (take i xs))).places
    → place ≡ slice_get (state_after (reverse xs)).places n → more ≡ ps ++ placed_item item place ∷ []
    → (more ≡ reverse (placed_latest_first (reverse (take (i + 1) xs)))) × (n + 1 ≡ length (state_after (reverse (take (i + 1) xs))).places)
placed_item_more xs item i ps more place n within is some so_far count at new =
    let one = placed_with_stmt xs item i ps n within (ap (λ (x : Item). is_some x.stmt) (sym is) ∙ some) so_far count in (
      new ∙ ap (λ (p : Option Place). ps ++ placed_item item p ∷ []) at
          ∙ ap (λ (x : Item). ps ++ placed_item x (slice_get (state_after (reverse xs)).places n) ∷ []) is ∙ one.0,
      one.1,
    )
