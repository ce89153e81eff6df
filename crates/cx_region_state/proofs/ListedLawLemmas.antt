-- Each listed condition has its label.
use Rattle.std.proofs.Common.{◌≡◌, ℕ, zero, suc, ◌+◌, ◌<◌, ◌==◌, Bool, List, [], ◌∷◌, length, drop, take, refl, ap, sym, ◌∙◌, arith, slice_get, Option, Some, None, true, false, is_some, IsSomeAnd, inl, inr}
use Rattle.std.specs.Prelude.{◌&&◌, if◌then◌else◌, count_by}
use Rattle.std.specs.Option.{option_map}
use Rattle.std.specs.List.{find, list_any}
use Rattle.std.proofs.lemmas.Bool.{cases_Bool, eqb-true}
use Rattle.std.proofs.lemmas.Option.{slice_get-get_or}
use Rattle.std.proofs.lemmas.List.Sums.{sum_by-cons}
use Rattle.cx_base.specs.declared.commands.Command.{Command}
use Rattle.cx_base.specs.declared.conditions.Condition.{Condition}
use Rattle.cx_base.specs.declared.legal.ListedCondition.{ListedCondition}
use Rattle.cx_base.specs.Conditions.{entry_of, handled_conditions}
use Rattle.cx_base.specs.Legal.{is_handled_number, is_legal_list, lists_conditions, may_list}
use Rattle.cx_storage.specs.Address.{address_in}
use Rattle.cx_storage.specs.Storage.{Storage}
use Rattle.cx_region_state.specs.Call.{Call, has_label}
use Rattle.cx_region_state.specs.Laws.Calls.{IsCallAt, labels_before, list_word}
use Rattle.cx_region_state.specs.Listed.{handled_with, conditions_with_labels, listed_of}
use Rattle.cx_region_state.specs.declared.listed.Listed.{Listed}

-- ---- the condition of a number

numbered_in : (number : ℕ) (conditions : List Condition) → list_any (λ condition. (entry_of condition).number == number) conditions ≡ true
    → IsSomeAnd (find (λ condition. (entry_of condition).number == number) conditions) (λ condition. (entry_of condition).number ≡ number)
numbered_in number [] e = cc
numbered_in number (first ∷ rest) e = elim (cases_Bool ((entry_of first).number == number)) [
  | inl t ↦ rw t (eqb-true _ _ t)
  | inr f ↦ let more = rw f at e in rw f (numbered_in number rest more)
]

has_number : (number : ℕ) → is_handled_number number ≡ true → IsSomeAnd (handled_with number) (λ condition. (entry_of condition).number ≡ number)
unfolding is_handled_number handled_with
has_number number e = numbered_in number handled_conditions e

first_of : (a b : Bool) → (a && b) ≡ true → a ≡ true
first_of true b e = refl
first_of false b e = cc

second_of : (a b : Bool) → (a && b) ≡ true → b ≡ true
second_of true b e = e
second_of false b e = cc

may_number : (command : Command) (listed : ListedCondition) → may_list command listed ≡ true → is_handled_number listed.number ≡ true
unfolding may_list
may_number command listed e = first_of _ _ e

-- ---- the condition at an index

-- what is asked of the condition found for one listed, whose label is this
abbrev IsFor : ListedCondition → Option ℕ → Listed → Type 0
IsFor listed label found = ((entry_of found.condition).number ≡ listed.number) × (found.label ≡ label)

-- the label of the condition at an index, where those before it took these addresses
abbrev label_in : List ListedCondition → List ℕ → ℕ → ListedCondition → Option ℕ
label_in conditions places k listed = if has_label listed then slice_get places (count_by has_label (take k conditions)) else None

-- a condition counts where it has a label
counted : (first : ListedCondition) (rest : List ListedCondition) → count_by has_label (first ∷ rest) ≡ (if has_label first then 1 else 0) + count_by has_label rest
counted first rest = sum_by-cons (λ listed. if has_label listed then 1 else 0) first rest

uncounted : (first : ListedCondition) (rest : List ListedCondition) → has_label first ≡ false → count_by has_label (first ∷ rest) ≡ count_by has_label rest
uncounted first rest f = rw (counted first rest, f) (omega arith)

later_suc : (places : List ℕ) (n : ℕ) → slice_get places (suc n) ≡ slice_get (drop 1 places) n
later_suc [] n = refl
later_suc (place ∷ rest) n = refl

later_place : (places : List ℕ) (n : ℕ) → slice_get places (1 + n) ≡ slice_get (drop 1 places) n
later_place places n = let one : 1 + n ≡ suc n = omega arith in rw one (later_suc places n)

labelled_at : (command : Command) (conditions : List ListedCondition) (places : List ℕ) (k : ℕ) (listed : ListedCondition)
    → is_legal_list command conditions ≡ true → slice_get conditions k ≡ Some listed
    → IsSomeAnd (slice_get (conditions_with_labels conditions places) k) (IsFor listed (label_in conditions places k listed))
unfolding conditions_with_labels
labelled_at command [] places k listed legal e = cc
labelled_at command (first ∷ rest) places k listed legal e =
    let number = may_number command first (first_of _ _ (first_of _ _ legal)) in
    let later = second_of _ _ legal in
    go k (handled_with first.number) (has_number first.number number) refl (λ places k f. labelled_at command rest places k listed later f) e
  where
    go : (k : ℕ) (o : Option Condition) → IsSomeAnd o (λ condition. (entry_of condition).number ≡ first.number) → handled_with first.number ≡ o
        → ((places : List ℕ) (k : ℕ) → slice_get rest k ≡ Some listed → IsSomeAnd (slice_get (conditions_with_labels rest places) k) (IsFor listed (label_in rest places k listed)))
        → slice_get (first ∷ rest) k ≡ Some listed
        → IsSomeAnd (slice_get (conditions_with_labels (first ∷ rest) places) k) (IsFor listed (label_in (first ∷ rest) places k listed))
    go k None there is others e = absurd there
    go zero (Some condition) there is others e =
        let same : first ≡ listed = cc in
        elim (cases_Bool (has_label first)) [
          | inl t ↦ let mine : has_label listed ≡ true = ap has_label (sym same) ∙ t in rw (t, is, mine) (there ∙ ap (λ (l : ListedCondition). l.number) same, refl)
          | inr f ↦ let mine : has_label listed ≡ false = ap has_label (sym same) ∙ f in rw (f, is, mine) (there ∙ ap (λ (l : ListedCondition). l.number) same, refl)
        ]
    go (suc k) (Some condition) there is others e = elim (cases_Bool (has_label first)) [
      | inl t ↦ rw (t, is, counted first (take k rest), t, later_place places (count_by has_label (take k rest))) (others (drop 1 places) k e)
      | inr f ↦ rw (f, is, uncounted first (take k rest) f) (others places k e)
    ]

-- a label that follows others is one of all
fewer : (conditions : List ListedCondition) (k : ℕ) (listed : ListedCondition) → slice_get conditions k ≡ Some listed → has_label listed ≡ true
    → count_by has_label (take k conditions) < count_by has_label conditions
fewer [] k listed e t = cc
fewer (first ∷ rest) zero listed e t =
    let same : first ≡ listed = cc in
    let mine : has_label first ≡ true = ap has_label same ∙ t in
    rw (counted first rest, mine) (omega arith)
fewer (first ∷ rest) (suc k) listed e t =
    let less = fewer rest k listed e t in
    rw (counted first rest, counted first (take k rest)) (omega (arith, less))

pub labels_have_places : (s : Storage) (list : ℕ) (call : Call) (k : ℕ) (listed : ListedCondition) → IsCallAt s list call
    → slice_get call.conditions k ≡ Some listed
    → IsSomeAnd (slice_get (listed_of call) k) (λ found. ((entry_of found.condition).number ≡ listed.number)
    × (is_some found.label ≡ has_label listed)
    × (found.label ≡ (if has_label listed then option_map address_in (list_word s list (labels_before call k + 1)) else None)))
unfolding listed_of
labels_have_places s list call k listed is e = elim (cases_Bool (lists_conditions call.command)) [
  | inl t ↦ let listing = rw t at is.conditions in
      shown (slice_get (conditions_with_labels call.conditions call.places) k) (labelled_at call.command call.conditions call.places k listed listing.1 e)
  | inr f ↦ let none = rw f at is.conditions in let absent = rw none at e in absurd (nothing absent)
]
  where
    nothing : slice_get {X = ListedCondition} [] k ≡ Some listed → ⊥
    nothing e = cc

    shown : (o : Option Listed) → IsSomeAnd o (IsFor listed (label_in call.conditions call.places k listed))
        → IsSomeAnd o (λ found. ((entry_of found.condition).number ≡ listed.number)
        × (is_some found.label ≡ has_label listed)
        × (found.label ≡ (if has_label listed then option_map address_in (list_word s list (labels_before call k + 1)) else None)))
    shown None there = absurd there
    shown (Some found) there = elim (cases_Bool (has_label listed)) [
      | inl t ↦
          let label = rw t at there.1 in
          let less = fewer call.conditions k listed e t in
          let inside : labels_before call k < length call.places = omega (arith, is.count, less) in
          let some : is_some found.label ≡ true = rw (label, slice_get-get_or call.places (labels_before call k) 0 inside) refl in
          rw t (there.0, some, label ∙ sym (is.places (labels_before call k) inside))
      | inr f ↦
          let label = rw f at there.1 in
          rw f (there.0, ap is_some label, label)
    ]
