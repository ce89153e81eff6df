-- The head of DFHEISTG, statement by statement.
use native.Mathlib.Numerals.{unary_clauses}
use Rattle.std.specs.Prelude.{codes, option_and_then, pos, reverse, is_none, slice_get}
use Rattle.std.proofs.Common.{one-add, ◌≡◌, ◌⊎◌, inl, inr, ◌<◌, ℕ, zero, suc, ◌+◌, Bool, true, false, cond, ◌&&◌, ◌||◌, Option, Some, None, List, [], ◌∷◌, ◌++◌, length, take, drop, get_or, refl, sym, ◌∙◌, ap, subst, ⊎_elim, arith}
use Rattle.std.specs.List.{AllByRecursion, list_any, position, position_from}
use Rattle.std.specs.Str.{bytes_eq}
use Rattle.std.proofs.lemmas.Bool.{cases_Bool}
use Rattle.std.proofs.lemmas.Iterator.Adapters.{position_from-zero}
use Rattle.std.proofs.lemmas.List.{append_assoc, reverse-append}
use Rattle.std.proofs.lemmas.List.Folds.{list_any-append}
use Rattle.std.proofs.lemmas.List.Quantifiers.{position-Some}
use Rattle.std.proofs.lemmas.Slice.Eq.{bytes_eq-Decides}
use Rattle.cx_base.specs.declared.eistg.EistgField.{EistgField}
use Rattle.cx_base.specs.declared.eistg.EistgField.TheVariants.{Eipl, Eitp, Eicap}
use Rattle.cx_base.specs.Eistg.{eistg_field, eistg_head}
use Rattle.cx_ebcdic.specs.Facts.Names.{is_name-decides, is_name-laws}
use Rattle.cx_ebcdic.specs.Characters.{code_of, table}
use Rattle.cx_ebcdic.specs.Names.{padded_name, name_code, is_name_character}
use Rattle.cx_source.specs.Lines.{is_symbol_name, is_letter}
use Rattle.cx_source.specs.Lines.{is_symbol_name_character as is_written_in_names}
use Rattle.cx_source.specs.Marks.{parts, within_after}
use Rattle.cx_source.specs.Statements.{is_continued}
use Rattle.cx_source.specs.declared.marks.Delimiter.TheVariants.{TopComma}
use Rattle.cx_source.specs.declared.source.Item.{Item}
use Rattle.cx_source.specs.declared.source.Stmt.{Stmt}
use Rattle.cx_asm_expressions.specs.Digits.{digit}
use Rattle.cx_asm_expressions.specs.Items.{constant_in, length_of}
use Rattle.cx_asm_expressions.specs.Kinds.{kind_of}
use Rattle.cx_asm_expressions.specs.Names.{symbol_name}
use Rattle.cx_asm_expressions.specs.Weights.{stands_in}
use Rattle.cx_asm_expressions.specs.declared.values.Value.{Value}
use Rattle.cx_asm_pools.specs.Pools.{cap, pool_extent}
use Rattle.cx_asm_pass1.specs.Facts.Faults.{sound_statement}
use Rattle.cx_asm_pass1.specs.Facts.Kept.{value_kept}
use Rattle.cx_asm_pass1.specs.Given.{duplicate}
use Rattle.cx_asm_pass1.specs.PassState.{PassState, next_state, after_line, definitions_in, state_after, extent_in, length_of_section, parts_in, role_in}
use Rattle.cx_asm_pass1.specs.Layout.{extent_of, extent_at}
use Rattle.cx_asm_pass1.specs.declared.roles.Role.TheVariants.{Storage, Dummy}
use Rattle.cx_translate.specs.Expansion.{made_item, stmt}
use Rattle.cx_translate.specs.Sections.{begins_section, begins_storage, place_after, continuation_count, is_end, lines, insert_items, storage_fields, with_bases, with_eib, with_storage}
use Rattle.cx_translate.specs.Translation.{expanded_items, translation}
use Rattle.cx_translate.specs.Facts.AllFaults.{translated_so}
use Rattle.cx_translate.specs.Facts.Found.{bases_after, continued, eib_before, eib_section, listed_line, storage_before, storage_after}
use Rattle.cx_asm_execution.specs.FieldLayouts.{HeadIsLaidOut, LaysOut}
use Rattle.cx_asm_execution.proofs.Together.{StandTogether}
use Rattle.cx_asm_execution.proofs.BlockLemmas.{Named, fault_kept, none_from, none_known, reverse_cons, role_ds, role_dsect}
use Rattle.cx_asm_execution.proofs.TogetherLemmas.{Begins, HaveNot, with_bases_has, with_eib_has}

-- ---- what is to be shown
abbrev HasHead : List Item → Type 0
HasHead items = LaysOut (codes "DFHEISTG") storage_fields eistg_field (λ f. 4) eistg_head items

abbrev Stands : (List ℕ → Option Value) → EistgField → Type 0
Stands find f = option_and_then find (symbol_name (eistg_field f).name)
    ≡ Some (record { section = symbol_name (codes "DFHEISTG"); number = pos (eistg_field f).offset; length = 4 })

-- ---- texts
record Fits (operand : List ℕ) (f : EistgField) : Type 0 where
  extent : (extent : Option ℕ) → extent_of (Storage true) (parts TopComma operand) extent (eistg_field f).offset
      ≡ extent_at (eistg_field f).offset ((eistg_field f).offset ∷ []) ((eistg_field f).offset + (eistg_field f).len) 4 None
  place : cap (eistg_field f).offset ≡ (eistg_field f).offset

eipl_fits : Fits (codes "18F") Eipl
unfolding constant_in kind_of digit within_after extent_of length_of
eipl_fits = record { extent = λ extent. refl; place = refl }

eitp_fits : Fits (codes "F") Eitp
unfolding constant_in kind_of digit within_after extent_of length_of
eitp_fits = record { extent = λ extent. refl; place = refl }

eicap_fits : Fits (codes "A") Eicap
unfolding constant_in kind_of digit within_after extent_of length_of
eicap_fits = record { extent = λ extent. refl; place = refl }

field_named : (f : EistgField) → Named (eistg_field f).name
unfolding symbol_name padded_name is_symbol_name is_letter name_code is_name_character code_of table is_written_in_names
field_named Eipl = record { name = _; is = refl }
field_named Eitp = record { name = _; is = refl }
field_named Eicap = record { name = _; is = refl }

storage_named : Named (codes "DFHEISTG")
unfolding symbol_name padded_name is_symbol_name is_letter name_code is_name_character code_of table is_written_in_names
storage_named = record { name = _; is = refl }

abbrev storage : List ℕ
storage = storage_named.name

own_section : stands_in storage (Some storage) ≡ true
own_section = is_name-laws.refl storage

-- ---- a field
record Begun (state : PassState) (o : ℕ) : Type 0 where
  section : state.section ≡ Some storage
  size : state.lengths storage ≡ o

abbrev field_stmt : EistgField → List ℕ → Stmt
field_stmt f operand = stmt (eistg_field f).name (codes "DS") operand

laid_field : (f : EistgField) (operand : List ℕ) (state : PassState) → Fits operand f → Begun state (eistg_field f).offset
    → extent_in (field_stmt f operand) state ≡ extent_at (eistg_field f).offset ((eistg_field f).offset ∷ []) ((eistg_field f).offset + (eistg_field f).len) 4 None
laid_field f operand state fits begun = rw (role_ds (eistg_field f).name operand, begun.section, begun.size, fits.place) (fits.extent _)

goes_on : (line : ℕ) (f : EistgField) (operand : List ℕ) (state : PassState) → Fits operand f → Begun state (eistg_field f).offset
    → Begun (next_state line (field_stmt f operand) state) ((eistg_field f).offset + (eistg_field f).len)
unfolding next_state
goes_on line f operand state fits begun =
    record {
      section = rw (role_ds (eistg_field f).name operand, begun.section) refl;
      size = rw (laid_field f operand state fits begun, begun.section, own_section) refl;
    }

abbrev field_place : EistgField → Value
field_place f = record { section = Some storage; number = pos (eistg_field f).offset; length = 4 }

field_known : (line : ℕ) (f : EistgField) (operand : List ℕ) (state : PassState) → Fits operand f → Begun state (eistg_field f).offset
    → (next_state line (field_stmt f operand) state).fault ≡ None → (next_state line (field_stmt f operand) state).symbols (field_named f).name ≡ Some (field_place f)
unfolding next_state
field_known line f operand state fits begun sound =
    let given : definitions_in (field_stmt f operand) state ≡ ((field_named f).name, field_place f) ∷ [] =
    rw (laid_field f operand state fits begun, role_ds (eistg_field f).name operand, (field_named f).is, begun.section, fits.place) refl in
    let unknown : state.symbols (field_named f).name ≡ None =
    none_known state.symbols (field_named f).name (field_place f) (ap (duplicate state.symbols) (sym given) ∙ (sound_statement line (field_stmt f operand) state sound).definitions) in
    rw (given, unknown, is_name-laws.refl (field_named f).name) refl

field_stands : (line : ℕ) (f : EistgField) (operand : List ℕ) (before more : List Item) → Fits operand f → Begun (state_after before) (eistg_field f).offset
    → (state_after (more ++ (made_item line (field_stmt f operand) ∷ before))).fault ≡ None
    → Stands (state_after (more ++ (made_item line (field_stmt f operand) ∷ before))).symbols f
unfolding made_item
field_stands line f operand before more fits begun sound =
    let state = field_known line f operand (state_after before) fits begun (fault_kept more (made_item line (field_stmt f operand) ∷ before) sound) in
    let kept = value_kept more (made_item line (field_stmt f operand) ∷ before) (field_named f).name (field_place f) state in
    rw ((field_named f).is, storage_named.is) kept

next : (line : ℕ) (f : EistgField) (operand : List ℕ) (before : List Item) → Fits operand f → Begun (state_after before) (eistg_field f).offset
    → Begun (state_after (made_item line (field_stmt f operand) ∷ before)) ((eistg_field f).offset + (eistg_field f).len)
unfolding made_item
next line f operand before fits begun = goes_on line f operand (state_after before) fits begun

-- ---- the three of them
record IsHead (find : List ℕ → Option Value) (line : ℕ) (before : List Item) : Type 0 where
  fields : (f : EistgField) → Stands find f
  ends : Begun (state_after (reverse (lines line storage_fields) ++ before)) eistg_head

each : (find : List ℕ → Option Value) → Stands find Eipl → Stands find Eitp → Stands find Eicap → (f : EistgField) → Stands find f
each find one two three Eipl = one
each find one two three Eitp = two
each find one two three Eicap = three

head_stands : (line : ℕ) (before more : List Item) → Begun (state_after before) 0 → (state_after (more ++ (reverse (lines line storage_fields) ++ before))).fault ≡ None
    → IsHead (state_after (more ++ (reverse (lines line storage_fields) ++ before))).symbols line before
head_stands line before more begun sound =
    let one = made_item line (field_stmt Eipl (codes "18F")) in
    let two = made_item line (field_stmt Eitp (codes "F")) in
    let three = made_item line (field_stmt Eicap (codes "A")) in
    let second = next line Eipl (codes "18F") before eipl_fits begun in
    let third = next line Eitp (codes "F") (one ∷ before) eitp_fits second in
    let end = next line Eicap (codes "A") (two ∷ one ∷ before) eicap_fits third in
    let first_turn = append_assoc more (three ∷ two ∷ []) (one ∷ before) in
    let second_turn = append_assoc more (three ∷ []) (two ∷ one ∷ before) in
    record {
      fields = each _
          (subst (λ k. Stands (state_after k).symbols Eipl) first_turn
          (field_stands line Eipl (codes "18F") before (more ++ (three ∷ two ∷ [])) eipl_fits begun (subst (λ k. (state_after k).fault ≡ None) (sym first_turn) sound)))
          (subst (λ k. Stands (state_after k).symbols Eitp) second_turn
          (field_stands line Eitp (codes "F") (one ∷ before) (more ++ (three ∷ [])) eitp_fits second (subst (λ k. (state_after k).fault ≡ None) (sym second_turn) sound)))
          (field_stands line Eicap (codes "A") (two ∷ one ∷ before) more eicap_fits third sound);
      ends = end;
    }

-- ---- the section
begins_there : (line : ℕ) (s : Stmt) (state : PassState) → s.name ≡ codes "DFHEISTG" → s.operation ≡ codes "DSECT" → state.lengths storage ≡ 0
    → Begun (next_state line s state) 0
unfolding next_state extent_of
begins_there line s state named dsect none =
    let role : role_in s ≡ Dummy = subst (λ k. role_in (stmt s.name k s.operand) ≡ Dummy) (sym dsect) (role_dsect s.name s.operand) in
    record {
      section = rw (role, named, storage_named.is) refl;
      size = rw role (go state.section none);
    }
  where
    go : (section : Option (List ℕ)) → state.lengths storage ≡ 0
        → cond (stands_in storage section) (extent_of Dummy (parts_in s) (pool_extent state.pool) (cap (length_of_section section state.lengths))).end (state.lengths storage) ≡ 0
    go None none = none
    go (Some other) none = ⊎_elim
        (λ yes. rw yes (let same : other ≡ storage = sym ((is_name-decides storage other).0 yes) in rw (same, none) refl))
        (λ no. rw no none)
        (cases_Bool (stands_in storage (Some other)))

both_true : (a b : Bool) → (a && b) ≡ true → (a ≡ true) × (b ≡ true)
both_true true b e = (refl, e)
both_true false b e = absurd (cc)

dsect_begins : (item : Item) (before : List Item) → begins_storage item ≡ true → (state_after before).lengths storage ≡ 0 → Begun (state_after (item ∷ before)) 0
unfolding begins_storage
dsect_begins item before is none = go item.stmt is
  where
    go : (o : Option Stmt) → begins_storage (record { line = item.line; text = item.text; stmt = o }) ≡ true → Begun (after_line item.line o (state_after before)) 0
    go None is = absurd (cc)
    go (Some s) is =
        let both = both_true (bytes_eq s.name (codes "DFHEISTG")) (bytes_eq s.operation (codes "DSECT")) is in
        begins_there item.line s (state_after before) ((bytes_eq-Decides s.name (codes "DFHEISTG")).0 both.0) ((bytes_eq-Decides s.operation (codes "DSECT")).0 both.1) none

still : (more : List Item) (before : List Item) → AllByRecursion (λ item. item.stmt ≡ None) more → Begun (state_after before) 0 → Begun (state_after (reverse more ++ before)) 0
still [] before none begun = begun
still (item ∷ more) before none begun =
    let here : Begun (state_after (item ∷ before)) 0 = subst (λ o. Begun (after_line item.line o (state_after before)) 0) (sym none.0) begun in
    subst (λ k. Begun (state_after k) 0) (sym (ap (λ k. k ++ before) (reverse_cons item more) ∙ append_assoc (reverse more) (item ∷ []) before)) (still more (item ∷ before) none.1 here)

-- ---- what stands for lines that have the head
has_head : (before : List Item) (first : Item) (more : List Item) (line : ℕ) (rest : List Item) → begins_storage first ≡ true
    → AllByRecursion (λ item. item.stmt ≡ None) more → HasHead (before ++ (first ∷ more ++ lines line storage_fields) ++ rest)
unfolding begins_storage
has_head before first more line rest begins none =
    record {
      before = before;
      first = first;
      more = more;
      line = line;
      after = rest;
      begins = begins;
      follow = none;
      is = refl;
      extent =
          λ sound empty.
          let begun = still more (first ∷ reverse before) none (dsect_begins first (reverse before) begins (subst (λ n. length_of_section n (state_after (reverse before)).lengths ≡ 0) storage_named.is empty)) in
          let head = head_stands line (reverse more ++ (first ∷ reverse before)) (reverse rest) begun (subst (λ k. (state_after k).fault ≡ None) turned sound) in (
            subst (λ k. (f : EistgField) → Stands (state_after k).symbols f) (sym turned) head.fields,
            subst (λ k. length_of_section (symbol_name (codes "DFHEISTG")) (state_after k).lengths ≡ eistg_head) (sym front) (rw storage_named.is head.ends.size),
          );
    }
  where
    fields : List Item
    fields = lines line storage_fields

    inner : reverse (first ∷ (more ++ fields)) ≡ reverse fields ++ (reverse more ++ (first ∷ []))
    inner =
        reverse_cons first (more ++ fields) ∙ ap (λ k. k ++ (first ∷ [])) (reverse-append more fields) ∙ append_assoc (reverse fields) (reverse more) (first ∷ [])

    front : reverse (before ++ (first ∷ more ++ fields)) ≡ reverse fields ++ (reverse more ++ (first ∷ reverse before))
    front =
        reverse-append before (first ∷ (more ++ fields)) ∙ ap (λ k. k ++ reverse before) inner ∙ append_assoc (reverse fields) (reverse more ++ (first ∷ [])) (reverse before)
        ∙ ap (λ k. reverse fields ++ k) (append_assoc (reverse more) (first ∷ []) (reverse before))

    turned : reverse (before ++ (first ∷ more ++ fields) ++ rest) ≡ reverse rest ++ (reverse fields ++ (reverse more ++ (first ∷ reverse before)))
    turned = reverse-append (before ++ (first ∷ (more ++ fields))) rest ∙ ap (λ k. reverse rest ++ k) front

-- ---- where the translation puts it
record IsPart (items : List Item) : Type 0 where
  first : Item
  more : List Item
  line : ℕ
  begins : begins_storage first ≡ true
  none : AllByRecursion (λ item. item.stmt ≡ None) more
  together : StandTogether (first ∷ more ++ lines line storage_fields) items

from_part : (items : List Item) → IsPart items → HasHead items
from_part items p =
    subst HasHead (sym p.together.is) (has_head p.together.before p.first p.more p.line p.together.after p.begins p.none)

dsect_is : (line : ℕ) → begins_storage (made_item line (stmt (codes "DFHEISTG") (codes "DSECT") [])) ≡ true
unfolding made_item begins_storage
dsect_is line = refl

take_one : (n : ℕ) (x : Item) (items : List Item) → take (1 + n) (x ∷ items) ≡ x ∷ take n items
take_one n x items = ap (λ k. take k (x ∷ items)) (one-add n)

continuing_none : (continues : Bool) (items : List Item) → AllByRecursion (λ item. item.stmt ≡ None) (take (continuation_count continues items) items)
continuing_none continues [] = tt
continuing_none continues (item ∷ items) = go (continues && is_none item.stmt) refl (continuing_none (is_continued true item.text) items)
  where
    no_statement : (b : Bool) (o : Option Stmt) → (b && is_none o) ≡ true → o ≡ None
    no_statement b None e = refl
    no_statement true (Some s) e = absurd (cc)
    no_statement false (Some s) e = absurd (cc)

    go : (b : Bool) → (continues && is_none item.stmt) ≡ b → AllByRecursion (λ i. i.stmt ≡ None) (take (continuation_count (is_continued true item.text) items) items)
        → AllByRecursion (λ i. i.stmt ≡ None) (take (cond b (1 + continuation_count (is_continued true item.text) items) 0) (item ∷ items))
    go true e more =
        subst (AllByRecursion (λ i. i.stmt ≡ None)) (sym (take_one (continuation_count (is_continued true item.text) items) item items)) (no_statement continues item.stmt e, more)
    go false e more = tt

-- the statement at a place, and the lines after it up to a second one
cut_at : (items : List Item) (place n : ℕ) (d : Item) → place < length items
    → take (place + 1 + n) items ≡ take place items ++ (get_or items place d ∷ take n (drop (place + 1) items))
cut_at [] place n d less = absurd (omega arith)
cut_at (x ∷ items) zero n d less = simp unary_clauses (take_one n x items)
cut_at (x ∷ items) (suc place) n d less =
    let all : suc place + 1 + n ≡ suc (place + 1 + n) = omega arith in
    let front : suc (place + 1) ≡ suc place + 1 = omega arith in
    ap (λ k. take k (x ∷ items)) all
    ∙ ap (λ k. x ∷ k) (cut_at items place n d (omega (arith, less)))
    ∙ ap (λ k. x ∷ (take place items ++ (get_or items place d ∷ take n (drop k (x ∷ items))))) front

after_part : (items : List Item) (place : ℕ) (d : Item) → position begins_storage items ≡ Some place → IsPart (storage_after (Some place) items)
unfolding place_after
after_part items place d found =
    let there = position-Some begins_storage items place d found in
    let continues = continued (slice_get items place) in
    let n = continuation_count continues (drop (place + 1) items) in
    let more = take n (drop (place + 1) items) in
    let line = listed_line (slice_get items place) in
    let first = get_or items place d in
    record {
      first = first;
      more = more;
      line = line;
      begins = there.1;
      none = continuing_none continues (drop (place + 1) items);
      together = record {
        before = take place items;
        after = drop (place + 1 + n) items;
        is =
            ap (λ k. k ++ lines line storage_fields ++ drop (place + 1 + n) items) (cut_at items place n d there.0)
            ∙ ap (λ k. k ++ drop (place + 1 + n) items) (append_assoc (take place items) (first ∷ more) (lines line storage_fields));
      };
    }

before_part : (items : List Item) (place : ℕ) → IsPart (storage_before (Some place) items)
before_part items place =
    let line = listed_line (slice_get items place) in
    record {
      first = made_item line (stmt (codes "DFHEISTG") (codes "DSECT") []);
      more = [];
      line = line;
      begins = dsect_is line;
      none = tt;
      together = record { before = take place items; after = drop place items; is = refl };
    }

-- ---- what is put in after it
stmt_some : (item : Item) → begins_storage item ≡ true → is_none item.stmt ≡ false
unfolding begins_storage
stmt_some item e = go item.stmt e
  where
    go : (o : Option Stmt) → begins_storage (record { line = item.line; text = item.text; stmt = o }) ≡ true → is_none o ≡ false
    go None e = absurd (cc)
    go (Some s) e = refl

other_operation : (s : Stmt) → s.operation ≡ codes "DSECT" → (bytes_eq s.operation (codes "CSECT") ≡ false) × (bytes_eq s.operation (codes "START") ≡ false) × (bytes_eq s.operation (codes "END") ≡ false)
other_operation s e = rw e (refl, refl, refl)

first_not : (item : Item) → begins_storage item ≡ true → (begins_section item ≡ false) × (is_end item ≡ false)
unfolding begins_storage begins_section is_end
first_not item e = go item.stmt e
  where
    go : (o : Option Stmt) → begins_storage (record { line = item.line; text = item.text; stmt = o }) ≡ true
        → (begins_section (record { line = item.line; text = item.text; stmt = o }) ≡ false) × (is_end (record { line = item.line; text = item.text; stmt = o }) ≡ false)
    go None e = absurd (cc)
    go (Some s) e =
        let both = both_true (bytes_eq s.name (codes "DFHEISTG")) (bytes_eq s.operation (codes "DSECT")) e in
        let no = other_operation s ((bytes_eq-Decides s.operation (codes "DSECT")).0 both.1) in
        (rw (no.0, no.1) refl, no.2)

none_not : (p : Item → Bool) → ((item : Item) → item.stmt ≡ None → p item ≡ false) → (more rest : List Item) → AllByRecursion (λ item. item.stmt ≡ None) more
    → HaveNot p rest → HaveNot p (more ++ rest)
unfolding HaveNot
none_not p false_at [] rest none have = have
none_not p false_at (item ∷ more) rest none have = (false_at item none.0, none_not p false_at more rest none.1 have)

no_section_begins : (item : Item) → item.stmt ≡ None → begins_section item ≡ false
unfolding begins_section
no_section_begins item e = rw e refl

no_end_begins : (item : Item) → item.stmt ≡ None → is_end item ≡ false
unfolding is_end
no_end_begins item e = rw e refl

fields_no_section : (line : ℕ) → HaveNot begins_section (lines line storage_fields)
unfolding HaveNot begins_section made_item
fields_no_section line = (refl, (refl, (refl, tt)))

fields_no_end : (line : ℕ) → HaveNot is_end (lines line storage_fields)
unfolding HaveNot is_end made_item
fields_no_end line = (refl, (refl, (refl, tt)))

stays : (items : List Item) → IsPart items → IsPart (with_eib (with_bases items))
unfolding Begins HaveNot
stays items p =
    let part = p.first ∷ p.more ++ lines p.line storage_fields in
    let begun = stmt_some p.first p.begins in
    let first = first_not p.first p.begins in
    let sections : HaveNot begins_section part = (first.0, none_not begins_section no_section_begins p.more (lines p.line storage_fields) p.none (fields_no_section p.line)) in
    let ends : HaveNot is_end part = (first.1, none_not is_end no_end_begins p.more (lines p.line storage_fields) p.none (fields_no_end p.line)) in
    record {
      first = p.first;
      more = p.more;
      line = p.line;
      begins = p.begins;
      none = p.none;
      together = with_eib_has part begun sections ends p.first (with_bases items) (with_bases_has part begun sections ends p.first items p.together);
    }

-- ---- without a control section and a DFHEISTG nothing is put in
any_take : (p : Item → Bool) (n : ℕ) (items : List Item) → list_any p items ≡ false → list_any p (take n items) ≡ false
any_take p zero items e = refl
any_take p (suc n) [] e = refl
any_take p (suc n) (x ∷ items) e = go (p x) e (any_take p n items)
  where
    go : (b : Bool) → (b || list_any p items) ≡ false → (list_any p items ≡ false → list_any p (take n items) ≡ false) → (b || list_any p (take n items)) ≡ false
    go true e h = absurd (cc)
    go false e h = h e

any_drop : (p : Item → Bool) (n : ℕ) (items : List Item) → list_any p items ≡ false → list_any p (drop n items) ≡ false
any_drop p zero items e = e
any_drop p (suc n) [] e = refl
any_drop p (suc n) (x ∷ items) e = go (p x) e (any_drop p n items)
  where
    go : (b : Bool) → (b || list_any p items) ≡ false → (list_any p items ≡ false → list_any p (drop n items) ≡ false) → list_any p (drop n items) ≡ false
    go true e h = absurd (cc)
    go false e h = h e

any_put : (p : Item → Bool) (place : ℕ) (made items : List Item) → list_any p items ≡ false → list_any p made ≡ false → list_any p (insert_items place made items) ≡ false
any_put p place made items e f =
    list_any-append p (take place items ++ made) (drop place items)
    ∙ rw (list_any-append p (take place items) made, any_take p place items e, f, any_drop p place items e) refl

eib_no_section : (line : ℕ) → list_any begins_section (lines line eib_section) ≡ false
unfolding begins_section made_item
eib_no_section line = refl

eib_no_storage : (line : ℕ) → list_any begins_storage (lines line eib_section) ≡ false
unfolding begins_storage made_item
eib_no_storage line = refl

no_more : (p : Item → Bool) (items : List Item) → ((line : ℕ) → list_any p (lines line eib_section) ≡ false) → list_any p items ≡ false → list_any p (with_eib items) ≡ false
unfolding with_eib
no_more p items eib e = go (position is_end items)
  where
    go : (place : Option ℕ) → list_any p (eib_before place items) ≡ false
    go None = e
    go (Some place) = any_put p place (lines (listed_line (slice_get items place)) eib_section) items e (eib (listed_line (slice_get items place)))

bases_none : (items : List Item) → position begins_section items ≡ None → with_bases items ≡ items
unfolding with_bases
bases_none items e = ap (λ place. bases_after place items) e

has_part : (items : List Item) → (list_any begins_section (with_eib (with_bases (with_storage items))) ≡ true) ⊎ (list_any begins_storage (with_eib (with_bases (with_storage items))) ≡ true)
    → HasHead (with_eib (with_bases (with_storage items)))
unfolding with_storage
has_part items some = own (position begins_storage items) refl some
  where
    neither : position begins_section items ≡ None → position begins_storage items ≡ None
        → (list_any begins_section (with_eib (with_bases items)) ≡ true) ⊎ (list_any begins_storage (with_eib (with_bases items)) ≡ true) → ⊥
    neither e f (inl is) =
        let no = no_more begins_section items eib_no_section (none_from begins_section 0 items (e0 e)) in
        let same = ap (λ k. list_any begins_section (with_eib k)) (bases_none items e) in
        cc
      where
        e0 : position begins_section items ≡ None → position_from begins_section 0 items ≡ None
        e0 e = sym (position_from-zero begins_section items) ∙ e
    neither e f (inr is) =
        let no = no_more begins_storage items eib_no_storage (none_from begins_storage 0 items (f0 f)) in
        let same = ap (λ k. list_any begins_storage (with_eib k)) (bases_none items e) in
        cc
      where
        f0 : position begins_storage items ≡ None → position_from begins_storage 0 items ≡ None
        f0 f = sym (position_from-zero begins_storage items) ∙ f

    before : (place : Option ℕ) → position begins_section items ≡ place → position begins_storage items ≡ None
        → (list_any begins_section (with_eib (with_bases (storage_before place items))) ≡ true) ⊎ (list_any begins_storage (with_eib (with_bases (storage_before place items))) ≡ true)
        → HasHead (with_eib (with_bases (storage_before place items)))
    before None e f some = absurd (neither e f some)
    before (Some place) e f some = from_part (with_eib (with_bases (storage_before (Some place) items))) (stays (storage_before (Some place) items) (before_part items place))

    own : (place : Option ℕ) → position begins_storage items ≡ place
        → (list_any begins_section (with_eib (with_bases (storage_after place items))) ≡ true) ⊎ (list_any begins_storage (with_eib (with_bases (storage_after place items))) ≡ true)
        → HasHead (with_eib (with_bases (storage_after place items)))
    own None f some = before (position begins_section items) refl f some
    own (Some place) f some =
        let d = made_item 0 (stmt [] [] []) in
        from_part (with_eib (with_bases (storage_after (Some place) items))) (stays (storage_after (Some place) items) (after_part items place d f))

pub head_laid_out : HeadIsLaidOut
unfolding translation
head_laid_out source made has e some =
    let same = (translated_so source made has e).1 in
    subst HasHead same
    (has_part (expanded_items false source.items)
    (subst (λ k. (list_any begins_section k ≡ true) ⊎ (list_any begins_storage k ≡ true)) (sym same) some))
