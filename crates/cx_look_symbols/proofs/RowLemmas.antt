-- The table of values and the lines give the symbols that the statements define.
use Rattle.std.proofs.Common.{◌≡◌, ℕ, Bool, true, false, cond, Option, Some, None, Result, Ok, Err, List, [], ◌∷◌, ◌++◌, map, refl, sym, subst, ◌∙◌, ap, append_assoc}
use Rattle.std.specs.Prelude.{pos, ◌||◌, ◌&&◌, ◌==◌, not, length, reverse, codes, if◌then◌else◌, is_some, option_map, unwrap_or}
use Rattle.std.specs.List.{AllByRecursion, IsDistinct, cons_option}
use Rattle.std.specs.Map.{keys_of, lookup}
use Rattle.std.specs.Option.{option_map_or, option_or}
use Rattle.std.specs.Result.{result_err, result_ok}
use Rattle.std.specs.Str.{bytes_eq}
use Rattle.std.proofs.lemmas.Map.Keys.{IsDistinct-head, IsDistinct-tail}
use Rattle.indexmap.specs.IndexMap.{insert_entry}
use Rattle.cx_ebcdic.specs.Facts.Names.{is_name-laws, is_name-decides}
use Rattle.cx_source.specs.declared.source.Item.{Item}
use Rattle.cx_source.specs.declared.source.Source.{Source}
use Rattle.cx_source.specs.declared.source.Stmt.{Stmt}
use Rattle.cx_asm_expressions.specs.Expressions.{value_of}
use Rattle.cx_asm_expressions.specs.Faults.{lower, lowest}
use Rattle.cx_asm_expressions.specs.Names.{is_same, symbol_name}
use Rattle.cx_asm_expressions.specs.Symbols.{Symbols, absolute, find_in}
use Rattle.cx_asm_expressions.specs.Weights.{stands_in}
use Rattle.cx_asm_expressions.specs.declared.faults.FaultKind.{FaultKind}
use Rattle.cx_asm_expressions.specs.declared.faults.FaultKind.TheVariants.{DuplicateSymbol, ValueOutOfRange}
use Rattle.cx_asm_expressions.specs.declared.values.Value.{Value}
use Rattle.cx_asm_pass1.specs.Facts.Definitions.{defined_once_after, first_value}
use Rattle.cx_asm_pass1.specs.Facts.Faults.{control_named, none_before, sound_statement}
use Rattle.cx_asm_pass1.specs.Facts.StatementExtents.{lower_none}
use Rattle.cx_asm_pass1.specs.Given.{aid_rows, definitions, is_any_known, is_in_range, value_in_range, location_counter, symbol_entry, register_rows, resumes, row_symbols, value_given}
use Rattle.cx_asm_pass1.specs.PassState.{PassState, next_state, after_line, named_control, definitions_in, duplicate_in, statement_fault_in, first_fault_after, given_in, state_after, extent_in, line_fault, literal_fault, name_fault, name_in, operation_fault, own_fault, parts_in, role_in, section_fault}
use Rattle.cx_asm_pass1.specs.Laws.Definitions.{definitions_at, definitions_after}
use Rattle.cx_asm_pass1.specs.Locations.{IsPlaced, final_state}
use Rattle.cx_asm_pass1.specs.declared.place.LineFault.{LineFault}
use Rattle.cx_asm_pass1.specs.declared.places.Places.{Places}
use Rattle.cx_asm_pass1.specs.declared.roles.Role.{Role}
use Rattle.cx_asm_pass1.specs.declared.roles.Role.TheVariants.{Unknown, Instruction, Control, Dummy, Equate, Storage, Pool, Registers, Member, Nothing}
use Rattle.cx_look_symbols.specs.Parts.Rows.{names_among, names_given, table_after, with_name, with_names, with_stmt}
use Rattle.cx_look_symbols.specs.Laws.{SymbolsAreLookedUp}
use Rattle.cx_look_symbols.specs.Symbols.{Rows, rows_after, rows_on, symbol_of}
use Rattle.cx_look_symbols.specs.declared.rows.Symbol.{Symbol}

-- ---- which names are there
abbrev has : {V : Type 0} → List ℕ → List (List ℕ × V) → Bool
has name rows = is_some (lookup (is_same name) rows)

abbrev lined : ℕ → Symbols → Rows
lined line symbols = map (λ symbol. (symbol.0, symbol_of line symbol.1)) symbols

has_first : {V : Type 0} (test : Bool) (value : V) (rest : Option V) → is_some (cond test (Some value) rest) ≡ (test || is_some rest)
has_first true value rest = refl
has_first false value rest = refl

or_assoc : (a b c : Bool) → (a || (b || c)) ≡ ((a || b) || c)
or_assoc true b c = refl
or_assoc false b c = refl

has_both : {V : Type 0} (name : List ℕ) (one other : List (List ℕ × V)) → has name (one ++ other) ≡ (has name one || has name other)
has_both name [] other = refl
has_both name (row ∷ one) other =
    has_first (is_same name row.0) row.1 (lookup (is_same name) (one ++ other))
    ∙ ap (λ b. is_same name row.0 || b) (has_both name one other)
    ∙ or_assoc (is_same name row.0) (has name one) (has name other)
    ∙ ap (λ b. b || has name other) (sym (has_first (is_same name row.0) row.1 (lookup (is_same name) one)))

has_lined : (name : List ℕ) (line : ℕ) (symbols : Symbols) → has name (lined line symbols) ≡ has name symbols
has_lined name line [] = refl
has_lined name line (s ∷ symbols) =
    has_first (is_same name s.0) (symbol_of line s.1) (lookup (is_same name) (lined line symbols))
    ∙ ap (λ b. is_same name s.0 || b) (has_lined name line symbols)
    ∙ sym (has_first (is_same name s.0) s.1 (lookup (is_same name) symbols))

rows_are_lined : (line : ℕ) (stmt : Option Stmt) (state : PassState) → rows_on line stmt state ≡ lined line (definitions_at stmt state)
rows_are_lined line None state = refl
rows_are_lined line (Some stmt) state = refl

has_rows : (name : List ℕ) (items : List Item) → has name (rows_after items) ≡ has name (definitions_after items)
has_rows name [] = refl
has_rows name (item ∷ before) =
    let defined : Symbols = definitions_at item.stmt (state_after before) in
    ap (λ rows. has name (rows_after before ++ rows)) (rows_are_lined item.line item.stmt (state_after before))
    ∙ has_both name (rows_after before) (lined item.line defined)
    ∙ ap (λ b. b || has name (lined item.line defined)) (has_rows name before)
    ∙ ap (λ b. has name (definitions_after before) || b) (has_lined name item.line defined)
    ∙ sym (has_both name (definitions_after before) defined)

pub has_known : (name : List ℕ) (items : List Item) → has name (rows_after items) ≡ is_some ((state_after items).symbols name)
has_known name items = has_rows name items ∙ ap is_some (sym (first_value items name))

-- ---- symbols that are put after others
or_false : (a b : Bool) → (a || b) ≡ false → (a ≡ false) × (b ≡ false)
or_false true b e = let f : true ≡ false = e in cc
or_false false b e = (refl, e)

insert_last : (rows : Rows) (name : List ℕ) (symbol : Symbol) → has name rows ≡ false → insert_entry is_same rows name symbol ≡ rows ++ (name, symbol) ∷ []
insert_last [] name symbol e = refl
insert_last (row ∷ rows) name symbol e =
    let both = or_false (is_same name row.0) (has name rows) (sym (has_first (is_same name row.0) row.1 (lookup (is_same name) rows)) ∙ e) in
    rw both.0 (ap (λ l. row ∷ l) (insert_last rows name symbol both.1))

put_new : (find : List ℕ → Option Value) (line : ℕ) (rows : Rows) (name : List ℕ) (value : Value) → has name rows ≡ false → find name ≡ Some value
    → with_name find line rows name ≡ rows ++ (name, symbol_of line value) ∷ []
unfolding with_name
put_new find line rows name value e found = rw (e, found) (insert_last rows name (symbol_of line value) e)

put_old : (find : List ℕ → Option Value) (line : ℕ) (rows : Rows) (name : List ℕ) → has name rows ≡ true → with_name find line rows name ≡ rows
unfolding with_name
put_old find line rows name e = rw e refl

-- none of the symbols is there
AreNew : Rows → Symbols → Type 0
AreNew rows symbols = AllByRecursion (λ s. has s.0 rows ≡ false) symbols

one_more_new : (rows : Rows) (name : List ℕ) (symbol : Symbol) (symbols : Symbols) → AllByRecursion (λ k. is_same name k ≡ false) (keys_of symbols)
    → AreNew rows symbols → AreNew (rows ++ (name, symbol) ∷ []) symbols
unfolding AreNew
one_more_new rows name symbol [] apart new = tt
one_more_new rows name symbol (s ∷ symbols) apart new =
    let last : has s.0 ((name, symbol) ∷ []) ≡ false = rw (is_name-laws.symm s.0 name ∙ apart.0) refl in
    (has_both s.0 rows ((name, symbol) ∷ []) ∙ rw (new.0, last) refl, one_more_new rows name symbol symbols apart.1 new.1)

append_none : (rows : Rows) → rows ≡ rows ++ []
append_none [] = refl
append_none (row ∷ rows) = ap (λ l. row ∷ l) (append_none rows)

put_all : (find : List ℕ → Option Value) (line : ℕ) (rows : Rows) (symbols : Symbols) → AreNew rows symbols → IsDistinct is_same (keys_of symbols)
    → AllByRecursion (λ s. find s.0 ≡ Some s.1) symbols → with_names find line rows (keys_of symbols) ≡ rows ++ lined line symbols
unfolding AreNew
put_all find line rows [] new apart found = append_none rows
put_all find line rows (s ∷ symbols) new apart found =
    let more : Rows = rows ++ (s.0, symbol_of line s.1) ∷ [] in
    ap (λ l. with_names find line l (keys_of symbols)) (put_new find line rows s.0 s.1 new.0 found.0)
    ∙ put_all find line more symbols (one_more_new rows s.0 (symbol_of line s.1) symbols (IsDistinct-head is_same s.0 (keys_of symbols) apart) new.1)
    (IsDistinct-tail is_same s.0 (keys_of symbols) apart) found.1
    ∙ append_assoc rows ((s.0, symbol_of line s.1) ∷ []) (lined line symbols)

-- ---- what one statement defines
-- the names of rows
row_names : (rows : List (List ℕ × ℕ)) → names_among (map (λ row. row.0) rows) ≡ keys_of (row_symbols rows)
row_names [] = refl
row_names (row ∷ rows) = go (symbol_name row.0) (row_names rows)
  where
    go : (name : Option (List ℕ)) → names_among (map (λ r. r.0) rows) ≡ keys_of (row_symbols rows)
        → cons_option name (names_among (map (λ r. r.0) rows)) ≡ keys_of (cons_option (option_map (λ n. (n, absolute (pos row.1))) name) (row_symbols rows))
    go None h = h
    go (Some n) h = ap (λ l. n ∷ l) h

-- what is true of a list is true of what it is made of
left_of : {X : Type 0} (P : X → Type 0) (one other : List X) → AllByRecursion P (one ++ other) → AllByRecursion P one
left_of P [] other h = tt
left_of P (x ∷ one) other h = (h.0, left_of P one other h.1)

right_of : {X : Type 0} (P : X → Type 0) (one other : List X) → AllByRecursion P (one ++ other) → AllByRecursion P other
right_of P [] other h = h
right_of P (x ∷ one) other h = right_of P one other h.1

distinct_right : (one other : Symbols) → IsDistinct is_same (keys_of (one ++ other)) → IsDistinct is_same (keys_of other)
distinct_right [] other h = h
distinct_right (s ∷ one) other h = distinct_right one other (IsDistinct-tail is_same s.0 (keys_of (one ++ other)) h)

new_rows : (rows : Rows) (state : List ℕ → Option Value) (same : (name : List ℕ) → has name rows ≡ is_some (state name)) (symbols : Symbols)
    → is_any_known state symbols ≡ false → AreNew rows symbols
unfolding AreNew
new_rows rows state same [] e = tt
new_rows rows state same (s ∷ symbols) e =
    let both = or_false (is_some (state s.0)) (is_any_known state symbols) e in
    (same s.0 ∙ both.0, new_rows rows state same symbols both.1)

-- a statement gives its name a value, or never gives one
Gives : Role → Option Value → Type 0
Gives Unknown value = is_some value ≡ true
Gives Nothing value = value ≡ None
Gives Registers value = Unit {0}
Gives Member value = Unit {0}
Gives (Instruction size) value = is_some value ≡ true
Gives Control value = is_some value ≡ true
Gives Dummy value = is_some value ≡ true
Gives Equate value = is_some value ≡ true
Gives (Storage is_ds) value = is_some value ≡ true
Gives Pool value = is_some value ≡ true

limited_gives : (given : Result Value FaultKind) → result_err (value_in_range given) ≡ None → is_some (unwrap_or (result_ok (value_in_range given)) (Some (absolute (pos 0)))) ≡ true
limited_gives (Err fault) e = cc
limited_gives (Ok value) e = go (is_in_range value.number) e
  where
    go : (b : Bool) → result_err (if b then Ok (Some value) else Err ValueOutOfRange) ≡ None
        → is_some (unwrap_or (result_ok (if b then Ok (Some value) else Err ValueOutOfRange)) (Some (absolute (pos 0)))) ≡ true
    go true e = refl
    go false e = cc

gives_value : (role : Role) (name : Option (List ℕ)) (find : List ℕ → Option Value) (section : Option (List ℕ)) (operand : List ℕ) (stmt : Stmt) (state : PassState)
    → result_err (value_given role name find section operand (extent_in stmt state)) ≡ None
    → Gives role (unwrap_or (result_ok (value_given role name find section operand (extent_in stmt state))) (Some (absolute (pos 0))))
unfolding Gives
gives_value Unknown name find section operand stmt state e = refl
gives_value Nothing name find section operand stmt state e = refl
gives_value Registers name find section operand stmt state e = tt
gives_value Member name find section operand stmt state e = tt
gives_value (Instruction size) name find section operand stmt state e = refl
gives_value Control name find section operand stmt state e = refl
gives_value Dummy name find section operand stmt state e = refl
gives_value Equate name find section operand stmt state e = limited_gives (value_of find (location_counter section (extent_in stmt state).offset 1) operand) e
gives_value (Storage is_ds) name find section operand stmt state e = refl
gives_value Pool name find section operand stmt state e = refl

fault_none : (line : ℕ) (fault : Option FaultKind) (first : Option LineFault) → first_fault_after line fault first ≡ None → fault ≡ None
fault_none line None first e = refl
fault_none line (Some kind) None e = cc
fault_none line (Some kind) (Some first) e = absurd (go (line == first.line) e)
  where
    go : (b : Bool) → (if b then option_map (line_fault first.line) (lower (Some first.kind) (Some kind)) else Some first) ≡ None → ⊥
    go true e = cc
    go false e = cc

fifth : (a b c d e f : Option FaultKind) → lowest (a ∷ b ∷ c ∷ d ∷ e ∷ f ∷ []) ≡ None → e ≡ None
fifth a b c d e f h =
    let one = lower_none a (lower b (lower c (lower d (lower e (lower f None))))) h in
    let two = lower_none b (lower c (lower d (lower e (lower f None)))) one.1 in
    let three = lower_none c (lower d (lower e (lower f None))) two.1 in
    let four = lower_none d (lower e (lower f None)) three.1 in
    (lower_none e (lower f None) four.1).0

value_sound : (line : ℕ) (stmt : Stmt) (state : PassState) → (next_state line stmt state).fault ≡ None → result_err (given_in stmt state) ≡ None
unfolding next_state
value_sound line stmt state e =
    let none : statement_fault_in stmt state ≡ None = fault_none line (statement_fault_in stmt state) state.fault e in
    let own = lower_none (own_fault stmt state) (literal_fault (role_in stmt) (length state.places) (parts_in stmt) state.pool) none in
    fifth (operation_fault (role_in stmt)) (name_fault (role_in stmt) stmt.name)
    (section_fault (role_in stmt) (name_in stmt) state.section state.control) (extent_in stmt state).fault (result_err (given_in stmt state))
    (duplicate_in stmt state) own.0

value_gives : (line : ℕ) (stmt : Stmt) (state : PassState) → (next_state line stmt state).fault ≡ None → Gives (role_in stmt) (unwrap_or (result_ok (given_in stmt state)) (Some (absolute (pos 0))))
value_gives line stmt state e =
    gives_value (role_in stmt) (name_in stmt) state.symbols state.section stmt.operand stmt state (value_sound line stmt state e)

-- ---- sections that are resumed
KnowsControl : Option (List ℕ) → (List ℕ → Option Value) → Type 0
KnowsControl control find = (name : List ℕ) → control ≡ Some name → is_some (find name) ≡ true

stands_known : (name : List ℕ) (control : Option (List ℕ)) (find : List ℕ → Option Value) → KnowsControl control find → stands_in name control ≡ true → is_some (find name) ≡ true
unfolding KnowsControl
stands_known name None find h e = cc
stands_known name (Some section) find h e = ap (λ n. is_some (find n)) ((is_name-decides name section).0 e) ∙ h section refl

found_true : (found : Option Value) (test : Value → Bool) (b : Bool) → (option_map_or test found false && b) ≡ true → is_some found ≡ true
found_true None test b e = cc
found_true (Some value) test b e = refl

resumed_known : (role : Role) (name : List ℕ) (control : Option (List ℕ)) (find : List ℕ → Option Value) → KnowsControl control find
    → resumes role name control find ≡ true → is_some (find name) ≡ true
resumed_known Control name control find h e = stands_known name control find h e
resumed_known Dummy name control find h e = found_true (find name) (λ v. stands_in name v.section) (not (stands_in name control)) e
resumed_known Unknown name control find h e = cc
resumed_known (Instruction size) name control find h e = cc
resumed_known Equate name control find h e = cc
resumed_known (Storage is_ds) name control find h e = cc
resumed_known Pool name control find h e = cc
resumed_known Registers name control find h e = cc
resumed_known Member name control find h e = cc
resumed_known Nothing name control find h e = cc

or_one : (a b : Option Value) → is_some a ≡ true → is_some (option_or a b) ≡ true
or_one None b e = cc
or_one (Some value) b e = refl

or_other : (a b : Option Value) → is_some b ≡ true → is_some (option_or a b) ≡ true
or_other None b e = e
or_other (Some value) b e = refl

begun_known : (name : Option (List ℕ)) (find : List ℕ → Option Value) (value : Option Value) (n : List ℕ) → is_some value ≡ true → name ≡ Some n
    → is_some (option_or (find n) (find_in (symbol_entry Control name None find value) n)) ≡ true
begun_known None find value n given e = cc
begun_known (Some name) find None n given e = cc
begun_known (Some name) find (Some value) n given e =
    let same : name ≡ n = cc in
    let there : is_some (find_in ((name, value) ∷ []) n) ≡ true = rw (same, is_name-laws.refl n) refl in
    or_other (find n) (find_in ((name, value) ∷ []) n) there

control_step : (role : Role) (name control : Option (List ℕ)) (find : List ℕ → Option Value) (operand : List ℕ) (value : Option Value) → Gives role value
    → KnowsControl control find
    → KnowsControl (named_control role name control) (λ n. option_or (find n) (find_in (definitions role name control find operand value) n))
unfolding Gives KnowsControl
control_step Control name None find operand value given h = λ n e. begun_known name find value n given e
control_step Control name (Some section) find operand value given h = λ n e. or_one (find n) _ (h n e)
control_step Dummy name control find operand value given h = λ n e. or_one (find n) _ (h n e)
control_step Unknown name control find operand value given h = λ n e. or_one (find n) _ (h n e)
control_step (Instruction size) name control find operand value given h = λ n e. or_one (find n) _ (h n e)
control_step Equate name control find operand value given h = λ n e. or_one (find n) _ (h n e)
control_step (Storage is_ds) name control find operand value given h = λ n e. or_one (find n) _ (h n e)
control_step Pool name control find operand value given h = λ n e. or_one (find n) _ (h n e)
control_step Registers name control find operand value given h = λ n e. or_one (find n) _ (h n e)
control_step Member name control find operand value given h = λ n e. or_one (find n) _ (h n e)
control_step Nothing name control find operand value given h = λ n e. or_one (find n) _ (h n e)

control_line : (line : ℕ) (stmt : Option Stmt) (state : PassState) → (after_line line stmt state).fault ≡ None → (state.fault ≡ None → KnowsControl state.control state.symbols)
    → KnowsControl (after_line line stmt state).control (after_line line stmt state).symbols
unfolding next_state
control_line line None state e h = h e
control_line line (Some stmt) state e h =
    subst (λ control. KnowsControl control (next_state line stmt state).symbols) (sym (control_named line stmt state e))
    (control_step (role_in stmt) (name_in stmt) state.control state.symbols stmt.operand _ (value_gives line stmt state e) (h (none_before line stmt state e)))

knows_control : (items : List Item) → (state_after items).fault ≡ None → KnowsControl (state_after items).control (state_after items).symbols
unfolding KnowsControl
knows_control [] e = λ n e. cc
knows_control (item ∷ before) e = control_line item.line item.stmt (state_after before) e (knows_control before)

-- ---- one statement
nothing_put : (line : ℕ) (rows : Rows) (role : Role) (name control : Option (List ℕ)) (find : List ℕ → Option Value) (value : Option Value) → value ≡ None
    → rows ≡ rows ++ lined line (symbol_entry role name control find value)
nothing_put line rows role None control find None e = append_none rows
nothing_put line rows role (Some name) control find None e = append_none rows
nothing_put line rows role name control find (Some value) e = cc

module _ (find : List ℕ → Option Value) (line : ℕ) (rows : Rows) (state : List ℕ → Option Value) (same : (name : List ℕ) → has name rows ≡ is_some (state name)) where
  abbrev Found : Symbols → Type 0
  Found symbols = AllByRecursion (λ s. find s.0 ≡ Some s.1) symbols

  rows_put : (all : List (List ℕ × ℕ)) → is_any_known state (row_symbols all) ≡ false → IsDistinct is_same (keys_of (row_symbols all)) → Found (row_symbols all)
      → with_names find line rows (names_among (map (λ row. row.0) all)) ≡ rows ++ lined line (row_symbols all)
  rows_put all new apart found =
      ap (λ names. with_names find line rows names) (row_names all)
      ∙ put_all find line rows (row_symbols all) (new_rows rows state same (row_symbols all) new) apart found

  one_put : (b : Bool) (name : List ℕ) (value : Value) → (b ≡ true → is_some (state name) ≡ true)
      → is_any_known state (if b then [] else (name, value) ∷ []) ≡ false → Found (if b then [] else (name, value) ∷ [])
      → with_names find line rows (name ∷ []) ≡ rows ++ lined line (if b then [] else (name, value) ∷ [])
  one_put true name value h new found = put_old find line rows name (same name ∙ h refl) ∙ append_none rows
  one_put false name value h new found = put_new find line rows name value (same name ∙ (or_false (is_some (state name)) false new).0) found.0

  named_put : (role : Role) (name control : Option (List ℕ)) (value : Option Value) → KnowsControl control state → is_some value ≡ true
      → is_any_known state (symbol_entry role name control state value) ≡ false → Found (symbol_entry role name control state value)
      → with_names find line rows (cons_option name []) ≡ rows ++ lined line (symbol_entry role name control state value)
  named_put role name control None h given new found = cc
  named_put role None control (Some value) h given new found = append_none rows
  named_put role (Some name) control (Some value) h given new found =
      one_put (resumes role name control state) name value (resumed_known role name control state h) new found

  member_put : (b : Bool) → is_any_known state (if b then row_symbols aid_rows else []) ≡ false
      → IsDistinct is_same (keys_of (if b then row_symbols aid_rows else [])) → Found (if b then row_symbols aid_rows else [])
      → with_names find line rows (if b then names_among (map (λ row. row.0) aid_rows) else []) ≡ rows ++ lined line (if b then row_symbols aid_rows else [])
  member_put true new apart found = rows_put aid_rows new apart found
  member_put false new apart found = append_none rows

  role_put : (role : Role) (name control : Option (List ℕ)) (operand : List ℕ) (value : Option Value) → KnowsControl control state → Gives role value
      → is_any_known state (definitions role name control state operand value) ≡ false
      → IsDistinct is_same (keys_of (definitions role name control state operand value)) → Found (definitions role name control state operand value)
      → with_names find line rows (names_given role name operand) ≡ rows ++ lined line (definitions role name control state operand value)
  unfolding Gives
  role_put Registers name control operand value h given new apart found = rows_put register_rows new apart found
  role_put Member name control operand value h given new apart found = member_put (bytes_eq operand (codes "DFHAID")) new apart found
  role_put Unknown name control operand value h given new apart found = named_put Unknown name control value h given new found
  role_put Nothing name control operand value h given new apart found = nothing_put line rows Nothing name control state value given
  role_put (Instruction size) name control operand value h given new apart found = named_put (Instruction size) name control value h given new found
  role_put Control name control operand value h given new apart found = named_put Control name control value h given new found
  role_put Dummy name control operand value h given new apart found = named_put Dummy name control value h given new found
  role_put Equate name control operand value h given new apart found = named_put Equate name control value h given new found
  role_put (Storage is_ds) name control operand value h given new apart found = named_put (Storage is_ds) name control value h given new found
  role_put Pool name control operand value h given new apart found = named_put Pool name control value h given new found

no_duplicate : (test : Bool) → (if test then Some DuplicateSymbol else None) ≡ None → test ≡ false
no_duplicate true e = let f : Some DuplicateSymbol ≡ None = e in cc
no_duplicate false e = refl

-- ---- all statements
line_put : (find : List ℕ → Option Value) (line : ℕ) (stmt : Option Stmt) (before : List Item) → (after_line line stmt (state_after before)).fault ≡ None
    → IsDistinct is_same (keys_of (definitions_at stmt (state_after before))) → AllByRecursion (λ s. find s.0 ≡ Some s.1) (definitions_at stmt (state_after before))
    → with_stmt find line stmt (rows_after before) ≡ rows_after before ++ lined line (definitions_at stmt (state_after before))
line_put find line None before e apart found = append_none (rows_after before)
line_put find line (Some stmt) before e apart found =
    let state = state_after before in
    role_put find line (rows_after before) state.symbols (λ name. has_known name before) (role_in stmt) (name_in stmt) state.control stmt.operand _
    (knows_control before (none_before line stmt state e)) (value_gives line stmt state e)
    (no_duplicate (is_any_known state.symbols (definitions_in stmt state)) (sound_statement line stmt state e).definitions) apart found

before_line : (line : ℕ) (stmt : Option Stmt) (state : PassState) → (after_line line stmt state).fault ≡ None → state.fault ≡ None
before_line line None state e = e
before_line line (Some stmt) state e = none_before line stmt state e

table_is : (find : List ℕ → Option Value) (items : List Item) → (state_after items).fault ≡ None → AllByRecursion (λ s. find s.0 ≡ Some s.1) (definitions_after items)
    → table_after find items ≡ rows_after items
table_is find [] e found = refl
table_is find (item ∷ before) e found =
    let state = state_after before in
    let defined : Symbols = definitions_at item.stmt state in
    ap (λ rows. with_stmt find item.line item.stmt rows)
    (table_is find before (before_line item.line item.stmt state e) (left_of (λ s. find s.0 ≡ Some s.1) (definitions_after before) defined found))
    ∙ line_put find item.line item.stmt before e
    (distinct_right (definitions_after before) defined (defined_once_after (item ∷ before) e))
    (right_of (λ s. find s.0 ≡ Some s.1) (definitions_after before) defined found)
    ∙ sym (ap (λ rows. rows_after before ++ rows) (rows_are_lined item.line item.stmt state))

-- each symbol of a list without repeats is found in it
after_other : (s : List ℕ × Value) (all some : Symbols) → AllByRecursion (λ k. is_same s.0 k ≡ false) (keys_of some)
    → AllByRecursion (λ o. find_in all o.0 ≡ Some o.1) some → AllByRecursion (λ o. find_in (s ∷ all) o.0 ≡ Some o.1) some
after_other s all [] apart found = tt
after_other s all (o ∷ some) apart found =
    (rw (is_name-laws.symm o.0 s.0 ∙ apart.0) found.0, after_other s all some apart.1 found.1)

all_found : (symbols : Symbols) → IsDistinct is_same (keys_of symbols) → AllByRecursion (λ s. find_in symbols s.0 ≡ Some s.1) symbols
all_found [] h = tt
all_found (s ∷ symbols) h = (
  rw (is_name-laws.refl s.0) refl,
  after_other s symbols symbols (IsDistinct-head is_same s.0 (keys_of symbols) h) (all_found symbols (IsDistinct-tail is_same s.0 (keys_of symbols) h)),
)

found_by : (find other : List ℕ → Option Value) → ((name : List ℕ) → find name ≡ other name) → (symbols : Symbols)
    → AllByRecursion (λ s. other s.0 ≡ Some s.1) symbols → AllByRecursion (λ s. find s.0 ≡ Some s.1) symbols
found_by find other same [] h = tt
found_by find other same (s ∷ symbols) h = (same s.0 ∙ h.0, found_by find other same symbols h.1)

rows_are : (find : List ℕ → Option Value) (items : List Item) → (state_after items).fault ≡ None
    → ((name : List ℕ) → find name ≡ (state_after items).symbols name) → table_after find items ≡ rows_after items
rows_are find items e same =
    table_is find items e
    (found_by find (find_in (definitions_after items)) (λ name. same name ∙ first_value items name) (definitions_after items)
    (all_found (definitions_after items) (defined_once_after items e)))

-- the rows of a source without a fault
pub rows_placed : (source : Source) (places : Places) → (final_state source).fault ≡ None → IsPlaced (final_state source) places
    → table_after (find_in places.symbols) (reverse source.items) ≡ rows_after (reverse source.items)
rows_placed source places e placed = rows_are (find_in places.symbols) (reverse source.items) e placed.symbols

-- ---- the symbols are those that are looked up
joined : {X : Type 0} (P : X → Type 0) (one other : List X) → AllByRecursion P one → AllByRecursion P other → AllByRecursion P (one ++ other)
joined P [] other h more = more
joined P (x ∷ one) other h more = (h.0, joined P one other h.1 more)

lined_found : (find : List ℕ → Option Value) (line : ℕ) (symbols : Symbols) → AllByRecursion (λ s. find s.0 ≡ Some s.1) symbols
    → AllByRecursion (λ row. find row.0 ≡ Some row.1.value) (lined line symbols)
lined_found find line [] h = tt
lined_found find line (s ∷ symbols) h = (h.0, lined_found find line symbols h.1)

rows_found : (find : List ℕ → Option Value) (items : List Item) → AllByRecursion (λ s. find s.0 ≡ Some s.1) (definitions_after items)
    → AllByRecursion (λ row. find row.0 ≡ Some row.1.value) (rows_after items)
rows_found find [] h = tt
rows_found find (item ∷ before) h =
    let defined : Symbols = definitions_at item.stmt (state_after before) in
    let first = left_of (λ s. find s.0 ≡ Some s.1) (definitions_after before) defined h in
    let last = right_of (λ s. find s.0 ≡ Some s.1) (definitions_after before) defined h in
    joined (λ row. find row.0 ≡ Some row.1.value) (rows_after before) (rows_on item.line item.stmt (state_after before)) (rows_found find before first)
    (subst (AllByRecursion (λ row. find row.0 ≡ Some row.1.value)) (sym (rows_are_lined item.line item.stmt (state_after before)))
    (lined_found find item.line defined last))

all_looked_up : (items : List Item) → (state_after items).fault ≡ None
    → AllByRecursion (λ row. (state_after items).symbols row.0 ≡ Some row.1.value) (rows_after items)
all_looked_up items e =
    rows_found (state_after items).symbols items
    (found_by (state_after items).symbols (find_in (definitions_after items)) (λ name. first_value items name) (definitions_after items)
    (all_found (definitions_after items) (defined_once_after items e)))

-- what is looked up among rows with these values, of which each name with a value is one
value_looked_up : (find : List ℕ → Option Value) (name : List ℕ) (rows : Rows) → AllByRecursion (λ row. find row.0 ≡ Some row.1.value) rows
    → (value : Option Value) → find name ≡ value → has name rows ≡ is_some value → option_map (λ (s : Symbol). s.value) (lookup (is_same name) rows) ≡ value
value_looked_up find name [] all None is has_it = refl
value_looked_up find name [] all (Some value) is has_it = absurd (cc)
value_looked_up find name (row ∷ rows) all value is has_it = go (is_same name row.0) refl (λ there. value_looked_up find name rows all.1 value is there) has_it
  where
    go : (b : Bool) → is_same name row.0 ≡ b
        → (has name rows ≡ is_some value → option_map (λ (s : Symbol). s.value) (lookup (is_same name) rows) ≡ value)
        → is_some (cond b (Some row.1) (lookup (is_same name) rows)) ≡ is_some value
        → option_map (λ (s : Symbol). s.value) (cond b (Some row.1) (lookup (is_same name) rows)) ≡ value
    go true same rest there = sym all.0 ∙ ap find (sym ((is_name-decides name row.0).0 same)) ∙ is
    go false same rest there = rest there

pub symbols_are_looked_up : SymbolsAreLookedUp
symbols_are_looked_up source none =
    let find = (final_state source).symbols in
    let values = all_looked_up (reverse source.items) none in
    record {
      values = values;
      found =
          λ name. value_looked_up find name (rows_after (reverse source.items)) values (find name) refl (has_known name (reverse source.items));
    }
