-- Every name has one value.
use Rattle.std.specs.Prelude.{◌||◌, ◌&&◌, not, codes, if◌then◌else◌, is_some}
use Rattle.std.proofs.Common.{◌≡◌, ℕ, Bool, true, false, cond, Option, Some, None, List, [], ◌∷◌, ◌++◌, refl, sym, ◌∙◌, ap, subst}
use Rattle.std.specs.List.{AllByRecursion, IsDistinct, list_any}
use Rattle.std.specs.Map.{keys_of}
use Rattle.std.specs.Option.{option_or}
use Rattle.std.specs.Str.{bytes_eq}
use Rattle.std.proofs.lemmas.Map.Keys.{IsDistinct-head, IsDistinct-tail, IsDistinct-cons}
use Rattle.cx_ebcdic.specs.Facts.Names.{is_name-laws}
use Rattle.cx_ebcdic.specs.Characters.{code_of, table}
use Rattle.cx_ebcdic.specs.Names.{is_name_character as is_character, name_code, padded_name}
use Rattle.cx_source.specs.Lines.{is_letter, is_symbol_name as is_symbol, is_symbol_name_character as is_symbol_character}
use Rattle.cx_source.specs.declared.source.Item.{Item}
use Rattle.cx_source.specs.declared.source.Stmt.{Stmt}
use Rattle.cx_asm_expressions.specs.Names.{is_same, symbol_name}
use Rattle.cx_asm_expressions.specs.Symbols.{Symbols, find_in}
use Rattle.cx_asm_expressions.specs.declared.faults.FaultKind.TheVariants.{DuplicateSymbol}
use Rattle.cx_asm_expressions.specs.declared.values.Value.{Value}
use Rattle.cx_asm_pass1.specs.Facts.Faults.{none_before, sound_statement}
use Rattle.cx_asm_pass1.specs.Given.{aid_rows, definitions, is_any_known, symbol_entry, register_rows, resumes, row_symbols}
use Rattle.cx_asm_pass1.specs.PassState.{PassState, next_state, after_line, definitions_in, state_after, name_in, role_in}
use Rattle.cx_asm_pass1.specs.Laws.Definitions.{definitions_at, definitions_after}
use Rattle.cx_asm_pass1.specs.declared.roles.Role.{Role}
use Rattle.cx_asm_pass1.specs.declared.roles.Role.TheVariants.{Unknown, Instruction, Control, Dummy, Equate, Storage, Pool, Registers, Member, Nothing}

or_first : (test : Bool) (value : Value) (rest more : Option Value) → cond test (Some value) (option_or rest more) ≡ option_or (cond test (Some value) rest) more
or_first true value rest more = refl
or_first false value rest more = refl

found_in_both : (one other : Symbols) (name : List ℕ) → find_in (one ++ other) name ≡ option_or (find_in one name) (find_in other name)
found_in_both [] other name = refl
found_in_both (s ∷ one) other name = ap (cond (is_same name s.0) (Some s.1)) (found_in_both one other name) ∙ or_first (is_same name s.0) s.1 (find_in one name) (find_in other name)

or_nothing : (a : Option Value) → a ≡ option_or a None
or_nothing None = refl
or_nothing (Some x) = refl

symbol_line : (line : ℕ) (stmt : Option Stmt) (state : PassState) (after : Symbols) (name : List ℕ) → state.symbols name ≡ find_in after name
    → (after_line line stmt state).symbols name ≡ find_in (after ++ definitions_at stmt state) name
unfolding next_state
symbol_line line None state after name e = e ∙ or_nothing (find_in after name) ∙ sym (found_in_both after [] name)
symbol_line line (Some stmt) state after name e = ap (λ o. option_or o (find_in (definitions_in stmt state) name)) e ∙ sym (found_in_both after (definitions_in stmt state) name)

-- a symbol's value is that of its first definition
pub first_value : (items : List Item) (name : List ℕ) → (state_after items).symbols name ≡ find_in (definitions_after items) name
first_value [] name = refl
first_value (item ∷ before) name = symbol_line item.line item.stmt (state_after before) (definitions_after before) name (first_value before name)

-- ---- no name twice
Lacks : List ℕ → Symbols → Type 0
Lacks name symbols = AllByRecursion (λ k. is_same name k ≡ false) (keys_of symbols)

lacks_both : (name : List ℕ) (one other : Symbols) → Lacks name one → Lacks name other → Lacks name (one ++ other)
unfolding Lacks
lacks_both name [] other h k = k
lacks_both name (s ∷ one) other h k = (h.0, lacks_both name one other h.1 k)

not_found : (test : Bool) (value : Value) (rest : Option Value) → is_some (cond test (Some value) rest) ≡ false → (test ≡ false) × (is_some rest ≡ false)
not_found true value rest e = let f : true ≡ false = e in cc
not_found false value rest e = (refl, e)

or_false : (a b : Bool) → (a || b) ≡ false → (a ≡ false) × (b ≡ false)
or_false true b e = let f : true ≡ false = e in cc
or_false false b e = (refl, e)

-- no name of symbols has a value yet
AreNew : (List ℕ → Option Value) → Symbols → Type 0
AreNew find symbols = AllByRecursion (λ s. is_some (find s.0) ≡ false) symbols

new_unknown : (find : List ℕ → Option Value) (symbols : Symbols) → is_any_known find symbols ≡ false → AreNew find symbols
unfolding AreNew
new_unknown find [] e = tt
new_unknown find (s ∷ symbols) e = let both = or_false (is_some (find s.0)) (is_any_known find symbols) e in (both.0, new_unknown find symbols both.1)

new_by : (one other : List ℕ → Option Value) (symbols : Symbols) → ((name : List ℕ) → one name ≡ other name) → AreNew one symbols → AreNew other symbols
unfolding AreNew
new_by one other [] same h = tt
new_by one other (s ∷ symbols) same h = (ap is_some (sym (same s.0)) ∙ h.0, new_by one other symbols same h.1)

new_after : (s : List ℕ × Value) (one other : Symbols) → AreNew (find_in (s ∷ one)) other → Lacks s.0 other × AreNew (find_in one) other
unfolding AreNew Lacks
new_after s one [] h = (tt, tt)
new_after s one (o ∷ other) h =
    let both = not_found (is_same o.0 s.0) s.1 (find_in one o.0) h.0 in
    let rest = new_after s one other h.1 in
    ((is_name-laws.symm s.0 o.0 ∙ both.0, rest.0), (both.1, rest.1))

once_both : (one other : Symbols) → IsDistinct is_same (keys_of one) → IsDistinct is_same (keys_of other) → AreNew (find_in one) other → IsDistinct is_same (keys_of (one ++ other))
unfolding Lacks
once_both [] other h k new = k
once_both (s ∷ one) other h k new =
    let rest = new_after s one other new in
    IsDistinct-cons is_same s.0 (keys_of (one ++ other)) (lacks_both s.0 one other (IsDistinct-head is_same s.0 (keys_of one) h) rest.0)
    (once_both one other (IsDistinct-tail is_same s.0 (keys_of one) h) k rest.1)

-- ---- the symbols that one statement defines
none_once : IsDistinct is_same (keys_of {K = List ℕ} {X = Value} [])
unfolding IsDistinct
none_once = tt

one_once : (s : List ℕ × Value) → IsDistinct is_same (keys_of (s ∷ []))
one_once s = IsDistinct-cons is_same s.0 [] tt none_once

are_once : Symbols → Bool
are_once [] = true
are_once (s ∷ symbols) = not (list_any (λ o. is_same s.0 o.0) symbols) && are_once symbols

lacks_tested : (name : List ℕ) (symbols : Symbols) → list_any (λ o. is_same name o.0) symbols ≡ false → Lacks name symbols
unfolding Lacks
lacks_tested name [] e = tt
lacks_tested name (s ∷ symbols) e = let both = or_false (is_same name s.0) (list_any (λ o. is_same name o.0) symbols) e in (both.0, lacks_tested name symbols both.1)

and_true : (a b : Bool) → (not a && b) ≡ true → (a ≡ false) × (b ≡ true)
and_true true b e = let f : false ≡ true = e in cc
and_true false b e = (refl, e)

once_tested : (symbols : Symbols) → are_once symbols ≡ true → IsDistinct is_same (keys_of symbols)
unfolding are_once Lacks
once_tested [] e = none_once
once_tested (s ∷ symbols) e =
    let both = and_true (list_any (λ o. is_same s.0 o.0) symbols) (are_once symbols) e in
    IsDistinct-cons is_same s.0 (keys_of symbols) (lacks_tested s.0 symbols both.0) (once_tested symbols both.1)

registers_once : IsDistinct is_same (keys_of (row_symbols register_rows))
unfolding are_once symbol_name is_symbol is_letter is_symbol_character padded_name name_code is_character code_of table
registers_once = once_tested (row_symbols register_rows) refl

aids_once : IsDistinct is_same (keys_of (row_symbols aid_rows))
unfolding are_once symbol_name is_symbol is_letter is_symbol_character padded_name name_code is_character code_of table
aids_once = once_tested (row_symbols aid_rows) refl

chosen_once : (test : Bool) (one other : Symbols) → IsDistinct is_same (keys_of one) → IsDistinct is_same (keys_of other) → IsDistinct is_same (keys_of (if test then one else other))
chosen_once true one other h k = h
chosen_once false one other h k = k

named_once : (role : Role) (name control : Option (List ℕ)) (find : List ℕ → Option Value) (value : Option Value) → IsDistinct is_same (keys_of (symbol_entry role name control find value))
named_once role None control find None = none_once
named_once role None control find (Some value) = none_once
named_once role (Some name) control find None = none_once
named_once role (Some name) control find (Some value) = chosen_once (resumes role name control find) [] ((name, value) ∷ []) none_once (one_once (name, value))

defined_once : (role : Role) (name control : Option (List ℕ)) (find : List ℕ → Option Value) (operand : List ℕ) (value : Option Value)
    → IsDistinct is_same (keys_of (definitions role name control find operand value))
defined_once Registers name control find operand value = registers_once
defined_once Member name control find operand value = chosen_once (bytes_eq operand (codes "DFHAID")) (row_symbols aid_rows) [] aids_once none_once
defined_once Unknown name control find operand value = named_once Unknown name control find value
defined_once (Instruction size) name control find operand value = named_once (Instruction size) name control find value
defined_once Control name control find operand value = named_once Control name control find value
defined_once Dummy name control find operand value = named_once Dummy name control find value
defined_once Equate name control find operand value = named_once Equate name control find value
defined_once (Storage is_ds) name control find operand value = named_once (Storage is_ds) name control find value
defined_once Pool name control find operand value = named_once Pool name control find value
defined_once Nothing name control find operand value = named_once Nothing name control find value

no_duplicate : (test : Bool) → (if test then Some DuplicateSymbol else None) ≡ None → test ≡ false
no_duplicate true e = let f : Some DuplicateSymbol ≡ None = e in cc
no_duplicate false e = refl

append_none : (symbols : Symbols) → symbols ++ [] ≡ symbols
append_none [] = refl
append_none (s ∷ symbols) = ap (λ l. s ∷ l) (append_none symbols)

once_line : (before : List Item) (line : ℕ) (stmt : Option Stmt) → (after_line line stmt (state_after before)).fault ≡ None
    → ((state_after before).fault ≡ None → IsDistinct is_same (keys_of (definitions_after before)))
    → IsDistinct is_same (keys_of (definitions_after before ++ definitions_at stmt (state_after before)))
once_line before line None e h = subst (λ l. IsDistinct is_same (keys_of l)) (sym (append_none (definitions_after before))) (h e)
once_line before line (Some stmt) e h =
    let state = state_after before in
    let unknown = no_duplicate (is_any_known state.symbols (definitions_in stmt state)) (sound_statement line stmt state e).definitions in
    once_both (definitions_after before) (definitions_in stmt state) (h (none_before line stmt state e))
    (defined_once (role_in stmt) (name_in stmt) state.control state.symbols stmt.operand _)
    (new_by state.symbols (find_in (definitions_after before)) (definitions_in stmt state) (first_value before) (new_unknown state.symbols (definitions_in stmt state) unknown))

-- without a fault no name is defined twice
pub defined_once_after : (items : List Item) → (state_after items).fault ≡ None → IsDistinct is_same (keys_of (definitions_after items))
defined_once_after [] e = none_once
defined_once_after (item ∷ before) e = once_line before item.line item.stmt e (defined_once_after before)
