-- What holds of statements without a fault.
use Rattle.std.specs.Prelude.{is_some, option_map}
use Rattle.std.specs.Result.{result_err}
use Rattle.std.proofs.Common.{◌≡◌, ℕ, ◌==◌, Bool, true, false, cond, List, Option, Some, None, refl, sym, ◌∙◌, ap}
use Rattle.cx_source.specs.declared.source.Stmt.{Stmt}
use Rattle.cx_asm_expressions.specs.Faults.{lower}
use Rattle.cx_asm_expressions.specs.Names.{symbol_name}
use Rattle.cx_asm_expressions.specs.declared.faults.FaultKind.{FaultKind}
use Rattle.cx_asm_expressions.specs.declared.faults.FaultKind.TheVariants.{BadOperand}
use Rattle.cx_asm_pass1.specs.Facts.StatementExtents.{lower_none}
use Rattle.cx_asm_pass1.specs.Given.{duplicate}
use Rattle.cx_asm_pass1.specs.PassState.{PassState, next_state, bad_name, control_or_blank, named_control, named_section, is_astray, definitions_in, duplicate_in, statement_fault_in, first_fault_after, given_in, extent_in, literal_fault, name_fault, name_in, operation_fault, own_fault, parts_in, role_in, section_fault, line_fault}
use Rattle.cx_asm_pass1.specs.declared.place.LineFault.{LineFault}
use Rattle.cx_asm_pass1.specs.declared.roles.Role.{Role}
use Rattle.cx_asm_pass1.specs.declared.roles.Role.TheVariants.{Unknown, Instruction, Control, Dummy, Equate, Storage, Pool, Registers, Member, Nothing}

lower_some : (one : FaultKind) (other : Option FaultKind) (line : ℕ) → option_map (line_fault line) (lower (Some one) other) ≡ None → ⊥
lower_some one None line e = cc
lower_some one (Some other) line e = cc

some_stays : (test : Bool) (line : ℕ) (fault : Option FaultKind) (first : LineFault)
    → cond test (option_map (line_fault line) (lower (Some first.kind) fault)) (Some first) ≡ None → ⊥
some_stays true line fault first e = lower_some first.kind fault line e
some_stays false line fault first e = cc

none_new : (line : ℕ) (fault : Option FaultKind) → option_map (line_fault line) fault ≡ None → fault ≡ None
none_new line None e = refl
none_new line (Some fault) e = cc

none_first : (line : ℕ) (fault : Option FaultKind) (first : Option LineFault) → first_fault_after line fault first ≡ None → (first ≡ None) × (fault ≡ None)
none_first line fault None e = (refl, none_new line fault e)
none_first line fault (Some first) e = absurd (some_stays (line == first.line) first.line fault first e)

-- where none has a fault so far, none had one before
pub none_before : (line : ℕ) (stmt : Stmt) (state : PassState) → (next_state line stmt state).fault ≡ None → state.fault ≡ None
unfolding next_state
none_before line stmt state e = (none_first line (statement_fault_in stmt state) state.fault e).0

none_own : (line : ℕ) (stmt : Stmt) (state : PassState) → (next_state line stmt state).fault ≡ None → own_fault stmt state ≡ None
unfolding next_state
none_own line stmt state e =
    (lower_none (own_fault stmt state) (literal_fault (role_in stmt) _ (parts_in stmt) state.pool) (none_first line (statement_fault_in stmt state) state.fault e).1).0

pub record IsSoundStatement (stmt : Stmt) (state : PassState) : Type 0 where
  pub extent : (extent_in stmt state).fault ≡ None
  pub definitions : duplicate state.symbols (definitions_in stmt state) ≡ None
  pub in_place : is_astray (role_in stmt) (name_in stmt) state.section state.control ≡ false

-- a CSECT whose name is none has a fault
unnamed : (text : List ℕ) → symbol_name text ≡ None → bad_name text ≡ None → ⊥
unnamed text e f = let no : Some BadOperand ≡ None = ap (λ name. cond (is_some name) None (Some BadOperand)) (sym e) ∙ f in cc

not_astray : (role : Role) (text : List ℕ) (name section control : Option (List ℕ)) → symbol_name text ≡ name → name_fault role text ≡ None
    → section_fault role name section control ≡ None → is_astray role name section control ≡ false
not_astray Control text None section control e f g = absurd (unnamed text e f)
not_astray Control text (Some name) section control e f g = ap is_some g
not_astray (Instruction size) text name section control e f g = ap is_some g
not_astray Pool text name section control e f g = ap is_some g
not_astray Unknown text name section control e f g = refl
not_astray Dummy text name section control e f g = refl
not_astray Equate text name section control e f g = refl
not_astray (Storage is_ds) text name section control e f g = ap is_some g
not_astray Registers text name section control e f g = refl
not_astray Member text name section control e f g = refl
not_astray Nothing text name section control e f g = refl

sound_own : (stmt : Stmt) (state : PassState) → own_fault stmt state ≡ None → IsSoundStatement stmt state
sound_own stmt state e =
    let inner = lower_none (duplicate_in stmt state) None in
    let valued = lower_none (result_err (given_in stmt state)) (lower (duplicate_in stmt state) None) in
    let extent = lower_none (extent_in stmt state).fault (lower (result_err (given_in stmt state)) (lower (duplicate_in stmt state) None)) in
    let placed = lower_none (section_fault (role_in stmt) (name_in stmt) state.section state.control)
    (lower (extent_in stmt state).fault (lower (result_err (given_in stmt state)) (lower (duplicate_in stmt state) None))) in
    let titled = lower_none (name_fault (role_in stmt) stmt.name)
    (lower (section_fault (role_in stmt) (name_in stmt) state.section state.control)
    (lower (extent_in stmt state).fault (lower (result_err (given_in stmt state)) (lower (duplicate_in stmt state) None)))) in
    let operated = lower_none (operation_fault (role_in stmt))
    (lower (name_fault (role_in stmt) stmt.name)
    (lower (section_fault (role_in stmt) (name_in stmt) state.section state.control)
    (lower (extent_in stmt state).fault (lower (result_err (given_in stmt state)) (lower (duplicate_in stmt state) None))))) in
    let h = (extent (placed (titled (operated e).1).1).1) in
    record {
      extent = h.0;
      definitions = (inner (valued h.1).1).0;
      in_place = not_astray (role_in stmt) stmt.name (name_in stmt) state.section state.control refl (titled (operated e).1).0 (placed (titled (operated e).1).1).0;
    }

-- a statement has no fault where there is none after it is taken in
pub sound_statement : (line : ℕ) (stmt : Stmt) (state : PassState) → (next_state line stmt state).fault ≡ None → IsSoundStatement stmt state
sound_statement line stmt state e = sound_own stmt state (none_own line stmt state e)

-- then its section and the control section are those of the names
pub section_named : (line : ℕ) (stmt : Stmt) (state : PassState) → (next_state line stmt state).fault ≡ None
    → (next_state line stmt state).section ≡ named_section (role_in stmt) (name_in stmt) state.section
unfolding next_state
section_named line stmt state e =
    ap (λ astray. cond astray (control_or_blank state.control) (named_section (role_in stmt) (name_in stmt) state.section)) (sound_statement line stmt state e).in_place

pub control_named : (line : ℕ) (stmt : Stmt) (state : PassState) → (next_state line stmt state).fault ≡ None
    → (next_state line stmt state).control ≡ named_control (role_in stmt) (name_in stmt) state.control
unfolding next_state
control_named line stmt state e =
    ap (λ astray. cond astray (control_or_blank state.control) (named_control (role_in stmt) (name_in stmt) state.control)) (sound_statement line stmt state e).in_place
