-- What the statements of an accepted source write is among its resolved lines, and nothing else is.
use Rattle.std.specs.Prelude.{Result, Ok, Err, Contains, ◌==◌, map, slice_get, unwrap_or}
use Rattle.std.specs.List.{AllByRecursion, repeat}
use Rattle.std.specs.Option.{option_map_or}
use Rattle.std.specs.Result.{result_err, result_ok}
use Rattle.std.proofs.Common.{◌≡◌, ℕ, suc, Bool, true, false, cond, Option, Some, None, List, [], ◌∷◌, ◌++◌, inl, inr, ⊎_elim, length, ◌-◌, refl, sym, ap, subst, arith}
use Rattle.std.proofs.lemmas.List.Elements.{Contains-append_cases, Contains-append_left, Contains-append_right}
use Rattle.cx_code.specs.declared.disassembly.Line.{Line}
use Rattle.cx_code.specs.declared.disassembly.LineContent.TheVariants.{Code, Space}
use Rattle.cx_code.specs.Spelling.{Instruction as MadeInstruction}
use Rattle.cx_source.specs.declared.source.Source.{Source}
use Rattle.cx_asm_expressions.specs.Bytes.{CopyOfConstant}
use Rattle.cx_asm_expressions.specs.Faults.{lowest}
use Rattle.cx_asm_expressions.specs.Items.{Constant, constant_in, size_of as constant_size}
use Rattle.cx_asm_expressions.specs.declared.faults.FaultKind.{FaultKind}
use Rattle.cx_asm_expressions.specs.declared.values.Value.{Value}
use Rattle.cx_asm_pools.specs.Pools.{PlacedLiterals}
use Rattle.cx_asm_pass1.specs.Facts.StatementExtents.{lower_none}
use Rattle.cx_asm_pass1.specs.Given.{location_counter}
use Rattle.cx_asm_pass1.specs.PassState.{is_control, role_in}
use Rattle.cx_asm_pass1.specs.Roles.{role_of}
use Rattle.cx_asm_pass1.specs.declared.roles.Role.{Role}
use Rattle.cx_asm_pass1.specs.declared.roles.Role.TheVariants.{Unknown, Instruction, Control, Dummy, Equate, Storage, Pool, Registers, Member, Nothing}
use Rattle.cx_asm_operations.specs.declared.operations.Directive.{Directive}
use Rattle.cx_asm_operations.specs.declared.operations.Directive.TheVariants as directive
use Rattle.cx_asm_operations.specs.declared.operations.Operation.{Operation}
use Rattle.cx_asm_operations.specs.declared.operations.Operation.TheVariants as operation
use Rattle.cx_asm_operands.specs.Bases.{Bases, none_in_use}
use Rattle.cx_asm_operands.specs.Forms.{instruction_or_fault}
use Rattle.cx_asm_pass2.specs.SecondFaults.{bases_after, item_fault, items_fault, literals_fault, operand_fault, second_fault}
use Rattle.cx_asm_pass2.specs.Statements.{PlacedStatement, operation_of, placed_items, statements_of}
use Rattle.cx_asm_pass2.specs.Whole.{Whole, instruction_context, item_made, pool_of, whole_of}
use Rattle.cx_asm.specs.Assembly.{AssemblyParts, assembly_of, standing_of}
use Rattle.cx_asm.specs.Facts.Accepted.{accepted}
use Rattle.cx_asm.specs.Resolving.{constant_standing, counter_at, data_line, data_standing, empty_section, instruction_standing, item_standing, items_standing, last_pool, line, pool_standing, role_standing, space_standing, standing_from, statement_standing}
use Rattle.cx_asm_laws.specs.Facts.Judged.{NoFault, none_judged}
use Rattle.cx_asm_laws.specs.Laws.Standing.{AllStand, AnyByRecursion, AreAmong, IsAmong, IsData, IsInstruction, IsItem, IsLiteral, IsOfRole, IsOfStatements, IsSpace, NothingElseStands, RoleStands, StatementsStand}
use Rattle.cx_asm_laws.proofs.BackLemmas.{resolved_is}
use Rattle.cx_asm_laws.proofs.LiteralLemmas.{HasValue, literals_have_values, no_instruction}

-- ---- lines among others
Has : List Line → List Line → Type 0
Has resolved some = (l : Line) → Contains some l → Contains resolved l

has_left : (resolved one other : List Line) → Has resolved (one ++ other) → Has resolved one
unfolding Has
has_left resolved one other h l k = h l (Contains-append_left one other l k)

has_right : (resolved one other : List Line) → Has resolved (one ++ other) → Has resolved other
unfolding Has
has_right resolved one other h l k = h l (Contains-append_right one other l k)

has_same : (resolved one other : List Line) → one ≡ other → Has resolved one → Has resolved other
has_same resolved one other e h = subst (Has resolved) e h

here : (l : Line) → Contains (l ∷ []) l
here l = (0, omega arith, refl)

data_among : (resolved : List Line) (at : ℕ) (bytes : List ℕ) → Has resolved (data_line at bytes) → AreAmong resolved (data_line at bytes)
unfolding Has
data_among resolved at [] h = tt
data_among resolved at (byte ∷ bytes) h = (h _ (here _), tt)

spaced_among : (resolved : List Line) (at size : ℕ) (is_none : Bool) → Has resolved (cond is_none [] (line at (Space size) ∷ []))
    → AreAmong resolved (cond is_none [] (line at (Space size) ∷ []))
unfolding Has
spaced_among resolved at size true h = tt
spaced_among resolved at size false h = (h _ (here _), tt)

-- ---- items
made_written : (whole : Whole) (is_ds : Bool) (counter : Option Value) (text : List ℕ) (fault : FaultKind) → constant_in is_ds text ≡ Err fault
    → item_made whole is_ds counter text ≡ Err fault
made_written whole is_ds counter text fault e = rw e refl

no_value : (one : Result CopyOfConstant FaultKind) (fault : FaultKind) → one ≡ Err fault → result_err one ≡ None → ⊥
no_value (Ok made) fault e f = cc
no_value (Err other) fault e f = cc

module _ (whole : Whole) (resolved : List Line) where
  space_stands : (counter : Option Value) (item : List ℕ × ℕ) → result_err (item_made whole true counter item.0) ≡ None
      → Has resolved (space_standing item.1 (constant_in true item.0)).lines → IsSpace (AreAmong resolved) item
  space_stands counter item sound h = go (constant_in true item.0) refl h
    where
      go : (found : Result Constant FaultKind) → constant_in true item.0 ≡ found → Has resolved (space_standing item.1 found).lines → IsSpace (AreAmong resolved) item
      go (Ok constant) e h = record {
        constant = constant;
        written = e;
        stands = spaced_among resolved item.1 (constant_size constant) (constant_size constant == 0) h;
      }
      go (Err fault) e h = absurd (no_value (item_made whole true counter item.0) fault (made_written whole true counter item.0 fault e) sound)

  data_stands : (counter : Option Value) (item : List ℕ × ℕ) → result_err (item_made whole false counter item.0) ≡ None
      → Has resolved (data_standing whole counter item.0 item.1).lines → IsData (AreAmong resolved) whole counter item
  data_stands counter item sound h = go (constant_in false item.0) (item_made whole false counter item.0) refl refl sound h
    where
      go : (found : Result Constant FaultKind) (made : Result CopyOfConstant FaultKind) → constant_in false item.0 ≡ found → item_made whole false counter item.0 ≡ made
          → result_err made ≡ None → Has resolved (constant_standing item.1 found made).lines → IsData (AreAmong resolved) whole counter item
      go (Ok constant) (Ok made) e f sound h = record {
        constant = constant;
        written = e;
        once = made;
        value = f;
        stands = data_among resolved item.1 (repeat constant.duplication made.bytes) h;
      }
      go (Err fault) (Ok made) e f sound h = absurd (no_value (item_made whole false counter item.0) fault (made_written whole false counter item.0 fault e) (ap result_err f))
      go found (Err fault) e f sound h = absurd (no_value (Err fault) fault refl sound)

  item_stands : (is_ds : Bool) (s : PlacedStatement) (item : List ℕ × ℕ) → item_fault whole is_ds s item ≡ None → Has resolved (item_standing whole is_ds s item).lines
      → IsItem (AreAmong resolved) whole is_ds s item
  item_stands true s item sound h = space_stands (location_counter s.place.section item.1 1) item sound h
  item_stands false s item sound h = data_stands (location_counter s.place.section item.1 1) item sound h

  items_stand : (is_ds : Bool) (s : PlacedStatement) (items : List (List ℕ × ℕ)) → lowest (map (item_fault whole is_ds s) items) ≡ None
      → Has resolved (items_standing whole is_ds s items).lines → AllByRecursion (IsItem (AreAmong resolved) whole is_ds s) items
  items_stand is_ds s [] sound h = tt
  items_stand is_ds s (item ∷ items) sound h =
      let both = lower_none (item_fault whole is_ds s item) (lowest (map (item_fault whole is_ds s) items)) sound in (
        item_stands is_ds s item both.0 (has_left resolved (item_standing whole is_ds s item).lines (items_standing whole is_ds s items).lines h),
        items_stand is_ds s items both.1 (has_right resolved (item_standing whole is_ds s item).lines (items_standing whole is_ds s items).lines h),
      )

  -- ---- literals
  pool_stands : (statements : List PlacedStatement) (pool : PlacedLiterals) → AllByRecursion (HasValue whole statements) pool
      → Has resolved (pool_standing whole statements pool).lines → AllByRecursion (IsLiteral (AreAmong resolved) whole statements) pool
  pool_stands statements [] values h = tt
  pool_stands statements (e ∷ pool) values h =
      let own = values.0 in
      let there = has_left resolved (data_standing whole (counter_at statements e.1.user) e.0 e.1.offset).lines (pool_standing whole statements pool).lines h in (
        record {
          constant = own.constant;
          written = own.written;
          once = own.once;
          value = own.value;
          stands =
              data_among resolved e.1.offset (repeat own.constant.duplication own.once.bytes)
              (has_same resolved (data_standing whole (counter_at statements e.1.user) e.0 e.1.offset).lines (data_line e.1.offset (repeat own.constant.duplication own.once.bytes))
              (rw (own.value, own.written) refl) there);
        },
        pool_stands statements pool values.1 (has_right resolved (data_standing whole (counter_at statements e.1.user) e.0 e.1.offset).lines (pool_standing whole statements pool).lines h),
      )

  -- ---- an instruction
  made_stands : (bases : Bases) (s : PlacedStatement) (o : Operation) → operation_of s ≡ Some o
      → result_err (instruction_or_fault o (instruction_context whole bases s) s.stmt.operand) ≡ None → Has resolved (instruction_standing whole bases s o).lines
      → IsInstruction (AreAmong resolved) whole bases s
  unfolding Has
  made_stands bases s o named sound h = go (instruction_or_fault o (instruction_context whole bases s) s.stmt.operand) refl sound h
    where
      go : (found : Result MadeInstruction FaultKind) → instruction_or_fault o (instruction_context whole bases s) s.stmt.operand ≡ found → result_err found ≡ None
          → Has resolved (option_map_or (λ i. line s.place.offset (Code i) ∷ []) (result_ok found) []) → IsInstruction (AreAmong resolved) whole bases s
      go (Ok made) is none h = record { operation = o; named = named; made = made; resolved = is; stands = (h _ (here _), tt) }
      go (Err fault) is none h = absurd (cc)

  instruction_stands : (bases : Bases) (number : ℕ) (s : PlacedStatement) (size : ℕ) (o : Option Operation) → operation_of s ≡ o → role_of o ≡ Instruction size
      → operand_fault whole bases number s o ≡ None → Has resolved (option_map_or (instruction_standing whole bases s) o empty_section).lines
      → IsInstruction (AreAmong resolved) whole bases s
  instruction_stands bases number s size None named e none h = absurd (cc)
  instruction_stands bases number s size (Some (operation.Machine op)) named e none h =
      made_stands bases s (operation.Machine op) named (lower_none _ (literals_fault whole number s) none).0 h
  instruction_stands bases number s size (Some (operation.Branch b)) named e none h =
      made_stands bases s (operation.Branch b) named (lower_none _ (literals_fault whole number s) none).0 h
  instruction_stands bases number s size (Some (operation.RegisterBranch b)) named e none h =
      made_stands bases s (operation.RegisterBranch b) named (lower_none _ (literals_fault whole number s) none).0 h
  instruction_stands bases number s size (Some (operation.Directive d)) named e none h = absurd (no_instruction d size e)

  -- ---- a statement
  directive_items : (bases : Bases) (number : ℕ) (s : PlacedStatement) (d : Directive) (is_ds : Bool) → role_of (Some (operation.Directive d)) ≡ Storage is_ds
      → operand_fault whole bases number s (Some (operation.Directive d)) ≡ None → items_fault whole is_ds s ≡ None
  directive_items bases number s directive.Dc true e f = absurd (cc)
  directive_items bases number s directive.Dc false e f = f
  directive_items bases number s directive.Ds true e f = f
  directive_items bases number s directive.Ds false e f = absurd (cc)
  directive_items bases number s directive.Csect is_ds e f = absurd (cc)
  directive_items bases number s directive.Start is_ds e f = absurd (cc)
  directive_items bases number s directive.Dsect is_ds e f = absurd (cc)
  directive_items bases number s directive.Equ is_ds e f = absurd (cc)
  directive_items bases number s directive.Ltorg is_ds e f = absurd (cc)
  directive_items bases number s directive.Dfhregs is_ds e f = absurd (cc)
  directive_items bases number s directive.Copy is_ds e f = absurd (cc)
  directive_items bases number s directive.Using is_ds e f = absurd (cc)
  directive_items bases number s directive.Drop is_ds e f = absurd (cc)
  directive_items bases number s directive.End is_ds e f = absurd (cc)
  directive_items bases number s directive.Title is_ds e f = absurd (cc)
  directive_items bases number s directive.Print is_ds e f = absurd (cc)
  directive_items bases number s directive.Eject is_ds e f = absurd (cc)
  directive_items bases number s directive.Space is_ds e f = absurd (cc)

  operation_items : (bases : Bases) (number : ℕ) (s : PlacedStatement) (o : Option Operation) (is_ds : Bool) → role_of o ≡ Storage is_ds
      → operand_fault whole bases number s o ≡ None → items_fault whole is_ds s ≡ None
  operation_items bases number s None is_ds e f = absurd (cc)
  operation_items bases number s (Some (operation.Machine op)) is_ds e f = absurd (cc)
  operation_items bases number s (Some (operation.Branch branch)) is_ds e f = absurd (cc)
  operation_items bases number s (Some (operation.RegisterBranch branch)) is_ds e f = absurd (cc)
  operation_items bases number s (Some (operation.Directive d)) is_ds e f = directive_items bases number s d is_ds e f

  no_operand_fault : (bases : Bases) (number : ℕ) (s : PlacedStatement) → second_fault whole bases number s ≡ None → operand_fault whole bases number s (operation_of s) ≡ None
  unfolding second_fault
  no_operand_fault bases number s e = e

  module _ (statements : List PlacedStatement) (values : (n : ℕ) → AllByRecursion (HasValue whole statements) (unwrap_or (slice_get whole.pools n) [])) where
    role_stands : (bases : Bases) (number : ℕ) (s : PlacedStatement) (role : Role) → role_in s.stmt ≡ role → second_fault whole bases number s ≡ None
        → Has resolved (role_standing whole statements bases s role).lines → RoleStands whole statements resolved bases s role
    role_stands bases number s (Storage is_ds) e sound h =
        items_stand is_ds s (placed_items s) (operation_items bases number s (operation_of s) is_ds e (no_operand_fault bases number s sound)) h
    role_stands bases number s Pool e sound h = pool_stands statements (pool_of whole s) (values s.place.pool) h
    role_stands bases number s (Instruction size) e sound h =
        instruction_stands bases number s size (operation_of s) refl e (no_operand_fault bases number s sound) h
    role_stands bases number s Unknown e sound h = tt
    role_stands bases number s Control e sound h = tt
    role_stands bases number s Dummy e sound h = tt
    role_stands bases number s Equate e sound h = tt
    role_stands bases number s Registers e sound h = tt
    role_stands bases number s Member e sound h = tt
    role_stands bases number s Nothing e sound h = tt

    statement_stands : (bases : Bases) (number : ℕ) (s : PlacedStatement) → second_fault whole bases number s ≡ None → Has resolved (statement_standing whole statements bases s).lines
        → is_control s.place.section whole.control ≡ true → RoleStands whole statements resolved bases s (role_in s.stmt)
    unfolding statement_standing
    statement_stands bases number s sound h within =
        role_stands bases number s (role_in s.stmt) refl sound
        (subst (λ is. Has resolved (cond is (role_standing whole statements bases s (role_in s.stmt)) empty_section).lines) within h)

    -- ---- all of them
    all_stand : (bases : Bases) (number : ℕ) (rest : List PlacedStatement) → NoFault whole bases number rest → Has resolved (standing_from whole statements bases rest).lines
        → StatementsStand whole statements resolved bases rest
    unfolding NoFault
    all_stand bases number [] sound h = pool_stands statements (last_pool whole) (values (length whole.pools - 1)) h
    all_stand bases number (s ∷ rest) sound h = (
      statement_stands bases number s sound.0
          (has_left resolved (statement_standing whole statements bases s).lines (standing_from whole statements (bases_after whole bases s) rest).lines h),
      all_stand (bases_after whole bases s) (suc number) rest sound.1
          (has_right resolved (statement_standing whole statements bases s).lines (standing_from whole statements (bases_after whole bases s) rest).lines h),
    )

standing_stands : (source : Source) (made : AssemblyParts) → assembly_of source ≡ Ok made
    → StatementsStand (whole_of source) (statements_of source) (standing_of source).lines none_in_use (statements_of source)
unfolding standing_of Has
standing_stands source made e =
    let whole = whole_of source in
    let resolved = (standing_from whole (statements_of source) none_in_use (statements_of source)).lines in
    all_stand whole resolved (statements_of source) (literals_have_values source made e) none_in_use 0 (statements_of source) (none_judged source (accepted source made e).second) (λ l k. k)

pub each_stands : AllStand
each_stands source made e =
    subst (λ lines. StatementsStand (whole_of source) (statements_of source) lines none_in_use (statements_of source)) (resolved_is source made e) (standing_stands source made e)

-- ---- and nothing else is
pub none_there : (l : Line) → Contains [] l → ⊥
none_there l h = (let less = h.1 in omega (arith, less))

module _ (whole : Whole) (l : Line) where
  space_of : (item : List ℕ × ℕ) → Contains (space_standing item.1 (constant_in true item.0)).lines l → IsSpace (IsAmong l) item
  space_of item h = go (constant_in true item.0) refl h
    where
      go : (found : Result Constant FaultKind) → constant_in true item.0 ≡ found → Contains (space_standing item.1 found).lines l → IsSpace (IsAmong l) item
      go (Ok constant) e h = record { constant = constant; written = e; stands = h }
      go (Err fault) e h = absurd (none_there l h)

  data_of : (counter : Option Value) (item : List ℕ × ℕ) → Contains (data_standing whole counter item.0 item.1).lines l → IsData (IsAmong l) whole counter item
  data_of counter item h = go (constant_in false item.0) (item_made whole false counter item.0) refl refl h
    where
      go : (found : Result Constant FaultKind) (made : Result CopyOfConstant FaultKind) → constant_in false item.0 ≡ found → item_made whole false counter item.0 ≡ made
          → Contains (constant_standing item.1 found made).lines l → IsData (IsAmong l) whole counter item
      go (Ok constant) (Ok made) e f h = record { constant = constant; written = e; once = made; value = f; stands = h }
      go (Ok constant) (Err fault) e f h = absurd (none_there l h)
      go (Err fault) made e f h = absurd (none_there l h)

  item_of : (is_ds : Bool) (s : PlacedStatement) (item : List ℕ × ℕ) → Contains (item_standing whole is_ds s item).lines l → IsItem (IsAmong l) whole is_ds s item
  item_of true s item h = space_of item h
  item_of false s item h = data_of (location_counter s.place.section item.1 1) item h

  items_of : (is_ds : Bool) (s : PlacedStatement) (items : List (List ℕ × ℕ)) → Contains (items_standing whole is_ds s items).lines l
      → AnyByRecursion (IsItem (IsAmong l) whole is_ds s) items
  items_of is_ds s [] h = none_there l h
  items_of is_ds s (item ∷ items) h = ⊎_elim
      (λ one. inl (item_of is_ds s item one))
      (λ more. inr (items_of is_ds s items more))
      (Contains-append_cases (item_standing whole is_ds s item).lines (items_standing whole is_ds s items).lines l h)

  literals_of : (statements : List PlacedStatement) (pool : PlacedLiterals) → Contains (pool_standing whole statements pool).lines l
      → AnyByRecursion (IsLiteral (IsAmong l) whole statements) pool
  literals_of statements [] h = none_there l h
  literals_of statements (e ∷ pool) h = ⊎_elim
      (λ one. inl (data_of (counter_at statements e.1.user) (e.0, e.1.offset) one))
      (λ more. inr (literals_of statements pool more))
      (Contains-append_cases (data_standing whole (counter_at statements e.1.user) e.0 e.1.offset).lines (pool_standing whole statements pool).lines l h)

  instruction_of : (bases : Bases) (s : PlacedStatement) (o : Option Operation) → operation_of s ≡ o
      → Contains (option_map_or (instruction_standing whole bases s) o empty_section).lines l → IsInstruction (IsAmong l) whole bases s
  instruction_of bases s None named h = absurd (none_there l h)
  instruction_of bases s (Some o) named h = go (instruction_or_fault o (instruction_context whole bases s) s.stmt.operand) refl h
    where
      go : (found : Result MadeInstruction FaultKind) → instruction_or_fault o (instruction_context whole bases s) s.stmt.operand ≡ found
          → Contains (option_map_or (λ i. line s.place.offset (Code i) ∷ []) (result_ok found) []) l → IsInstruction (IsAmong l) whole bases s
      go (Ok made) is h = record { operation = o; named = named; made = made; resolved = is; stands = h }
      go (Err fault) is h = absurd (none_there l h)

  role_of_line : (statements : List PlacedStatement) (bases : Bases) (s : PlacedStatement) (role : Role) → Contains (role_standing whole statements bases s role).lines l
      → IsOfRole whole statements l bases s role
  role_of_line statements bases s (Instruction size) h = instruction_of bases s (operation_of s) refl h
  role_of_line statements bases s (Storage is_ds) h = items_of is_ds s (placed_items s) h
  role_of_line statements bases s Pool h = literals_of statements (pool_of whole s) h
  role_of_line statements bases s Unknown h = none_there l h
  role_of_line statements bases s Control h = none_there l h
  role_of_line statements bases s Dummy h = none_there l h
  role_of_line statements bases s Equate h = none_there l h
  role_of_line statements bases s Registers h = none_there l h
  role_of_line statements bases s Member h = none_there l h
  role_of_line statements bases s Nothing h = none_there l h

  statement_of_line : (statements : List PlacedStatement) (bases : Bases) (s : PlacedStatement) → Contains (statement_standing whole statements bases s).lines l
      → (is_control s.place.section whole.control ≡ true) × IsOfRole whole statements l bases s (role_in s.stmt)
  unfolding statement_standing
  statement_of_line statements bases s h = go (is_control s.place.section whole.control) refl h
    where
      go : (is : Bool) → is_control s.place.section whole.control ≡ is → Contains (cond is (role_standing whole statements bases s (role_in s.stmt)) empty_section).lines l
          → (is_control s.place.section whole.control ≡ true) × IsOfRole whole statements l bases s (role_in s.stmt)
      go true e h = (e, role_of_line statements bases s (role_in s.stmt) h)
      go false e h = absurd (none_there l h)

  from_line : (statements : List PlacedStatement) (bases : Bases) (rest : List PlacedStatement) → Contains (standing_from whole statements bases rest).lines l
      → IsOfStatements whole statements l bases rest
  from_line statements bases [] h = literals_of statements (last_pool whole) h
  from_line statements bases (s ∷ rest) h = ⊎_elim
      (λ one. inl (statement_of_line statements bases s one))
      (λ more. inr (from_line statements (bases_after whole bases s) rest more))
      (Contains-append_cases (statement_standing whole statements bases s).lines (standing_from whole statements (bases_after whole bases s) rest).lines l h)

pub nothing_else_stands : NothingElseStands
unfolding standing_of
nothing_else_stands source made one e there =
    from_line (whole_of source) one (statements_of source) none_in_use (statements_of source)
    (subst (λ lines. Contains lines one) (sym (resolved_is source made e)) there)
