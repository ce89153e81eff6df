-- The first pass of the statements that lines are written as.
use Rattle.std.specs.Prelude.{codes, decimal, map, nat_le, pos, ⊤, unwrap_or, flat_map}
use Rattle.std.specs.Result.{result_err, result_ok}
use Rattle.std.proofs.Common.{◌≡◌, ◌≤◌, ◌<◌, ℕ, ◌+◌, ◌-◌, ◌*◌, ◌/◌, ◌%◌, Bool, true, false, Option, Some, None, Ok, List, [], ◌∷◌, ◌++◌, length, refl, sym, ◌∙◌, ap, subst, arith}
use Rattle.std.specs.List.{AllByRecursion}
use Rattle.std.proofs.lemmas.Bool.Decides.{nat_tests}
use Rattle.cx_code.specs.Spelling.{Instruction, IsWellFormed, spelling}
use Rattle.cx_code.specs.Table.{is_shift, length_of, mnemonic_of, ops, operation_row}
use Rattle.cx_code.specs.Text.{hex_pair, operands}
use Rattle.cx_code.specs.declared.disassembly.LineContent.{LineContent}
use Rattle.cx_code.specs.declared.disassembly.LineContent.TheVariants.{Code, Data, Space}
use Rattle.cx_code.specs.declared.table.Op.{Op}
use Rattle.cx_ebcdic.specs.Facts.Names.{is_name-decides}
use Rattle.cx_source.specs.Lines.{is_letter, is_symbol_name}
use Rattle.cx_source.specs.Marks.{parts}
use Rattle.cx_source.specs.declared.source.Stmt.{Stmt}
use Rattle.cx_asm_expressions.specs.Digits.{bound}
use Rattle.cx_asm_expressions.specs.Faults.{lowest}
use Rattle.cx_asm_expressions.specs.Items.{Constant, alignment_of, constant, constant_in, length_of as constant_length, size_of as constant_size}
use Rattle.cx_asm_expressions.specs.Names.{is_same, symbol_name}
use Rattle.cx_asm_expressions.specs.Symbols.{absolute}
use Rattle.cx_asm_expressions.specs.declared.faults.FaultKind.{FaultKind}
use Rattle.cx_asm_expressions.specs.declared.kinds.ConstantKind.TheVariants.{Hexadecimal}
use Rattle.cx_asm_expressions.specs.declared.values.Value.{Value}
use Rattle.cx_asm_pools.specs.Pools.{OpenLiterals, PlacedLiterals, cap, literal_text, literal_constant_fault, pool_extent, with_part, with_parts}
use Rattle.cx_asm_pass1.specs.Facts.Faults.{control_named, section_named}
use Rattle.cx_asm_pass1.specs.Facts.StatementExtents.{capped_same}
use Rattle.cx_asm_pass1.specs.Given.{definitions, duplicate, value_given}
use Rattle.cx_asm_pass1.specs.Layout.{align, extent_at, extent_of, items_at}
use Rattle.cx_asm_pass1.specs.PassState.{PassState, named_control, named_section, duplicate_in, extent_in, statement_fault_in, given_in, length_after, length_of_section, literal_fault, name_fault, name_in, next_in, next_state, operation_fault, own_fault, parts_in, place_in, pool_after, pools_after, role_in, section_fault}
use Rattle.cx_asm_pass1.specs.Roles.{role_of}
use Rattle.cx_asm_pass1.specs.declared.place.Place.{Place}
use Rattle.cx_asm_pass1.specs.declared.roles.Role.{Role}
use Rattle.cx_asm_pass1.specs.declared.roles.Role.TheVariants.{Unknown, Instruction as Machine, Control, Dummy, Equate, Storage, Pool, Registers, Member, Nothing}
use Rattle.cx_asm_operations.specs.Operations.{branches, directives, operation_named, operations, register_branches}
use Rattle.cx_asm_operations.specs.declared.operations.Directive.TheVariants as directive
use Rattle.cx_asm_operations.specs.declared.operations.Operation.TheVariants as operation
use Rattle.cx_asm_image.specs.Resolved.{size_of}
use Rattle.cx_asm_laws.specs.Facts.Hexadecimals.{EachIsByte, constant_is, hex_length, hex_plain}
use Rattle.cx_asm_laws.specs.Laws.Again.{statement, statement_of}
use Rattle.cx_asm_laws.proofs.ReadLemmas.{data_operand, no_literals, space_operand, space_written}

-- ---- what is written
abbrev pub IsSoundAt : ℕ → LineContent → Type 0
IsSoundAt at (Code i) = IsWellFormed i × (at % 2 ≡ 0)
IsSoundAt at (Data bytes) = EachIsByte bytes × (0 < length bytes)
IsSoundAt at (Space n) = (1 ≤ n) × (n ≤ 65535)

abbrev pub AreSoundFrom : ℕ → List LineContent → Type 0
AreSoundFrom at [] = ⊤
AreSoundFrom at (what ∷ whats) = IsSoundAt at what × AreSoundFrom (at + size_of what) whats

abbrev pub end_from : ℕ → List LineContent → ℕ
end_from at [] = at
end_from at (what ∷ whats) = end_from (at + size_of what) whats

pub end_after : (at : ℕ) (whats : List LineContent) → at ≤ end_from at whats
end_after at [] = omega arith
end_after at (what ∷ whats) = (let more = end_after (at + size_of what) whats in omega (arith, more))

-- laws of lower crates
pub record Known : Type 0 where
  pub named : (op : Op) → operation_named (mnemonic_of op) ≡ Some (operation.Machine op)
  pub sizes : (i : Instruction) → IsWellFormed i → length (spelling i) ≡ length_of i.op

pub dc_named : operation_named (codes "DC") ≡ Some (operation.Directive directive.Dc)
unfolding operation_named operations branches register_branches directives ops operation_row
dc_named = refl

pub ds_named : operation_named (codes "DS") ≡ Some (operation.Directive directive.Ds)
unfolding operation_named operations branches register_branches directives ops operation_row
ds_named = refl

pub csect_named : operation_named (codes "CSECT") ≡ Some (operation.Directive directive.Csect)
unfolding operation_named operations branches register_branches directives ops operation_row
csect_named = refl

pub end_named : operation_named (codes "END") ≡ Some (operation.Directive directive.End)
unfolding operation_named operations branches register_branches directives ops operation_row
end_named = refl

-- ---- the state in the section
pub record IsAt (section : List ℕ) (at : ℕ) (state : PassState) : Type 0 where
  pub section_is : state.section ≡ Some section
  pub control_is : state.control ≡ Some section
  pub length_is : state.lengths section ≡ at
  pub others : (name : List ℕ) → is_same name section ≡ false → state.lengths name ≡ 0
  pub pool_is : state.pool ≡ []
  pub pools_is : state.pools ≡ []
  pub fault_is : state.fault ≡ None

pub same_section : (section : List ℕ) → is_same section section ≡ true
same_section section = (is_name-decides section section).1 refl

-- instructions, DS and DC, and END
abbrev IsMild : Role → Type 0
IsMild (Machine size) = ⊤
IsMild (Storage is_ds) = ⊤
IsMild Nothing = ⊤
IsMild role = ⊥

-- what holds of each of these holds of what is mild
by_mild : (P : Role → Type 0) → ((size : ℕ) → P (Machine size)) → ((is_ds : Bool) → P (Storage is_ds)) → P Nothing → (r : Role) → IsMild r → P r
by_mild P machine storage nothing (Machine size) m = machine size
by_mild P machine storage nothing (Storage is_ds) m = storage is_ds
by_mild P machine storage nothing Nothing m = nothing
by_mild P machine storage nothing Unknown m = absurd m
by_mild P machine storage nothing Control m = absurd m
by_mild P machine storage nothing Dummy m = absurd m
by_mild P machine storage nothing Equate m = absurd m
by_mild P machine storage nothing Pool m = absurd m
by_mild P machine storage nothing Registers m = absurd m
by_mild P machine storage nothing Member m = absurd m

mild_section : (r : Role) → IsMild r → (name section : Option (List ℕ)) → named_section r name section ≡ section
mild_section r m name section = by_mild (λ r. named_section r name section ≡ section) (λ size. refl) (λ is_ds. refl) refl r m

mild_control : (r : Role) → IsMild r → (name control : Option (List ℕ)) → named_control r name control ≡ control
mild_control r m name control = by_mild (λ r. named_control r name control ≡ control) (λ size. refl) (λ is_ds. refl) refl r m

abbrev pub IsNoLiteral : List ℕ → Type 0
IsNoLiteral part = literal_text part ≡ None

none_used : (user : ℕ) (pool : OpenLiterals) (parts : List (List ℕ)) → AllByRecursion IsNoLiteral parts → with_parts user pool parts ≡ pool
none_used user pool [] h = refl
none_used user pool (part ∷ parts) h =
    let same : with_part user pool part ≡ pool = rw h.0 refl in
    ap (λ p. with_parts user p parts) same ∙ none_used user pool parts h.1

none_faulty : (parts : List (List ℕ)) → AllByRecursion IsNoLiteral parts → lowest (map literal_constant_fault parts) ≡ None
none_faulty [] h = refl
none_faulty (part ∷ parts) h = rw (h.0, none_faulty parts h.1) refl

abbrev Uses : Role → List (List ℕ) → Type 0
Uses (Machine size) parts = AllByRecursion IsNoLiteral parts
Uses role parts = ⊤

mild_pool : (r : Role) → IsMild r → (user : ℕ) (parts : List (List ℕ)) (pool : OpenLiterals) → Uses r parts → pool_after r user parts pool ≡ pool
mild_pool r m user parts pool =
    by_mild (λ r. Uses r parts → pool_after r user parts pool ≡ pool) (λ size h. none_used user pool parts h) (λ is_ds h. refl) (λ h. refl) r m

mild_pools : (r : Role) → IsMild r → (offset : ℕ) (pool : OpenLiterals) (pools : List PlacedLiterals) → pools_after r offset pool pools ≡ pools
mild_pools r m offset pool pools = by_mild (λ r. pools_after r offset pool pools ≡ pools) (λ size. refl) (λ is_ds. refl) refl r m

-- ---- it has no fault
record IsQuiet (r : Role) (section : List ℕ) (user : ℕ) (parts : List (List ℕ)) : Type 0 where
  operated : operation_fault r ≡ None
  unnamed : name_fault r [] ≡ None
  within : section_fault r None (Some section) (Some section) ≡ None
  given : (find : List ℕ → Option Value) (operand : List ℕ) (s : Stmt) (state : PassState) → result_err (value_given r None find (Some section) operand (extent_in s state)) ≡ None
  once : (find : List ℕ → Option Value) (operand : List ℕ) (value : Option Value) → duplicate find (definitions r None (Some section) find operand value) ≡ None
  literals : literal_fault r user parts [] ≡ None

mild_quiet : (r : Role) → IsMild r → (section : List ℕ) (user : ℕ) (parts : List (List ℕ)) → Uses r parts → IsQuiet r section user parts
mild_quiet r m section user parts = by_mild (λ r. Uses r parts → IsQuiet r section user parts) machine storage nothing r m
  where
    machine : (size : ℕ) → AllByRecursion IsNoLiteral parts → IsQuiet (Machine size) section user parts
    machine size h =
        record {
          operated = refl;
          unnamed = refl;
          within = rw (same_section section) refl;
          given = λ find operand s state. refl;
          once = λ find operand value. refl;
          literals = rw (none_faulty parts h, none_used user [] parts h) refl;
        }

    storage : (is_ds : Bool) → ⊤ → IsQuiet (Storage is_ds) section user parts
    storage is_ds h =
        record { operated = refl; unnamed = refl; within = refl; given = λ find operand s state. refl; once = λ find operand value. refl; literals = refl }

    nothing : ⊤ → IsQuiet Nothing section user parts
    nothing h =
        record { operated = refl; unnamed = refl; within = refl; given = λ find operand s state. refl; once = λ find operand value. refl; literals = refl }

no_name : symbol_name [] ≡ None
unfolding symbol_name is_symbol_name is_letter
no_name = refl

all_none : (a b c d e f : Option FaultKind) → a ≡ None → b ≡ None → c ≡ None → d ≡ None → e ≡ None → f ≡ None → lowest (a ∷ b ∷ c ∷ d ∷ e ∷ f ∷ []) ≡ None
all_none a b c d e f ha hb hc hd he hf = rw (ha, hb, hc, hd, he, hf) refl

module _ (section operation operand : List ℕ) (at : ℕ) (state : PassState) (is : IsAt section at state) where
  abbrev stmt : Stmt
  stmt = statement [] operation operand

  quiet : (r : Role) → IsMild r → role_in stmt ≡ r → Uses r (parts_in stmt) → (extent_in stmt state).fault ≡ None → statement_fault_in stmt state ≡ None
  quiet r m role uses extent =
      let q = mild_quiet r m section (length state.places) (parts_in stmt) uses in
      let own : own_fault stmt state ≡ None =
      all_none (operation_fault (role_in stmt)) (name_fault (role_in stmt) []) (section_fault (role_in stmt) (name_in stmt) state.section state.control) (extent_in stmt state).fault (result_err (given_in stmt state)) (duplicate_in stmt state)
      (ap operation_fault role ∙ q.operated) (ap (λ k. name_fault k []) role ∙ q.unnamed)
      (rw (role, no_name, is.section_is, is.control_is) q.within) extent
      (ap (λ k. result_err (value_given k (name_in stmt) state.symbols state.section operand (extent_in stmt state))) role
      ∙ ap (λ k. result_err (value_given r k state.symbols state.section operand (extent_in stmt state))) no_name
      ∙ ap (λ k. result_err (value_given r None state.symbols k operand (extent_in stmt state))) is.section_is ∙ q.given state.symbols operand stmt state)
      (once r role q) in
      rw own (ap (λ k. literal_fault k (length state.places) (parts_in stmt) state.pool) role ∙ ap (literal_fault r (length state.places) (parts_in stmt)) is.pool_is ∙ q.literals)
    where
      once : (r : Role) → role_in stmt ≡ r → IsQuiet r section (length state.places) (parts_in stmt) → duplicate_in stmt state ≡ None
      once r role q =
          let value : Option Value = unwrap_or (result_ok (given_in stmt state)) (Some (absolute (pos 0))) in
          ap (λ k. duplicate state.symbols (definitions k (name_in stmt) state.control state.symbols operand value)) role
          ∙ ap (λ k. duplicate state.symbols (definitions r k state.control state.symbols operand value)) no_name
          ∙ ap (λ k. duplicate state.symbols (definitions r None k state.symbols operand value)) is.control_is ∙ q.once state.symbols operand value

  mild_next : (line : ℕ) (r : Role) → IsMild r → role_in stmt ≡ r → Uses r (parts_in stmt) → (offset end size : ℕ) (items : List ℕ) → extent_in stmt state ≡ extent_at offset items end size None
      → IsAt section end (next_state line stmt state)
  unfolding next_state
  mild_next line r m role uses offset end size items extent =
      let ends : (extent_in stmt state).end ≡ end = ap (λ k. k.end) extent in
      let sound : (next_state line stmt state).fault ≡ None = rw (quiet r m role uses (ap (λ k. k.fault) extent), is.fault_is) refl in
      record {
        section_is = section_named line stmt state sound ∙ ap (λ k. named_section k (name_in stmt) state.section) role
            ∙ mild_section r m (name_in stmt) state.section ∙ is.section_is;
        control_is = control_named line stmt state sound ∙ ap (λ k. named_control k (name_in stmt) state.control) role
            ∙ mild_control r m (name_in stmt) state.control ∙ is.control_is;
        length_is = own ends;
        others = λ name differs. other name differs;
        pool_is = ap (λ k. pool_after k (length state.places) (parts_in stmt) state.pool) role ∙ mild_pool r m (length state.places) (parts_in stmt) state.pool uses ∙ is.pool_is;
        pools_is = ap (λ k. pools_after k (extent_in stmt state).offset state.pool state.pools) role ∙ mild_pools r m (extent_in stmt state).offset state.pool state.pools ∙ is.pools_is;
        fault_is = sound;
      }
    where
      own : (extent_in stmt state).end ≡ end → length_after state.section (extent_in stmt state).end state.lengths section ≡ end
      own ends = ap (λ k. length_after k (extent_in stmt state).end state.lengths section) is.section_is ∙ rw (same_section section) ends

      other : (name : List ℕ) → is_same name section ≡ false → length_after state.section (extent_in stmt state).end state.lengths name ≡ 0
      other name differs = ap (λ k. length_after k (extent_in stmt state).end state.lengths name) is.section_is ∙ rw differs (is.others name differs)

  next_is : at ≤ 65536 → next_in state ≡ at
  next_is small = ap (λ k. cap (length_of_section k state.lengths)) is.section_is ∙ ap cap is.length_is ∙ capped_same at (omega (arith, small))

  -- ---- extents
  code_extent : (op : Op) → role_in stmt ≡ Machine (length_of op) → at % 2 ≡ 0 → at + length_of op ≤ 65536 → extent_in stmt state ≡ extent_at at [] (at + length_of op) (length_of op) None
  unfolding extent_of
  code_extent op role even small =
      let first : extent_in stmt state ≡ extent_of (Machine (length_of op)) (parts_in stmt) (pool_extent state.pool) at =
      ap (λ k. extent_of k (parts_in stmt) (pool_extent state.pool) (next_in state)) role ∙ ap (extent_of (Machine (length_of op)) (parts_in stmt) (pool_extent state.pool)) (next_is (omega (arith, small))) in
      let aligned : align 2 at ≡ at = (let same : (at + (2 - 1)) / 2 * 2 ≡ at = omega (arith, even) in same) in
      let capped : cap (length_of op) ≡ length_of op = capped_same (length_of op) (omega (arith, small)) in
      let within : nat_le (at + length_of op) bound ≡ true = grind (arith, nat_tests, small) in
      first ∙ rw (aligned, capped, within) refl

  storage_extent : (is_ds : Bool) (c : Constant) (size : ℕ) → role_in stmt ≡ Storage is_ds → parts_in stmt ≡ operand ∷ [] → constant_in is_ds operand ≡ Ok c → alignment_of c ≡ 1 → constant_size c ≡ size
      → constant_length c ≡ size → at + size ≤ 65536 → extent_in stmt state ≡ extent_at at (at ∷ []) (at + size) size None
  unfolding extent_of
  storage_extent is_ds c size role one written unaligned sized long small =
      let first : extent_in stmt state ≡ extent_of (Storage is_ds) (parts_in stmt) (pool_extent state.pool) at =
      ap (λ k. extent_of k (parts_in stmt) (pool_extent state.pool) (next_in state)) role ∙ ap (extent_of (Storage is_ds) (parts_in stmt) (pool_extent state.pool)) (next_is (omega (arith, small))) in
      let second : extent_of (Storage is_ds) (parts_in stmt) (pool_extent state.pool) at ≡ items_at (Ok c ∷ []) at =
      ap (λ k. items_at (map (constant_in is_ds) k) at) one ∙ ap (λ k. items_at (k ∷ []) at) written in
      let at_capped : cap at ≡ at = capped_same at (omega (arith, small)) in
      let capped : cap size ≡ size = capped_same size (omega (arith, small)) in
      let aligned : (at + (1 - 1)) / 1 * 1 ≡ at = omega arith in
      let within : nat_le (at + size) bound ≡ true = grind (arith, nat_tests, small) in
      first ∙ second ∙ rw (unaligned, at_capped, aligned, sized, capped, long, within) refl

  nothing_extent : role_in stmt ≡ Nothing → at ≤ 65536 → extent_in stmt state ≡ extent_at at [] at 1 None
  unfolding extent_of
  nothing_extent role small =
      ap (λ k. extent_of k (parts_in stmt) (pool_extent state.pool) (next_in state)) role ∙ ap (extent_of Nothing (parts_in stmt) (pool_extent state.pool)) (next_is small)

  place_is : (offset end size : ℕ) (items : List ℕ) → extent_in stmt state ≡ extent_at offset items end size None → place_in stmt state ≡ record { section = Some section; offset = offset; items = items; pool = 0 }
  place_is offset end size items extent = rw (extent, is.section_is, is.pools_is) refl

-- ---- constants
data_length : (bytes : List ℕ) → constant_length (constant 1 Hexadecimal None (Some (flat_map hex_pair bytes))) ≡ length bytes
unfolding constant_length
data_length bytes = (let many = hex_length bytes in omega (arith, many))

data_size : (bytes : List ℕ) → constant_size (constant 1 Hexadecimal None (Some (flat_map hex_pair bytes))) ≡ length bytes
data_size bytes = (let own = data_length bytes in omega (arith, own))

space_length : (n : ℕ) → constant_length (constant 1 Hexadecimal (Some n) None) ≡ n
unfolding constant_length
space_length n = refl

pub space_size : (n : ℕ) → constant_size (constant 1 Hexadecimal (Some n) None) ≡ n
space_size n = (let own = space_length n in omega (arith, own))

-- ---- one line
abbrev pub items_of : ℕ → LineContent → List ℕ
items_of at (Code i) = []
items_of at what = at ∷ []

abbrev pub place_of : List ℕ → ℕ → LineContent → Place
place_of section at what = record { section = Some section; offset = at; items = items_of at what; pool = 0 }

pub record Step (section : List ℕ) (line at : ℕ) (what : LineContent) (state : PassState) : Type 0 where
  pub place : place_in (statement_of what) state ≡ place_of section at what
  pub next : IsAt section (at + size_of what) (next_state line (statement_of what) state)

module _ (known : Known) (section : List ℕ) (line at : ℕ) (state : PassState) (is : IsAt section at state) where
  pub step : (what : LineContent) → IsSoundAt at what → at + size_of what ≤ 65536 → Step section line at what state
  unfolding statement_of
  step (Code i) sound small =
      let operation = mnemonic_of i.op in
      let operand = operands (is_shift i.op) i.fields in
      let role : role_in (statement [] operation operand) ≡ Machine (length_of i.op) = ap role_of (known.named i.op) in
      let size = known.sizes i sound.0 in
      let extent = code_extent section operation operand at state is i.op role sound.1 (omega (arith, small, size)) in
      record {
        place = place_is section operation operand at state is at (at + length_of i.op) (length_of i.op) [] extent;
        next = subst (λ n. IsAt section (at + n) (next_state line (statement [] operation operand) state)) (sym size)
            (mild_next section operation operand at state is line (Machine (length_of i.op)) tt role (no_literals i sound.0) at (at + length_of i.op) (length_of i.op) [] extent);
      }
  step (Data bytes) sound small =
      let operand = codes "X'" ++ flat_map hex_pair bytes ++ codes "'" in
      let role : role_in (statement [] (codes "DC") operand) ≡ Storage false = ap role_of dc_named in
      let c = constant 1 Hexadecimal None (Some (flat_map hex_pair bytes)) in
      let many = hex_length bytes in
      let written : constant_in false operand ≡ Ok c = constant_is (flat_map hex_pair bytes) (hex_plain bytes sound.0) (omega (arith, many, sound.1)) in
      let extent = storage_extent section (codes "DC") operand at state is false c (length bytes) role (data_operand bytes sound.0) written refl (data_size bytes) (data_length bytes) small in
      record {
        place = place_is section (codes "DC") operand at state is at (at + length bytes) (length bytes) (at ∷ []) extent;
        next = mild_next section (codes "DC") operand at state is line (Storage false) tt role tt at (at + length bytes) (length bytes) (at ∷ []) extent;
      }
  step (Space n) sound small =
      let operand = codes "XL" ++ decimal n in
      let role : role_in (statement [] (codes "DS") operand) ≡ Storage true = ap role_of ds_named in
      let c = constant 1 Hexadecimal (Some n) None in
      let written : constant_in true operand ≡ Ok c = space_written n sound.0 sound.1 in
      let extent = storage_extent section (codes "DS") operand at state is true c n role (space_operand n) written refl (space_size n) (space_length n) small in
      record {
        place = place_is section (codes "DS") operand at state is at (at + n) n (at ∷ []) extent;
        next = mild_next section (codes "DS") operand at state is line (Storage true) tt role tt at (at + n) n (at ∷ []) extent;
      }

  pub at_end : at ≤ 65536 → IsAt section at (next_state line (statement [] (codes "END") []) state)
  at_end small =
      let role : role_in (statement [] (codes "END") []) ≡ Nothing = ap role_of end_named in
      let extent = nothing_extent section (codes "END") [] at state is role small in
      mild_next section (codes "END") [] at state is line Nothing tt role tt at at 1 [] extent
