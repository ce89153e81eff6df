-- Each literal of an accepted source has a value, since the statement that uses it first was judged; and each instruction
-- and each LTORG is in the control section.
use Rattle.std.specs.Prelude.{Result, Ok, Err, Contains, ◌⊎◌, filter, is_ok, is_some, map, reverse, slice_get, unwrap_or}
use Rattle.std.specs.List.{AllByRecursion, IsDistinct, filter_map}
use Rattle.std.specs.Map.{keys_of, lookup}
use Rattle.std.specs.Option.{option_map_or}
use Rattle.std.specs.Result.{result_err}
use Rattle.std.specs.Str.{bytes_eq}
use Rattle.std.proofs.Common.{◌≡◌, ℕ, zero, suc, ◌+◌, ◌==◌, Bool, true, false, cond, Option, Some, None, List, [], ◌∷◌, ◌++◌, inl, inr, ⊎_elim, length, refl, sym, ◌∙◌, ap, subst, arith}
use Rattle.std.proofs.lemmas.Bool.Decides.{nat_tests}
use Rattle.std.proofs.lemmas.Cmp.{nat_list_eq_equiv}
use Rattle.std.proofs.lemmas.List.{append-nil, length-append}
use Rattle.std.proofs.lemmas.List.Elements.{Contains-append_right, filter_map-append}
use Rattle.std.proofs.lemmas.Map.Views.{lookup-from_Contains}
use Rattle.cx_source.specs.declared.source.Item.{Item}
use Rattle.cx_source.specs.declared.source.Source.{Source}
use Rattle.cx_source.specs.declared.source.Stmt.{Stmt}
use Rattle.cx_asm_expressions.specs.Bytes.{CopyOfConstant}
use Rattle.cx_asm_expressions.specs.Faults.{lowest}
use Rattle.cx_asm_expressions.specs.Items.{Constant, constant_in}
use Rattle.cx_asm_expressions.specs.declared.faults.FaultKind.{FaultKind}
use Rattle.cx_asm_expressions.specs.declared.faults.FaultKind.TheVariants.{BadOperand}
use Rattle.cx_asm_pools.specs.Facts.Literals.{grouped_once}
use Rattle.cx_asm_pools.specs.Pools.{OpenLiterals, PlacedLiterals, by_groups, cap, closed_pool, literal_size, literal_text, of_group, placed_from, with_literal, with_part, with_parts}
use Rattle.cx_asm_pools.specs.declared.closed.Literal.{Literal}
use Rattle.cx_asm_pools.specs.declared.open.Used.{Used}
use Rattle.cx_asm_pass1.specs.Facts.Apart.{pool_of_lines}
use Rattle.cx_asm_pass1.specs.Facts.StatementExtents.{lower_none}
use Rattle.cx_asm_pass1.specs.Locations.{all_pools, final_state, last_pool_extent}
use Rattle.cx_asm_pass1.specs.PassState.{PassState, after_line, extent_in, is_control, name_in, next_state, parts_in, place_in, pool_after, pools_after, role_in, section_fault, state_after}
use Rattle.cx_asm_pass1.specs.Roles.{role_of}
use Rattle.cx_asm_pass1.specs.declared.roles.Role.{Role}
use Rattle.cx_asm_pass1.specs.declared.roles.Role.TheVariants.{Unknown, Instruction, Control, Dummy, Equate, Storage, Pool, Registers, Member, Nothing}
use Rattle.cx_asm_operations.specs.declared.operations.Directive.{Directive}
use Rattle.cx_asm_operations.specs.declared.operations.Directive.TheVariants as directive
use Rattle.cx_asm_operations.specs.declared.operations.Operation.{Operation}
use Rattle.cx_asm_operations.specs.declared.operations.Operation.TheVariants as operation
use Rattle.cx_asm_operands.specs.Bases.{Bases, none_in_use}
use Rattle.cx_asm_pass2.specs.SecondFaults.{bases_after, literals_fault, operand_fault, part_fault, second_fault}
use Rattle.cx_asm_pass2.specs.Statements.{PlacedStatement, operation_of, placed_latest_first, placed_of, placed_statement, stated_in, statements_of}
use Rattle.cx_asm_pass2.specs.Whole.{Whole, counter_of, item_made, pool_of, whole_of}
use Rattle.cx_asm.specs.Assembly.{AssemblyParts, assembly_of}
use Rattle.cx_asm.specs.Facts.Accepted.{accepted}
use Rattle.cx_asm.specs.Resolving.{counter_at}
use Rattle.cx_asm_laws.specs.Facts.Judged.{NoFault, none_judged}
use Rattle.cx_asm_laws.specs.Facts.Lines.{control_same, fault_kept, own_sound, placed_item, place_for, reverse_cons, section_sound}
use Rattle.cx_asm_laws.specs.Laws.Standing.{AreInControl, MustBeInControl}

-- ---- lists
all_pushed : {X : Type 0} (P : X → Type 0) (xs : List X) (x : X) → AllByRecursion P xs → P x → AllByRecursion P (xs ++ x ∷ [])
all_pushed P [] x h k = (k, tt)
all_pushed P (y ∷ xs) x h k = (h.0, all_pushed P xs x h.1 k)

pub all_joined : {X : Type 0} (P : X → Type 0) (xs ys : List X) → AllByRecursion P xs → AllByRecursion P ys → AllByRecursion P (xs ++ ys)
all_joined P [] ys h k = k
all_joined P (x ∷ xs) ys h k = (h.0, all_joined P xs ys h.1 k)

all_filtered : {X : Type 0} (P : X → Type 0) (test : X → Bool) (xs : List X) → AllByRecursion P xs → AllByRecursion P (filter test xs)
all_filtered P test [] h = tt
all_filtered P test (x ∷ xs) h = go (test x) (all_filtered P test xs h.1)
  where
    go : (b : Bool) → AllByRecursion P (filter test xs) → AllByRecursion P (cond b (x ∷ filter test xs) (filter test xs))
    go true rest = (h.0, rest)
    go false rest = rest

all_mapped : {X : Type 0} (P Q : X → Type 0) → ((x : X) → P x → Q x) → (xs : List X) → AllByRecursion P xs → AllByRecursion Q xs
all_mapped P Q f [] h = tt
all_mapped P Q f (x ∷ xs) h = (f x h.0, all_mapped P Q f xs h.1)

all_within : {X : Type 0} (P Q : X → Type 0) (all : List X) → ((x : X) → P x → Contains all x → Q x) → (xs : List X) → ((x : X) → Contains xs x → Contains all x)
    → AllByRecursion P xs → AllByRecursion Q xs
all_within P Q all f [] within h = tt
all_within P Q all f (x ∷ xs) within h = (
  f x h.0 (within x (0, omega arith, refl)),
  all_within P Q all f xs (λ y there. within y (Contains-append_right (x ∷ []) xs y there)) h.1,
)

got_front : {X : Type 0} (xs ys : List X) (k : ℕ) (x : X) → slice_get xs k ≡ Some x → slice_get (xs ++ ys) k ≡ Some x
got_front [] ys k x e = cc
got_front (y ∷ xs) ys zero x e = e
got_front (y ∷ xs) ys (suc k) x e = got_front xs ys k x e

got_last : {X : Type 0} (xs : List X) (x : X) → slice_get (xs ++ x ∷ []) (length xs) ≡ Some x
got_last [] x = refl
got_last (y ∷ xs) x = got_last xs x

got_pushed : {X : Type 0} (xs : List X) (x y : X) (k : ℕ) → slice_get (xs ++ x ∷ []) k ≡ Some y → (slice_get xs k ≡ Some y) ⊎ ((k ≡ length xs) × (x ≡ y))
got_pushed [] x y zero e = inr (refl, cc)
got_pushed [] x y (suc k) e = absurd (cc)
got_pushed (z ∷ xs) x y zero e = inl e
got_pushed (z ∷ xs) x y (suc k) e = ⊎_elim (λ front. inl front) (λ last. inr (ap suc last.0, last.1)) (got_pushed xs x y k e)

-- ---- the statements of lines, the latest first, in their order
unfoldable pub own_statement : Option Stmt → ℕ → PassState → List PlacedStatement
own_statement None line state = []
own_statement (Some stmt) line state = placed_statement line stmt (place_in stmt state) ∷ []

unfoldable pub listed : List Item → List PlacedStatement
listed [] = []
listed (item ∷ before) = listed before ++ own_statement item.stmt item.line (state_after before)

one_listed : (item : Item) (before : List Item) → filter_map stated_in (placed_item item (place_for item.stmt (state_after before)) ∷ []) ≡ own_statement item.stmt item.line (state_after before)
unfolding own_statement
one_listed item before = go item.stmt refl
  where
    go : (o : Option Stmt) → item.stmt ≡ o → filter_map stated_in (placed_item item (place_for item.stmt (state_after before)) ∷ []) ≡ own_statement o item.line (state_after before)
    go None e = rw e refl
    go (Some stmt) e = rw e refl

all_listed : (before : List Item) → filter_map stated_in (reverse (placed_latest_first before)) ≡ listed before
unfolding listed
all_listed [] = refl
all_listed (item ∷ before) =
    let last = placed_item item (place_for item.stmt (state_after before)) in
    ap (filter_map stated_in) (reverse_cons last (placed_latest_first before)) ∙ filter_map-append stated_in (reverse (placed_latest_first before)) (last ∷ [])
    ∙ ap (λ k. k ++ filter_map stated_in (last ∷ [])) (all_listed before) ∙ ap (λ k. listed before ++ k) (one_listed item before)

pub statements_listed : (source : Source) → statements_of source ≡ listed (reverse source.items)
unfolding placed_of
statements_listed source = all_listed (reverse source.items)

counted : (before : List Item) → length (listed before) ≡ length (state_after before).places
unfolding listed own_statement next_state
counted [] = refl
counted (item ∷ before) = go item.stmt (counted before)
  where
    go : (o : Option Stmt) → length (listed before) ≡ length (state_after before).places → length (listed before ++ own_statement o item.line (state_after before)) ≡ length (after_line item.line o (state_after before)).places
    go None same = ap length (append-nil (listed before)) ∙ same
    go (Some stmt) same =
        length-append (listed before) (placed_statement item.line stmt (place_in stmt (state_after before)) ∷ []) ∙ ap (λ n. n + 1) same
        ∙ sym (length-append (state_after before).places (place_in stmt (state_after before) ∷ []))

-- ---- in the control section
unless_control : (b : Bool) → cond b None (Some BadOperand) ≡ None → b ≡ true
unless_control true e = refl
unless_control false e = absurd (cc)

within : (r : Role) (name section control : Option (List ℕ)) → MustBeInControl r → section_fault r name section control ≡ None → is_control section control ≡ true
within (Instruction size) name section control must e = unless_control (is_control section control) e
within Pool name section control must e = unless_control (is_control section control) e
within Unknown name section control must e = absurd must
within Control name section control must e = absurd must
within Dummy name section control must e = absurd must
within Equate name section control must e = absurd must
within (Storage is_ds) name section control must e = absurd must
within Registers name section control must e = absurd must
within Member name section control must e = absurd must
within Nothing name section control must e = absurd must

abbrev IsWithin : Option (List ℕ) → PlacedStatement → Type 0
IsWithin control s = MustBeInControl (role_in s.stmt) → is_control s.place.section control ≡ true

all_in_control : (before : List Item) → (state_after before).fault ≡ None → AllByRecursion (IsWithin (state_after before).control) (listed before)
unfolding listed own_statement
all_in_control [] sound = tt
all_in_control (item ∷ before) sound =
    all_joined (IsWithin (state_after (item ∷ before)).control) (listed before) (own_statement item.stmt item.line (state_after before))
    (all_mapped (IsWithin (state_after before).control) (IsWithin (state_after (item ∷ before)).control) (λ s is must. control_same (item ∷ []) before s.place.section (is must)) (listed before)
    (all_in_control before (fault_kept (item ∷ []) before sound)))
    (go item.stmt refl)
  where
    go : (o : Option Stmt) → item.stmt ≡ o → AllByRecursion (IsWithin (state_after (item ∷ before)).control) (own_statement o item.line (state_after before))
    go None e = tt
    go (Some stmt) e =
        let state = state_after before in
        let own = section_sound stmt state (own_sound item.line stmt state (subst (λ o. (after_line item.line o state).fault ≡ None) e sound)) in
        ((λ must. control_same (item ∷ []) before state.section (within (role_in stmt) (name_in stmt) state.section state.control must own)), tt)

pub all_within_control : AreInControl
all_within_control source made e =
    subst (AllByRecursion (IsWithin (whole_of source).control)) (sym (statements_listed source)) (all_in_control (reverse source.items) (accepted source made e).sound)

-- ---- an instruction's operation
pub no_instruction : (d : Directive) (size : ℕ) → role_of (Some (operation.Directive d)) ≡ Instruction size → ⊥
no_instruction directive.Csect size e = cc
no_instruction directive.Start size e = cc
no_instruction directive.Dsect size e = cc
no_instruction directive.Equ size e = cc
no_instruction directive.Ds size e = cc
no_instruction directive.Dc size e = cc
no_instruction directive.Ltorg size e = cc
no_instruction directive.Dfhregs size e = cc
no_instruction directive.Copy size e = cc
no_instruction directive.Using size e = cc
no_instruction directive.Drop size e = cc
no_instruction directive.End size e = cc
no_instruction directive.Title size e = cc
no_instruction directive.Print size e = cc
no_instruction directive.Eject size e = cc
no_instruction directive.Space size e = cc

literals_sound : (whole : Whole) (bases : Bases) (number : ℕ) (s : PlacedStatement) (size : ℕ) (o : Option Operation) → role_of o ≡ Instruction size
    → operand_fault whole bases number s o ≡ None → literals_fault whole number s ≡ None
literals_sound whole bases number s size None e none = absurd (cc)
literals_sound whole bases number s size (Some (operation.Machine op)) e none = (lower_none _ (literals_fault whole number s) none).1
literals_sound whole bases number s size (Some (operation.Branch b)) e none = (lower_none _ (literals_fault whole number s) none).1
literals_sound whole bases number s size (Some (operation.RegisterBranch b)) e none = (lower_none _ (literals_fault whole number s) none).1
literals_sound whole bases number s size (Some (operation.Directive d)) e none = absurd (no_instruction d size e)

-- ---- the statement that uses a literal
-- A statement of this number is an instruction whose pool has this number, and the literal is an operand of it.
record Uses (statements : List PlacedStatement) (pools : ℕ) (text : List ℕ) (user : ℕ) : Type 0 where
  s : PlacedStatement
  is : slice_get statements user ≡ Some s
  size : ℕ
  role : role_in s.stmt ≡ Instruction size
  pool : s.place.pool ≡ pools
  part : List ℕ
  among : Contains (parts_in s.stmt) part
  writes : literal_text part ≡ Some text
  constant : Constant
  written : constant_in false text ≡ Ok constant

uses_more : (one more : List PlacedStatement) (pools : ℕ) (text : List ℕ) (user : ℕ) → Uses one pools text user → Uses (one ++ more) pools text user
uses_more one more pools text user u =
    record {
      s = u.s;
      is = got_front one more user u.s u.is;
      size = u.size;
      role = u.role;
      pool = u.pool;
      part = u.part;
      among = u.among;
      writes = u.writes;
      constant = u.constant;
      written = u.written;
    }

-- ---- a pool with the operands of a statement
module _ (P : List ℕ → ℕ → Type 0) (user : ℕ) where
  abbrev AreOpen : OpenLiterals → Type 0
  AreOpen pool = AllByRecursion (λ e. P e.0 e.1.user) pool

  abbrev IsNew : List ℕ → Type 0
  IsNew part = (text : List ℕ) (constant : Constant) → literal_text part ≡ Some text → constant_in false text ≡ Ok constant → P text user

  one_more : (pool : OpenLiterals) (part : List ℕ) → IsNew part → AreOpen pool → AreOpen (with_part user pool part)
  one_more pool part new h = by_text (literal_text part) refl
    where
      put : List ℕ → OpenLiterals
      put text = with_literal pool text (record { size = literal_size text; user = user })

      by_lookup : (text : List ℕ) (b : Bool) → P text user → AreOpen (cond b pool (pool ++ (text, record { size = literal_size text; user = user }) ∷ []))
      by_lookup text true own = h
      by_lookup text false own = all_pushed (λ (e : List ℕ × Used). P e.0 e.1.user) pool (text, record { size = literal_size text; user = user }) h own

      by_constant : (text : List ℕ) (c : Result Constant FaultKind) → literal_text part ≡ Some text → constant_in false text ≡ c → AreOpen (cond (is_ok c) (put text) pool)
      by_constant text (Ok constant) e f = by_lookup text (is_some (lookup (bytes_eq text) pool)) (new text constant e f)
      by_constant text (Err fault) e f = h

      by_text : (o : Option (List ℕ)) → literal_text part ≡ o → AreOpen (option_map_or (λ text. cond (is_ok (constant_in false text)) (put text) pool) o pool)
      by_text None e = h
      by_text (Some text) e = by_constant text (constant_in false text) e refl

  all_more : (parts : List (List ℕ)) (pool : OpenLiterals) → ((part : List ℕ) → Contains parts part → IsNew part) → AreOpen pool → AreOpen (with_parts user pool parts)
  all_more [] pool new h = h
  all_more (part ∷ parts) pool new h =
      all_more parts (with_part user pool part) (λ other there. new other (Contains-append_right (part ∷ []) parts other there)) (one_more pool part (new part (0, omega arith, refl)) h)

-- ---- a pool that is closed
placed_all : (P : List ℕ → ℕ → Type 0) (from : ℕ) (es : OpenLiterals) → AllByRecursion (λ e. P e.0 e.1.user) es → AllByRecursion (λ e. P e.0 e.1.user) (placed_from from es)
placed_all P from [] h = tt
placed_all P from (e ∷ es) h = (h.0, placed_all P (cap (from + e.1.size)) es h.1)

closed_all : (P : List ℕ → ℕ → Type 0) (from : ℕ) (pool : OpenLiterals) → AllByRecursion (λ e. P e.0 e.1.user) pool → AllByRecursion (λ e. P e.0 e.1.user) (closed_pool from pool)
closed_all P from pool h =
    let Q : List ℕ × Used → Type 0 = λ e. P e.0 e.1.user in
    let group : (g : ℕ) → AllByRecursion Q (of_group g pool) = λ g. all_filtered Q _ pool h in
    placed_all P from (by_groups pool)
    (all_joined Q (of_group 8 pool ++ of_group 4 pool ++ of_group 2 pool) (of_group 1 pool)
    (all_joined Q (of_group 8 pool ++ of_group 4 pool) (of_group 2 pool) (all_joined Q (of_group 8 pool) (of_group 4 pool) (group 8) (group 4)) (group 2)) (group 1))

placed_texts : (from : ℕ) (es : OpenLiterals) → keys_of (placed_from from es) ≡ keys_of es
placed_texts from [] = refl
placed_texts from (e ∷ es) = ap (λ l. e.0 ∷ l) (placed_texts (cap (from + e.1.size)) es)

abbrev AreUsed : List PlacedStatement → ℕ → PlacedLiterals → Type 0
AreUsed statements number pool = AllByRecursion (λ e. Uses statements number e.0 e.1.user) pool × IsDistinct bytes_eq (keys_of pool)

abbrev AreClosed : List PlacedStatement → List PlacedLiterals → Type 0
AreClosed statements pools = (number : ℕ) (pool : PlacedLiterals) → slice_get pools number ≡ Some pool → AreUsed statements number pool

closed_used : (statements : List PlacedStatement) (number from : ℕ) (pool : OpenLiterals) → AllByRecursion (λ e. Uses statements number e.0 e.1.user) pool → IsDistinct bytes_eq (keys_of pool)
    → AreUsed statements number (closed_pool from pool)
closed_used statements number from pool h once =
    (closed_all (Uses statements number) from pool h, subst (IsDistinct bytes_eq) (sym (placed_texts from (by_groups pool))) (grouped_once pool once))

closed_more : (statements : List PlacedStatement) (from : ℕ) (pool : OpenLiterals) (pools : List PlacedLiterals) → AllByRecursion (λ e. Uses statements (length pools) e.0 e.1.user) pool
    → IsDistinct bytes_eq (keys_of pool) → AreClosed statements pools → AreClosed statements (pools ++ closed_pool from pool ∷ [])
closed_more statements from pool pools h once closed number found e = ⊎_elim
    (λ front. closed number found front)
    (λ last. subst (λ n. AreUsed statements n found) (sym last.0) (subst (AreUsed statements (length pools)) last.1 (closed_used statements (length pools) from pool h once)))
    (got_pushed pools (closed_pool from pool) found number e)

-- ---- one statement after another
record AllUsed (statements : List PlacedStatement) (pool : OpenLiterals) (pools : List PlacedLiterals) : Type 0 where
  pending : AllByRecursion (λ e. Uses statements (length pools) e.0 e.1.user) pool
  closed : AreClosed statements pools

used_more : (one more : List PlacedStatement) (pool : OpenLiterals) (pools : List PlacedLiterals) → AllUsed one pool pools → AllUsed (one ++ more) pool pools
used_more one more pool pools u =
    record {
      pending = all_mapped (λ (e : List ℕ × Used). Uses one (length pools) e.0 e.1.user) (λ e. Uses (one ++ more) (length pools) e.0 e.1.user) (λ e is. uses_more one more (length pools) e.0 e.1.user is) pool u.pending;
      closed = λ number found e. (
        all_mapped (λ (l : List ℕ × Literal). Uses one number l.0 l.1.user) (λ l. Uses (one ++ more) number l.0 l.1.user) (λ l is. uses_more one more number l.0 l.1.user is) found (u.closed number found e).0,
        (u.closed number found e).1,
      );
    }

used_step : (r : Role) (statements : List PlacedStatement) (user from : ℕ) (parts : List (List ℕ)) (pool : OpenLiterals) (pools : List PlacedLiterals) → AllUsed statements pool pools
    → IsDistinct bytes_eq (keys_of pool)
    → ((size : ℕ) → r ≡ Instruction size → (part : List ℕ) → Contains parts part → IsNew (Uses statements (length pools)) user part)
    → AllUsed statements (pool_after r user parts pool) (pools_after r from pool pools)
used_step (Instruction size) statements user from parts pool pools u once new =
    record { pending = all_more (Uses statements (length pools)) user parts pool (new size refl) u.pending; closed = u.closed }
used_step Pool statements user from parts pool pools u once new =
    record { pending = tt; closed = closed_more statements (cap from) pool pools u.pending once u.closed }
used_step Unknown statements user from parts pool pools u once new = record { pending = u.pending; closed = u.closed }
used_step Control statements user from parts pool pools u once new = record { pending = u.pending; closed = u.closed }
used_step Dummy statements user from parts pool pools u once new = record { pending = u.pending; closed = u.closed }
used_step Equate statements user from parts pool pools u once new = record { pending = u.pending; closed = u.closed }
used_step (Storage is_ds) statements user from parts pool pools u once new = record { pending = u.pending; closed = u.closed }
used_step Registers statements user from parts pool pools u once new = record { pending = u.pending; closed = u.closed }
used_step Member statements user from parts pool pools u once new = record { pending = u.pending; closed = u.closed }
used_step Nothing statements user from parts pool pools u once new = record { pending = u.pending; closed = u.closed }

all_used : (before : List Item) → AllUsed (listed before) (state_after before).pool (state_after before).pools
unfolding listed own_statement next_state
all_used [] = record { pending = tt; closed = λ number pool e. absurd (cc) }
all_used (item ∷ before) = go item.stmt (all_used before)
  where
    go : (o : Option Stmt) → AllUsed (listed before) (state_after before).pool (state_after before).pools → AllUsed (listed before ++ own_statement o item.line (state_after before)) (after_line item.line o (state_after before)).pool (after_line item.line o (state_after before)).pools
    go None used = used_more (listed before) [] (state_after before).pool (state_after before).pools used
    go (Some stmt) used =
        let state = state_after before in
        let own = placed_statement item.line stmt (place_in stmt state) in
        let there : slice_get (listed before ++ own ∷ []) (length state.places) ≡ Some own = ap (slice_get (listed before ++ own ∷ [])) (sym (counted before)) ∙ got_last (listed before) own in
        used_step (role_in stmt) (listed before ++ own ∷ []) (length state.places) (extent_in stmt state).offset (parts_in stmt) state.pool state.pools
        (used_more (listed before) (own ∷ []) state.pool state.pools used) (pool_of_lines before).once
        (λ size is part among text constant writes written.
        record {
          s = own;
          is = there;
          size = size;
          role = is;
          pool = refl;
          part = part;
          among = among;
          writes = writes;
          constant = constant;
          written = written;
        })

-- ---- the value of a literal
pub record HasValue (whole : Whole) (statements : List PlacedStatement) (literal : List ℕ × Literal) : Type 0 where
  pub constant : Constant
  pub written : constant_in false literal.0 ≡ Ok constant
  pub once : CopyOfConstant
  pub value : item_made whole false (counter_at statements literal.1.user) literal.0 ≡ Ok once

record IsJudged (whole : Whole) (number : ℕ) (s : PlacedStatement) : Type 0 where
  bases : Bases
  none : second_fault whole bases number s ≡ None

judged_at : (whole : Whole) (bases : Bases) (number : ℕ) (ss : List PlacedStatement) (k : ℕ) (s : PlacedStatement) → NoFault whole bases number ss → slice_get ss k ≡ Some s
    → IsJudged whole (number + k) s
unfolding NoFault
judged_at whole bases number [] k s h e = absurd (cc)
judged_at whole bases number (one ∷ ss) zero s h e =
    let same : one ≡ s = cc in
    let at : number ≡ number + 0 = omega arith in
    record { bases = bases; none = subst (λ n. second_fault whole bases n s ≡ None) at (subst (λ t. second_fault whole bases number t ≡ None) same h.0) }
judged_at whole bases number (one ∷ ss) (suc k) s h e =
    let at : suc number + k ≡ number + suc k = omega arith in
    subst (λ n. IsJudged whole n s) at (judged_at whole (bases_after whole bases one) (suc number) ss k s h.1 e)

operand_sound : (whole : Whole) (bases : Bases) (number : ℕ) (s : PlacedStatement) → second_fault whole bases number s ≡ None → operand_fault whole bases number s (operation_of s) ≡ None
unfolding second_fault
operand_sound whole bases number s e = e

part_sound : (whole : Whole) (number : ℕ) (s : PlacedStatement) (parts : List (List ℕ)) (part : List ℕ) → Contains parts part → lowest (map (part_fault whole number s) parts) ≡ None
    → part_fault whole number s part ≡ None
part_sound whole number s [] part h none = absurd ((let less = h.1 in omega (arith, less)))
part_sound whole number s (one ∷ parts) part (zero, less, e) none =
    subst (λ p. part_fault whole number s p ≡ None) e (lower_none (part_fault whole number s one) (lowest (map (part_fault whole number s) parts)) none).0
part_sound whole number s (one ∷ parts) part (suc k, less, e) none =
    part_sound whole number s parts part (k, omega (arith, less), e) (lower_none (part_fault whole number s one) (lowest (map (part_fault whole number s) parts)) none).1

record IsMade (found : Result CopyOfConstant FaultKind) : Type 0 where
  once : CopyOfConstant
  is : found ≡ Ok once

made_without : (found : Result CopyOfConstant FaultKind) → result_err found ≡ None → IsMade found
made_without (Ok once) e = record { once = once; is = refl }
made_without (Err fault) e = absurd (cc)

same_number : (n : ℕ) → (n == n) ≡ true
same_number n = grind (arith, nat_tests)

has_value : (whole : Whole) (statements : List PlacedStatement) (number : ℕ) (pool : PlacedLiterals) → NoFault whole none_in_use 0 statements → slice_get whole.pools number ≡ Some pool
    → IsDistinct bytes_eq (keys_of pool) → (literal : List ℕ × Literal) → Uses statements number literal.0 literal.1.user → Contains pool literal
    → HasValue whole statements literal
has_value whole statements number pool sound there once (text, literal) u among =
    let from_start : 0 + literal.user ≡ literal.user = omega arith in
    let judged = subst (λ n. IsJudged whole n u.s) from_start (judged_at whole none_in_use 0 statements literal.user u.s sound u.is) in
    let own = operand_sound whole judged.bases literal.user u.s judged.none in
    let none = literals_sound whole judged.bases literal.user u.s u.size (operation_of u.s) u.role own in
    let part = part_sound whole literal.user u.s (parts_in u.s.stmt) u.part u.among none in
    let in_pool : pool_of whole u.s ≡ pool = rw (u.pool, there) refl in
    let found : lookup (bytes_eq text) (pool_of whole u.s) ≡ Some literal = ap (lookup (bytes_eq text)) in_pool ∙ lookup-from_Contains nat_list_eq_equiv text literal pool once among in
    let fault : part_fault whole literal.user u.s u.part ≡ result_err (item_made whole false (counter_of u.s) text) = rw (u.writes, found, same_number literal.user) refl in
    let made = made_without (item_made whole false (counter_of u.s) text) (sym fault ∙ part) in
    let counter : counter_at statements literal.user ≡ counter_of u.s = rw (u.is) refl in
    record { constant = u.constant; written = u.written; once = made.once; value = ap (λ c. item_made whole false c text) counter ∙ made.is }

pub literals_have_values : (source : Source) (made : AssemblyParts) → assembly_of source ≡ Ok made
    → (n : ℕ) → AllByRecursion (HasValue (whole_of source) (statements_of source)) (unwrap_or (slice_get (whole_of source).pools n) [])
literals_have_values source made ok n = go (slice_get (whole_of source).pools n) refl
  where
    used : AllUsed (listed (reverse source.items)) (final_state source).pool (final_state source).pools
    used = all_used (reverse source.items)

    closed : AreClosed (listed (reverse source.items)) (all_pools (final_state source))
    closed =
        closed_more (listed (reverse source.items)) (cap (last_pool_extent (final_state source)).offset) (final_state source).pool (final_state source).pools used.pending
        (pool_of_lines (reverse source.items)).once used.closed

    go : (found : Option PlacedLiterals) → slice_get (whole_of source).pools n ≡ found → AllByRecursion (HasValue (whole_of source) (statements_of source)) (unwrap_or found [])
    go None e = tt
    go (Some pool) there =
        let all = subst (λ k. AreClosed k (all_pools (final_state source))) (sym (statements_listed source)) closed n pool there in
        all_within (λ (l : List ℕ × Literal). Uses (statements_of source) n l.0 l.1.user) (HasValue (whole_of source) (statements_of source)) pool
        (has_value (whole_of source) (statements_of source) n pool (none_judged source (accepted source made ok).second) there all.1) pool (λ l k. k) all.0
