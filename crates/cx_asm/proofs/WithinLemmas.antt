-- What a statement makes lies from its place to its end.
use Rattle.std.specs.Prelude.{Result, Ok, Err, ◌==◌, ◌*◌, map}
use Rattle.std.proofs.Common.{◌≡◌, ◌≤◌, ℕ, zero, suc, ◌+◌, Bool, true, false, cond, Option, Some, None, List, [], ◌∷◌, ◌++◌, length, refl, sym, ◌∙◌, ap, subst, arith, length-append}
use Rattle.std.proofs.Math.Nat.{mul-le-mul_left}
use Rattle.std.proofs.lemmas.Option.{same_Some}
use Rattle.std.specs.List.{zip, repeat}
use Rattle.std.specs.Option.{option_map_or}
use Rattle.std.specs.Result.{result_ok}
use Rattle.cx_code.specs.Spelling.{Instruction as Made_instruction, IsWellFormed, spelling}
use Rattle.cx_code.specs.Table.{length_of as row_length}
use Rattle.cx_code.specs.declared.disassembly.LineContent.TheVariants.{Code, Space}
use Rattle.cx_code.specs.declared.table.Op.{Op}
use Rattle.cx_asm_image.specs.Facts.Apart.{apart_append}
use Rattle.cx_asm_image.specs.Relocated.{words_at}
use Rattle.cx_asm_image.specs.Resolved.{AreApart}
use Rattle.cx_asm_operands.specs.Bases.{Bases}
use Rattle.cx_asm_operands.specs.Context.{Context}
use Rattle.cx_asm_operands.specs.Forms.{instruction_or_fault}
use Rattle.cx_asm_operations.specs.Operations.{base_row}
use Rattle.cx_asm_operations.specs.declared.operations.Operation.{Operation}
use Rattle.cx_asm_operations.specs.declared.operations.Operation.TheVariants as operation
use Rattle.cx_asm_pass1.specs.Laws.Apart.{ItemsStand}
use Rattle.cx_asm_pass1.specs.Roles.{role_of}
use Rattle.cx_asm_pass1.specs.declared.roles.Role.{Role}
use Rattle.cx_asm_pass1.specs.declared.roles.Role.TheVariants.{Instruction}
use Rattle.cx_asm_pools.specs.Laws.Literals.{StandFrom}
use Rattle.cx_asm_pools.specs.Pools.{PlacedLiterals, constant_size, literal_size}
use Rattle.cx_asm_pass2.specs.Statements.{PlacedStatement}
use Rattle.cx_asm_pass2.specs.Whole.{Whole, instruction_context, item_made}
use Rattle.cx_asm_expressions.specs.Bytes.{CopyOfConstant}
use Rattle.cx_asm_expressions.specs.Items.{Constant, constant_in, length_of, size_of}
use Rattle.cx_asm_expressions.specs.declared.faults.FaultKind.{FaultKind}
use Rattle.cx_asm_expressions.specs.declared.values.Value.{Value}
use Rattle.cx_asm.specs.Laws.SectionLines.{IsWithin, WordsApart}
use Rattle.cx_asm.specs.Resolving.{Standing, constant_standing, counter_at, data_line, data_standing, instruction_standing, items_standing, item_standing, join_sections, line, empty_section, pool_standing, relocated_offsets, space_line, space_standing}
use Rattle.cx_asm.proofs.MadeLemmas.{MadeFits, item_fits}

-- ---- one after the other
words_later : (from mid : ℕ) (words : List ℕ) (end : ℕ) → from ≤ mid → WordsApart mid words end → WordsApart from words end
words_later from mid [] end le apart = omega (arith, le, apart)
words_later from mid (word ∷ words) end le apart = (omega (arith, le, apart.0), apart.1)

words_append : (from : ℕ) (one other : List ℕ) (mid end : ℕ) → WordsApart from one mid → WordsApart mid other end → WordsApart from (one ++ other) end
words_append from [] other mid end apart more = words_later from mid other end apart more
words_append from (word ∷ one) other mid end apart more = (apart.0, words_append (word + 4) one other mid end apart.1 more)

pub within_nothing : (from end : ℕ) → from ≤ end → IsWithin from empty_section end
within_nothing from end le = record { lines = le; words = le }

pub within_joined : (from mid end : ℕ) (one other : Standing) → IsWithin from one mid → IsWithin mid other end → IsWithin from (join_sections one other) end
within_joined from mid end one other h k =
    record { lines = apart_append from one.lines other.lines mid end h.lines k.lines; words = words_append from one.relocs other.relocs mid end h.words k.words }

pub within_later : (from mid end : ℕ) (one : Standing) → from ≤ mid → IsWithin mid one end → IsWithin from one end
within_later from mid end one le h =
    record { lines = apart_append from [] one.lines mid end le h.lines; words = words_later from mid one.relocs end le h.words }

-- ---- constants
copies_length : (n : ℕ) (bytes : List ℕ) → length (repeat n bytes) ≡ n * length bytes
copies_length zero bytes = omega arith
copies_length (suc n) bytes = length-append bytes (repeat n bytes) ∙ grind (arith, copies_length n bytes)

line_within : (at : ℕ) (bytes : List ℕ) (end : ℕ) → at + length bytes ≤ end → AreApart at (data_line at bytes) end
line_within at [] end le = omega (arith, le)
line_within at (byte ∷ bytes) end le = (omega arith, le)

words_within : (at n end : ℕ) → at + 4 * n ≤ end → WordsApart at (words_at at n) end
words_within at zero end le = omega (arith, le)
words_within at (suc n) end le = (omega arith, words_within (at + 4) n end (omega (arith, le)))

relocated_within : (at n : ℕ) (is : Bool) (end : ℕ) → at ≤ end → (is ≡ true → at + 4 * n ≤ end) → WordsApart at (relocated_offsets at n is) end
relocated_within at n true end le h = words_within at n end (h refl)
relocated_within at n false end le h = le

copied : (n size each : ℕ) → each ≤ size → n * each ≤ n * size
copied n size each le = mul-le-mul_left n le

constant_within : (at : ℕ) (item : Result Constant FaultKind) (made : Result CopyOfConstant FaultKind)
    → ((i : Constant) (m : CopyOfConstant) → item ≡ Ok i → made ≡ Ok m → MadeFits m (length_of i)) → IsWithin at (constant_standing at item made) (at + constant_size item)
constant_within at (Ok item) (Ok made) fits =
    let fit = fits item made refl refl in
    let bytes = copied item.duplication (length_of item) (length made.bytes) fit.short in
    record {
      lines = line_within at (repeat item.duplication made.bytes) (at + size_of item) (omega (arith, copies_length item.duplication made.bytes, bytes));
      words = relocated_within at item.duplication made.is_relocated (at + size_of item) (omega arith)
          (λ is. let word = copied item.duplication (length_of item) 4 (fit.word is) in omega (arith, word));
    }
constant_within at (Ok item) (Err fault) fits = within_nothing at (at + size_of item) (omega arith)
constant_within at (Err fault) (Ok made) fits = within_nothing at (at + 0) (omega arith)
constant_within at (Err fault) (Err other) fits = within_nothing at (at + 0) (omega arith)

data_within : (whole : Whole) (counter : Option Value) (text : List ℕ) (at : ℕ) → IsWithin at (data_standing whole counter text at) (at + literal_size text)
data_within whole counter text at = constant_within at (constant_in false text) (item_made whole false counter text) (item_fits whole counter text)

spaced : (is_none : Bool) (at size : ℕ) → AreApart at (cond is_none [] (line at (Space size) ∷ [])) (at + size)
spaced true at size = omega arith
spaced false at size = (omega arith, omega arith)

sized_within : (at size : ℕ) → AreApart at (space_line at size) (at + size)
sized_within at size = spaced (size == 0) at size

space_within : (at : ℕ) (item : Result Constant FaultKind) → IsWithin at (space_standing at item) (at + constant_size item)
space_within at (Ok item) = record { lines = sized_within at (size_of item); words = omega arith }
space_within at (Err fault) = within_nothing at (at + 0) (omega arith)

item_within : (whole : Whole) (is_ds : Bool) (s : PlacedStatement) (item : List ℕ × ℕ) → IsWithin item.1 (item_standing whole is_ds s item) (item.1 + constant_size (constant_in is_ds item.0))
item_within whole true s item = space_within item.1 (constant_in true item.0)
item_within whole false s item = data_within whole _ item.0 item.1

pub items_within : (whole : Whole) (is_ds : Bool) (s : PlacedStatement) (parts : List (List ℕ)) (offsets : List ℕ) (from end : ℕ) → ItemsStand from (map (constant_in is_ds) parts) offsets end
    → IsWithin from (items_standing whole is_ds s (zip parts offsets)) end
items_within whole is_ds s [] [] from end stand = within_nothing from end (omega (arith, stand))
items_within whole is_ds s [] (at ∷ offsets) from end stand = absurd stand
items_within whole is_ds s (part ∷ parts) [] from end stand = absurd stand
items_within whole is_ds s (part ∷ parts) (at ∷ offsets) from end stand =
    within_joined from (at + constant_size (constant_in is_ds part)) end _ _
    (within_later from at _ _ stand.0 (item_within whole is_ds s (part, at)))
    (items_within whole is_ds s parts offsets _ end stand.2)

-- ---- literals
pub pool_within : (whole : Whole) (statements : List PlacedStatement) (pool : PlacedLiterals) (group from end : ℕ) → StandFrom group from pool end
    → IsWithin from (pool_standing whole statements pool) end
pool_within whole statements [] group from end stand = within_nothing from end (omega (arith, stand))
pool_within whole statements (e ∷ pool) group from end stand =
    within_joined from (from + literal_size e.0) end _ _
    (subst (λ at. IsWithin at (data_standing whole (counter_at statements e.1.user) e.0 e.1.offset) (at + literal_size e.0)) stand.0
    (data_within whole (counter_at statements e.1.user) e.0 e.1.offset))
    (pool_within whole statements pool _ (from + literal_size e.0) end stand.3)

-- ---- instructions
-- what is resolved is of its operation's row, and as long as it
abbrev pub Resolves : Type 0
Resolves = (o : Operation) (c : Context) (operand : List ℕ) (made : Made_instruction) → length c.bases ≡ 16 → instruction_or_fault o c operand ≡ Ok made → (base_row o ≡ Some made.op) × IsWellFormed made

abbrev pub Spelled : Type 0
Spelled = (made : Made_instruction) → IsWellFormed made → length (spelling made) ≡ row_length made.op

abbrev instruction_size : Role → ℕ
instruction_size (Instruction size) = size
instruction_size role = 0

row_size : (o : Operation) (op : Op) (size : ℕ) → base_row o ≡ Some op → role_of (Some o) ≡ Instruction size → row_length op ≡ size
row_size (operation.Machine m) op size e f = ap row_length (sym (same_Some _ _ e)) ∙ ap instruction_size f
row_size (operation.Branch b) op size e f = ap row_length (sym (same_Some _ _ e)) ∙ ap instruction_size f
row_size (operation.RegisterBranch b) op size e f = ap row_length (sym (same_Some _ _ e)) ∙ ap instruction_size f
row_size (operation.Directive d) op size e f = cc

instruction_line : (from at size : ℕ) (r : Result Made_instruction FaultKind) → from ≤ at → ((made : Made_instruction) → r ≡ Ok made → length (spelling made) ≡ size)
    → AreApart from (option_map_or (λ made. line at (Code made) ∷ []) (result_ok r) []) (at + size)
instruction_line from at size (Ok made) le h = (le, omega (arith, h made refl))
instruction_line from at size (Err fault) le h = omega (arith, le)

module _ (resolves : Resolves) (spelled : Spelled) (whole : Whole) (bases : Bases) (sixteen : length bases ≡ 16) where
  row_spelled : (s : PlacedStatement) (o : Operation) (size : ℕ) → role_of (Some o) ≡ Instruction size → (made : Made_instruction)
      → instruction_or_fault o (instruction_context whole bases s) s.stmt.operand ≡ Ok made → length (spelling made) ≡ size
  row_spelled s o size e made f =
      let row = resolves o (instruction_context whole bases s) s.stmt.operand made sixteen f in
      spelled made row.1 ∙ row_size o made.op size row.0 e

  pub instruction_within : (s : PlacedStatement) (o : Option Operation) (size from : ℕ) → role_of o ≡ Instruction size → from ≤ s.place.offset
      → IsWithin from (option_map_or (instruction_standing whole bases s) o empty_section) (s.place.offset + size)
  instruction_within s None size from e le = cc
  instruction_within s (Some o) size from e le = record {
    lines = instruction_line from s.place.offset size (instruction_or_fault o (instruction_context whole bases s) s.stmt.operand) le (row_spelled s o size e);
    words = omega (arith, le);
  }
