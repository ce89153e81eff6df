-- What is in a section, and the words of it that loading raises: each is one of a constant's.
use Rattle.std.proofs.Common.{◌≡◌, ◌⊎◌, inl, inr, ◌≤◌, ℕ, zero, suc, ◌+◌, ◌*◌, Bool, true, false, cond, ◌&&◌, ◌==◌, Option, Some, None, Ok, List, [], ◌∷◌, ◌++◌, length, refl, arith}
use Rattle.std.specs.Prelude.{Err, Result, ℤ, ◌^◌, flat_map, map}
use Rattle.std.specs.List.{AllByRecursion, repeat}
use Rattle.std.specs.Option.{option_map_or}
use Rattle.cx_code.specs.declared.disassembly.Line.{Line}
use Rattle.cx_asm_expressions.specs.Bytes.{CopyOfConstant, address_made, body_made, copy_of_constant, constant_copy, address_constant}
use Rattle.cx_asm_expressions.specs.Expressions.{value_of}
use Rattle.cx_asm_expressions.specs.Faults.{lowest}
use Rattle.cx_asm_expressions.specs.Items.{Constant, constant_in, value_length, values_in}
use Rattle.cx_asm_expressions.specs.Kinds.{integer_bytes, is_below, row_of_kind}
use Rattle.cx_asm_expressions.specs.declared.faults.FaultKind.{FaultKind}
use Rattle.cx_asm_expressions.specs.declared.faults.FaultKind.TheVariants.{NotRelocatable, ValueOutOfRange}
use Rattle.cx_asm_expressions.specs.Weights.{stands_in}
use Rattle.cx_asm_operands.specs.Checking.{then_check}
use Rattle.cx_asm_expressions.specs.declared.kinds.ConstantKind.{ConstantKind}
use Rattle.cx_asm_expressions.specs.declared.kinds.ConstantKind.TheVariants.{Address}
use Rattle.cx_asm_expressions.specs.declared.values.Value.{Value}
use Rattle.cx_asm_pools.specs.Pools.{PlacedLiterals}
use Rattle.cx_asm_operations.specs.declared.operations.Operation.{Operation}
use Rattle.cx_asm_pass1.specs.PassState.{is_control, role_in}
use Rattle.cx_asm_pass1.specs.Given.{location_counter}
use Rattle.cx_asm_pass1.specs.declared.roles.Role.{Role}
use Rattle.cx_asm_pass1.specs.declared.roles.Role.TheVariants as role
use Rattle.cx_asm_operands.specs.Bases.{Bases}
use Rattle.cx_asm_image.specs.Relocated.{words_at}
use Rattle.cx_asm_image.specs.Resolved.{offset_after, is_code}
use Rattle.cx_asm_pass2.specs.SecondFaults.{bases_after}
use Rattle.cx_asm_pass2.specs.Statements.{PlacedStatement, operation_of, placed_items}
use Rattle.cx_asm_pass2.specs.Whole.{Whole, item_made, pool_of}
use Rattle.cx_asm.specs.Resolving.{Standing, constant_standing, counter_at, data_line, data_standing, instruction_standing, item_standing, items_standing, join_sections, last_pool, empty_section, pool_standing, relocated_offsets, role_standing, space_standing, standing_from, statement_standing}
use Rattle.cx_asm_execution.proofs.TogetherLemmas.{length_joined}

-- ---- a word among the bytes of a constant
pub record IsOfConstant (r : ℕ) (l : Line) : Type 0 where
  pub constant : is_code l.what ≡ false
  pub begins : l.at ≤ r
  pub ends : r + 4 ≤ offset_after l

unfoldable pub HasWord : ℕ → List Line → Type 0
HasWord r [] = ⊥
HasWord r (l ∷ ls) = IsOfConstant r l ⊎ HasWord r ls

pub in_front : (r : ℕ) (ls ms : List Line) → HasWord r ls → HasWord r (ls ++ ms)
unfolding HasWord
in_front r [] ms h = absurd h
in_front r (l ∷ ls) ms (inl h) = inl h
in_front r (l ∷ ls) ms (inr h) = inr (in_front r ls ms h)

pub in_back : (r : ℕ) (ls ms : List Line) → HasWord r ms → HasWord r (ls ++ ms)
unfolding HasWord
in_back r [] ms h = h
in_back r (l ∷ ls) ms h = inr (in_back r ls ms h)

abbrev pub HaveWords : List ℕ → List Line → Type 0
HaveWords relocs ls = AllByRecursion (λ r. HasWord r ls) relocs

pub all_front : (relocs : List ℕ) (ls ms : List Line) → HaveWords relocs ls → HaveWords relocs (ls ++ ms)
all_front [] ls ms h = tt
all_front (r ∷ relocs) ls ms h = (in_front r ls ms h.0, all_front relocs ls ms h.1)

pub all_back : (relocs : List ℕ) (ls ms : List Line) → HaveWords relocs ms → HaveWords relocs (ls ++ ms)
all_back [] ls ms h = tt
all_back (r ∷ relocs) ls ms h = (in_back r ls ms h.0, all_back relocs ls ms h.1)

pub both_have : (one other : List ℕ) (ls : List Line) → HaveWords one ls → HaveWords other ls → HaveWords (one ++ other) ls
both_have [] other ls h k = k
both_have (r ∷ one) other ls h k = (h.0, both_have one other ls h.1 k)

abbrev pub IsHeld : Standing → Type 0
IsHeld s = HaveWords s.relocs s.lines

joined_held : (one other : Standing) → IsHeld one → IsHeld other → IsHeld (join_sections one other)
joined_held one other h k = both_have one.relocs other.relocs (one.lines ++ other.lines) (all_front one.relocs one.lines other.lines h) (all_back other.relocs one.lines other.lines k)

-- ---- a constant that is relocated has four bytes
abbrev HasFour : Result CopyOfConstant FaultKind → Type 0
HasFour (Ok m) = m.is_relocated ≡ true → length m.bytes ≡ 4
HasFour (Err fault) = Unit {0}

placed_four : (n : ℕ) (control section : Option (List ℕ)) (number : ℤ) → HasFour (address_constant n control section number)
placed_four n control None number = go (is_below n number (2 ^ (8 * n)))
  where
    go : (b : Bool) → HasFour (cond b (Ok (copy_of_constant (integer_bytes n number) false)) (Err ValueOutOfRange))
    go true = λ raised. absurd (cc)
    go false = tt
placed_four n control (Some section) number = go (n == 4 && stands_in section control)
  where
    go : (b : Bool) → HasFour (cond b (Ok (copy_of_constant (integer_bytes 4 number) true)) (Err NotRelocatable))
    go true = λ raised. refl
    go false = tt

address_four : (n : ℕ) (control : Option (List ℕ)) (value : Result Value FaultKind) → HasFour (address_made n control value)
address_four n control (Ok value) = placed_four n control value.section value.number
address_four n control (Err fault) = tt

unless_four : (fault : Option FaultKind) (bytes : List ℕ) → HasFour (option_map_or Err fault (Ok (copy_of_constant bytes false)))
unless_four None bytes = λ raised. absurd (cc)
unless_four (Some fault) bytes = tt

body_four : (find : List ℕ → Option Value) (here : Option Value) (control : Option (List ℕ)) (kind : ConstantKind) (modifier : Option ℕ) (body : Option (List ℕ))
    → HasFour (body_made find here control kind modifier body)
body_four find here control kind modifier None = λ raised. absurd (cc)
body_four find here control Address modifier (Some body) = address_four (value_length Address modifier body) control (value_of find here body)
body_four find here control kind modifier (Some body) =
    let values = values_in (row_of_kind kind).style body in
    unless_four (lowest (map (λ value. (row_of_kind kind).fault value (value_length kind modifier value)) values))
    (flat_map (λ value. (row_of_kind kind).bytes value (value_length kind modifier value)) values)

judged_four : (find : List ℕ → Option Value) (here : Option Value) (control : Option (List ℕ)) (item : Result Constant FaultKind) → HasFour (then_check (constant_copy find here control) item)
unfolding constant_copy
judged_four find here control (Ok item) = body_four find here control item.kind item.modifier item.value
judged_four find here control (Err fault) = tt

item_four : (whole : Whole) (is_ds : Bool) (at : Option Value) (text : List ℕ) → HasFour (item_made whole is_ds at text)
item_four whole is_ds at text = judged_four whole.find at whole.control (constant_in is_ds text)

-- ---- its words are among its bytes
data_words : (first : ℕ) (total : List ℕ) (at n : ℕ) → first ≤ at → at + 4 * n ≤ first + length total → HaveWords (words_at at n) (data_line first total)
unfolding HasWord
data_words first total at zero low high = tt
data_words first [] at (suc n) low high = absurd (omega arith)
data_words first (byte ∷ bytes) at (suc n) low high =
    (inl (record { constant = refl; begins = low; ends = omega arith }), data_words first (byte ∷ bytes) (at + 4) n (omega arith) (omega arith))

copies_length : (n : ℕ) (bytes : List ℕ) → length bytes ≡ 4 → length (repeat n bytes) ≡ 4 * n
copies_length zero bytes e = omega arith
copies_length (suc n) bytes e = (let more = copies_length n bytes e in let all = length_joined bytes (repeat n bytes) in omega (arith, more, all, e))

constant_held : (at : ℕ) (item : Result Constant FaultKind) (m : Result CopyOfConstant FaultKind) → HasFour m → IsHeld (constant_standing at item m)
constant_held at (Ok item) (Ok m) four = go m.is_relocated refl
  where
    go : (b : Bool) → m.is_relocated ≡ b → HaveWords (relocated_offsets at item.duplication b) (data_line at (repeat item.duplication m.bytes))
    go true is = (let all = copies_length item.duplication m.bytes (four is) in data_words at (repeat item.duplication m.bytes) at item.duplication (omega arith) (omega (arith, all)))
    go false is = tt
constant_held at (Ok item) (Err fault) four = tt
constant_held at (Err fault) m four = tt

pub data_held : (whole : Whole) (counter : Option Value) (text : List ℕ) (at : ℕ) → IsHeld (data_standing whole counter text at)
data_held whole counter text at = constant_held at (constant_in false text) (item_made whole false counter text) (item_four whole false counter text)

space_held : (at : ℕ) (item : Result Constant FaultKind) → IsHeld (space_standing at item)
space_held at (Ok item) = tt
space_held at (Err fault) = tt

item_held : (whole : Whole) (is_ds : Bool) (s : PlacedStatement) (item : List ℕ × ℕ) → IsHeld (item_standing whole is_ds s item)
item_held whole true s item = space_held item.1 (constant_in true item.0)
item_held whole false s item = data_held whole (location_counter s.place.section item.1 1) item.0 item.1

items_held : (whole : Whole) (is_ds : Bool) (s : PlacedStatement) (items : List (List ℕ × ℕ)) → IsHeld (items_standing whole is_ds s items)
items_held whole is_ds s [] = tt
items_held whole is_ds s (item ∷ items) =
    joined_held (item_standing whole is_ds s item) (items_standing whole is_ds s items) (item_held whole is_ds s item) (items_held whole is_ds s items)

pub pool_held : (whole : Whole) (all : List PlacedStatement) (pool : PlacedLiterals) → IsHeld (pool_standing whole all pool)
pool_held whole all [] = tt
pool_held whole all (e ∷ pool) =
    joined_held (data_standing whole (counter_at all e.1.user) e.0 e.1.offset) (pool_standing whole all pool) (data_held whole (counter_at all e.1.user) e.0 e.1.offset) (pool_held whole all pool)

instruction_held : (whole : Whole) (bases : Bases) (s : PlacedStatement) (o : Option Operation) → IsHeld (option_map_or (instruction_standing whole bases s) o empty_section)
instruction_held whole bases s None = tt
instruction_held whole bases s (Some o) = tt

role_held : (whole : Whole) (all : List PlacedStatement) (bases : Bases) (s : PlacedStatement) (r : Role) → IsHeld (role_standing whole all bases s r)
role_held whole all bases s (role.Instruction size) = instruction_held whole bases s (operation_of s)
role_held whole all bases s (role.Storage is_ds) = items_held whole is_ds s (placed_items s)
role_held whole all bases s role.Pool = pool_held whole all (pool_of whole s)
role_held whole all bases s role.Unknown = tt
role_held whole all bases s role.Control = tt
role_held whole all bases s role.Dummy = tt
role_held whole all bases s role.Equate = tt
role_held whole all bases s role.Registers = tt
role_held whole all bases s role.Member = tt
role_held whole all bases s role.Nothing = tt

pub statement_held : (whole : Whole) (all : List PlacedStatement) (bases : Bases) (s : PlacedStatement) → IsHeld (statement_standing whole all bases s)
unfolding statement_standing
statement_held whole all bases s = go (is_control s.place.section whole.control)
  where
    go : (b : Bool) → IsHeld (cond b (role_standing whole all bases s (role_in s.stmt)) empty_section)
    go true = role_held whole all bases s (role_in s.stmt)
    go false = tt

pub all_held : (whole : Whole) (all : List PlacedStatement) (bases : Bases) (ss : List PlacedStatement) → IsHeld (standing_from whole all bases ss)
all_held whole all bases [] = pool_held whole all (last_pool whole)
all_held whole all bases (s ∷ ss) =
    joined_held (statement_standing whole all bases s) (standing_from whole all (bases_after whole bases s) ss) (statement_held whole all bases s) (all_held whole all (bases_after whole bases s) ss)
