-- The block and the entry's address as literals.
use Rattle.std.specs.Prelude.{bit_or, codes, flat_map, is_some, nat_le, nat_lt, reverse, ◌&&◌}
use Rattle.std.proofs.Common.{◌≡◌, ◌<◌, ℕ, Bool, true, false, cond, Option, Some, None, List, [], ◌∷◌, ◌++◌, length, refl, subst, ⊎_elim, arith}
use Rattle.std.specs.List.{AllByRecursion, fold, list_all}
use Rattle.std.proofs.lemmas.Bool.{cases_Bool, leb-true, ltb-true}
use Rattle.std.proofs.lemmas.Nat.{or_of_8}
use Rattle.cx_code.specs.declared.disassembly.Line.{Line}
use Rattle.cx_code.specs.declared.disassembly.LineContent.TheVariants.{Data}
use Rattle.cx_code.specs.Table.{ops, operation_row as op_row_of}
use Rattle.cx_base.specs.declared.commands.Command.{Command}
use Rattle.cx_base.specs.declared.conditions.Condition.{Condition}
use Rattle.cx_base.specs.declared.legal.ListedCondition.{ListedCondition}
use Rattle.cx_base.specs.declared.options.CommandOption.{CommandOption}
use Rattle.cx_base.specs.declared.options.CommonOption.TheVariants.{Nohandle, Resp}
use Rattle.cx_base.specs.Commands.{row_of}
use Rattle.cx_base.specs.Facts.Commands.{each_command}
use Rattle.cx_base.specs.Facts.Conditions.{each_condition}
use Rattle.cx_base.specs.Conditions.{entry_of}
use Rattle.cx_base.specs.Legal.{is_legal, is_legal_second, is_legal_set, lists_conditions}
use Rattle.cx_base.specs.Options.{common_of, option_name}
use Rattle.cx_asm_operations.specs.Operations.{operation_named, operations}
use Rattle.cx_source.specs.Marks.{scan_depth_after, is_length_attribute, within_after}
use Rattle.cx_source.specs.declared.source.Item.{Item}
use Rattle.cx_source.specs.declared.source.Source.{Source}
use Rattle.cx_source.specs.declared.source.Stmt.{Stmt}
use Rattle.cx_asm_expressions.specs.Bytes.{constant_copy}
use Rattle.cx_asm_expressions.specs.Digits.{digit}
use Rattle.cx_asm_expressions.specs.Items.{constant, constant_in}
use Rattle.cx_asm_expressions.specs.Kinds.{kind_of}
use Rattle.cx_asm_expressions.specs.declared.kinds.ConstantKind.TheVariants.{External}
use Rattle.cx_asm_pass1.specs.PassState.{role_in}
use Rattle.cx_translate.specs.declared.words.Word.{Word}
use Rattle.cx_translate.specs.Facts.Found.{listed_by, with_option}
use Rattle.cx_translate.specs.Call.{block_bytes, hex_pair, listed_of, text_in}
use Rattle.cx_translate.specs.DueArguments.{condition_called}
use Rattle.cx_translate.specs.Expansion.{made_item}
use Rattle.cx_translate.specs.Refusals.{fault_in, first_byte, is_given, second_byte}
use Rattle.cx_asm_operands.specs.Forms.{literal_in}
use Rattle.cx_asm_pass2.specs.Whole.{Whole, whole_of}
use Rattle.cx_asm.specs.Resolving.{line}
use Rattle.cx_asm_execution.proofs.Handed.{BlockStands, EntryStands, LiteralsAreLoaded, block_of}
use Rattle.cx_asm_execution.specs.Laws.Loaded.{IsUnrelocated, LinesAreLoaded, StandsAt}
use Rattle.cx_asm_execution.proofs.Literals.{HasBytes, HasInstruction, LiteralsStand}
use Rattle.cx_asm_execution.proofs.Resolved.{is_instruction_role}
use Rattle.cx_asm_execution.proofs.Stores.{entry_in_15, load_of}
use Rattle.cx_asm_laws.specs.Facts.Hexadecimals.{EachIsByte}
use Rattle.cx_asm_execution.proofs.HexLemmas.{block_is_last, hex_has_bytes}
use Rattle.cx_asm_laws.specs.Facts.Plain.{split}

abbrev LegalBytes : Type 0
LegalBytes = (line : ℕ) (command : Command) (cics named words : List Word) → fault_in line command cics named words ≡ None
    → is_legal command (first_byte command words) (second_byte words) ≡ true

abbrev is_small : Command → Bool
is_small command = nat_lt (row_of command).function 65536 && list_all (λ option. nat_lt option.bit 256) (row_of command).options

all_small : (command : Command) → is_small command ≡ true
all_small = each_command is_small refl

with_options : (words : List Word) (options : List CommandOption) (byte : ℕ) → byte < 256 → list_all (λ option. nat_lt option.bit 256) options ≡ true → fold (with_option words) byte options < 256
with_options words [] byte small all = small
with_options words (option ∷ options) byte small all =
    let own = split (nat_lt option.bit 256) (list_all (λ option. nat_lt option.bit 256) options) all in
    with_options words options (with_option words byte option) (go (is_given words (option_name option.name)) (ltb-true option.bit 256 own.0)) own.1
  where
    go : (b : Bool) → option.bit < 256 → cond b (bit_or byte option.bit) byte < 256
    go true bit = or_of_8 byte option.bit small bit
    go false bit = small

first_listed : (command : Command) (first second : ℕ) → lists_conditions command ≡ true → is_legal command first second ≡ true → first < 256
unfolding is_legal
first_listed command first second lists e =
    let both = split (cond (lists_conditions command) (nat_le 1 first && nat_le first 16) (is_legal_set command first)) (is_legal_second second) e in
    let range : (nat_le 1 first && nat_le first 16) ≡ true = subst (λ b. cond b (nat_le 1 first && nat_le first 16) (is_legal_set command first) ≡ true) lists both.0 in
    let most = leb-true first 16 (split (nat_le 1 first) (nat_le first 16) range).1 in omega (arith, most)

first_given : (command : Command) (words : List Word) → lists_conditions command ≡ false → first_byte command words < 256
unfolding first_byte
first_given command words lists =
    rw lists (with_options words (row_of command).options 0 (omega arith) (split (nat_lt (row_of command).function 65536) (list_all (λ option. nat_lt option.bit 256) (row_of command).options) (all_small command)).1)

first_small : LegalBytes → (line : ℕ) (command : Command) (cics named words : List Word) → fault_in line command cics named words ≡ None → first_byte command words < 256
first_small legal line command cics named words e = ⊎_elim
    (λ yes. first_listed command (first_byte command words) (second_byte words) yes (legal line command cics named words e))
    (λ no. first_given command words no)
    (cases_Bool (lists_conditions command))

second_small : (words : List Word) → second_byte words < 256
unfolding second_byte
second_small words = go (is_given words (common_of Nohandle).name) (is_given words (common_of Resp).name)
  where
    go : (a b : Bool) → bit_or (cond a 128 0) (cond b 64 0) < 256
    go true true = omega arith
    go true false = omega arith
    go false true = omega arith
    go false false = omega arith

condition_small : (c : Condition) → (entry_of c).number < 256
condition_small c = ltb-true _ _ (each_condition (λ x. nat_lt (entry_of x).number 256) refl c)

abbrev two_bytes : ListedCondition → List ℕ
two_bytes condition = condition.number ∷ condition.label ∷ []

listed_small : (words : List Word) → EachIsByte (flat_map two_bytes (listed_of words))
listed_small [] = tt
listed_small (word ∷ words) = go (condition_called word.name) (listed_small words)
  where
    label : (b : Bool) → cond b 128 0 < 256
    label true = omega arith
    label false = omega arith

    go : (o : Option Condition) → EachIsByte (flat_map two_bytes (listed_of words)) → EachIsByte (flat_map two_bytes (listed_by o word.argument ++ listed_of words))
    go None more = more
    go (Some c) more = (condition_small c, (label (is_some (text_in word.argument)), more))

pub block_small : LegalBytes → (line : ℕ) (command : Command) (cics named words : List Word) → fault_in line command cics named words ≡ None → EachIsByte (block_bytes command words)
unfolding block_bytes
block_small legal line command cics named words e =
    let function = ltb-true (row_of command).function 65536 (split (nat_lt (row_of command).function 65536) (list_all (λ option. nat_lt option.bit 256) (row_of command).options) (all_small command)).0 in
    (omega (arith, function), (omega arith, (first_small legal line command cics named words e, (second_small words, listed_small words))))

block_some : (command : Command) (words : List Word) → 0 < length (block_bytes command words)
unfolding block_bytes
block_some command words = omega arith

-- ---- the statements
la_role : (text : List ℕ) → is_instruction_role (role_in (load_of text)) ≡ true
unfolding operation_named operations ops op_row_of
la_role text = refl

l_role : is_instruction_role (role_in entry_in_15) ≡ true
unfolding operation_named operations ops op_row_of
l_role = refl

made_stands : (source : Source) (before later : List Item) (number : ℕ) (s : Stmt) → source.items ≡ reverse before ++ made_item number s ∷ later → is_instruction_role (role_in s) ≡ true
    → HasInstruction source before number s
unfolding made_item
made_stands source before later number s is role =
    record { item = made_item number s; after = later; is = is; numbered = refl; begins = refl; role = role }

pub block_stands : LegalBytes → LiteralsStand → BlockStands
block_stands legal stand source assembly bases number line before later command cics named words index address e accepted is resolves =
    let bytes = block_bytes command words in
    let text = block_of command words in
    let small = block_small legal line command cics named words accepted in
    stand source assembly bases number before (load_of (text)) (88 ∷ 39 ∷ (flat_map hex_pair bytes ++ 39 ∷ [])) bytes index address e
    (made_stands source before later number (load_of (text)) is (la_role (text)))
    (block_is_last bytes small) (hex_has_bytes (whole_of source) bytes small (block_some command words)) (block_some command words) resolves

-- ---- the entry
entry_has_bytes : (whole : Whole) → HasBytes whole (codes "V(DFHEI1)") (0 ∷ 0 ∷ 8 ∷ 0 ∷ [])
unfolding constant_copy constant_in kind_of digit within_after scan_depth_after is_length_attribute
entry_has_bytes whole =
    record { constant = constant 1 External None (Some (codes "DFHEI1")); written = refl; once = 0 ∷ 0 ∷ 8 ∷ 0 ∷ []; everywhere = λ counter. refl; all = refl }

entry_is_last : literal_in (codes "15,=V(DFHEI1)") ≡ Some (codes "=V(DFHEI1)")
unfolding literal_in within_after scan_depth_after is_length_attribute
entry_is_last = refl

pub entry_stands : LiteralsStand → EntryStands
entry_stands stand source assembly bases number before later index address e is resolves =
    stand source assembly bases number before entry_in_15 (codes "V(DFHEI1)") (0 ∷ 0 ∷ 8 ∷ 0 ∷ []) index address e
    (made_stands source before later number entry_in_15 is l_role) entry_is_last (entry_has_bytes (whole_of source)) (omega arith) resolves

-- ---- in storage
one_of : (P : Line → Type 0) (front : List Line) (mine : Line) (back : List Line) → AllByRecursion P (front ++ mine ∷ back) → P mine
one_of P [] mine back all = all.0
one_of P (l ∷ front) mine back all = one_of P front mine back all.1

pub literals_loaded : LinesAreLoaded → LiteralsAreLoaded
literals_loaded lines source assembly c bytes index address storage after loaded accepts fit done stands =
    let all = subst (AllByRecursion (λ l. IsUnrelocated assembly.section.image.relocs l → StandsAt after loaded.at l)) stands.stands (lines source assembly storage after loaded accepts fit done) in
    one_of (λ l. IsUnrelocated assembly.section.image.relocs l → StandsAt after loaded.at l) stands.front (line stands.offset (Data bytes)) stands.back all stands.unraised
