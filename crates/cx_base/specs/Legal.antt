-- Which options may be given together (this product's own layout of the argument list's block).
use Rattle.std.specs.Prelude.{ℕ, Bool, true, false, ◌&&◌, ◌||◌, not, ◌==◌, nat_le, List, [], ◌∷◌, bit_and, count_by, if◌then◌else◌}
use Rattle.std.specs.List.{list_all, list_any}
use Rattle.cx_base.specs.declared.options.CommandOption.{CommandOption}
use Rattle.cx_base.specs.declared.options.Rule.{Rule}
use Rattle.cx_base.specs.declared.options.Rule.TheVariants.{Together, NotBoth, Needs, OneOfTwo, OneOfThree}
use Rattle.cx_base.specs.declared.commands.Command.{Command}
use Rattle.cx_base.specs.declared.commands.Command.TheVariants.{HandleCondition, IgnoreCondition}
use Rattle.cx_base.specs.declared.legal.ListedCondition.{ListedCondition}
use Rattle.cx_base.specs.Conditions.{entry_of, handled_conditions}
use Rattle.cx_base.specs.Commands.{row_of}

-- the commands whose option byte 1 counts conditions
abbrev pub lists_conditions : Command → Bool
lists_conditions HandleCondition = true
lists_conditions IgnoreCondition = true
lists_conditions _ = false

abbrev pub is_handle : Command → Bool
is_handle HandleCondition = true
is_handle _ = false

-- the bits of a byte, from the left
abbrev pub bits_of_byte : List ℕ
bits_of_byte = 0x80 ∷ 0x40 ∷ 0x20 ∷ 0x10 ∷ 0x08 ∷ 0x04 ∷ 0x02 ∷ 0x01 ∷ []

-- an option byte has this bit
unfoldable pub has_bit : ℕ → ℕ → Bool
has_bit byte bit = not (bit_and byte bit == 0)

-- a rule holds of the options present
abbrev pub rule_holds : (ℕ → Bool) → Rule → Bool
rule_holds present (Together a b) = (present a && present b) || (not (present a) && not (present b))
rule_holds present (NotBoth a b) = not (present a && present b)
rule_holds present (Needs a b) = not (present a) || present b
rule_holds present (OneOfTwo a b) = count_by present (a ∷ b ∷ []) == 1
rule_holds present (OneOfThree a b c) = count_by present (a ∷ b ∷ c ∷ []) == 1

-- some option has this bit
unfoldable pub is_option_bit : List CommandOption → ℕ → Bool
is_option_bit options bit = list_any (λ option. option.bit == bit) options

-- each bit of the byte is an option's
unfoldable pub is_known_set : List CommandOption → ℕ → Bool
is_known_set options byte = list_all (λ bit. not (has_bit byte bit) || is_option_bit options bit) bits_of_byte

-- each required option is there
unfoldable pub is_complete_set : List CommandOption → ℕ → Bool
is_complete_set options byte = list_all (λ option. not option.required || has_bit byte option.bit) options

-- each rule holds of the options present
unfoldable pub are_kept : List Rule → ℕ → Bool
are_kept rules byte = list_all (rule_holds (has_bit byte)) rules

-- Option byte 1 is a legal set: each bit is an option's, the required options are there, and each rule holds.
unfoldable pub is_legal_set : Command → ℕ → Bool
is_legal_set command byte =
    is_known_set (row_of command).options byte && is_complete_set (row_of command).options byte
    && are_kept (row_of command).rules byte

-- Option byte 2 has NOHANDLE (80) and RESP (40) alone.
unfoldable pub is_legal_second : ℕ → Bool
is_legal_second byte = bit_and byte 0x3F == 0

-- Both option bytes are legal. Where conditions are listed, the first is their number, 1 to 16.
unfoldable pub is_legal : Command → ℕ → ℕ → Bool
is_legal command first second =
    (if lists_conditions command then nat_le 1 first && nat_le first 16 else is_legal_set command first)
    && is_legal_second second

unfoldable pub is_handled_number : ℕ → Bool
is_handled_number number = list_any (λ condition. (entry_of condition).number == number) handled_conditions

-- a condition with a label (80), which HANDLE CONDITION alone may give, or without (00)
unfoldable pub may_list : Command → ListedCondition → Bool
may_list command listed =
    is_handled_number listed.number && (listed.label == 0 || (listed.label == 0x80 && is_handle command))

-- some of these conditions has this number
unfoldable pub is_listed : List ListedCondition → ℕ → Bool
is_listed conditions number = list_any (λ listed. listed.number == number) conditions

-- the conditions listed after the block: each may be listed, and none twice
abbrev pub is_legal_list : Command → List ListedCondition → Bool
is_legal_list command [] = true
is_legal_list command (listed ∷ rest) =
    may_list command listed && not (is_listed rest listed.number) && is_legal_list command rest
