-- What the line ALTER says after the terminal: which change an operator makes of its task (own).
use Rattle.std.specs.Prelude.{ℕ, ◌+◌, ◌*◌, ◌==◌, nat_le, if◌then◌else◌, Option, Some, None, List, length, fold, codes}
use Rattle.std.specs.Option.{option_and_then, option_map}
use Rattle.std.specs.Str.{bytes_eq}
use Rattle.cx_region.specs.declared.changes.Change.{Change}
use Rattle.cx_region.specs.declared.changes.Change.TheVariants.{Register, Byte, Nop, Abend}
use Rattle.cx_script_actions.specs.Words.{word, after_first_blank, two_words, number_with_digits, hex_bytes}

-- the number that bytes are, the first one highest
abbrev pub number_in : List ℕ → ℕ
number_in bytes = fold (λ number byte. number * 256 + byte) 0 bytes

-- the number that hexadecimal digits spell, two for each of n bytes
unfoldable pub hex_number : ℕ → List ℕ → Option ℕ
hex_number bytes text = if length text == 2 * bytes then option_map number_in (hex_bytes text) else None

-- a register: one or two decimal digits, at most 15
abbrev pub register_of : List ℕ → Option ℕ
register_of text = option_and_then (λ r. if nat_le r 15 then Some r else None) (number_with_digits 1 2 text)

-- NOP; ABEND; REG with a register and a word of eight digits; BYTE with an address of six and a byte of two
unfoldable pub change_of : List ℕ → Option Change
change_of text =
    let is = bytes_eq (word text) in
    if bytes_eq text (codes "NOP") then Some Nop
    else if bytes_eq text (codes "ABEND") then Some Abend
    else if is (codes "REG")
    then option_and_then (two_words Register register_of (hex_number 4)) (after_first_blank text)
    else if is (codes "BYTE")
    then option_and_then (two_words Byte (hex_number 3) (hex_number 1)) (after_first_blank text)
    else None
