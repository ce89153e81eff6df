-- The value of a term (GC33-4010, "Terms").
use Rattle.std.specs.Prelude.{ℕ, pos, nat_le, if◌then◌else◌, Option, Result, Ok, Err, List, option_and_then}
use Rattle.std.specs.Option.{ok_or, option_map_or}
use Rattle.cx_asm_expressions.specs.Digits.{bound, number_in}
use Rattle.cx_asm_expressions.specs.Texts.{character_number}
use Rattle.cx_asm_expressions.specs.Names.{symbol_name}
use Rattle.cx_asm_expressions.specs.Symbols.{absolute}
use Rattle.cx_asm_expressions.specs.Terms.{Term}
use Rattle.cx_asm_expressions.specs.declared.values.Value.{Value}
use Rattle.cx_asm_expressions.specs.declared.terms.TermKind.{TermKind}
use Rattle.cx_asm_expressions.specs.declared.terms.TermKind.TheVariants.{Symbol, Decimal, Hexadecimal, Binary, Characters, Here, LengthOf}
use Rattle.cx_asm_expressions.specs.declared.faults.FaultKind.{FaultKind}
use Rattle.cx_asm_expressions.specs.declared.faults.FaultKind.TheVariants.{UndefinedSymbol, BadOperand, ValueOutOfRange}

-- the greatest self-defining term
abbrev pub greatest : ℕ
greatest = 4294967295

-- a number as a term, where it isn't above a greatest one
abbrev pub number_value : ℕ → ℕ → Result Value FaultKind
number_value most number = if nat_le number most then Ok (absolute (pos number)) else Err ValueOutOfRange

-- the value of a symbol, by what `find` knows of names
abbrev pub look_up : (List ℕ → Option Value) → List ℕ → Option Value
look_up find text = option_and_then find (symbol_name text)

-- The value of a term by its kind: `find` knows the symbols, and `here` is where the location counter is, if anywhere.
abbrev pub kind_value : (List ℕ → Option Value) → Option Value → TermKind → List ℕ → Result Value FaultKind
kind_value find here Symbol text = ok_or (look_up find text) UndefinedSymbol
kind_value find here Decimal text = number_value greatest (number_in 10 text)
kind_value find here Hexadecimal text = number_value greatest (number_in 16 text)
kind_value find here Binary text = number_value greatest (number_in 2 text)
kind_value find here Characters text = number_value greatest (character_number text)
kind_value find here Here text = ok_or here BadOperand
kind_value find here LengthOf text =
    option_map_or (λ (value : Value). number_value bound value.length) (look_up find text) (Err UndefinedSymbol)

unfoldable pub term_value : (List ℕ → Option Value) → Option Value → Term → Result Value FaultKind
term_value find here term = kind_value find here term.kind term.text
