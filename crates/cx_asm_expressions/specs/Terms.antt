-- The terms of an expression (GC33-4010, "Terms" and "Expressions").
use Rattle.std.specs.Prelude.{ℕ, Bool, not, ◌&&◌, ◌||◌, ◌==◌, nat_le, if◌then◌else◌, Option, Some, None, List, [], ◌∷◌, ◌++◌, length, map, drop, slice_index, option_and_then, codes}
use Rattle.std.specs.Str.{byte}
use Rattle.cx_ebcdic.specs.Lookup.{each_some}
use Rattle.cx_source.specs.Lines.{is_symbol_name}
use Rattle.cx_source.specs.Marks.{outside_apostrophes}
use Rattle.cx_asm_expressions.specs.Digits.{is_number}
use Rattle.cx_asm_expressions.specs.Texts.{before_apostrophe, is_paired, characters, has_codes}
use Rattle.cx_asm_expressions.specs.declared.terms.Sign.{Sign}
use Rattle.cx_asm_expressions.specs.declared.terms.Sign.TheVariants.{Plus, Minus}
use Rattle.cx_asm_expressions.specs.declared.terms.TermKind.{TermKind}
use Rattle.cx_asm_expressions.specs.declared.terms.TermKind.TheVariants.{Symbol, Decimal, Hexadecimal, Binary, Characters, Here, LengthOf}

-- A part of an expression: what is between signs, with the sign before it.
pub record Part : Type 0 where
  pub sign : Sign
  pub text : List ℕ

abbrev pub part_of : Sign → List ℕ → Part
part_of sign text = record { sign = sign; text = text }

-- A term: its sign, what it is, and what it is written with: a symbol, digits, or what is between the apostrophes.
pub record Term : Type 0 where
  pub sign : Sign
  pub kind : TermKind
  pub text : List ℕ

abbrev pub term_of : Sign → TermKind → List ℕ → Term
term_of sign kind text = record { sign = sign; kind = kind; text = text }

abbrev pub is_sign : ℕ → Bool
is_sign c = c == byte "+" || c == byte "-"

-- The parts between signs. With each character comes whether it lies outside apostrophes; `text` is what there is of
-- the first part already.
abbrev pub expression_parts_from : Sign → List ℕ → List ℕ → List Bool → List Part
expression_parts_from sign text [] outs = part_of sign text ∷ []
expression_parts_from sign text (c ∷ after) [] = expression_parts_from sign (text ++ c ∷ []) after []
expression_parts_from sign text (c ∷ after) (out ∷ outs) =
    if out && is_sign c
    then part_of sign text ∷ expression_parts_from (if c == byte "-" then Minus else Plus) [] after outs
    else expression_parts_from sign (text ++ c ∷ []) after outs

-- the parts of an expression, cut at the signs that lie outside apostrophes; before the first comes a plus
abbrev pub parts_of : List ℕ → List Part
parts_of text = expression_parts_from Plus [] text (outside_apostrophes text)

-- 1 to `most` digits of a base
abbrev pub is_short_number : ℕ → ℕ → List ℕ → Bool
is_short_number base most body = is_number base body && nat_le (length body) most

-- 1 to 4 characters with codes
abbrev pub is_short_text : List ℕ → Bool
is_short_text body = is_paired body && has_codes body && not (length body == 0) && nat_le (length (characters body)) 4

-- X'..', B'..' and C'..', of at most 4 bytes
abbrev pub self_defining : Sign → ℕ → List ℕ → Option Term
self_defining sign letter body =
    if letter == byte "X" && is_short_number 16 8 body then Some (term_of sign Hexadecimal body)
    else (if letter == byte "B" && is_short_number 2 32 body then Some (term_of sign Binary body)
    else (if letter == byte "C" && is_short_text body then Some (term_of sign Characters body) else None))

-- what a letter and an apostrophe begin
abbrev pub quoted_term : Sign → ℕ → List ℕ → Option Term
quoted_term sign letter after =
    if letter == byte "L" then (if is_symbol_name after then Some (term_of sign LengthOf after) else None)
    else option_and_then (self_defining sign letter) (before_apostrophe after)

-- The term that a part writes, if it writes one: a letter and an apostrophe begin it, or it is an asterisk, a symbol
-- or a decimal.
unfoldable pub read_term : Part → Option Term
read_term part =
    if slice_index part.text 1 == byte "'" then quoted_term part.sign (slice_index part.text 0) (drop 2 part.text)
    else (if slice_index part.text 0 == byte "*" && length part.text == 1 then Some (term_of part.sign Here [])
    else (if is_symbol_name part.text then Some (term_of part.sign Symbol part.text)
    else (if is_number 10 part.text then Some (term_of part.sign Decimal part.text) else None)))

-- the terms of an expression; None where a part writes none
unfoldable pub terms_of : List ℕ → Option (List Term)
terms_of text = each_some (map read_term (parts_of text))

-- ---- writing terms
abbrev pub written_sign : Sign → List ℕ
written_sign Plus = codes "+"
written_sign Minus = codes "-"

abbrev pub written_kind : TermKind → List ℕ → List ℕ
written_kind Hexadecimal text = codes "X'" ++ text ++ codes "'"
written_kind Binary text = codes "B'" ++ text ++ codes "'"
written_kind Characters text = codes "C'" ++ text ++ codes "'"
written_kind Here text = codes "*"
written_kind LengthOf text = codes "L'" ++ text
written_kind _ text = text

-- a term after its sign
abbrev pub term_text : Term → List ℕ
term_text term = written_sign term.sign ++ written_kind term.kind term.text
