-- Bytes of lines as they are shown (own).
use Rattle.std.specs.Prelude.{ℕ, if◌then◌else◌, is_some}
use Rattle.std.specs.Str.{byte}
use Rattle.cx_ebcdic.specs.Characters.{code_of}

-- a byte of a line as it is shown: a period where it has no character
abbrev pub printable_byte : ℕ → ℕ
printable_byte c = if is_some (code_of c) then c else byte "."
