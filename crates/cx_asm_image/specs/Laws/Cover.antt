-- What is known of a text: which line is where, and where no line is.
use Rattle.std.specs.Prelude.{◌≡◌, ℕ, Bool, false, ◌&&◌, nat_le, nat_lt, List, length, take, drop, slice_index, ⊤}
use Rattle.std.specs.List.{list_any, AllByRecursion}
use Rattle.cx_code.specs.declared.disassembly.Line.{Line}
use Rattle.cx_code.specs.declared.disassembly.LineContent.{LineContent}
use Rattle.cx_code.specs.declared.disassembly.LineContent.TheVariants.{Code}
use Rattle.cx_code.specs.Spelling.{IsWellFormed}
use Rattle.cx_code.specs.declared.image.Span.{Span}
use Rattle.cx_code.specs.declared.image.SpanKind.TheVariants as kinds
use Rattle.cx_asm_image.specs.Resolved.{bytes_of, size_of, offset_after}

-- a byte at an offset is one of a line's
abbrev pub covers : ℕ → Line → Bool
covers k line = nat_le line.at k && nat_lt k (offset_after line)

-- the bytes of a line are at its place
abbrev pub StandsIn : List ℕ → Line → Type 0
StandsIn text line = take (size_of line.what) (drop line.at text) ≡ bytes_of line.what

-- The text has the section's size, each line's bytes are at its place, and every byte that no line covers is zero.
pub record IsTextOf (resolved : List Line) (size : ℕ) (text : List ℕ) : Type 0 where
  pub long : length text ≡ size
  pub stand : AllByRecursion (StandsIn text) resolved
  pub gaps : (k : ℕ) → list_any (covers k) resolved ≡ false → slice_index text k ≡ 0

-- each line that is an instruction is a well-formed one
abbrev pub HasWellFormed : LineContent → Type 0
HasWellFormed (Code i) = IsWellFormed i
HasWellFormed _ = ⊤

abbrev pub AreWellFormed : List Line → Type 0
AreWellFormed resolved = AllByRecursion (λ line. HasWellFormed line.what) resolved

-- a span called data
abbrev pub as_data : Span → Span
as_data span = record span { kind = kinds.Data }
