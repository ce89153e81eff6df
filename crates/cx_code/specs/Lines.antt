-- Disassembly: what the spans of a text hold (this product's own).
use Rattle.std.specs.Prelude.{ℕ, List, take, drop, map, Option, Some, None}
use Rattle.cx_code.specs.declared.image.Span.{Span}
use Rattle.cx_code.specs.declared.image.SpanKind.{SpanKind}
use Rattle.cx_code.specs.declared.image.SpanKind.TheVariants as kinds
use Rattle.cx_code.specs.declared.disassembly.Line.{Line}
use Rattle.cx_code.specs.declared.disassembly.LineContent.{LineContent}
use Rattle.cx_code.specs.declared.disassembly.LineContent.TheVariants.{Code, Data, Space}
use Rattle.cx_code.specs.Spelling.{Instruction}
use Rattle.cx_code.specs.Reading.{canonical}

-- the bytes of a span that lie in the text; those past its end are left out
abbrev pub span_bytes : List ℕ → Span → List ℕ
span_bytes text span = take span.len (drop span.start text)

-- bytes that are exactly a canonical spelling are that instruction, others are data
abbrev pub code_or_data : List ℕ → Option Instruction → LineContent
code_or_data bytes (Some i) = Code i
code_or_data bytes None = Data bytes

-- what a span of each kind holds; a space keeps its length, whatever the text's end
abbrev pub what_in : List ℕ → Span → SpanKind → LineContent
what_in text span kinds.Code = code_or_data (span_bytes text span) (canonical (span_bytes text span))
what_in text span kinds.Data = Data (span_bytes text span)
what_in text span kinds.Space = Space span.len

-- the line of a span
unfoldable pub disassembled_line : List ℕ → Span → Line
disassembled_line text span = record { at = span.start; what = what_in text span span.kind }

-- a line for each span
abbrev pub lines : List ℕ → List Span → List Line
lines text spans = map (disassembled_line text) spans
