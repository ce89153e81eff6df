-- The spans of a text: the places and kinds of the resolved lines (this product's own).
use Rattle.cx_code.specs.declared.image.Span.{Span}
use Rattle.cx_code.specs.declared.image.SpanKind.{SpanKind}
use Rattle.cx_code.specs.declared.image.SpanKind.TheVariants as kinds
use Rattle.cx_code.specs.declared.disassembly.Line.{Line}
use Rattle.cx_code.specs.declared.disassembly.LineContent.{LineContent}
use Rattle.cx_code.specs.declared.disassembly.LineContent.TheVariants.{Code, Data, Space}
use Rattle.cx_asm_image.specs.Resolved.{size_of}

-- the kind of what is at a place
abbrev pub kind_of : LineContent → SpanKind
kind_of (Code i) = kinds.Code
kind_of (Data bytes) = kinds.Data
kind_of (Space n) = kinds.Space

-- a line's place and kind
abbrev pub span_of : Line → Span
span_of line = record { start = line.at; len = size_of line.what; kind = kind_of line.what }
