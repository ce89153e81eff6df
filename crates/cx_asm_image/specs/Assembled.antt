-- What a section is assembled to: its resolved lines, its spans and its image (this product's own).
use Rattle.std.specs.Prelude.{◌≡◌, ℕ, ◌≤◌, List, length, map}
use Rattle.cx_code.specs.declared.image.Image.{Image}
use Rattle.cx_code.specs.declared.image.Span.{Span}
use Rattle.cx_code.specs.declared.disassembly.Line.{Line}
use Rattle.cx_code.specs.Lines.{lines}
use Rattle.cx_asm_image.specs.Resolved.{AreApart}
use Rattle.cx_asm_image.specs.Text.{section_text}
use Rattle.cx_asm_image.specs.Spans.{span_of}

-- the three parts
pub record AssembledParts : Type 0 where
  pub resolved : List Line
  pub spans : List Span
  pub image : Image

-- the parts that resolved lines, a size, relocated words, an entry and a length of working storage make
abbrev pub assembled_parts : List Line → ℕ → List ℕ → ℕ → ℕ → AssembledParts
assembled_parts resolved size relocs entry stg_len = record {
  resolved = resolved;
  spans = map span_of resolved;
  image = record { text = section_text resolved size; entry = entry; relocs = relocs; stg_len = stg_len };
}

-- The lines ascend and share no byte, text and spans are theirs, and they are recovered from text and spans alone.
pub record IsAssembled (parts : AssembledParts) : Type 0 where
  pub apart : AreApart 0 parts.resolved (length parts.image.text)
  pub text : parts.image.text ≡ section_text parts.resolved (length parts.image.text)
  pub spans : parts.spans ≡ map span_of parts.resolved
  pub round_trip : lines parts.image.text parts.spans ≡ parts.resolved
  pub short : length parts.image.text ≤ 65536
