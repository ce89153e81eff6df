-- The text of a section: the bytes of its resolved lines, and zeros between and after them (this product's own).
use Rattle.std.specs.Prelude.{ℕ, ◌-◌, List, [], ◌∷◌, ◌++◌, replicate}
use Rattle.cx_code.specs.declared.disassembly.Line.{Line}
use Rattle.cx_asm_image.specs.Resolved.{bytes_of, offset_after}

-- the bytes from an offset up to a size
abbrev pub text_from : ℕ → List Line → ℕ → List ℕ
text_from from [] size = replicate (size - from) 0
text_from from (line ∷ rest) size =
    replicate (line.at - from) 0 ++ (bytes_of line.what ++ text_from (offset_after line) rest size)

-- all the bytes of a section of a size
unfoldable pub section_text : List Line → ℕ → List ℕ
section_text lines size = text_from 0 lines size
