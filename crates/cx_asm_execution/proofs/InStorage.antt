-- The text of an assembled program (this product's own).
use Rattle.std.specs.Prelude.{◌≡◌, ◌≤◌, Ok, length}
use Rattle.cx_asm_image.specs.Assembled.{AssembledParts}
use Rattle.cx_asm_image.specs.Resolved.{AreApart}
use Rattle.cx_asm_image.specs.Text.{section_text}
use Rattle.cx_source.specs.declared.source.Source.{Source}
use Rattle.cx_asm.specs.Assembly.{AssemblyParts, assembly_of}

-- The resolved lines of a program ascend and share no byte, and its text, of 65,536 bytes at most, is theirs.
pub record HasText (parts : AssembledParts) : Type 0 where
  pub apart : AreApart 0 parts.resolved (length parts.image.text)
  pub text : parts.image.text ≡ section_text parts.resolved (length parts.image.text)
  pub short : length parts.image.text ≤ 65536

-- So has each accepted source.
abbrev pub TextsAreMade : Type 0
TextsAreMade = (source : Source) (assembly : AssemblyParts) → assembly_of source ≡ Ok assembly → HasText assembly.section
