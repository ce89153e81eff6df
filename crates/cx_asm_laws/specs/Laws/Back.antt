-- What was assembled comes back.
use Rattle.std.specs.Prelude.{◌≡◌, Ok}
use Rattle.cx_code.specs.Lines.{lines}
use Rattle.cx_source.specs.declared.source.Source.{Source}
use Rattle.cx_asm.specs.Assembly.{AssemblyParts, assembly_of, standing_of}

-- The disassembly of an accepted source's text by its spans is what is in its control section.
abbrev pub ComesBack : Type 0
ComesBack =
    (source : Source) (made : AssemblyParts) → assembly_of source ≡ Ok made
    → lines made.section.image.text made.section.spans ≡ (standing_of source).lines

-- The disassembly is the resolved lines.
abbrev pub LinesAreResolved : Type 0
LinesAreResolved = (source : Source) (made : AssemblyParts) → assembly_of source ≡ Ok made
    → lines made.section.image.text made.section.spans ≡ made.section.resolved
