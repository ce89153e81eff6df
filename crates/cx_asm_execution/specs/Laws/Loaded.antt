-- What is in storage of an assembled program that is loaded (GA22-7000, "Storage Addressing"; that resolved lines are
-- loaded, and words relocated, is this project's own).
use Rattle.std.specs.Prelude.{◌≡◌, ◌⊎◌, ℕ, ◌+◌, ◌≤◌, true, Ok, Some, List}
use Rattle.std.specs.List.{AllByRecursion}
use Rattle.cx_code.specs.declared.disassembly.Line.{Line}
use Rattle.cx_asm_image.specs.Resolved.{bytes_of, offset_after, size_of, is_code}
use Rattle.cx_load.specs.Fault.{IsFit}
use Rattle.cx_load.specs.Program.{IsLoaded}
use Rattle.cx_load.specs.declared.program.Loaded.{Loaded}
use Rattle.cx_source.specs.declared.source.Source.{Source}
use Rattle.cx_storage.specs.Address.{address_after}
use Rattle.cx_storage.specs.Storage.{Storage, span}
use Rattle.cx_asm.specs.Assembly.{AssemblyParts, assembly_of}

-- a line's bytes are in storage at its place in a program that is loaded at an address
abbrev pub StandsAt : Storage → ℕ → Line → Type 0
StandsAt s at line = span s (address_after at line.at) (size_of line.what) ≡ Some (bytes_of line.what)

-- no relocated word has a byte of a line
abbrev pub IsUnrelocated : List ℕ → Line → Type 0
IsUnrelocated relocs line = AllByRecursion (λ r. (r + 4 ≤ line.at) ⊎ (offset_after line ≤ r)) relocs

-- Each resolved line of an accepted source without such a word is in storage when the program is loaded.
abbrev pub LinesAreLoaded : Type 0
LinesAreLoaded = (source : Source) (assembly : AssemblyParts) (storage after : Storage) (loaded : Loaded)
    → assembly_of source ≡ Ok assembly → IsFit assembly.section.image
    → IsLoaded storage assembly.section.image loaded after
    → AllByRecursion (λ line. IsUnrelocated assembly.section.image.relocs line → StandsAt after loaded.at line)
    assembly.section.resolved

-- No instruction of an accepted source has one.
abbrev pub NoCodeIsRelocated : Type 0
NoCodeIsRelocated = (source : Source) (assembly : AssemblyParts) → assembly_of source ≡ Ok assembly
    → AllByRecursion (λ line. is_code line.what ≡ true → IsUnrelocated assembly.section.image.relocs line)
    assembly.section.resolved
