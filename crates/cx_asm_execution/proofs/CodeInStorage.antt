-- Where instructions of the code are in storage (this product's own).
use Rattle.std.specs.Prelude.{◌≡◌, Ok, List}
use Rattle.cx_asm_execution.specs.Stands.{AreAt}
use Rattle.cx_load.specs.Fault.{IsFit}
use Rattle.cx_load.specs.Program.{IsLoaded}
use Rattle.cx_load.specs.declared.program.Loaded.{Loaded}
use Rattle.cx_source.specs.declared.source.Item.{Item}
use Rattle.cx_source.specs.declared.source.Source.{Source}
use Rattle.cx_storage.specs.Address.{address_after}
use Rattle.cx_storage.specs.Storage.{Storage}
use Rattle.cx_asm.specs.Assembly.{AssemblyParts, assembly_of}
use Rattle.cx_asm_execution.proofs.Resolved.{StandInCode}

-- Instructions in the code of an accepted source are well formed, and their spellings are in storage, one after the
-- other from their place on, when the program is loaded.
abbrev pub CodeIsLoaded : Type 0
CodeIsLoaded = (source : Source) (assembly : AssemblyParts) (first items : List Item) (storage after : Storage) (loaded : Loaded)
    → assembly_of source ≡ Ok assembly → IsFit assembly.section.image
    → IsLoaded storage assembly.section.image loaded after
    → (code : StandInCode source first items assembly.section.resolved) → AreAt after (address_after loaded.at code.at) code.code
