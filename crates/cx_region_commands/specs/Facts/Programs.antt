-- A program that is found is sound.
use Rattle.std.proofs.Common.{◌≡◌, ℕ, List, Some}
use Rattle.cx_ebcdic.specs.Names.{is_name}
use Rattle.cx_load.specs.declared.program.Loaded.{Loaded}
use Rattle.cx_region_state.specs.Areas.{IsSoundProgram}
use Rattle.cx_base.specs.Facts.Tables.{found_meets}
use Rattle.cx_region_commands.specs.Common.{AreSoundPrograms, program_named}

pub program_sound : (programs : List (List ℕ × Loaded)) (name : List ℕ) (loaded : Loaded) → AreSoundPrograms programs
    → program_named programs name ≡ Some loaded → IsSoundProgram loaded
unfolding program_named
program_sound programs name loaded sound found = found_meets IsSoundProgram (is_name name) programs loaded sound found
