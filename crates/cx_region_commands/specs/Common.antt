-- What the rows of commands have in common (this product's own).
use Rattle.std.specs.Prelude.{◌≡◌, ℕ, Bool, List, [], Option, Some, None, ◌==◌, if◌then◌else◌, replicate, unwrap_or}
use Rattle.std.specs.Option.{option_and_then, option_map}
use Rattle.std.specs.List.{AllByRecursion}
use Rattle.std.specs.Map.{lookup}
use Rattle.cx_ebcdic.specs.Names.{is_name}
use Rattle.cx_base.specs.declared.conditions.Condition.{Condition}
use Rattle.cx_base.specs.declared.conditions.Condition.TheVariants.{Normal}
use Rattle.cx_base.specs.declared.options.OptionName.{OptionName}
use Rattle.cx_base.specs.declared.options.OptionName.TheVariants.{Commarea, Program}
use Rattle.cx_base.specs.Arguments.{has_option}
use Rattle.cx_storage.specs.Storage.{Storage}
use Rattle.cx_load.specs.declared.program.Loaded.{Loaded}
use Rattle.cx_region_state.specs.Call.{Call, place_of}
use Rattle.cx_region_state.specs.Inputs.{bytes_of, piece_of}
use Rattle.cx_region_state.specs.declared.inputs.StorageSpan.{StorageSpan}
use Rattle.cx_region_state.specs.declared.outputs.Output.{Output}
use Rattle.cx_region_state.specs.declared.outputs.OutputValue.{OutputValue}
use Rattle.cx_region_state.specs.Areas.{IsSoundProgram, IsTaskPlace}
use Rattle.cx_region_state.specs.declared.verdict.TaskChange.{TaskChange}
use Rattle.cx_region_state.specs.declared.verdict.TaskChange.TheVariants.{Nothing}
use Rattle.cx_region_state.specs.declared.verdict.NewLevel.{NewLevel}
use Rattle.cx_region_state.specs.declared.verdict.Verdict.{Verdict}
use Rattle.cx_region_state.specs.declared.verdict.Verdict.TheVariants.{Meets}
use Rattle.cx_region_commands.specs.declared.common.Called.{Called}

-- the call has the option
abbrev pub has : Call → OptionName → Bool
has call name = has_option call.command call.first name

-- What is at an argument that each call of the command has: its address, the name there, and the bytes that LENGTH
-- measures. Where there is none, as in no call that is judged, they are 0, zeros, and no byte.
unfoldable pub place_at : Call → OptionName → ℕ
place_at call option = unwrap_or (place_of call option) 0

unfoldable pub name_at : Storage → Call → OptionName → List ℕ
name_at storage call option = unwrap_or (bytes_of storage call option 8) (replicate 8 0)

unfoldable pub piece_at : Storage → Call → OptionName → StorageSpan
piece_at storage call option = unwrap_or (piece_of storage call option) (record { place = 0; len = 0 })

-- a condition alone: no output, no change
abbrev pub condition_alone : Condition → Verdict
condition_alone condition = Meets condition [] Nothing

-- NORMAL, with a change and no output
abbrev pub does : TaskChange → Verdict
does change = Meets Normal [] change

abbrev pub output : OptionName → OutputValue → Output
output option source = record { option = option; source = source }

-- The row of a command that needs a place for `len` bytes in task storage: it speaks of the least one, or of none.
pub record AtPlace (storage : Storage) (len : ℕ) (row : Option ℕ → Verdict) (verdict : Verdict) : Type 0 where
  pub place : Option ℕ
  pub least : IsTaskPlace storage len place
  pub is : verdict ≡ row place

-- where the program of a name is
unfoldable pub program_named : List (List ℕ × Loaded) → List ℕ → Option Loaded
program_named programs name = lookup (is_name name) programs

-- each program's working storage has a length, and its entry is an address
abbrev pub AreSoundPrograms : List (List ℕ × Loaded) → Type 0
AreSoundPrograms programs = AllByRecursion (λ entry. IsSoundProgram entry.1) programs

-- the COMMAREA that a call passes on, where it has bytes
unfoldable pub commarea_of : Storage → Call → Option StorageSpan
commarea_of storage call =
    option_and_then (λ piece. if piece.len == 0 then None else Some piece) (piece_of storage call Commarea)

-- the program that PROGRAM names, where there is one
unfoldable pub named_program : Storage → Call → List (List ℕ × Loaded) → Option Called
named_program storage call programs =
    let name = name_at storage call Program in
    option_map (λ loaded. record { name = name; loaded = loaded }) (program_named programs name)

-- a level of the program that begins, with DFHEISTG at this place
abbrev pub new_level : Called → Option StorageSpan → ℕ → NewLevel
new_level called commarea stg = record { program = called.name; loaded = called.loaded; commarea = commarea; stg = stg }
