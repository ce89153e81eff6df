-- Where everything is (GC33-4010, "Literal Pool" and "END"; the length of the working storage is this product's own).
use Rattle.std.specs.Prelude.{◌≡◌, ℕ, if◌then◌else◌, Option, Some, None, option_map, Result, Ok, Err, List, [], ◌∷◌, ◌++◌, reverse, codes}
use Rattle.std.specs.Option.{option_map_or}
use Rattle.cx_source.specs.declared.source.Source.{Source}
use Rattle.cx_asm_expressions.specs.Names.{symbol_name}
use Rattle.cx_asm_expressions.specs.Symbols.{find_in}
use Rattle.cx_asm_expressions.specs.Weights.{stands_in}
use Rattle.cx_asm_pools.specs.Pools.{PlacedLiterals, cap, closed_pool, pool_extent}
use Rattle.cx_asm_pass1.specs.Layout.{extent_of}
use Rattle.cx_asm_pass1.specs.PassState.{PassState, state_after, length_of_section}
use Rattle.cx_asm_pass1.specs.declared.layout.Extent.{Extent}
use Rattle.cx_asm_pass1.specs.declared.roles.Role.TheVariants.{Pool}
use Rattle.cx_asm_pass1.specs.declared.place.ControlSection.{ControlSection}
use Rattle.cx_asm_pass1.specs.declared.places.Places.{Places}
use Rattle.cx_asm_pass1.specs.declared.place.LineFault.{LineFault}

-- what is known by all statements of a source
abbrev pub final_state : Source → PassState
final_state source = state_after (reverse source.items)

-- The last pool is at the control section's end, as at an LTORG.
abbrev pub last_pool_extent : PassState → Extent
last_pool_extent state =
    extent_of Pool [] (pool_extent state.pool) (cap (length_of_section state.control state.lengths))

abbrev pub all_pools : PassState → List PlacedLiterals
all_pools state = state.pools ++ closed_pool (cap (last_pool_extent state).offset) state.pool ∷ []

-- the control section, with its length
abbrev pub control_section : PassState → Option ControlSection
control_section state = option_map (λ name. record { name = name; length = (last_pool_extent state).end }) state.control

-- the length of the dummy section DFHEISTG; 0 without it
abbrev pub storage_length : PassState → ℕ
storage_length state =
    option_map_or (λ name. if stands_in name state.control then 0 else state.lengths name)
    (symbol_name (codes "DFHEISTG")) 0

pub record IsPlaced (state : PassState) (places : Places) : Type 0 where
  pub statements : places.statements ≡ state.places
  pub symbols : (name : List ℕ) → find_in places.symbols name ≡ state.symbols name
  pub pools : places.pools ≡ all_pools state
  pub control : places.control ≡ control_section state
  pub stg_length : places.stg_length ≡ storage_length state

-- The answer is where everything is, or the first fault.
abbrev pub PlacesAs : PassState → Result Places LineFault → Type 0
PlacesAs state (Ok places) = (state.fault ≡ None) × IsPlaced state places
PlacesAs state (Err first) = state.fault ≡ Some first
