-- Where an address is.
use Rattle.std.specs.Prelude.{ℕ, ◌+◌, ◌-◌, Bool, ◌&&◌, nat_le, nat_lt, List}
use Rattle.cx_load.specs.declared.program.Loaded.{Loaded}
use Rattle.cx_look_symbols.specs.declared.places.Spot.{Spot}

abbrev pub is_in : ℕ → Loaded → Bool
is_in address loaded = nat_le loaded.at address && nat_lt address (loaded.at + loaded.len)

abbrev pub spot_in : ℕ → List ℕ × Loaded → Spot
spot_in address program = record { program = program.0; offset = address - program.1.at }
