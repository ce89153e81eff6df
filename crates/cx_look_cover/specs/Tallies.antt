-- How often instructions of programs were run (own).
use Rattle.std.specs.Prelude.{ℕ, ◌+◌, ◌-◌, max, List, ◌++◌, fold, length, replicate}
use Rattle.cx_exec.specs.Tallies.{no_runs}
use Rattle.cx_exec.specs.declared.tallied.Tally.{Tally}
use Rattle.cx_load.specs.declared.program.Loaded.{Loaded}

-- the highest address after one of the programs that are loaded, by their names
abbrev pub end_with : ℕ → List ℕ × Loaded → ℕ
end_with end (name, loaded) = max end (loaded.at + loaded.len)

abbrev pub programs_end : List (List ℕ × Loaded) → ℕ
programs_end programs = fold end_with 0 programs

-- tallies of at least so many addresses
abbrev pub reaching : List Tally → ℕ → List Tally
reaching tallies n = tallies ++ replicate (n - length tallies) no_runs
