-- How often the statements of a program were run (own).
use Rattle.std.specs.Prelude.{ℕ, ◌+◌, ◌-◌, ◌/◌, ◌%◌, ◌==◌, Bool, false, ◌&&◌, ◌||◌, not, if◌then◌else◌, nat_lt, codes, Option, Some, None, option_and_then, is_some, List, fold, length, map, take, drop}
use Rattle.std.specs.Option.{option_map_or}
use Rattle.cx_load.specs.declared.program.Loaded.{Loaded}
use Rattle.cx_region.specs.State.{RegionState}
use Rattle.cx_region.specs.Tables.{program_of}
use Rattle.cx_storage.specs.Address.{address_after}
use Rattle.cx_storage.specs.Storage.{Storage, byte_at}
use Rattle.cx_look_symbols.specs.Sources.{Sources, source_lines}
use Rattle.cx_look_symbols.specs.declared.statements.StatementPlace.{StatementPlace}
use Rattle.cx_look_cover.specs.Statements.{instruction_places}
use Rattle.cx_exec.specs.Tallies.{capped, tally_at}
use Rattle.cx_look_cover.specs.declared.counts.Counted.{Counted}
use Rattle.cx_exec.specs.declared.tallied.Tally.{Tally}

-- ---- conditional branches (GA22-7000, "Branch on Condition", "Branch on Count")
-- a mask that some condition codes meet, and others don't
abbrev pub is_of_some_codes : ℕ → Bool
is_of_some_codes mask = not (mask == 0) && not (mask == 15)

-- BC and BCR with such a mask, BCT and BCTR; with register 0 a BCR and a BCTR don't branch
unfoldable pub is_conditional : ℕ → ℕ → Bool
is_conditional code second =
    code == 0x47 && is_of_some_codes (second / 16)
    || (code == 0x07 && is_of_some_codes (second / 16) && not (second % 16 == 0)
    || (code == 0x46 || code == 0x06 && not (second % 16 == 0)))

-- by the bytes that storage has at an address
unfoldable pub is_conditional_at : Storage → ℕ → Bool
is_conditional_at s address =
    option_map_or (λ code. option_map_or (is_conditional code) (byte_at s (address_after address 1)) false)
    (byte_at s address) false

-- ---- a statement
-- the address of its first byte
abbrev pub statement_address : Loaded → StatementPlace → ℕ
statement_address loaded place = address_after loaded.at place.start

-- the runs at the addresses of its bytes
abbrev pub runs_of : List Tally → ℕ
runs_of tallies = fold (λ n t. capped (n + t.runs)) 0 tallies

-- the tally of a conditional branch at an address; none of another instruction
abbrev pub branch_at : Storage → List Tally → ℕ → Option Tally
branch_at s tallies address = if is_conditional_at s address then Some (tally_at tallies address) else None

-- its line, how often it was run, and, where it is a conditional branch, the runs at its address
abbrev pub counted_of : Storage → List Tally → Loaded → StatementPlace → Counted
counted_of s tallies loaded place =
    let address = statement_address loaded place in
    record {
      line = place.line;
      runs = runs_of (take (place.end - place.start) (drop address tallies));
      branch = branch_at s tallies address;
    }

abbrev pub was_run : Counted → Bool
was_run it = not (it.runs == 0)

-- ---- a branch
abbrev pub is_branch : Counted → Bool
is_branch it = is_some it.branch

-- it was taken, and it wasn't
abbrev pub goes_both_ways : Counted → Bool
goes_both_ways it = option_map_or (λ t. nat_lt 0 t.away && nat_lt t.away t.runs) it.branch false

-- the one way that it went; None where it wasn't run, or went both ways
unfoldable pub one_way : Tally → Option (List ℕ)
one_way t =
    if t.runs == 0 then None
    else (if t.away == 0 then Some (codes "NOT TAKEN")
    else (if nat_lt t.away t.runs then None else Some (codes "ALWAYS")))

-- ---- a program
abbrev pub counted_in : List (List ℕ) → Storage → List Tally → Loaded → List Counted
counted_in lines s tallies loaded = map (counted_of s tallies loaded) (instruction_places lines)

-- its statements, where a source defined it
unfoldable pub counted_with : Sources → Storage → List Tally → List ℕ → Loaded → Option (List Counted)
counted_with sources s tallies name loaded =
    if length (source_lines sources name) == 0 then None
    else Some (counted_in (source_lines sources name) s tallies loaded)

unfoldable pub counted_program : Sources → RegionState → List Tally → List ℕ → Option (List Counted)
counted_program sources region tallies name =
    option_and_then (counted_with sources region.shared.storage tallies name) (program_of region name)
