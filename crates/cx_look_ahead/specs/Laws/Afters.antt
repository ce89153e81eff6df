-- What AHEAD AFTER writes is determined.
use Rattle.std.specs.Prelude.{◌≡◌, ℕ, List}
use Rattle.cx_exec.specs.Machine.{Machine}
use Rattle.cx_region.specs.State.{RegionState}
use Rattle.cx_look_lines.specs.Words.{Lines}
use Rattle.cx_look_ahead.specs.After.{AfterText}

-- there is one text
abbrev pub AfterDecides : Type 0
AfterDecides =
    (region : RegionState) (name what : List ℕ) (n : ℕ) (then_lines : Machine → Lines) (one other : Lines)
    → AfterText region name what n then_lines one → AfterText region name what n then_lines other → one ≡ other
