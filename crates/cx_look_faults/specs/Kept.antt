-- The faulty lines that are reported of a source's lines, of which the first 10,001 are kept (own).
use Rattle.std.specs.Prelude.{ℕ, Bool, List, filter, nat_lt}
use Rattle.cx_look_faults.specs.Faults.{faults_of}
use Rattle.cx_look_faults.specs.declared.faults.FaultyLine.{FaultyLine}

abbrev pub is_kept : FaultyLine → Bool
is_kept fault = nat_lt fault.line 10002

abbrev pub kept_faults : List (List ℕ) → List FaultyLine
kept_faults all = filter is_kept (faults_of all)
