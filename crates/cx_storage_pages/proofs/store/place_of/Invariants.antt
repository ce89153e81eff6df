use Rattle.std.proofs.Common.{◌-◌, ◌^◌, ◌≤◌}
use Rattle.cx_storage_pages.specs.Parts.Shown.{stored}
use Rattle.cx_storage_pages.proofs.ScanLemmas.{IsScanned}
use Rattle.cx_storage_pages.proofs.store.place_of.Given as goal

abbrev pub invariant-loop-from : goal.invariant-loop-from
invariant-loop-from l = (l.from ≤ 2 ^ 29) × IsScanned (stored l.areas l.pages) l.first l.last l.len l.from l.g

abbrev pub decreases-loop-from : goal.decreases-loop-from
decreases-loop-from l = 2 ^ 34 - l.g
