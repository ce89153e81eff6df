use Rattle.std.proofs.Common.{◌≡◌, ◌≤◌, length, take, vec_len, vec_capacity}
use Rattle.cx_region.specs.Sound.{IsSound}
use Rattle.cx_edf.specs.Runs.{EdfRun}
use Rattle.cx_edf.proofs.debugged.Debugged.run.Given as goal

-- the events so far, with their answers, for all of which there is room; and the region is sound
abbrev pub invariant-loop-i : goal.invariant-loop-i
invariant-loop-i g l =
    EdfRun g.M.MakesDisplays.make l.initial.self (take l.i l.events) l.answers.items l.self × IsSound l.self.region × (vec_len l.answers ≡ l.i) × (length l.events ≤ vec_capacity l.answers)
