use Rattle.std.proofs.Common.{◌≡◌, ◌≤◌, length, take, vec_len, vec_capacity}
use Rattle.cx_region.specs.Events.{Run}
use Rattle.cx_region.specs.Sound.{IsSound}
use Rattle.cx_region.proofs.state.Region.run.Given as goal

-- the events so far, with their replies, for all of which there is room; and the region is sound
abbrev pub invariant-loop-i : goal.invariant-loop-i
invariant-loop-i g l =
    Run l.initial.self (take l.i l.events) l.replies.items l.self × IsSound l.self × (vec_len l.replies ≡ l.i) × (length l.events ≤ vec_capacity l.replies)
