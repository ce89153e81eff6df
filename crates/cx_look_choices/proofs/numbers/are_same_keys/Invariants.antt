use Rattle.std.proofs.Common.{ℕ, ◌<◌}
use Rattle.cx_look_choices.specs.Rows.{IsSameKey}
use Rattle.cx_look_choices.proofs.numbers.are_same_keys.Given as goal

abbrev pub invariant-loop-number : goal.invariant-loop-number
invariant-loop-number g l =
    (k : ℕ) → k < l.number
    → IsSameKey (g.V.Seen.shows l.seen) l.choices.choices.items l.choices.one_number l.region l.from l.real k
