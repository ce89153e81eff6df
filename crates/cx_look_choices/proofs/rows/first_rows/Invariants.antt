use Rattle.std.proofs.Common.{◌≤◌}
use Rattle.cx_look_choices.specs.Parts.Ways.{AreFirstRows}
use Rattle.cx_look_choices.proofs.rows.first_rows.Given as goal

abbrev pub invariant-loop-place : goal.invariant-loop-place
invariant-loop-place g l =
    AreFirstRows (g.V.Seen.shows l.seen) l.searched.choices.now.choices.items l.searched.choices.now.one_number l.searched.region.now
    l.searched.found.now.states.entries l.searched.many l.place l.rows.texts.items l.rows.rows.items
    × (l.place ≤ l.searched.many)
