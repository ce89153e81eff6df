-- An alteration, by the parts that change; no public contract cites it.
use Rattle.std.specs.Prelude.{◌≡◌, MatchOption}
use Rattle.cx_region_state.specs.State.{SharedState, context}
use Rattle.cx_region.specs.declared.changes.Change.{Change}
use Rattle.cx_region.specs.State.{TerminalState}
use Rattle.cx_region.specs.Alter.{after_change, task_left}

-- of what tasks share and of one terminal
unfoldable pub AlteredAt : Change → SharedState → TerminalState → SharedState → TerminalState → Type 0
AlteredAt change shared terminal after left =
    MatchOption terminal.task ((after ≡ shared) × (left ≡ terminal)) (λ task.
    let reached = after_change change (context shared terminal.entry task) in
    (after ≡ reached.shared)
    × (left ≡ record { entry = reached.terminal_entry; task = task_left change reached.task }))
