-- A look ahead is that of the next turn.
use Rattle.std.proofs.Common.{ap, sym, arith, ◌∙◌}
use Rattle.std.specs.List.{flat_map}
use Rattle.std.specs.Prelude.{◌≡◌, ℕ, Option, Some, None, MatchOption, IsSomeAnd, List, ◌++◌}
use Rattle.cx_exec.specs.Machine.{Machine}
use Rattle.cx_load.specs.declared.program.Loaded.{Loaded}
use Rattle.cx_region_laws.specs.Laws.Regions.{TurnsDecide}
use Rattle.cx_region_state.specs.declared.replies.TurnReply.{TurnReply}
use Rattle.cx_region_task.specs.Turn.{most_steps}
use Rattle.cx_region.specs.State.{RegionState}
use Rattle.cx_storage.specs.Storage.{Storage}
use Rattle.cx_look_lines.specs.Words.{Lines}
use Rattle.cx_look_symbols.specs.Sources.{Sources}
use Rattle.cx_look_turn.specs.Laws.{TracesDecide}
use Rattle.cx_look_turn.specs.Traces.{IsTrace}
use Rattle.cx_look_turn.specs.declared.traces.Trace.{Trace}
use Rattle.cx_look_turn.specs.declared.traces.Visit.{Visit}
use Rattle.cx_look_ahead.specs.Ahead.{TurnText, fields_ahead, changed_row_line}
use Rattle.cx_look_ahead.specs.Instructions.{count_line, trace_lines, visit_line}
use Rattle.cx_look_ahead.specs.Parts.Words.{turn_end_line}
use Rattle.cx_look_turn.specs.NextTurn.{IsAhead, machine_ahead}
use Rattle.cx_look_ahead.specs.Laws.{AheadDecides, NextTurnIsShown, RowsAreTheDifference, RowsDecide}
use Rattle.cx_look_ahead.proofs.RowLemmas.{differs_in_row, in_row_differs, rows_decide}

pub next_turn_is_shown : TurnsDecide → NextTurnIsShown
next_turn_is_shown decide sources region new name n reply lines ahead turns =
    let same = decide region name ahead.reply reply ahead.after new ahead.turns turns in
    rw (same.0, same.1) at ahead.is

-- ---- there is one text
AreOf : ℕ → Option Machine → Option Trace → Type 0
AreOf n m trace = MatchOption m (trace ≡ None) (λ m. IsSomeAnd trace (λ it. IsTrace most_steps m n it.count it.last.items))

lines_decide : TracesDecide → (sources : Sources) (programs : List (List ℕ × Loaded)) (n : ℕ) (m : Option Machine) (one other : Option Trace)
    → AreOf n m one → AreOf n m other → trace_lines sources programs one ≡ trace_lines sources programs other
unfolding AreOf
lines_decide decide sources programs n None one other p q = ap (λ (trace : Option Trace). trace_lines sources programs trace) (p ∙ sym q)
lines_decide decide sources programs n (Some m) None other p q = absurd p
lines_decide decide sources programs n (Some m) (Some one) None p q = absurd q
lines_decide decide sources programs n (Some m) (Some one) (Some other) p q =
    let same = decide most_steps m n one.count other.count one.last.items other.last.items p q in
    ap (λ count. count_line count ++ flat_map (visit_line sources programs) one.last.items) same.0
    ∙ ap (λ (last : List Visit). count_line other.count ++ flat_map (visit_line sources programs) last) same.1

ahead_lines : TracesDecide → (sources : Sources) (region : RegionState) (name : List ℕ) (n : ℕ) (one other : Option Trace) → IsAhead region name n one
    → IsAhead region name n other → trace_lines sources region.shared.programs one ≡ trace_lines sources region.shared.programs other
unfolding IsAhead AreOf
ahead_lines decide sources region name n one other p q = lines_decide decide sources region.shared.programs n (machine_ahead region name) one other p q

turn_texts_decide : TracesDecide → (sources : Sources) (region : RegionState) (name : List ℕ) (n : ℕ) (reply : TurnReply) (after : Storage)
    (one other : Lines) → TurnText sources region name n reply after one → TurnText sources region name n reply after other → one ≡ other
turn_texts_decide decide sources region name n reply after one other p q =
    let rows = rows_decide region.shared.storage after 0 p.rows q.rows p.differ q.differ in
    let ran = ahead_lines decide sources region name n p.trace q.trace p.ahead q.ahead in
    p.are
    ∙ ap (λ them. turn_end_line name reply ++ trace_lines sources region.shared.programs p.trace
    ++ flat_map (changed_row_line (fields_ahead sources region name) region.shared.storage after) them) rows
    ∙ ap (λ (them : Lines). turn_end_line name reply ++ them ++ flat_map (changed_row_line (fields_ahead sources region name) region.shared.storage after) q.rows) ran
    ∙ sym q.are

pub ahead_decides : TurnsDecide → TracesDecide → AheadDecides
ahead_decides decide traces sources region name n one other p q =
    turn_texts_decide traces sources region name n q.reply q.after.shared.storage one other
    (next_turn_is_shown decide sources region q.after name n q.reply one p q.turns) q.is

pub rows_are_the_difference : RowsAreTheDifference
rows_are_the_difference before after rows a are = (in_row_differs before after 0 rows a are, λ differs. differs_in_row before after 0 rows a are (omega arith) differs)

pub rows_are_decided : RowsDecide
rows_are_decided before after one other = rows_decide before after 0 one other
