-- What is taken for what a turn does, the turn does.
use Rattle.std.proofs.Common.{refl}
use Rattle.std.specs.Option.{option_map_or}
use Rattle.std.specs.Prelude.{◌≡◌, ℕ, Bool, true, false, if◌then◌else◌, Option, Some, None, option_and_then, MatchBool, MatchOption, List, slice_index}
use Rattle.cx_storage.specs.Address.{address_in}
use Rattle.cx_region_state.specs.declared.replies.TurnReply.{TurnReply}
use Rattle.cx_region_state.specs.declared.replies.TurnReply.TheVariants as turn
use Rattle.cx_region_state.specs.State.{TaskContext, TaskState}
use Rattle.cx_region_task.specs.declared.cause.AbendRecord.{AbendRecord}
use Rattle.cx_region_task.specs.Turn.{HalfTurnWith, PerformsCommand, RunsOn, machine_of}
use Rattle.cx_region.specs.State.{RegionState, TerminalState}
use Rattle.cx_region.specs.Tables.{terminal_of}
use Rattle.cx_region.specs.Turn.{TakesTurn, TaskTakesTurn, context_of}
use Rattle.cx_look_ahead.specs.Laws.Watching.{WorkIsDone, DoesIt, IsWorkDone}
use Rattle.cx_look_ahead.specs.Watching.{next_work}
use Rattle.cx_look_ahead.specs.declared.writers.Work.{Work}
use Rattle.cx_look_ahead.specs.declared.writers.Work.TheVariants as work

half_turn : (region : RegionState) (terminal : TerminalState) (task : TaskState) (reply : TurnReply) (abend_record : Option AbendRecord)
    (reached : TaskContext) (due : Bool)
    → MatchBool due (PerformsCommand (context_of region terminal task) reply abend_record reached)
    (RunsOn (context_of region terminal task) reply abend_record reached)
    → IsWorkDone
    (if due then work.Command (address_in (slice_index task.regs 14)) else work.Instructions (machine_of (context_of region terminal task)))
    (context_of region terminal task) reply abend_record reached
half_turn region terminal task reply abend_record reached true p = (p, refl)
half_turn region terminal task reply abend_record reached false p = (p, refl)

what_is : RegionState → Option TaskState → Work
what_is region task = option_map_or (next_work region.shared.storage) task work.Nothing

on_task : (region new : RegionState) (name : List ℕ) (reply : TurnReply) (terminal : TerminalState) (task : Option TaskState)
    → terminal_of region name ≡ Some terminal → terminal.task ≡ task
    → MatchOption task ((reply ≡ turn.Idle) × (new ≡ region)) (λ task. TaskTakesTurn region name terminal task reply new)
    → MatchOption task (new ≡ region) (λ it. DoesIt (what_is region task) region name reply new)
unfolding HalfTurnWith what_is
on_task region new name reply terminal None there live turns = turns.1
on_task region new name reply terminal (Some task) there live turns =
    record {
      terminal = terminal;
      there = there;
      task = task;
      live = live;
      abend_record = turns.half_turn.abend_record;
      reached = turns.reached;
      done = half_turn region terminal task reply turns.half_turn.abend_record turns.reached task.due turns.half_turn.turns;
      is = turns.after;
    }

on_terminal : (region new : RegionState) (name : List ℕ) (reply : TurnReply) (terminal : Option TerminalState) → terminal_of region name ≡ terminal
    → MatchOption terminal ((reply ≡ turn.NoSuchTerminal) × (new ≡ region)) (λ terminal.
    MatchOption terminal.task ((reply ≡ turn.Idle) × (new ≡ region)) (λ task. TaskTakesTurn region name terminal task reply new))
    → MatchOption (option_and_then (λ terminal. terminal.task) terminal) (new ≡ region)
    (λ it. DoesIt (what_is region (option_and_then (λ terminal. terminal.task) terminal)) region name reply new)
on_terminal region new name reply None there turns = turns.1
on_terminal region new name reply (Some terminal) there turns = on_task region new name reply terminal terminal.task there refl turns

pub work_is_done : WorkIsDone
unfolding TakesTurn what_is
work_is_done region new name reply turns = on_terminal region new name reply (terminal_of region name) refl turns
