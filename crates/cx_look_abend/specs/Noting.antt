-- How the last abend of each terminal is kept, by the events that are done (own).
use Rattle.std.specs.Prelude.{◌≡◌, ℕ, Bool, true, false, is_some, ⊤, List, [], Option, Some, None, Ok, MatchBool, MatchOption, if◌then◌else◌}
use Rattle.std.specs.Map.{set_value}
use Rattle.std.specs.Option.{option_map_or}
use Rattle.indexmap.specs.IndexMap.{insert_entry}
use Rattle.cx_region_task.specs.declared.cause.AbendRecord.{AbendRecord}
use Rattle.cx_ebcdic.specs.Names.{is_name}
use Rattle.cx_region.specs.State.{RegionState}
use Rattle.cx_region.specs.Tables.{task_of}
use Rattle.cx_region.specs.declared.changes.AlterReply.TheVariants as alter
use Rattle.cx_region.specs.declared.changes.Change.TheVariants as change
use Rattle.cx_region.specs.declared.replies.Event.TheVariants as event
use Rattle.cx_region.specs.declared.replies.Reply.TheVariants as reply
use Rattle.cx_edf.specs.Runs.{MayTakeEdf}
use Rattle.cx_edf.specs.State.{EdfState, ends_by_key}
use Rattle.cx_edf.specs.Steps.{DisplayMaker, EdfApplies, EdfHasAbendRecord}
use Rattle.cx_edf.specs.declared.answers.Answer.{Answer}
use Rattle.cx_edf.specs.declared.answers.Answer.TheVariants as answer
use Rattle.cx_edf.specs.declared.answers.EdfEvent.{EdfEvent}
use Rattle.cx_edf.specs.declared.answers.EdfEvent.TheVariants as edf_event
use Rattle.cx_look_abend.specs.Abends.{before_turn, by_operator, kept_task, last_of_turn}
use Rattle.cx_look_abend.specs.Dumps.{Dump, TurnHasDump}
use Rattle.cx_look_abend.specs.declared.abends.LastAbend.{LastAbend}
use Rattle.cx_look_abend.specs.declared.abends.TaskBefore.{TaskBefore}

-- the terminals that are defined, each with its last abend, where it has had one
abbrev pub KeptAbends : Type 0
KeptAbends = List (List ℕ × Option LastAbend)

-- the same, with this as a terminal's last abend
abbrev pub with_last : KeptAbends → List ℕ → LastAbend → KeptAbends
with_last abends name last = set_value (is_name name) abends (Some last)

-- what is kept, before an event, of the task of the terminal that it names
unfoldable pub task_before : RegionState → EdfEvent → TaskBefore
task_before region (edf_event.Plain (event.Turn name)) = before_turn region name
task_before region (edf_event.Plain (event.Alter name c)) = record { task = kept_task region name; arguments = [] }
task_before region (edf_event.Plain (event.Key name aid bytes)) =
    record { task = kept_task region name; arguments = [] }
task_before region _ = record { task = None; arguments = [] }

-- the DFHEISTG at an abend to which an event leads
unfoldable pub EventHasDump : RegionState → EdfEvent → Option Dump → Type 0
EventHasDump region (edf_event.Plain (event.Turn name)) dump = TurnHasDump region name dump
EventHasDump region _ dump = dump ≡ None

-- What is kept after an event with that task that was answered so, with that DFHEISTG and that record of an abend, in
-- the region after it: a terminal that was defined has had no abend; a turn may have led to one; and an operator asks
-- for one by ALTER, or by PF12 that ends a task, as the flag says.
abbrev pub kept_after : KeptAbends → Bool → TaskBefore → EdfEvent → Answer → Option Dump → Option AbendRecord
    → RegionState → KeptAbends
kept_after abends ends task (edf_event.Plain (event.Terminal name)) (answer.Region (reply.Terminal (Ok done))) dump it
    region = insert_entry is_name abends name None
kept_after abends ends task (edf_event.Plain (event.Turn name)) (answer.Region (reply.Turn given)) dump it region =
    option_map_or (with_last abends name) (last_of_turn region name given task dump it) abends
kept_after abends ends task (edf_event.Plain (event.Alter name change.Abend))
    (answer.Region (reply.Alter alter.Altered)) dump it region = with_last abends name (by_operator task)
kept_after abends ends task (edf_event.Plain (event.Key name aid bytes)) given dump it region =
    if ends then with_last abends name (by_operator task) else abends
kept_after abends ends task _ given dump it region = abends

abbrev pub is_ending_key : EdfState → EdfEvent → Bool
is_ending_key old (edf_event.Plain (event.Key name aid bytes)) = ends_by_key old name aid
is_ending_key old _ = false

-- an event, where displays are made so, and what is kept after it; where it leads to an abend, with the DFHEISTG then
pub record AppliesWithAbends (make : DisplayMaker) (old : EdfState) (before : KeptAbends) (e : EdfEvent)
    (given : Answer) (new : EdfState) (after : KeptAbends) : Type 0 where
  pub abend_record : Option AbendRecord
  pub applies : EdfApplies make old e given new
  pub recorded : EdfHasAbendRecord old e abend_record
  pub dump : Option Dump
  pub dumped : MatchOption abend_record (dump ≡ None) (λ it. EventHasDump old.region e dump)
  pub kept : after
      ≡ kept_after before (is_ending_key old e) (task_before old.region e) e given dump abend_record new.region

-- A new terminal takes room for its last abend, and a turn of a task for what is kept of the task before it; any other
-- event may take memory as it may without what is kept.
abbrev pub takes_room : RegionState → EdfEvent → Bool
takes_room region (edf_event.Plain (event.Terminal name)) = true
takes_room region (edf_event.Plain (event.Turn name)) = is_some (task_of region name)
takes_room region _ = false

abbrev pub MayTakeNoted : EdfState → EdfEvent → Type 0
MayTakeNoted old e = MatchBool (takes_room old.region e) ⊤ (MayTakeEdf old e)
