-- What a command leaves of the areas of others.
use Rattle.std.proofs.Common.{◌≡◌, ℕ, suc, ◌+◌, ◌^◌, ◌<◌, Bool, true, false, Option, Some, None, List, [], ◌∷◌, length, slice_get, refl, sym, ◌∙◌, ap, subst, arith, inl, inr}
use Rattle.std.specs.Prelude.{◌||◌, ◌⊎◌, MatchBool}
use Rattle.std.specs.Option.{option_map}
use Rattle.std.specs.List.{list_any}
use Rattle.std.proofs.lemmas.Bool.{cases_Bool}
use Rattle.cx_base.specs.Abends.{abend_code}
use Rattle.cx_base.specs.declared.conditions.Condition.{Condition}
use Rattle.cx_base.specs.Eib.{eib_len}
use Rattle.cx_storage.specs.Address.{address_in}
use Rattle.cx_storage.specs.Storage.{Storage, area_from, areas_of, byte_at, IsSoundStorage}
use Rattle.cx_service.specs.Queues.{AreSoundQueues}
use Rattle.cx_region_state.specs.Report.{resource_of}
use Rattle.cx_region_state.specs.declared.outputs.Output.{Output}
use Rattle.cx_region_state.specs.Call.{Call, resp_place}
use Rattle.cx_region_state.specs.Laws.Calls.{CallIsRead, IsCallAt, list_word}
use Rattle.cx_region_commands.specs.Common.{AreSoundPrograms}
use Rattle.cx_region_commands.specs.Facts.Fits.{judged_fits}
use Rattle.cx_region_state.specs.declared.replies.TurnReply.{TurnReply}
use Rattle.cx_region_state.specs.declared.verdict.TaskChange.{TaskChange}
use Rattle.cx_region_state.specs.declared.verdict.TaskChange.TheVariants.{Nothing, Before, After, Gets, Enters, Replaces, LevelEnds, TaskEnds, AbendsWith}
use Rattle.cx_region_state.specs.declared.verdict.AfterOutputs.{AfterOutputs}
use Rattle.cx_region_state.specs.declared.verdict.AfterOutputs.TheVariants.{TakesInput, MarksRead, QueueGone, Dequeues, Frees}
use Rattle.cx_region_state.specs.declared.verdict.Fill.{Fill}
use Rattle.cx_region_state.specs.declared.verdict.Fill.TheVariants.{Byte, Item}
use Rattle.cx_region_state.specs.declared.verdict.Verdict.TheVariants.{Meets}
use Rattle.cx_region_state.specs.Areas.{got_owner}
use Rattle.cx_region_state.specs.State.{TaskContext}
use Rattle.cx_region_state.specs.Parts.Fits.{FitsChange, FitsEnded}
use Rattle.cx_region_state.specs.Verdicts.{handed_over}
use Rattle.cx_region_task.specs.Abends.{Abends}
use Rattle.cx_region_task.specs.Decisions.{continuation_at}
use Rattle.cx_region_task.specs.Changes.{AppliesBefore, Commits, apply_after, write_outputs, read_for, report_of, write_report}
use Rattle.cx_region_task.specs.Performing.{LeavesAll, argument_list}
use Rattle.cx_region_task.specs.Facts.Met.{IsMet, by_decision}
use Rattle.cx_region_task.specs.declared.cause.AbendRecord.{AbendRecord}
use Rattle.cx_region_task.specs.Sound.{IsSoundTask}
use Rattle.cx_region_task.specs.Turn.{HalfTurnWith, PerformsCommand, RunsOn}
use Rattle.cx_region_laws.specs.Laws.Bytes.{CommandsLeaveOthers, DueWrites, is_among, is_in_output, others_storage, writes_to}
use Rattle.cx_region_laws.proofs.OthersLemmas.{Left, elsewhere_same, left_on, left_same, own_free}
use Rattle.cx_region_laws.proofs.ClearLemmas.{clear_of, clear_same, own_elsewhere}
use Rattle.cx_region_laws.proofs.AppliedLemmas.{Own, SameTask, applied_others, applied_task, task_on}
use Rattle.cx_region_laws.proofs.WrittenLemmas.{AreLow, or_none, puts_left, report_left, resource_fits}
use Rattle.cx_region_laws.proofs.EndedLemmas.{IsClear, abends_others, goes_others}

-- ---- what ends after the report
ended_others : (it : AfterOutputs) (start mid : TaskContext) → IsSoundStorage start.shared.storage → FitsEnded it start
    → areas_of (others_storage start.terminal_entry.slot mid.shared.storage) ≡ areas_of (others_storage start.terminal_entry.slot start.shared.storage)
    → others_storage start.terminal_entry.slot (apply_after (After it) mid).shared.storage ≡ others_storage start.terminal_entry.slot mid.shared.storage
unfolding apply_after
ended_others TakesInput start mid ok fits same = refl
ended_others (MarksRead name n) start mid ok fits same = refl
ended_others (QueueGone name) start mid ok fits same = refl
ended_others (Dequeues resource) start mid ok fits same = refl
ended_others (Frees place) start mid ok fits same =
    let slot = start.terminal_entry.slot in
    let clear = own_elsewhere start.shared.storage slot place (area_from place fits.len (got_owner slot)) ok fits.area refl in
    own_free slot mid.shared.storage place (elsewhere_same (others_storage slot start.shared.storage) (others_storage slot mid.shared.storage) place same clear)

read_others : (fill : Fill) (slot : ℕ) (mid : TaskContext) → others_storage slot (read_for fill mid).shared.storage ≡ others_storage slot mid.shared.storage
read_others (Byte b) slot mid = refl
read_others (Item name n) slot mid = refl

finished_others : (change : TaskChange) (start mid : TaskContext) → IsSoundStorage start.shared.storage → FitsChange change start
    → areas_of (others_storage start.terminal_entry.slot mid.shared.storage) ≡ areas_of (others_storage start.terminal_entry.slot start.shared.storage)
    → others_storage start.terminal_entry.slot (apply_after change mid).shared.storage ≡ others_storage start.terminal_entry.slot mid.shared.storage
unfolding apply_after
finished_others Nothing start mid ok fits same = refl
finished_others (Before it) start mid ok fits same = refl
finished_others (After it) start mid ok fits same = ended_others it start mid ok fits same
finished_others (Gets got) start mid ok fits same = read_others got.fill start.terminal_entry.slot mid
finished_others (Enters level) start mid ok fits same = refl
finished_others (Replaces copying level) start mid ok fits same = refl
finished_others LevelEnds start mid ok fits same = refl
finished_others (TaskEnds next) start mid ok fits same = refl
finished_others (AbendsWith code cancel) start mid ok fits same = refl

ended_task : (it : AfterOutputs) (r : TaskContext) → SameTask r (apply_after (After it) r)
unfolding apply_after
ended_task TakesInput r = record { slot = refl; eib = refl; callers = refl; stg = refl }
ended_task (MarksRead name n) r = record { slot = refl; eib = refl; callers = refl; stg = refl }
ended_task (QueueGone name) r = record { slot = refl; eib = refl; callers = refl; stg = refl }
ended_task (Dequeues resource) r = record { slot = refl; eib = refl; callers = refl; stg = refl }
ended_task (Frees place) r = record { slot = refl; eib = refl; callers = refl; stg = refl }

read_task : (fill : Fill) (r : TaskContext) → SameTask r (read_for fill r)
read_task (Byte b) r = record { slot = refl; eib = refl; callers = refl; stg = refl }
read_task (Item name n) r = record { slot = refl; eib = refl; callers = refl; stg = refl }

pub finished_task : (change : TaskChange) (r : TaskContext) → SameTask r (apply_after change r)
unfolding apply_after
finished_task Nothing r = record { slot = refl; eib = refl; callers = refl; stg = refl }
finished_task (Before it) r = record { slot = refl; eib = refl; callers = refl; stg = refl }
finished_task (After it) r = ended_task it r
finished_task (Gets got) r = read_task got.fill r
finished_task (Enters level) r = record { slot = refl; eib = refl; callers = refl; stg = refl }
finished_task (Replaces copying level) r = record { slot = refl; eib = refl; callers = refl; stg = refl }
finished_task LevelEnds r = record { slot = refl; eib = refl; callers = refl; stg = refl }
finished_task (TaskEnds next) r = record { slot = refl; eib = refl; callers = refl; stg = refl }
finished_task (AbendsWith code cancel) r = record { slot = refl; eib = refl; callers = refl; stg = refl }

-- ---- all that a command does
-- the report names the call's resource, whatever its change adds
pub resource_reported : (call : Call) (condition : Condition) (change : TaskChange) (r : TaskContext) → (report_of call condition change r).resource ≡ resource_of r.shared.storage call
unfolding report_of
resource_reported call condition Nothing r = refl
resource_reported call condition (Before it) r = refl
resource_reported call condition (After TakesInput) r = refl
resource_reported call condition (After (MarksRead name n)) r = refl
resource_reported call condition (After (QueueGone name)) r = refl
resource_reported call condition (After (Dequeues resource)) r = refl
resource_reported call condition (After (Frees place)) r = refl
resource_reported call condition (Gets got) r = refl
resource_reported call condition (Enters level) r = refl
resource_reported call condition (Replaces copying level) r = refl
resource_reported call condition LevelEnds r = refl
resource_reported call condition (TaskEnds next) r = refl
resource_reported call condition (AbendsWith code cancel) r = refl

-- the text that is handed over is that of the state which the command found
pub text_same : (change : TaskChange) (start made : TaskContext) → AppliesBefore change start made → handed_over change made ≡ handed_over change start
unfolding AppliesBefore handed_over
text_same Nothing start made applied = refl
text_same (Before it) start made applied = refl
text_same (After it) start made applied = ap (λ (r : TaskContext). handed_over (After it) r) applied
text_same (Gets got) start made applied = refl
text_same (Enters level) start made applied = refl
text_same (Replaces copying level) start made applied = refl
text_same LevelEnds start made applied = refl
text_same (TaskEnds next) start made applied = refl
text_same (AbendsWith code cancel) start made applied = refl

record Settled (x : ℕ) (writes : Bool) (start after : TaskContext) : Type 0 where
  left : Left start.terminal_entry.slot x writes start.shared.storage after.shared.storage
  task : SameTask start after
  clear : IsClear start.terminal_entry.slot after

-- a task's own areas are apart from others' where it has the same areas, and others have
still_clear : (slot : ℕ) (start after : TaskContext) → areas_of (others_storage slot after.shared.storage) ≡ areas_of (others_storage slot start.shared.storage) → SameTask start after
    → IsClear slot start → IsClear slot after
still_clear slot start after same task clear =
    rw (task.eib, task.callers, task.stg) (clear_same (others_storage slot start.shared.storage) (others_storage slot after.shared.storage) start.task.eib start.task.levels.callers start.task.levels.current.stg same clear)

settled_leaves : (x : ℕ) (call : Call) (condition : Condition) (outputs : List Output) (change : TaskChange) (start after : TaskContext) → IsSoundStorage start.shared.storage → AreLow call.places
    → IsClear start.terminal_entry.slot start → FitsChange change start → Commits call condition outputs change start after
    → Settled x (writes_to x call (Meets condition outputs change) start) start after
unfolding write_outputs write_report writes_to
settled_leaves x call condition outputs change start after ok low clear fits commits =
    let slot = start.terminal_entry.slot in
    let made = commits.made in
    let answer = report_of call condition change start in
    let text = handed_over change made in
    let writes = list_any (is_in_output x call (handed_over change start)) outputs || is_among x (resp_place call) 4 in
    let written = write_outputs call outputs change made in
    let out = write_report call answer written in
    let one = left_same slot x writes start.shared.storage made.shared.storage (applied_others change start made fits commits.applied) in
    let made_task = applied_task change start made commits.applied in
    let two = puts_left slot x writes made.shared.storage call text outputs low (λ no.
    subst (λ (l : List ℕ). list_any (is_in_output x call l) outputs ≡ false) (sym (text_same change start made commits.applied))
    (or_none (list_any (is_in_output x call (handed_over change start)) outputs) (is_among x (resp_place call) 4) no).0) in
    let given_left : Left slot x writes start.shared.storage written.shared.storage = left_on slot x writes start.shared.storage made.shared.storage written.shared.storage one two in
    let written_task = task_on start made written made_task (record { slot = refl; eib = refl; callers = refl; stg = refl }) in
    let written_clear = still_clear slot start written given_left.areas written_task clear in
    let own : Own slot written.shared.storage written.task.eib eib_len = record { ends = written_clear.low; clear = written_clear.eib_clear } in
    let three : Left slot x writes written.shared.storage out.shared.storage = report_left slot x writes written.shared.storage written.task.eib call answer low own (λ bytes e. resource_fits start.shared.storage call bytes (sym (resource_reported call condition change start) ∙ e)) (λ no.
    (or_none (list_any (is_in_output x call (handed_over change start)) outputs) (is_among x (resp_place call) 4) no).1) in
    let out_left = left_on slot x writes start.shared.storage written.shared.storage out.shared.storage given_left three in
    let out_task = task_on start written out written_task (record { slot = refl; eib = refl; callers = refl; stg = refl }) in
    let end = apply_after change out in
    let last = left_same slot x writes out.shared.storage end.shared.storage (finished_others change start out ok fits out_left.areas) in
    let end_left = left_on slot x writes start.shared.storage out.shared.storage end.shared.storage out_left last in
    let end_task = task_on start out end out_task (finished_task change out) in
    rw (commits.committed) (record { left = end_left; task = end_task; clear = still_clear slot start end end_left.areas end_task clear })

-- ---- what the command that is due leaves, at one address
record Written (x : ℕ) (before after : TaskContext) : Type 0 where
  writes : Bool
  left : Left before.terminal_entry.slot x writes before.shared.storage after.shared.storage
  due : writes ≡ true → DueWrites x before

none_reported : (x : ℕ) (before after : TaskContext) → others_storage before.terminal_entry.slot after.shared.storage ≡ others_storage before.terminal_entry.slot before.shared.storage → Written x before after
none_reported x before after e =
    record {
      writes = false;
      left = left_same before.terminal_entry.slot x false before.shared.storage after.shared.storage e;
      due = λ yes. absurd (let no : false ≡ true = yes in cc);
    }

abends_reported : (x : ℕ) (code : List ℕ) (before after : TaskContext) (reply : TurnReply) → IsClear before.terminal_entry.slot before → Abends code false before reply after → Written x before after
abends_reported x code before after reply clear it = none_reported x before after (abends_others before.terminal_entry.slot code false before after reply refl clear it)

waits_reported : (x : ℕ) (before after : TaskContext) (reply : TurnReply) → LeavesAll before reply after → Written x before after
waits_reported x before after reply it = none_reported x before after (ap (λ (r : TaskContext). others_storage before.terminal_entry.slot r.shared.storage) it.same)

met_reported : (x : ℕ) (before after : TaskContext) (reply : TurnReply) → (met : IsMet reply before after) → IsSoundStorage before.shared.storage → AreLow met.call.places
    → IsClear before.terminal_entry.slot before → FitsChange met.change before → (writes_to x met.call (Meets met.condition met.outputs met.change) before ≡ true → DueWrites x before)
    → Written x before after
met_reported x before after reply met ok low clear fits due =
    let slot = before.terminal_entry.slot in
    let writes = writes_to x met.call (Meets met.condition met.outputs met.change) before in
    let committed = settled_leaves x met.call met.condition met.outputs met.change before met.committed ok low clear fits met.commits in
    let last = goes_others (continuation_at met.call met.condition met.change before) slot met.condition met.committed after reply committed.task.slot committed.clear met.goes in
    record {
      writes = writes;
      left = left_on slot x writes before.shared.storage met.committed.shared.storage after.shared.storage committed.left (left_same slot x writes met.committed.shared.storage after.shared.storage last);
      due = due;
    }

-- ---- a call's addresses
low_from : (word : ℕ → Option ℕ) (places : List ℕ) → ((k : ℕ) → k < length places → option_map address_in (word k) ≡ slice_get places k) → AreLow places
low_from word [] each = tt
low_from word (p ∷ ps) each = (first (word 0) (each 0 (omega arith)), low_from (λ k. word (suc k)) ps (λ k less. each (suc k) (omega (arith, less))))
  where
    first : (o : Option ℕ) → option_map address_in o ≡ Some p → p < 2 ^ 24
    first None e = cc
    first (Some w) e = let is : address_in w ≡ p = cc in subst (λ (n : ℕ). n < 2 ^ 24) is (omega arith)

pub call_low : (s : Storage) (list : ℕ) (call : Call) → IsCallAt s list call → AreLow call.places
call_low s list call it = low_from (λ k. list_word s list (k + 1)) call.places (λ k less. it.places k less)

-- ---- a command's half-turn
commanded_written : CallIsRead → (x : ℕ) (before after : TaskContext) (reply : TurnReply) (abend_record : Option AbendRecord) → IsSoundStorage before.shared.storage → AreSoundPrograms before.shared.programs → AreSoundQueues before.shared.queues
    → IsSoundTask before.shared.storage before.terminal_entry.slot before.task → PerformsCommand before reply abend_record after → Written x before after
commanded_written law x before after reply abend_record ok programs queues own it =
    by_decision before after reply abend_record it (λ refusal abends. abends_reported x (abend_code refusal) before after reply clear abends)
    (λ leaves. waits_reported x before after reply leaves) met_written
  where
    clear : IsClear before.terminal_entry.slot before
    clear = clear_of before.shared.storage before.terminal_entry.slot before.task ok own

    met_written : IsMet reply before after → Written x before after
    met_written met =
        let verdict = Meets met.condition met.outputs met.change in
        let low = call_low before.shared.storage (argument_list before.task) met.call ((law before.shared.storage (argument_list before.task) met.call ok (omega arith)).0 met.reads) in
        let fits = judged_fits met.call before verdict queues low programs met.inputs met.judged in
        met_reported x before after reply met ok low clear fits.1 (λ yes. record { call = met.call; reads = met.reads; verdict = verdict; judged = met.judged; writes = yes })

written_bytes : (x : ℕ) (before after : TaskContext) → (written : Written x before after)
    → (byte_at (others_storage before.terminal_entry.slot after.shared.storage) x ≡ byte_at (others_storage before.terminal_entry.slot before.shared.storage) x) ⊎ DueWrites x before
written_bytes x before after written = elim (cases_Bool written.writes) [
  | inl e ↦ inr (written.due e)
  | inr e ↦ inl (written.left.byte e)
]

pub commands_leave_others : CallIsRead → CommandsLeaveOthers
unfolding HalfTurnWith
commands_leave_others law before after reply ok programs queues own due half =
    let commanded : PerformsCommand before reply half.abend_record after = by_due before.task.due due half.turns in
    let written = λ (x : ℕ). commanded_written law x before after reply half.abend_record ok programs queues own commanded in
    record {
      areas = (written 0).left.areas;
      present = λ x. (written x).left.present;
      bytes = λ x. written_bytes x before after (written x);
    }
  where
    by_due : (b : Bool) → b ≡ true → MatchBool b (PerformsCommand before reply half.abend_record after) (RunsOn before reply half.abend_record after) → PerformsCommand before reply half.abend_record after
    by_due true e it = it
    by_due false e it = cc
