-- READQ TS (Application Programmer's Reference Manual, SC33-0077, "Temporary Storage Control").
--   READQ TS QUEUE(name) INTO(bytes, out) LENGTH(halfword, in and out) [ITEM(halfword, in) | NEXT] [NUMITEMS(halfword,
-- out)]
--   READQ TS QUEUE(name) SET(pointer, out) LENGTH(halfword, out) [ITEM(halfword, in) | NEXT] [NUMITEMS(halfword, out)]
-- LENGERR, with INTO: LENGTH is negative. QIDERR: no such queue. ITEMERR: no such item. NOSTG, with SET: task storage
-- has no place.
-- INTO gets the item, at most as many bytes as LENGTH says; LENGERR: the item is longer. SET gets the address of a
-- fresh area of the task with the item. LENGTH gets the item's length, NUMITEMS the number of the queue's items. The
-- item, ITEM's or else the one after the item last read by any task, is the one last read then. Reply: Performed.
use Rattle.std.specs.Prelude.{◌≡◌, ℕ, ◌&&◌, nat_le, List, [], ◌∷◌, Option, Some, None, if◌then◌else◌, MatchBool, MatchOption}
use Rattle.cx_base.specs.declared.conditions.Condition.TheVariants.{Normal, Itemerr, Lengerr, Nostg, Qiderr}
use Rattle.cx_base.specs.declared.options.OptionName.TheVariants as option
use Rattle.cx_storage.specs.Storage.{Storage}
use Rattle.cx_service.specs.declared.queues.Reading.{Reading}
use Rattle.cx_service.specs.Queues.{Queues, queue_of, reading_of_queue}
use Rattle.cx_region_state.specs.Call.{Call}
use Rattle.cx_region_state.specs.Inputs.{halfword_of, is_length_negative, length_option}
use Rattle.cx_region_state.specs.declared.outputs.OutputValue.TheVariants.{Half, Text, Word}
use Rattle.cx_region_state.specs.declared.verdict.TaskChange.TheVariants.{After, Gets}
use Rattle.cx_region_state.specs.declared.verdict.AfterOutputs.TheVariants.{MarksRead}
use Rattle.cx_region_state.specs.declared.verdict.Fill.TheVariants.{Item}
use Rattle.cx_region_state.specs.declared.verdict.Verdict.{Verdict}
use Rattle.cx_region_state.specs.declared.verdict.Verdict.TheVariants.{Meets}
use Rattle.cx_region_commands.specs.Common.{AtPlace, has, condition_alone, output, name_at}

-- with INTO, which has room for `room` bytes
abbrev pub reads_into : ℕ → List ℕ → Reading → Verdict
reads_into room name reading =
    Meets (if nat_le reading.len room then Normal else Lengerr)
    (output option.Into (Text room) ∷ output option.Length (Half reading.len)
    ∷ output option.Numitems (Half reading.count) ∷ [])
    (After (MarksRead name reading))

-- with SET, by the place of the fresh area
abbrev pub reads_to : List ℕ → Reading → Option ℕ → Verdict
reads_to name reading None = condition_alone Nostg
reads_to name reading (Some place) =
    Meets Normal
    (output option.Length (Half reading.len) ∷ output option.Set (Word place)
    ∷ output option.Numitems (Half reading.count) ∷ [])
    (Gets (record { place = place; len = reading.len; fill = Item name reading.number }))

-- an item that there is
unfoldable pub ReadsQueueItem : Storage → Call → List ℕ → Reading → Verdict → Type 0
ReadsQueueItem storage call name reading verdict =
    MatchBool (has call option.Set) (AtPlace storage reading.len (reads_to name reading) verdict)
    (verdict ≡ reads_into (length_option storage call) name reading)

-- the item with ITEM's number, else the one after the item last read
abbrev pub ReadsQueue : Storage → Queues → Call → List ℕ → Verdict → Type 0
ReadsQueue storage queues call name verdict =
    MatchOption (queue_of queues name) (verdict ≡ condition_alone Qiderr)
    (λ queue. MatchOption (reading_of_queue (halfword_of storage call option.Item) queue)
    (verdict ≡ condition_alone Itemerr)
    (λ reading. ReadsQueueItem storage call name reading verdict))

unfoldable pub ReadqRow : Storage → Queues → Call → Verdict → Type 0
ReadqRow storage queues call verdict =
    MatchBool (has call option.Into && is_length_negative storage call)
    (verdict ≡ condition_alone Lengerr)
    (ReadsQueue storage queues call (name_at storage call option.Queue) verdict)
