-- WRITEQ TS (Application Programmer's Reference Manual, SC33-0077, "Temporary Storage Control").
--   WRITEQ TS QUEUE(name) FROM(bytes, in) LENGTH(halfword, in) [ITEM(halfword, out; with REWRITE in) [REWRITE]]
--   [MAIN | AUXILIARY] [NOSUSPEND]
-- LENGERR: LENGTH is below 1. With REWRITE QIDERR: no such queue; ITEMERR: no such item; without it ITEMERR: the queue
-- is full. NOSPACE: one queue too many, or too much data. Else the item goes last and ITEM gets its number, or it
-- replaces item ITEM. MAIN and AUXILIARY have the same effect. Reply: Performed.
use Rattle.std.specs.Prelude.{ℕ, ◌+◌, [], ◌∷◌, unwrap_or, if◌then◌else◌}
use Rattle.cx_base.specs.declared.conditions.Condition.TheVariants.{Normal}
use Rattle.cx_base.specs.declared.options.OptionName.TheVariants.{From, Item, Queue, Rewrite}
use Rattle.cx_storage.specs.Storage.{Storage}
use Rattle.cx_service.specs.Queues.{Queues, count_of, rewrite_fault, write_fault}
use Rattle.cx_region_state.specs.Call.{Call}
use Rattle.cx_region_state.specs.Inputs.{halfword_of}
use Rattle.cx_region_state.specs.declared.outputs.OutputValue.TheVariants.{Half}
use Rattle.cx_region_state.specs.declared.verdict.TaskChange.TheVariants.{Before}
use Rattle.cx_region_state.specs.declared.verdict.BeforeOutputs.TheVariants.{ItemAt, ItemLast}
use Rattle.cx_region_state.specs.declared.verdict.Verdict.{Verdict}
use Rattle.cx_region_state.specs.declared.verdict.Verdict.TheVariants.{Meets}
use Rattle.cx_region_commands.specs.Common.{does, has, output, name_at, piece_at}
use Rattle.cx_region_commands.specs.Services.{fault_or_verdict}

-- the item that REWRITE names; a number that isn't one is no item's
abbrev pub item_named : Storage → Call → ℕ
item_named storage call = unwrap_or (halfword_of storage call Item) 0

-- that one replaced, or a new item, which gets the number after the last one's
unfoldable pub writeq_row : Storage → Queues → Call → Verdict
writeq_row storage queues call =
    let name = name_at storage call Queue in
    let piece = piece_at storage call From in
    let n = item_named storage call in
    if has call Rewrite
    then fault_or_verdict (rewrite_fault queues name n piece.len) (does (Before (ItemAt name n piece)))
    else fault_or_verdict (write_fault queues name piece.len)
    (Meets Normal (output Item (Half (unwrap_or (count_of queues name) 0 + 1)) ∷ []) (Before (ItemLast name piece)))
