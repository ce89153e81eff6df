-- What the commands of storage, queues and resources are judged to do can be done.
use Rattle.std.proofs.Common.{◌≡◌, ℕ, ◌+◌, ◌<◌, ◌≤◌, ◌^◌, ◌==◌, Bool, true, false, List, [], ◌∷◌, Option, Some, None, refl, sym, ap, ◌∙◌, arith, inl, inr, nat_le, length, unwrap_or, is_none}
use Rattle.std.specs.Prelude.{◌&&◌, if◌then◌else◌}
use Rattle.std.specs.Option.{option_and_then, option_map, option_map_or}
use Rattle.std.specs.List.{AllByRecursion}
use Rattle.std.proofs.lemmas.Bool.{and_parts, cases_Bool, eqb-true, leb-true}
use Rattle.cx_base.specs.declared.commands.Command.TheVariants as command
use Rattle.cx_base.specs.declared.options.OptionName.TheVariants as option
use Rattle.cx_base.specs.declared.conditions.Condition.TheVariants.{Normal, Invreq}
use Rattle.cx_region_state.specs.declared.verdict.TaskChange.TheVariants.{After, Before}
use Rattle.cx_region_state.specs.declared.verdict.BeforeOutputs.TheVariants.{Enqueues, ItemAt, ItemLast}
use Rattle.cx_region_state.specs.declared.verdict.Verdict.TheVariants.{Meets}
use Rattle.cx_region_state.specs.declared.outputs.OutputValue.TheVariants.{Half}
use Rattle.cx_region_state.specs.declared.verdict.AfterOutputs.TheVariants.{Frees}
use Rattle.cx_storage.specs.declared.areas.Area.{Area}
use Rattle.cx_storage.specs.declared.areas.Kind.{Kind}
use Rattle.cx_storage.specs.declared.areas.Kind.TheVariants.{Got, Fixed, System}
use Rattle.cx_storage.specs.Storage.{Storage, area_at, area_from}
use Rattle.cx_service.specs.declared.faults.ServiceFault.{ServiceFault}
use Rattle.cx_service.specs.declared.faults.ServiceFault.TheVariants as fault
use Rattle.cx_service.specs.declared.resources.Hold.{Hold}
use Rattle.cx_service.specs.declared.resources.ResourceName.{ResourceName}
use Rattle.cx_service.specs.Queues.{AreSoundQueues, Queues, count_of, item_len_of, item_numbered, queue_of, reading_of_queue, rewrite_fault, write_fault}
use Rattle.cx_service.specs.declared.queues.Reading.{Reading}
use Rattle.cx_service.specs.Facts.Readings.{reading_is}
use Rattle.cx_service.specs.Resources.{Resources, enq_fault, hold_fault, hold_of}
use Rattle.cx_region_state.specs.Call.{Call, place_of}
use Rattle.cx_region_state.specs.Inputs.{are_inputs_there, halfword_of, is_length_negative, length_option}
use Rattle.cx_region_state.specs.Facts.Inputs.{from_of_writeq_ts, place_below}
use Rattle.cx_region_state.specs.declared.inputs.StorageSpan.{StorageSpan}
use Rattle.cx_region_state.specs.Areas.{IsTaskPlace, got_owner}
use Rattle.cx_region_state.specs.State.{TaskContext}
use Rattle.cx_region_state.specs.Parts.Fits.{Fits, IsThere}
use Rattle.cx_region_state.specs.declared.verdict.Verdict.{Verdict}
use Rattle.cx_region_commands.specs.Common.{does, has, condition_alone, name_at, output, piece_at, place_at}
use Rattle.cx_region_commands.specs.DeleteqTs.{deleteq_row}
use Rattle.cx_region_commands.specs.Deq.{deq_row}
use Rattle.cx_region_commands.specs.Enq.{enq_row, is_wrong_length, resource_at}
use Rattle.cx_region_commands.specs.Freemain.{freemain_row, is_got, is_got_by}
use Rattle.cx_region_commands.specs.Getmain.{GetmainRow, asked_len, fill_byte, gets, is_area_length}
use Rattle.cx_region_commands.specs.ReadqTs.{ReadsQueueItem, ReadqRow, reads_into, reads_to}
use Rattle.cx_region_commands.specs.Services.{fault_or_verdict}
use Rattle.cx_region_commands.specs.WriteqTs.{item_named, writeq_row}
use Rattle.cx_region_commands.specs.Facts.Queues.{found as found_sound}
use Rattle.cx_region_commands.specs.Facts.FitsParts.{by_option, by_test, enqbusy_fits, invreq_fits, itemerr_fits, lengerr_fits, normal_fits, nospace_fits, nostg_fits, piece_at_there, qiderr_fits}

-- ---- the conditions of services

-- a condition fits, and so does what is done without one; Memory is none of these conditions
fault_or_verdict_fits : (o : Option ServiceFault) (r : TaskContext) (v : Verdict) → (o ≡ Some fault.Memory → ⊥) → (o ≡ None → Fits v r) → Fits (fault_or_verdict o v) r
fault_or_verdict_fits None r v never fits = fits refl
fault_or_verdict_fits (Some fault.Lengerr) r v never fits = (lengerr_fits, tt)
fault_or_verdict_fits (Some fault.Itemerr) r v never fits = (itemerr_fits, tt)
fault_or_verdict_fits (Some fault.Nospace) r v never fits = (nospace_fits, tt)
fault_or_verdict_fits (Some fault.Qiderr) r v never fits = (qiderr_fits, tt)
fault_or_verdict_fits (Some fault.Enqbusy) r v never fits = (enqbusy_fits, tt)
fault_or_verdict_fits (Some fault.Invreq) r v never fits = (invreq_fits, tt)
fault_or_verdict_fits (Some fault.Memory) r v never fits = absurd (never refl)

first_or : (b : Bool) (x : ServiceFault) (o : Option ServiceFault) → (x ≡ fault.Memory → ⊥) → (o ≡ Some fault.Memory → ⊥)
    → (if b then Some x else o) ≡ Some fault.Memory → ⊥
first_or true x o first rest e = first (some_same e)
  where
    some_same : Some x ≡ Some fault.Memory → x ≡ fault.Memory
    some_same e = cc
first_or false x o first rest e = rest e

no_fault : None ≡ Some fault.Memory → ⊥
no_fault e = cc

lengerr_other : fault.Lengerr ≡ fault.Memory → ⊥
lengerr_other e = cc

itemerr_other : fault.Itemerr ≡ fault.Memory → ⊥
itemerr_other e = cc

nospace_other : fault.Nospace ≡ fault.Memory → ⊥
nospace_other e = cc

qiderr_other : fault.Qiderr ≡ fault.Memory → ⊥
qiderr_other e = cc

enqbusy_other : fault.Enqbusy ≡ fault.Memory → ⊥
enqbusy_other e = cc

invreq_other : fault.Invreq ≡ fault.Memory → ⊥
invreq_other e = cc

write_never : (queues : Queues) (name : List ℕ) (len : ℕ) → write_fault queues name len ≡ Some fault.Memory → ⊥
unfolding write_fault
write_never queues name len =
    first_or _ fault.Lengerr _ lengerr_other (first_or _ fault.Itemerr _ itemerr_other (first_or _ fault.Nospace _ nospace_other (first_or _ fault.Nospace _ nospace_other no_fault)))

rewrite_never : (queues : Queues) (name : List ℕ) (n len : ℕ) → rewrite_fault queues name n len ≡ Some fault.Memory → ⊥
unfolding rewrite_fault
rewrite_never queues name n len =
    first_or _ fault.Lengerr _ lengerr_other (first_or _ fault.Qiderr _ qiderr_other (first_or _ fault.Itemerr _ itemerr_other (first_or _ fault.Nospace _ nospace_other no_fault)))

enq_never : (resources : Resources) (slot : ℕ) (name : ResourceName) → enq_fault resources slot name ≡ Some fault.Memory → ⊥
unfolding enq_fault
enq_never resources slot name = go (hold_of resources name)
  where
    go : (o : Option Hold) → hold_fault resources slot o ≡ Some fault.Memory → ⊥
    go None = first_or _ fault.Enqbusy _ enqbusy_other no_fault
    go (Some hold) = first_or _ fault.Enqbusy _ enqbusy_other (first_or _ fault.Invreq _ invreq_other no_fault)

-- ---- each row

pub deleteq_fits : (call : Call) (r : TaskContext) (v : Verdict) → v ≡ deleteq_row r.shared.storage r.shared.queues call → Fits v r
unfolding deleteq_row
deleteq_fits call r v e = elim (cases_Bool (is_none (count_of r.shared.queues (name_at r.shared.storage call option.Queue)))) [
  | inl t ↦ rw (e, t) (qiderr_fits, tt)
  | inr f ↦ rw (e, f) (normal_fits, tt)
]

pub enq_fits : (call : Call) (r : TaskContext) (v : Verdict) → v ≡ enq_row r.shared.storage r.shared.resources r.terminal_entry.slot call → Fits v r
unfolding enq_row
enq_fits call r v e = elim (cases_Bool (is_wrong_length r.shared.storage call)) [
  | inl t ↦ rw (e, t) (lengerr_fits, tt)
  | inr f ↦
      let name = resource_at r.shared.storage call in
      rw (e, f)
      (fault_or_verdict_fits (enq_fault r.shared.resources r.terminal_entry.slot name) r (does (Before (Enqueues name)))
      (enq_never r.shared.resources r.terminal_entry.slot name) (λ none. (normal_fits, none)))
]

pub deq_fits : (call : Call) (r : TaskContext) (v : Verdict) → v ≡ deq_row r.shared.storage call → Fits v r
unfolding deq_row
deq_fits call r v e = elim (cases_Bool (is_wrong_length r.shared.storage call)) [
  | inl t ↦ rw (e, t) (lengerr_fits, tt)
  | inr f ↦ rw (e, f) (normal_fits, tt)
]

-- a length that an area may have
area_length : (len : ℕ) → is_area_length len ≡ true → (0 < len) × (len ≤ 65520)
area_length len t = let both = and_parts (nat_le 1 len) (nat_le len 65520) t in let low = leb-true 1 len both.0 in (low, leb-true len 65520 both.1)

pub getmain_fits : (call : Call) (r : TaskContext) (v : Verdict) → GetmainRow r.shared.storage call v → Fits v r
unfolding GetmainRow
getmain_fits call r v row =
    by_test (is_area_length (asked_len r.shared.storage call)) row
    (λ t at. placed (area_length (asked_len r.shared.storage call) t) at.place at.least at.is)
    (λ f e. rw e (lengerr_fits, tt))
  where
    placed : (0 < asked_len r.shared.storage call) × (asked_len r.shared.storage call ≤ 65520) → (place : Option ℕ)
        → IsTaskPlace r.shared.storage (asked_len r.shared.storage call) place
        → v ≡ gets (asked_len r.shared.storage call) (fill_byte r.shared.storage call) place → Fits v r
    placed len None least e = rw e (nostg_fits, tt)
    placed len (Some place) least e = rw e (normal_fits, record { some = len.0; few = len.1; place = least; fill = tt })

-- an area that the task got is the slot's own by that kind
got_kind : (kind : Kind) → is_got kind ≡ true → kind ≡ Got
got_kind Got t = refl
got_kind Fixed t = cc
got_kind System t = cc

area_starts : (s : Storage) (place : ℕ) (area : Area) → area_at s place ≡ Some area → area.start ≡ place
unfolding area_at
area_starts [] place area at = cc
area_starts (h ∷ hs) place area at = elim (cases_Bool (h.area.start == place)) [
  | inl t ↦
      let found : Some h.area ≡ Some area = rw t at at in
      let same : h.area ≡ area = cc in
      ap (λ (x : Area). x.start) (sym same) ∙ eqb-true h.area.start place t
  | inr f ↦ area_starts hs place area (rw f at at)
]

same_area : (place slot : ℕ) (area : Area) → area.start ≡ place → area.owner.slot ≡ slot → area.owner.kind ≡ Got → area ≡ area_from place area.len (got_owner slot)
same_area place slot area start mine got = λ i. record { start = start i; len = area.len; owner = record { slot = mine i; kind = got i } }

got_area : (s : Storage) (slot place : ℕ) (area : Area) → area_at s place ≡ Some area → is_got_by slot area ≡ true
    → area_at s place ≡ Some (area_from place area.len (got_owner slot))
got_area s slot place area at t =
    let both = and_parts (area.owner.slot == slot) (is_got area.owner.kind) t in
    at ∙ ap Some (same_area place slot area (area_starts s place area at) (eqb-true area.owner.slot slot both.0) (got_kind area.owner.kind both.1))

pub freemain_fits : (call : Call) (r : TaskContext) (v : Verdict) → AllByRecursion (λ place. place < 2 ^ 24) call.places
    → v ≡ freemain_row r.shared.storage r.terminal_entry.slot call → Fits v r
unfolding freemain_row place_at
freemain_fits call r v low e =
    rw e (found (place_at call option.Data) (below (place_of call option.Data) refl) (area_at r.shared.storage (place_at call option.Data)) refl)
  where
    below : (o : Option ℕ) → place_of call option.Data ≡ o → unwrap_or o 0 < 2 ^ 24
    below None at = omega arith
    below (Some place) at = place_below call option.Data place low at

    found : (place : ℕ) → place < 2 ^ 24 → (o : Option Area) → area_at r.shared.storage place ≡ o
        → Fits (if option_map_or (is_got_by r.terminal_entry.slot) o false then does (After (Frees place)) else condition_alone Invreq) r
    found place below None at = (invreq_fits, tt)
    found place below (Some area) at = elim (cases_Bool (is_got_by r.terminal_entry.slot area)) [
      | inl t ↦ rw t (normal_fits, record { below = below; len = area.len; area = got_area r.shared.storage r.terminal_entry.slot place area at t })
      | inr f ↦ rw f (invreq_fits, tt)
    ]

pub writeq_fits : (call : Call) (r : TaskContext) (v : Verdict) → AllByRecursion (λ place. place < 2 ^ 24) call.places → call.command ≡ command.WriteqTs
    → are_inputs_there r.shared.storage call ≡ true → v ≡ writeq_row r.shared.storage r.shared.queues call → Fits v r
unfolding writeq_row
writeq_fits call r v low is there e = elim (cases_Bool (has call option.Rewrite)) [
  | inl t ↦ rw (e, t)
      (fault_or_verdict_fits (rewrite_fault r.shared.queues name n piece.len) r (does (Before (ItemAt name n piece)))
      (rewrite_never r.shared.queues name n piece.len) (λ none. (normal_fits, record { rewrites = none; there = stands })))
  | inr f ↦ rw (e, f)
      (fault_or_verdict_fits (write_fault r.shared.queues name piece.len) r
      (Meets Normal (output option.Item (Half (unwrap_or (count_of r.shared.queues name) 0 + 1)) ∷ []) (Before (ItemLast name piece)))
      (write_never r.shared.queues name piece.len) (λ none. (normal_fits, record { writes = none; there = stands })))
]
  where
    name : List ℕ
    name = name_at r.shared.storage call option.Queue

    piece : StorageSpan
    piece = piece_at r.shared.storage call option.From

    n : ℕ
    n = item_named r.shared.storage call

    stands : IsThere r.shared.storage piece
    stands = piece_at_there r.shared.storage call option.From low there (rw is from_of_writeq_ts)

pub readq_fits : (call : Call) (r : TaskContext) (v : Verdict) → AreSoundQueues r.shared.queues → ReadqRow r.shared.storage r.shared.queues call v → Fits v r
unfolding ReadqRow ReadsQueueItem
readq_fits call r v sound row =
    by_test (has call option.Into && is_length_negative r.shared.storage call) row (λ t e. rw e (lengerr_fits, tt))
    (λ f reads. by_option (queue_of r.shared.queues name) reads (λ e. rw e (qiderr_fits, tt))
    (λ queue there found. by_option (reading_of_queue asked queue) found (λ e. rw e (itemerr_fits, tt))
    (λ reading is it.
    let item = reading_is asked queue reading (found_sound r.shared.queues name sound queue there) is in
    let len = ap (λ o. option_map length (option_and_then (item_numbered reading.number) o)) there ∙ item.item in
    by_test (has call option.Set) it
    (λ t at. to reading len item.some item.few at.place at.least at.is)
    (λ f e. rw e (into reading (length_option r.shared.storage call) len)))))
  where
    name : List ℕ
    name = name_at r.shared.storage call option.Queue

    asked : Option ℕ
    asked = halfword_of r.shared.storage call option.Item

    to : (reading : Reading) → item_len_of r.shared.queues name reading.number ≡ Some reading.len → 1 ≤ reading.len → reading.len ≤ 32767 → (place : Option ℕ)
        → IsTaskPlace r.shared.storage reading.len place → v ≡ reads_to name reading place → Fits v r
    to reading len some few None least e = rw e (nostg_fits, tt)
    to reading len some few (Some place) least e =
        rw e (normal_fits, record { some = some; few = omega (arith, few); place = least; fill = len })

    into : (reading : Reading) (room : ℕ) → item_len_of r.shared.queues name reading.number ≡ Some reading.len → Fits (reads_into room name reading) r
    into reading room there = elim (cases_Bool (nat_le reading.len room)) [
      | inl t ↦ rw t (normal_fits, there)
      | inr f ↦ rw f (lengerr_fits, there)
    ]
