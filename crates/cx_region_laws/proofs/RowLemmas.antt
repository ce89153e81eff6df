-- What each command's row may judge: the kinds of changes, by a table; the conditions that are met with them; the outputs.
use Rattle.std.proofs.Common.{◌≡◌, ℕ, ◌≤◌, ◌<◌, ◌^◌, Bool, true, false, nat_lt, List, [], ◌∷◌, length, Option, Some, None, refl, sym, ◌∙◌, ap, subst, arith, inl, inr}
use Rattle.std.specs.Prelude.{◌&&◌, ◌||◌, ◌⊎◌, is_none, not, MatchOption}
use Rattle.std.specs.Option.{option_map_or}
use Rattle.std.specs.List.{AllByRecursion, list_any}
use Rattle.std.proofs.lemmas.Bool.{cases_Bool, ltb-true, true≢false}
use Rattle.cx_base.specs.declared.abends.Abend.TheVariants as abend
use Rattle.cx_base.specs.declared.commands.Command.{Command}
use Rattle.cx_base.specs.declared.commands.Command.TheVariants as command
use Rattle.cx_base.specs.declared.conditions.Condition.{Condition}
use Rattle.cx_base.specs.declared.conditions.Condition.TheVariants.{Itemerr, Lengerr, Pgmiderr, Qiderr}
use Rattle.cx_base.specs.declared.options.OptionName.TheVariants as option
use Rattle.cx_base.specs.Arguments.{bytes_of_length}
use Rattle.cx_storage.specs.Storage.{Storage, area_at}
use Rattle.cx_program.specs.declared.entries.Handling.{Handling}
use Rattle.cx_program.specs.declared.level.Level.{Level}
use Rattle.cx_service.specs.declared.faults.ServiceFault.{ServiceFault}
use Rattle.cx_service.specs.declared.queues.Reading.{Reading}
use Rattle.cx_service.specs.declared.faults.ServiceFault.TheVariants as fault
use Rattle.cx_service.specs.Queues.{Queues, count_of, queue_of, reading_of_queue, rewrite_fault, write_fault}
use Rattle.cx_service.specs.Resources.{enq_fault}
use Rattle.cx_region_state.specs.Call.{Call}
use Rattle.cx_region_state.specs.declared.inputs.StorageSpan.{StorageSpan}
use Rattle.cx_region_state.specs.declared.outputs.Output.{Output}
use Rattle.cx_region_state.specs.declared.outputs.OutputValue.{OutputValue}
use Rattle.cx_region_state.specs.declared.outputs.OutputValue.TheVariants.{Half, Text, Word}
use Rattle.cx_region_state.specs.Inputs.{halfword_of, is_length_negative, length_option}
use Rattle.cx_region_state.specs.Areas.{IsTaskPlace}
use Rattle.cx_region_state.specs.State.{Input, TaskContext}
use Rattle.cx_region_state.specs.declared.verdict.TaskChange.{TaskChange}
use Rattle.cx_region_state.specs.declared.verdict.TaskChange.TheVariants as change
use Rattle.cx_region_state.specs.declared.verdict.Copying.{Copying}
use Rattle.cx_region_state.specs.declared.verdict.AfterOutputs.TheVariants as ended
use Rattle.cx_region_state.specs.declared.verdict.BeforeOutputs.TheVariants as made
use Rattle.cx_region_state.specs.declared.verdict.Verdict.{Verdict}
use Rattle.cx_region_state.specs.declared.verdict.Verdict.TheVariants.{Meets, Refuses, Waits}
use Rattle.cx_region_commands.specs.declared.common.Called.{Called}
use Rattle.cx_region_commands.specs.Common.{commarea_of, does, has, name_at, named_program, condition_alone, piece_at, place_at}
use Rattle.cx_region_commands.specs.Services.{fault_or_verdict}
use Rattle.cx_region_commands.specs.Abend.{abend_row}
use Rattle.cx_region_commands.specs.Address.{address_row}
use Rattle.cx_region_commands.specs.DeleteqTs.{deleteq_row}
use Rattle.cx_region_commands.specs.Deq.{deq_row}
use Rattle.cx_region_commands.specs.Enq.{enq_row, is_wrong_length, resource_at}
use Rattle.cx_region_commands.specs.Freemain.{freemain_row, is_got_by}
use Rattle.cx_region_commands.specs.Getmain.{GetmainRow, asked_len, fill_byte, gets, is_area_length}
use Rattle.cx_region_commands.specs.HandleAbend.{handle_abend_row}
use Rattle.cx_region_commands.specs.Handling.{handle_row, ignore_row, pop_row, push_row}
use Rattle.cx_region_commands.specs.CommandVerdicts.{HasVerdict, JudgedBy}
use Rattle.cx_region_commands.specs.Link.{LinkRow, Links, enters}
use Rattle.cx_region_commands.specs.ReadqTs.{ReadqRow, ReadsQueueItem, reads_into, reads_to}
use Rattle.cx_region_commands.specs.Receive.{receive_row}
use Rattle.cx_region_commands.specs.Return.{return_row}
use Rattle.cx_region_commands.specs.SendText.{send_text_row}
use Rattle.cx_region_commands.specs.Suspend.{suspend_row}
use Rattle.cx_region_commands.specs.WriteqTs.{item_named, writeq_row}
use Rattle.cx_region_commands.specs.Xctl.{Transfers, XctlRow, XctlTo, copying_to, replaces}
use Rattle.cx_region_commands.specs.Facts.FitsParts.{by_option, by_test}
use Rattle.cx_region_task.specs.Continuations.{is_normal}
use Rattle.cx_region_laws.proofs.ClearLemmas.{placed_ends}

-- ---- the table
-- the kinds of changes
pub data Kind : Type 0 where
  KeepsAll WritesItem Enqueues Shows AsksForHandles EndsSomething GetsArea EntersLevel ReplacesLevel EndsLevel EndsTask Abends : Kind

abbrev pub kind_of : TaskChange → Kind
kind_of change.Nothing = KeepsAll
kind_of (change.Before (made.ItemLast name piece)) = WritesItem
kind_of (change.Before (made.ItemAt name n piece)) = WritesItem
kind_of (change.Before (made.Enqueues resource)) = Enqueues
kind_of (change.Before (made.Shows piece erase)) = Shows
kind_of (change.Before (made.Handles request)) = AsksForHandles
kind_of (change.After ended) = EndsSomething
kind_of (change.Gets got) = GetsArea
kind_of (change.Enters level) = EntersLevel
kind_of (change.Replaces copying level) = ReplacesLevel
kind_of change.LevelEnds = EndsLevel
kind_of (change.TaskEnds next) = EndsTask
kind_of (change.AbendsWith code cancel) = Abends

-- which of them a command's verdicts may have
abbrev pub kinds_of : Command → List Kind
kinds_of command.Address = KeepsAll ∷ []
kinds_of command.HandleCondition = AsksForHandles ∷ []
kinds_of command.IgnoreCondition = AsksForHandles ∷ []
kinds_of command.PushHandle = KeepsAll ∷ AsksForHandles ∷ []
kinds_of command.PopHandle = KeepsAll ∷ AsksForHandles ∷ []
kinds_of command.Receive = EndsSomething ∷ []
kinds_of command.WriteqTs = KeepsAll ∷ WritesItem ∷ []
kinds_of command.ReadqTs = KeepsAll ∷ EndsSomething ∷ GetsArea ∷ []
kinds_of command.DeleteqTs = KeepsAll ∷ EndsSomething ∷ []
kinds_of command.Getmain = KeepsAll ∷ GetsArea ∷ []
kinds_of command.Freemain = KeepsAll ∷ EndsSomething ∷ []
kinds_of command.Link = KeepsAll ∷ EntersLevel ∷ []
kinds_of command.Xctl = KeepsAll ∷ ReplacesLevel ∷ []
kinds_of command.Return = KeepsAll ∷ EndsLevel ∷ EndsTask ∷ []
kinds_of command.Abend = Abends ∷ []
kinds_of command.HandleAbend = AsksForHandles ∷ []
kinds_of command.Enq = KeepsAll ∷ Enqueues ∷ []
kinds_of command.Deq = KeepsAll ∷ EndsSomething ∷ []
kinds_of command.Suspend = KeepsAll ∷ []
kinds_of command.SendText = KeepsAll ∷ Shows ∷ []

abbrev pub IsAmong : Kind → List Kind → Type 0
IsAmong kind [] = ⊥
IsAmong kind (first ∷ rest) = (kind ≡ first) ⊎ IsAmong kind rest

-- ---- what a verdict of these kinds has
-- the changes with which a condition beside NORMAL may be met
abbrev pub meets_any : TaskChange → Bool
meets_any change.Nothing = true
meets_any (change.After ended) = true
meets_any _ = false

-- an output of few bytes, and a word that is one
abbrev pub IsShort : OutputValue → Type 0
IsShort (Text n) = n ≤ 32767
IsShort (Half n) = Unit {0}
IsShort (Word n) = n < 2 ^ 32

abbrev pub AreShort : List Output → Type 0
AreShort outputs = AllByRecursion (λ output. IsShort output.source) outputs

-- the change frees no area, and begins or ends no level
abbrev pub keeps_areas : TaskChange → Bool
keeps_areas change.Nothing = true
keeps_areas (change.Before made) = true
keeps_areas (change.After (ended.Frees place)) = false
keeps_areas (change.After ended) = true
keeps_areas (change.Gets got) = true
keeps_areas _ = false

-- its change is of one of the kinds, NORMAL is met with most changes, and there are no outputs, or short ones and a change that keeps all areas
pub record IsOfKinds (kinds : List Kind) (condition : Condition) (outputs : List Output) (change : TaskChange) : Type 0 where
  pub kind : IsAmong (kind_of change) kinds
  pub normal : (is_normal condition ≡ true) ⊎ (meets_any change ≡ true)
  pub plain : (outputs ≡ []) ⊎ ((keeps_areas change ≡ true) × AreShort outputs)

abbrev pub IsRow : List Kind → Verdict → Type 0
IsRow kinds (Meets condition outputs change) = IsOfKinds kinds condition outputs change
IsRow kinds Waits = Unit {0}
IsRow kinds (Refuses abend) = Unit {0}

of_row : (kinds : List Kind) (v row : Verdict) → v ≡ row → IsRow kinds row → IsRow kinds v
of_row kinds v row is it = subst (IsRow kinds) (sym is) it

alone : (kinds : List Kind) (condition : Condition) → IsRow (KeepsAll ∷ kinds) (condition_alone condition)
alone kinds condition = record { kind = inl refl; normal = inr refl; plain = inl refl }

done : (kinds : List Kind) (change : TaskChange) → IsAmong (kind_of change) kinds → IsRow kinds (does change)
done kinds change among = record { kind = among; normal = inl refl; plain = inl refl }

-- a service's fault in front of a verdict
unless : (kinds : List Kind) (o : Option ServiceFault) (v : Verdict) → IsRow (KeepsAll ∷ kinds) v → IsRow (KeepsAll ∷ kinds) (fault_or_verdict o v)
unless kinds (Some fault.Lengerr) v row = alone kinds _
unless kinds (Some fault.Itemerr) v row = alone kinds _
unless kinds (Some fault.Nospace) v row = alone kinds _
unless kinds (Some fault.Qiderr) v row = alone kinds _
unless kinds (Some fault.Enqbusy) v row = alone kinds _
unless kinds (Some fault.Invreq) v row = alone kinds _
unless kinds (Some fault.Memory) v row = row
unless kinds None v row = row

-- LENGTH measures few bytes
few_bytes : (o : Option ℕ) → bytes_of_length o ≤ 32767
few_bytes None = omega arith
few_bytes (Some halfword) = elim (cases_Bool (nat_lt halfword (2 ^ 15))) [
  | inl t ↦ let less = ltb-true _ _ t in rw t (omega (arith, less))
  | inr f ↦ rw f (omega arith)
]

measured_few : (s : Storage) (call : Call) → length_option s call ≤ 32767
unfolding length_option
measured_few s call = few_bytes (halfword_of s call option.Length)

-- ---- rows with outputs
receive_kinds : (input : Option Input) (room : ℕ) → room ≤ 32767 → IsRow (kinds_of command.Receive) (receive_row input room)
unfolding receive_row
receive_kinds None room few = tt
receive_kinds (Some input) room few = record { kind = inl refl; normal = inr refl; plain = inr (refl, (few, (tt, tt))) }

getmain_kinds : (s : Storage) (call : Call) (v : Verdict) → GetmainRow s call v → IsRow (kinds_of command.Getmain) v
unfolding GetmainRow
getmain_kinds s call v row =
    by_test (is_area_length (asked_len s call)) row
    (λ _ at. placed at.place at.least at.is)
    (λ _ is. of_row _ v _ is (alone _ Lengerr))
  where
    placed : (place : Option ℕ) → IsTaskPlace s (asked_len s call) place → v ≡ gets (asked_len s call) (fill_byte s call) place → IsRow (kinds_of command.Getmain) v
    placed None least is = of_row _ v _ is (alone _ _)
    placed (Some place) least is =
        let ends = placed_ends s (asked_len s call) place least in
        of_row _ v _ is (record { kind = inr (inl refl); normal = inl refl; plain = inr (refl, (omega (arith, ends), tt)) })

readq_kinds : (s : Storage) (queues : Queues) (call : Call) (v : Verdict) → ReadqRow s queues call v → IsRow (kinds_of command.ReadqTs) v
unfolding ReadqRow ReadsQueueItem
readq_kinds s queues call v row =
    by_test (has call option.Into && is_length_negative s call) row
    (λ _ is. of_row _ v _ is (alone _ Lengerr))
    (λ _ reads. by_option (queue_of queues name) reads (λ is. of_row _ v _ is (alone _ Qiderr))
    (λ queue _ found. by_option (reading_of_queue (halfword_of s call option.Item) queue) found (λ is. of_row _ v _ is (alone _ Itemerr))
    (λ reading _ item. by_test (has call option.Set) item
    (λ _ at. placed reading at.place at.least at.is)
    (λ _ is. of_row _ v (reads_into (length_option s call) name reading) is
    (record { kind = inr (inl refl); normal = inr refl; plain = inr (refl, (measured_few s call, (tt, (tt, tt)))) })))))
  where
    name : List ℕ
    name = name_at s call option.Queue

    placed : (reading : Reading) (place : Option ℕ) → IsTaskPlace s reading.len place → v ≡ reads_to name reading place → IsRow (kinds_of command.ReadqTs) v
    placed reading None least is = of_row _ v _ is (alone _ _)
    placed reading (Some place) least is =
        let ends = placed_ends s reading.len place least in
        of_row _ v _ is (record { kind = inr (inr (inl refl)); normal = inl refl; plain = inr (refl, (tt, (omega (arith, ends), (tt, tt)))) })

writeq_kinds : (s : Storage) (queues : Queues) (call : Call) → IsRow (kinds_of command.WriteqTs) (writeq_row s queues call)
unfolding writeq_row
writeq_kinds s queues call =
    let name = name_at s call option.Queue in
    let piece = piece_at s call option.From in
    elim (cases_Bool (has call option.Rewrite)) [
      | inl t ↦ rw t (unless _ (rewrite_fault queues name (item_named s call) piece.len) _ (done _ _ (inr (inl refl))))
      | inr f ↦ rw f (unless _ (write_fault queues name piece.len) _ (record { kind = inr (inl refl); normal = inl refl; plain = inr (refl, (tt, tt)) }))
    ]

-- ---- rows without outputs
push_kinds : (kept : List Handling) → IsRow (kinds_of command.PushHandle) (push_row kept)
unfolding push_row
push_kinds kept = elim (cases_Bool (nat_lt (length kept) 16)) [
  | inl t ↦ rw t (done _ _ (inr (inl refl)))
  | inr f ↦ rw f (alone _ _)
]

pop_kinds : (kept : List Handling) → IsRow (kinds_of command.PopHandle) (pop_row kept)
unfolding pop_row
pop_kinds [] = alone _ _
pop_kinds (last ∷ rest) = done _ _ (inr (inl refl))

deleteq_kinds : (s : Storage) (queues : Queues) (call : Call) → IsRow (kinds_of command.DeleteqTs) (deleteq_row s queues call)
unfolding deleteq_row
deleteq_kinds s queues call = elim (cases_Bool (is_none (count_of queues (name_at s call option.Queue)))) [
  | inl t ↦ rw t (alone _ _)
  | inr f ↦ rw f (done _ _ (inr (inl refl)))
]

freemain_kinds : (s : Storage) (slot : ℕ) (call : Call) → IsRow (kinds_of command.Freemain) (freemain_row s slot call)
unfolding freemain_row
freemain_kinds s slot call = elim (cases_Bool (option_map_or (is_got_by slot) (area_at s (place_at call option.Data)) false)) [
  | inl t ↦ rw t (done _ _ (inr (inl refl)))
  | inr f ↦ rw f (alone _ _)
]

enq_kinds : (call : Call) (r : TaskContext) → IsRow (kinds_of command.Enq) (enq_row r.shared.storage r.shared.resources r.terminal_entry.slot call)
unfolding enq_row
enq_kinds call r = elim (cases_Bool (is_wrong_length r.shared.storage call)) [
  | inl t ↦ rw t (alone _ _)
  | inr f ↦ rw f (unless _ (enq_fault r.shared.resources r.terminal_entry.slot (resource_at r.shared.storage call)) _ (done _ _ (inr (inl refl))))
]

deq_kinds : (s : Storage) (call : Call) → IsRow (kinds_of command.Deq) (deq_row s call)
unfolding deq_row
deq_kinds s call = elim (cases_Bool (is_wrong_length s call)) [
  | inl t ↦ rw t (alone _ _)
  | inr f ↦ rw f (done _ _ (inr (inl refl)))
]

send_text_kinds : (s : Storage) (call : Call) → IsRow (kinds_of command.SendText) (send_text_row s call)
unfolding send_text_row
send_text_kinds s call = elim (cases_Bool (is_length_negative s call)) [
  | inl t ↦ rw t (alone _ _)
  | inr f ↦ rw f (done _ _ (inr (inl refl)))
]

return_kinds : (s : Storage) (callers : List Level) (call : Call) → IsRow (kinds_of command.Return) (return_row s callers call)
unfolding return_row
return_kinds s [] call = elim (cases_Bool (has call option.Commarea && not (has call option.Transid))) [
  | inl t ↦ rw t (alone _ _)
  | inr f ↦ elim (cases_Bool (is_length_negative s call)) [
    | inl y ↦ rw (f, y) (alone _ _)
    | inr n ↦ rw (f, n) (done _ _ (inr (inr (inl refl))))
  ]
]
return_kinds s (caller ∷ callers) call = elim (cases_Bool (has call option.Transid || has call option.Commarea)) [
  | inl t ↦ rw t (alone _ _)
  | inr f ↦ rw f (done _ _ (inr (inl refl)))
]

link_kinds : (call : Call) (r : TaskContext) (v : Verdict) → LinkRow r.shared.storage r.shared.programs r.task.levels call v → IsRow (kinds_of command.Link) v
unfolding LinkRow Links
link_kinds call r v row =
    by_test (is_length_negative r.shared.storage call) row
    (λ _ is. of_row _ v _ is (alone _ Lengerr))
    (λ _ named. by_option (named_program r.shared.storage call r.shared.programs) named
    (λ is. of_row _ v _ is (alone _ Pgmiderr))
    (λ called _ links. by_test (nat_lt (length r.task.levels.callers) 15) links
    (λ _ at. placed called at.place at.is)
    (λ _ is. of_row _ v (Refuses abend.Xlvl) is tt)))
  where
    placed : (called : Called) (place : Option ℕ) → v ≡ enters called (commarea_of r.shared.storage call) place → IsRow (kinds_of command.Link) v
    placed called None is = of_row _ v _ is tt
    placed called (Some stg) is = of_row _ v _ is (done _ _ (inr (inl refl)))

xctl_kinds : (call : Call) (r : TaskContext) (v : Verdict) → XctlRow r.shared.storage r.terminal_entry.slot r.shared.programs call v → IsRow (kinds_of command.Xctl) v
unfolding XctlRow XctlTo
xctl_kinds call r v row =
    by_test (is_length_negative r.shared.storage call) row
    (λ _ is. of_row _ v _ is (alone _ Lengerr))
    (λ _ named. by_option (named_program r.shared.storage call r.shared.programs) named
    (λ is. of_row _ v _ is (alone _ Pgmiderr))
    (λ called _ goes. by_option (commarea_of r.shared.storage call) goes
    (λ at. placed called None at.place at.is)
    (λ piece _ copies. copied called piece copies.place copies.goes)))
  where
    placed : (called : Called) (copying : Option Copying) (place : Option ℕ) → v ≡ replaces called copying place → IsRow (kinds_of command.Xctl) v
    placed called copying None is = of_row _ v _ is tt
    placed called copying (Some stg) is = of_row _ v _ is (done _ _ (inr (inl refl)))

    copied : (called : Called) (piece : StorageSpan) (place : Option ℕ)
        → MatchOption place (v ≡ Refuses abend.Xstg) (λ to. Transfers r.shared.storage r.terminal_entry.slot called (Some (copying_to piece to)) v) → IsRow (kinds_of command.Xctl) v
    copied called piece None is = of_row _ v (Refuses abend.Xstg) is tt
    copied called piece (Some to) at = placed called (Some (copying_to piece to)) at.place at.is

-- ---- each command
pub judged_row : (call : Call) (r : TaskContext) (v : Verdict) → HasVerdict call r v → IsRow (kinds_of call.command) v
unfolding HasVerdict address_row abend_row handle_row ignore_row suspend_row handle_abend_row
judged_row call r v judged = go call.command judged
  where
    go : (c : Command) → JudgedBy c call r v → IsRow (kinds_of c) v
    go command.Address is = of_row _ v _ is (record { kind = inl refl; normal = inl refl; plain = inr (refl, (omega arith, tt)) })
    go command.HandleCondition is = of_row _ v _ is (done _ _ (inl refl))
    go command.IgnoreCondition is = of_row _ v _ is (done _ _ (inl refl))
    go command.PushHandle is = of_row _ v _ is (push_kinds r.task.levels.current.handles.kept)
    go command.PopHandle is = of_row _ v _ is (pop_kinds r.task.levels.current.handles.kept)
    go command.Receive is = of_row _ v _ is (receive_kinds r.terminal_entry.input (length_option r.shared.storage call) (measured_few r.shared.storage call))
    go command.WriteqTs is = of_row _ v _ is (writeq_kinds r.shared.storage r.shared.queues call)
    go command.ReadqTs row = readq_kinds r.shared.storage r.shared.queues call v row
    go command.DeleteqTs is = of_row _ v _ is (deleteq_kinds r.shared.storage r.shared.queues call)
    go command.Getmain row = getmain_kinds r.shared.storage call v row
    go command.Freemain is = of_row _ v _ is (freemain_kinds r.shared.storage r.terminal_entry.slot call)
    go command.Link row = link_kinds call r v row
    go command.Xctl row = xctl_kinds call r v row
    go command.Return is = of_row _ v _ is (return_kinds r.shared.storage r.task.levels.callers call)
    go command.Abend is = of_row _ v _ is (done _ _ (inl refl))
    go command.HandleAbend is = of_row _ v _ is (done _ _ (inl refl))
    go command.Enq is = of_row _ v _ is (enq_kinds call r)
    go command.Deq is = of_row _ v _ is (deq_kinds r.shared.storage call)
    go command.Suspend is = of_row _ v _ is (done _ _ (inl refl))
    go command.SendText is = of_row _ v _ is (send_text_kinds r.shared.storage call)

-- ---- by the table
-- whether a verdict's change passes a test
unfoldable pub passes : (TaskChange → Bool) → Verdict → Bool
passes p (Meets condition outputs change) = p change
passes p Waits = false
passes p (Refuses abend) = false

-- a verdict that is a row's passes where the row does
pub never : (p : TaskChange → Bool) (v row : Verdict) → v ≡ row → passes p row ≡ false → passes p v ≡ true → {P : Type 0} → P
never p v row is none e = absurd (true≢false (sym e ∙ ap (passes p) is ∙ none))

or_true : (a : Bool) {b : Bool} → b ≡ true → (a || b) ≡ true
or_true true e = refl
or_true false e = e

among_any : (test : Kind → Bool) (kind : Kind) (kinds : List Kind) → IsAmong kind kinds → test kind ≡ true → list_any test kinds ≡ true
among_any test kind [] among e = absurd among
among_any test kind (first ∷ rest) (inl is) e = let here : test first ≡ true = ap test (sym is) ∙ e in rw here refl
among_any test kind (first ∷ rest) (inr later) e = or_true (test first) (among_any test kind rest later e)

-- whose verdict's change passes a test of changes, that command has a kind in the table which passes the like test of kinds
pub has_kind : (p : TaskChange → Bool) (test : Kind → Bool) → ((change : TaskChange) → p change ≡ true → test (kind_of change) ≡ true)
    → (call : Call) (r : TaskContext) (v : Verdict) → HasVerdict call r v → passes p v ≡ true → list_any test (kinds_of call.command) ≡ true
unfolding passes
has_kind p test like call r v judged e = go v (judged_row call r v judged) e
  where
    go : (v : Verdict) → IsRow (kinds_of call.command) v → passes p v ≡ true → list_any test (kinds_of call.command) ≡ true
    go (Meets condition outputs change) row e = among_any test (kind_of change) (kinds_of call.command) row.kind (like change e)
    go Waits row e = cc
    go (Refuses abend) row e = cc
