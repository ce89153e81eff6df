-- What a command is judged to do can be done.
use Rattle.std.proofs.Common.{◌≡◌, ℕ, zero, suc, ◌<◌, ◌==◌, nat_le, true, false, List, [], ◌∷◌, length, nat_lt, Option, Some, None, refl, arith, inl, inr, ◌^◌}
use Rattle.cx_region_state.specs.declared.verdict.Request.TheVariants.{SetExit, ExitOff, ExitOn}
use Rattle.std.specs.Prelude.{◌&&◌, ◌||◌, not, MatchOption, if◌then◌else◌}
use Rattle.std.specs.Option.{option_map, option_and_then, option_map_or}
use Rattle.std.specs.List.{AllByRecursion}
use Rattle.std.proofs.lemmas.Bool.{cases_Bool, ltb-true}
use Rattle.cx_base.specs.declared.commands.Command.{Command}
use Rattle.cx_base.specs.declared.commands.Command.TheVariants as command
use Rattle.cx_base.specs.declared.options.OptionName.TheVariants.{Cancel, Commarea, From, Label, Program, Transid}
use Rattle.cx_storage.specs.Storage.{Storage}
use Rattle.cx_load.specs.declared.program.Loaded.{Loaded}
use Rattle.cx_program.specs.declared.level.Level.{Level}
use Rattle.cx_program.specs.declared.entries.Handling.{Handling}
use Rattle.cx_service.specs.Queues.{AreSoundQueues}
use Rattle.cx_region_state.specs.Call.{Call, place_of}
use Rattle.cx_region_state.specs.Inputs.{are_inputs_there, bytes_of, is_length_negative, piece_of}
use Rattle.cx_region_state.specs.Facts.Inputs.{IsMeasuredInput, commarea_of_return, commarea_of_xctl, from_of_send_text}
use Rattle.cx_region_state.specs.declared.inputs.StorageSpan.{StorageSpan}
use Rattle.cx_region_state.specs.Areas.{IsSoundProgram, IsTaskPlace, with_copy_area}
use Rattle.cx_region_state.specs.State.{Input, TaskContext}
use Rattle.cx_region_state.specs.Parts.Fits.{Fits, FitsCopy, FitsTransaction, FitsPiece}
use Rattle.cx_region_state.specs.declared.verdict.Copying.{Copying}
use Rattle.cx_region_state.specs.declared.verdict.Verdict.{Verdict}
use Rattle.cx_region_state.specs.declared.verdict.Verdict.TheVariants.{Refuses}
use Rattle.cx_base.specs.declared.abends.Abend.TheVariants as abend
use Rattle.cx_region_commands.specs.declared.common.Called.{Called}
use Rattle.cx_region_commands.specs.Facts.Programs.{program_sound}
use Rattle.cx_region_commands.specs.Common.{AreSoundPrograms, commarea_of, has, name_at, named_program, program_named}
use Rattle.cx_region_commands.specs.Abend.{abend_row}
use Rattle.cx_region_commands.specs.Address.{address_row}
use Rattle.cx_region_commands.specs.HandleAbend.{handle_abend_row}
use Rattle.cx_region_commands.specs.Handling.{asks, handle_row, ignore_row, pop_row, push_row}
use Rattle.cx_region_commands.specs.CommandVerdicts.{HasVerdict, JudgedBy}
use Rattle.cx_region_commands.specs.Link.{LinkRow, Links, enters}
use Rattle.cx_region_commands.specs.Receive.{receive_row}
use Rattle.cx_region_commands.specs.Return.{highest_return, next_of, return_row}
use Rattle.cx_region_commands.specs.SendText.{send_text_row}
use Rattle.cx_region_commands.specs.Suspend.{suspend_row}
use Rattle.cx_region_commands.specs.Xctl.{Copies, Transfers, XctlRow, XctlTo, copying_to, replaces}
use Rattle.cx_region_commands.specs.Facts.FitsParts.{by_option, by_test, invreq_fits, lengerr_fits, normal_fits, pgmiderr_fits, piece_at_there, piece_there}
use Rattle.cx_region_commands.specs.Facts.FitsServices.{deleteq_fits, deq_fits, enq_fits, freemain_fits, getmain_fits, readq_fits, writeq_fits}

-- a COMMAREA with bytes
commarea_is : (s : Storage) (call : Call) (piece : StorageSpan) → commarea_of s call ≡ Some piece → (piece_of s call Commarea ≡ Some piece) × (0 < piece.len)
unfolding commarea_of
commarea_is s call piece e = go (piece_of s call Commarea) e
  where
    go : (o : Option StorageSpan) → option_and_then (λ piece. if piece.len == 0 then None else Some piece) o ≡ Some piece
        → (o ≡ Some piece) × (0 < piece.len)
    go None e = cc
    go (Some found) e = elim (cases_Bool (found.len == 0)) [
      | inl t ↦ let never = rw t at e in cc
      | inr f ↦
          let same : Some found ≡ Some piece = rw f at e in
          let is : found ≡ piece = cc in
          (same, rw (← is) (some_bytes found.len f))
    ]
      where
        some_bytes : (n : ℕ) → (n == 0) ≡ false → 0 < n
        some_bytes zero f = cc
        some_bytes (suc n) f = omega arith

-- the program found is sound
named_sound : (s : Storage) (call : Call) (programs : List (List ℕ × Loaded)) (called : Called) → AreSoundPrograms programs
    → named_program s call programs ≡ Some called → IsSoundProgram called.loaded
unfolding named_program
named_sound s call programs called sound e = found (name_at s call Program) (program_named programs (name_at s call Program)) refl e
  where
    found : (name : List ℕ) (o : Option Loaded) → program_named programs name ≡ o
        → option_map (λ loaded. record { name = name; loaded = loaded }) o ≡ Some called → IsSoundProgram called.loaded
    found name None is e = cc
    found name (Some loaded) is e =
        let same : record { name = name; loaded = loaded } ≡ called = cc in
        let good = program_sound programs name loaded sound is in
        rw (← same) good

-- ---- each row

receive_fits : (room : ℕ) (r : TaskContext) (v : Verdict) → v ≡ receive_row r.terminal_entry.input room → Fits v r
unfolding receive_row
receive_fits room r v e = rw e (go r.terminal_entry.input)
  where
    go : (input : Option Input) → Fits (receive_row input room) r
    go None = tt
    go (Some input) = elim (cases_Bool (nat_le (length input.bytes) room)) [
      | inl t ↦ rw t (normal_fits, tt)
      | inr f ↦ rw f (lengerr_fits, tt)
    ]

push_fits : (r : TaskContext) (v : Verdict) → v ≡ push_row r.task.levels.current.handles.kept → Fits v r
unfolding push_row
push_fits r v e = elim (cases_Bool (nat_lt (length r.task.levels.current.handles.kept) 16)) [
  | inl t ↦ let less = ltb-true _ _ t in rw (e, t) (normal_fits, less)
  | inr f ↦ rw (e, f) (invreq_fits, tt)
]

pop_fits : (r : TaskContext) (v : Verdict) → v ≡ pop_row r.task.levels.current.handles.kept → Fits v r
unfolding pop_row
pop_fits r v e = rw e (go r.task.levels.current.handles.kept)
  where
    go : (kept : List Handling) → Fits (pop_row kept) r
    go [] = (invreq_fits, tt)
    go (last ∷ rest) = (normal_fits, tt)

handle_abend_fits : (call : Call) (r : TaskContext) (v : Verdict) → v ≡ handle_abend_row call → Fits v r
unfolding handle_abend_row
handle_abend_fits call r v e = rw e (go (place_of call Label))
  where
    go : (label : Option ℕ) → Fits (asks (option_map_or SetExit label (if has call Cancel then ExitOff else ExitOn))) r
    go None = elim (cases_Bool (has call Cancel)) [
      | inl t ↦ rw t (normal_fits, tt)
      | inr f ↦ rw f (normal_fits, tt)
    ]
    go (Some label) = (normal_fits, tt)

send_text_fits : (call : Call) (r : TaskContext) (v : Verdict) → AllByRecursion (λ place. place < 2 ^ 24) call.places → call.command ≡ command.SendText → are_inputs_there r.shared.storage call ≡ true
    → v ≡ send_text_row r.shared.storage call → Fits v r
unfolding send_text_row
send_text_fits call r v low is there e = elim (cases_Bool (is_length_negative r.shared.storage call)) [
  | inl t ↦ rw (e, t) (lengerr_fits, tt)
  | inr f ↦ rw (e, f) (normal_fits, piece_at_there r.shared.storage call From low there (rw is from_of_send_text))
]

return_fits : (call : Call) (r : TaskContext) (v : Verdict) → AllByRecursion (λ place. place < 2 ^ 24) call.places → call.command ≡ command.Return → are_inputs_there r.shared.storage call ≡ true
    → v ≡ return_row r.shared.storage r.task.levels.callers call → Fits v r
unfolding return_row next_of
return_fits call r v low is there e = rw e (go r.task.levels.callers)
  where
    row : IsMeasuredInput call.command Commarea
    row = rw is commarea_of_return

    kept : (o : Option StorageSpan) → commarea_of r.shared.storage call ≡ o → FitsPiece o r.shared.storage
    kept None at = tt
    kept (Some piece) at = piece_there r.shared.storage call Commarea piece low there row (commarea_is r.shared.storage call piece at).0

    following : (o : Option (List ℕ)) → FitsTransaction (option_map (λ tran. record { tran = tran; commarea = commarea_of r.shared.storage call }) o) r
    following None = tt
    following (Some name) = kept (commarea_of r.shared.storage call) refl

    next : FitsTransaction (next_of r.shared.storage call) r
    next = following (bytes_of r.shared.storage call Transid 4)

    highest : Fits (highest_return r.shared.storage call) r
    highest = elim (cases_Bool (has call Commarea && not (has call Transid))) [
      | inl t ↦ rw t (invreq_fits, tt)
      | inr f ↦ elim (cases_Bool (is_length_negative r.shared.storage call)) [
        | inl y ↦ rw (f, y) (lengerr_fits, tt)
        | inr n ↦ rw (f, n) (normal_fits, next)
      ]
    ]

    go : (callers : List Level) → Fits (return_row r.shared.storage callers call) r
    go [] = highest
    go (caller ∷ callers) = elim (cases_Bool (has call Transid || has call Commarea)) [
      | inl t ↦ rw t (invreq_fits, tt)
      | inr f ↦ rw f (normal_fits, tt)
    ]

link_fits : (call : Call) (r : TaskContext) (v : Verdict) → AreSoundPrograms r.shared.programs
    → LinkRow r.shared.storage r.shared.programs r.task.levels call v → Fits v r
unfolding LinkRow Links
link_fits call r v sound row =
    by_test (is_length_negative r.shared.storage call) row
    (λ t e. rw e (lengerr_fits, tt))
    (λ f named. by_option (named_program r.shared.storage call r.shared.programs) named
    (λ e. rw e (pgmiderr_fits, tt))
    (λ called is links. by_test (nat_lt (length r.task.levels.callers) 15) links
    (λ t at. entered called (named_sound r.shared.storage call r.shared.programs called sound is) (ltb-true _ _ t) at.place at.least at.is)
    (λ f e. rw e tt)))
  where
    entered : (called : Called) → IsSoundProgram called.loaded → length r.task.levels.callers < 15 → (place : Option ℕ)
        → IsTaskPlace r.shared.storage called.loaded.stg_len place → v ≡ enters called (commarea_of r.shared.storage call) place → Fits v r
    entered called good few None least e = rw e tt
    entered called good few (Some stg) least e = rw e (normal_fits, record { few = few; begins = record { program = good; place = least } })

xctl_fits : (call : Call) (r : TaskContext) (v : Verdict) → AllByRecursion (λ place. place < 2 ^ 24) call.places → call.command ≡ command.Xctl → are_inputs_there r.shared.storage call ≡ true
    → AreSoundPrograms r.shared.programs → XctlRow r.shared.storage r.terminal_entry.slot r.shared.programs call v → Fits v r
unfolding XctlRow XctlTo
xctl_fits call r v low is there sound row =
    by_test (is_length_negative r.shared.storage call) row
    (λ t e. rw e (lengerr_fits, tt))
    (λ f named. by_option (named_program r.shared.storage call r.shared.programs) named
    (λ e. rw e (pgmiderr_fits, tt))
    (λ called found goes. to called (named_sound r.shared.storage call r.shared.programs called sound found) goes))
  where
    measured_row : IsMeasuredInput call.command Commarea
    measured_row = rw is commarea_of_xctl

    replaced : (called : Called) → IsSoundProgram called.loaded → (copying : Option Copying) → FitsCopy copying r.shared.storage → (place : Option ℕ)
        → IsTaskPlace (with_copy_area r.shared.storage r.terminal_entry.slot copying) called.loaded.stg_len place → v ≡ replaces called copying place → Fits v r
    replaced called good copying copy None least e = rw e tt
    replaced called good copying copy (Some stg) least e = rw e (normal_fits, record { copy = copy; begins = record { program = good; place = least } })

    copied : (called : Called) → IsSoundProgram called.loaded → (piece : StorageSpan) → commarea_of r.shared.storage call ≡ Some piece → (place : Option ℕ)
        → IsTaskPlace r.shared.storage piece.len place
        → MatchOption place (v ≡ Refuses abend.Xstg) (λ to. Transfers r.shared.storage r.terminal_entry.slot called (Some (copying_to piece to)) v) → Fits v r
    copied called good piece found None least e = rw e tt
    copied called good piece found (Some to) least at =
        let bytes = commarea_is r.shared.storage call piece found in
        replaced called good (Some (copying_to piece to))
        (record { some = bytes.1; there = piece_there r.shared.storage call Commarea piece low there measured_row bytes.0; place = least }) at.place at.least at.is

    to : (called : Called) → IsSoundProgram called.loaded
        → MatchOption (commarea_of r.shared.storage call) (Transfers r.shared.storage r.terminal_entry.slot called None v) (λ piece. Copies r.shared.storage r.terminal_entry.slot called piece v) → Fits v r
    to called good goes =
        by_option (commarea_of r.shared.storage call) goes
        (λ at. replaced called good None tt at.place at.least at.is)
        (λ piece found copies. copied called good piece found copies.place copies.least copies.goes)

-- What a call is judged to do can be done, where its inputs are in storage.
pub judged_fits : (call : Call) (r : TaskContext) (v : Verdict) → AreSoundQueues r.shared.queues → AllByRecursion (λ place. place < 2 ^ 24) call.places → AreSoundPrograms r.shared.programs → are_inputs_there r.shared.storage call ≡ true
    → HasVerdict call r v → Fits v r
unfolding HasVerdict abend_row address_row handle_row ignore_row suspend_row
judged_fits call r v queues low sound there judged = go call.command refl judged
  where
    go : (c : Command) → call.command ≡ c → JudgedBy c call r v → Fits v r
    go command.PushHandle is e = push_fits r v e
    go command.PopHandle is e = pop_fits r v e
    go command.Receive is e = receive_fits _ r v e
    go command.WriteqTs is e = writeq_fits call r v low is there e
    go command.ReadqTs is e = readq_fits call r v queues e
    go command.DeleteqTs is e = deleteq_fits call r v e
    go command.Getmain is e = getmain_fits call r v e
    go command.Freemain is e = freemain_fits call r v low e
    go command.Link is e = link_fits call r v sound e
    go command.Xctl is e = xctl_fits call r v low is there sound e
    go command.Return is e = return_fits call r v low is there e
    go command.HandleAbend is e = handle_abend_fits call r v e
    go command.Enq is e = enq_fits call r v e
    go command.Deq is e = deq_fits call r v e
    go command.SendText is e = send_text_fits call r v low is there e
    go _ is e = rw e (normal_fits, tt)
