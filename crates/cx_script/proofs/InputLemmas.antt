-- What the reads gave decides the answer.
use Rattle.std.proofs.Common.{◌≡◌, ℕ, true, false, List, inl, inr, take, Some, Result, Ok, Err, refl, sym, ap, ◌∙◌}
use Rattle.std.specs.Result.{result_err}
use Rattle.cx_edf.specs.State.{EdfState}
use Rattle.cx_edf.specs.Steps.{DisplayMaker}
use Rattle.cx_script_io.specs.Calls.{DeviceCall, given, taken}
use Rattle.cx_script_io.specs.Input.{IsEnding, most_bytes}
use Rattle.cx_script.specs.Script.{script_in}
use Rattle.cx_script.specs.Transcript.{EndsScript, Wrote}
use Rattle.cx_script_actions.specs.Language.{Language, edf_language}
use Rattle.cx_script_actions.specs.Effects.{Performs, fresh_state}
use Rattle.cx_script.specs.Session.{IsScriptSession}
use Rattle.cx_script.specs.Laws.Inputs.{was_stopped, InputsDecide, IsPastBound, FailuresAreReported, PastTheBoundIsReadBound, ReadBoundIsPastTheBound, ReadIsAFailure}
use Rattle.cx_script_actions.specs.declared.actions.Action.{Action}
use Rattle.cx_script_blocks.specs.Faults.{is_read}
use Rattle.cx_script_blocks.specs.declared.faults.RunFault.{RunFault}
use Rattle.cx_script_blocks.specs.declared.faults.RunFault.TheVariants.{BadLine, BadLook, Source, Read, Write, Memory, ReadBound}
use Rattle.cx_script_blocks.specs.declared.faults.Summary.{Summary}
use Rattle.cx_script_io.specs.declared.input.Ending.{Ending}
use Rattle.cx_script_io.specs.declared.input.Ending.TheVariants.{AtEnd, Failed, PastBound}
use Rattle.cx_script.proofs.EndingLemmas.{Endings, ending_of, failed_front, read_ended, read_open, read_whole}
use Rattle.cx_script.proofs.FaultLemmas.{has_this}
use Rattle.cx_script.proofs.WholeLemmas.{one_transcript}

-- a fault of the script's own
own : {A H S : Type 0} (language : Language A H) (performs : S → A → List ℕ → S → Type 0) (old : S) (ending : Ending) (bytes : List ℕ) (fault : RunFault) (written : List ℕ)
    → was_stopped (Err fault) ≡ false → EndsScript language performs old ending bytes (Err fault) written
    → ((script_in language ending bytes).fault ≡ Some fault) × Wrote (◌≡◌ written) performs old (script_in language ending bytes).actions
unfolding EndsScript
own language performs old ending bytes (BadLine n) written e s = s
own language performs old ending bytes (BadLook n) written e s = s
own language performs old ending bytes (Source n which) written e s = s
own language performs old ending bytes Read written e s = s
own language performs old ending bytes Write written e s = cc
own language performs old ending bytes Memory written e s = cc
own language performs old ending bytes ReadBound written e s = s

-- the fault of a run that was not stopped, and what it wrote
reported : (make : DisplayMaker) (ending : Ending) (bytes : List ℕ) (answer : Result Summary RunFault) (written : List ℕ) → was_stopped answer ≡ false
    → EndsScript edf_language (Performs make) fresh_state ending bytes answer written
    → (result_err answer ≡ (script_in edf_language ending bytes).fault) × Wrote (◌≡◌ written) (Performs make) fresh_state (script_in edf_language ending bytes).actions
unfolding EndsScript
reported make ending bytes (Ok s) written e h = (sym h.0, h.2)
reported make ending bytes (Err fault) written e h = let o = own edf_language (Performs make) fresh_state ending bytes fault written e h in (sym o.0, o.1)

same_answer : (make : DisplayMaker) (ending : Ending) (bytes : List ℕ) (answer other : Result Summary RunFault) (written later : List ℕ) → was_stopped answer ≡ false → was_stopped other ≡ false
    → EndsScript edf_language (Performs make) fresh_state ending bytes answer written → EndsScript edf_language (Performs make) fresh_state ending bytes other later → answer ≡ other
unfolding EndsScript
same_answer make ending bytes (Ok s) (Ok t) written later e f p q = ap (λ (n : ℕ). let s : Summary = record { lines = n } in let r : Result Summary RunFault = Ok s in r) (p.1 ∙ sym q.1)
same_answer make ending bytes (Ok s) (Err g) written later e f p q = let o = own edf_language (Performs make) fresh_state ending bytes g later f q in let none = p.0 in let some = o.0 in cc
same_answer make ending bytes (Err g) (Ok s) written later e f p q = let o = own edf_language (Performs make) fresh_state ending bytes g written e p in let none = q.0 in let some = o.0 in cc
same_answer make ending bytes (Err g) (Err h) written later e f p q =
    let o = own edf_language (Performs make) fresh_state ending bytes g written e p in
    let m = own edf_language (Performs make) fresh_state ending bytes h later f q in
    let one = o.0 in let two = m.0 in cc

module _ (decides : (make : DisplayMaker) (old : EdfState) (action : Action) (text other : List ℕ) (new another : EdfState) → Performs make old action text new → Performs make old action other another → (text ≡ other) × (new ≡ another)) where
  same_text : (make : DisplayMaker) (actions : List Action) (written later : List ℕ) → Wrote (◌≡◌ written) (Performs make) fresh_state actions → Wrote (◌≡◌ later) (Performs make) fresh_state actions → written ≡ later
  same_text make actions written later p q =
      let one = one_transcript (Performs make) (decides make) fresh_state actions p.text q.text p.new q.new p.runs q.runs in
      p.written ∙ one.0 ∙ sym q.written

  pub inputs_decide : InputsDecide
  inputs_decide make ending bytes calls others answer other s t r q e f =
      let first = s.ends ending bytes r in
      let second = t.ends ending bytes q in (
        same_answer make ending bytes answer other (taken calls) (taken others) e f first second,
        same_text make (script_in edf_language ending bytes).actions (taken calls) (taken others)
            (reported make ending bytes answer (taken calls) e first).1 (reported make ending bytes other (taken others) f second).1,
      )

-- by why no more was read
fault_in : (make : DisplayMaker) (ending : Ending) (calls : List DeviceCall) (fault : RunFault) → was_stopped (Err fault) ≡ false
    → EndsScript edf_language (Performs make) fresh_state ending (take most_bytes (given calls)) (Err fault) (taken calls) → (script_in edf_language ending (take most_bytes (given calls))).fault ≡ Some fault
fault_in make ending calls fault e h = (own edf_language (Performs make) fresh_state ending (take most_bytes (given calls)) fault (taken calls) e h).0

bound_by : (make : DisplayMaker) (calls : List DeviceCall) (s : IsScriptSession make calls (Err ReadBound)) (why : Ending) → IsEnding calls why → IsPastBound calls
bound_by make calls s PastBound h =
    record { longer = h; faultless = fault_in make PastBound calls ReadBound refl (s.ends PastBound (take most_bytes (given calls)) (read_ended edf_language (Performs make) fresh_state calls s.in_time PastBound h)) }
bound_by make calls s AtEnd h =
    let due = fault_in make AtEnd calls ReadBound refl (s.ends AtEnd (take most_bytes (given calls)) (read_ended edf_language (Performs make) fresh_state calls s.in_time AtEnd h)) in
    let may = has_this edf_language AtEnd (take most_bytes (given calls)) (Some ReadBound) due in cc
bound_by make calls s Failed h =
    let due = fault_in make Failed calls ReadBound refl (s.ends Failed (take most_bytes (given calls)) (read_ended edf_language (Performs make) fresh_state calls s.in_time Failed h)) in
    let may = has_this edf_language Failed (take most_bytes (given calls)) (Some ReadBound) due in cc

bound_in : (make : DisplayMaker) (calls : List DeviceCall) (s : IsScriptSession make calls (Err ReadBound)) → Endings calls → IsPastBound calls
bound_in make calls s (inl w) = bound_by make calls s w.0 w.1
bound_in make calls s (inr none) =
    let due = fault_in make Failed calls ReadBound refl (s.ends Failed (take most_bytes (given calls)) (read_open calls none Failed)) in
    let may = has_this edf_language Failed (take most_bytes (given calls)) (Some ReadBound) due in cc

pub read_bound_is : ReadBoundIsPastTheBound
read_bound_is make calls s = bound_in make calls s (ending_of calls)

err_is : (answer : Result Summary RunFault) (fault : RunFault) → result_err answer ≡ Some fault → answer ≡ Err fault
err_is (Ok s) fault e = cc
err_is (Err f) fault e = let same : f ≡ fault = cc in ap Err same

pub is_read_bound : PastTheBoundIsReadBound
is_read_bound make calls answer s h e =
    let bytes = take most_bytes (given calls) in
    let ends = s.ends PastBound bytes (read_ended edf_language (Performs make) fresh_state calls s.in_time PastBound h.longer) in
    err_is answer ReadBound ((reported make PastBound bytes answer (taken calls) e ends).0 ∙ h.faultless)

failed_by : (make : DisplayMaker) (calls : List DeviceCall) (s : IsScriptSession make calls (Err Read)) (why : Ending) → IsEnding calls why → IsEnding calls Failed
failed_by make calls s Failed h = h
failed_by make calls s AtEnd h =
    let due = fault_in make AtEnd calls Read refl (s.ends AtEnd (take most_bytes (given calls)) (read_ended edf_language (Performs make) fresh_state calls s.in_time AtEnd h)) in
    let may = has_this edf_language AtEnd (take most_bytes (given calls)) (Some Read) due in cc
failed_by make calls s PastBound h =
    let due = fault_in make PastBound calls Read refl (s.ends PastBound (take most_bytes (given calls)) (read_ended edf_language (Performs make) fresh_state calls s.in_time PastBound h)) in
    let may = has_this edf_language PastBound (take most_bytes (given calls)) (Some Read) due in cc

failed_in : (make : DisplayMaker) (calls : List DeviceCall) (s : IsScriptSession make calls (Err Read)) → Endings calls → IsEnding calls Failed
failed_in make calls s (inl w) = failed_by make calls s w.0 w.1
failed_in make calls s (inr none) =
    let due = fault_in make AtEnd calls Read refl (s.ends AtEnd (take most_bytes (given calls)) (read_open calls none AtEnd)) in
    let may = has_this edf_language AtEnd (take most_bytes (given calls)) (Some Read) due in cc

pub read_is : ReadIsAFailure
read_is make calls s = failed_in make calls s (ending_of calls)

pub failures_reported : FailuresAreReported
failures_reported make calls answer s h e =
    let ends = s.ends Failed (given calls) (read_whole edf_language (Performs make) fresh_state calls s.in_time Failed h refl) in
    (reported make Failed (given calls) answer (taken calls) e ends).0

-- a read failed, so the answer is Read
read_failed : (make : DisplayMaker) (calls : List DeviceCall) (answer : Result Summary RunFault) → IsScriptSession make calls answer → IsEnding calls Failed → was_stopped answer ≡ false → answer ≡ Err Read
read_failed make calls answer s h e =
    let front = failed_front edf_language (Performs make) fresh_state calls s.in_time h in
    let due = (own edf_language (Performs make) fresh_state Failed (given front.0) Read (taken front.0) refl front.2).0 in
    err_is answer Read (failures_reported make calls answer s h e ∙ ap (λ bytes. (script_in edf_language Failed bytes).fault) front.1 ∙ due)

pub unfailed : (make : DisplayMaker) (calls : List DeviceCall) (answer : Result Summary RunFault) → IsScriptSession make calls answer → was_stopped answer ≡ false → is_read answer ≡ false → IsEnding calls Failed → ⊥
unfailed make calls answer s e r h = let same : answer ≡ Err Read = read_failed make calls answer s h e in let never : true ≡ false = rw same at r in cc
