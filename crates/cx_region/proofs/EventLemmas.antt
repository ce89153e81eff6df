-- An event that was answered with Memory may take memory.
use Rattle.std.proofs.Common.{◌≡◌, ℕ, Bool, true, false, cond, List, None, Some, Option, Result, Ok, Err, MatchOption, IsOkUnless, IsErrOf, OnErr, refl, ap, subst}
use Rattle.cx_ebcdic.specs.declared.aids.Aid.{Aid}
use Rattle.std.specs.declared.alloc.AllocError.{AllocError}
use Rattle.cx_region.specs.State.{RegionState}
use Rattle.cx_region.specs.Attach.{KeyTakesMemory, input_from}
use Rattle.cx_region.specs.Parts.Asking.{input_with}
use Rattle.cx_region.specs.Defining.{transaction_fault, terminal_fault}
use Rattle.cx_region.specs.Events.{Applies, IsDone, MayTakeMemory}
use Rattle.cx_region.specs.declared.replies.DefineFault.{DefineFault}
use Rattle.cx_region.specs.declared.replies.DefineFault.TheVariants.{Duplicate, Full, Memory, NoProgram}
use Rattle.cx_region.specs.declared.replies.Event.{Event}
use Rattle.cx_region.specs.declared.replies.Event.TheVariants as event

-- no refusal is Memory
three : (a b c : Bool) → cond a (Some Duplicate) (cond b (Some Full) (cond c (Some NoProgram) None)) ≡ Some Memory → ⊥
three true b c e = cc
three false true c e = cc
three false false true e = cc
three false false false e = cc

two : (a b : Bool) → cond a (Some Duplicate) (cond b (Some Full) None) ≡ Some Memory → ⊥
two true b e = cc
two false true e = cc
two false false e = cc

none_due : {A : Type 0} (due : Option DefineFault) (r : Result A DefineFault) → (due ≡ Some Memory → ⊥) → MatchOption due (IsOkUnless r Memory) (IsErrOf r) → r ≡ Err Memory → due ≡ None
none_due None r never h e = refl
none_due (Some fault) (Ok done) never h e = cc
none_due (Some fault) (Err other) never h e = let same : fault ≡ Memory = cc in absurd (never (ap Some same))

pub transaction_memory : (old : RegionState) (tran program : List ℕ) (r : Result (Unit {0}) DefineFault)
    → MatchOption (transaction_fault old tran program) (IsOkUnless r Memory) (IsErrOf r) → r ≡ Err Memory → MayTakeMemory old (event.Transaction tran program)
unfolding MayTakeMemory transaction_fault
transaction_memory old tran program r h e = none_due (transaction_fault old tran program) r (λ m. three _ _ _ m) h e

pub terminal_memory : (old : RegionState) (name : List ℕ) (r : Result (Unit {0}) DefineFault)
    → MatchOption (terminal_fault old name) (IsOkUnless r Memory) (IsErrOf r) → r ≡ Err Memory → MayTakeMemory old (event.Terminal name)
unfolding MayTakeMemory terminal_fault
terminal_memory old name r h e = none_due (terminal_fault old name) r (λ m. two _ _ m) h e

pub key_memory : (old : RegionState) (name : List ℕ) (aid : Aid) (bytes sent : List ℕ) → sent ≡ (input_from aid bytes).bytes → KeyTakesMemory old name (input_with aid sent) → MayTakeMemory old (event.Key name aid bytes)
unfolding MayTakeMemory input_from
key_memory old name aid bytes sent is h = subst (λ (b : List ℕ). KeyTakesMemory old name (input_with aid b)) is h

-- an event whose call was refused memory
pub not_done : {A F : Type 0} (old new : RegionState) (e : Event) (r : Result A F) (fault : F) {refusal : AllocError} → r ≡ Err fault → MayTakeMemory old e → OnErr r (new ≡ old) → IsDone Applies MayTakeMemory old e (Err refusal) new
not_done old new e r fault is due same = record { applies = tt; memory = due; err = subst (λ x. OnErr x (new ≡ old)) is same }

-- what holds anyway holds of an error
pub on_err : {A E : Type 0} (r : Result A E) (P : Type 0) → P → OnErr r P
on_err (Ok a) P p = tt
on_err (Err e) P p = p
