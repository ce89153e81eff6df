-- Every row is there, and what an interruption leaves.
use Rattle.std.proofs.Common.{◌≡◌, ◌⊎◌, false, Result, Ok, Err, refl, ◌∙◌, ap, inl, inr, MatchResult}
use Rattle.cx_code.specs.Spelling.{Instruction, IsWellFormed}
use Rattle.cx_exec.specs.declared.machine.Interruption.{Interruption}
use Rattle.cx_exec.specs.declared.machine.Interruption.TheVariants as interruption
use Rattle.cx_exec.specs.declared.machine.Step.TheVariants.{Interrupt}
use Rattle.cx_exec.specs.declared.machine.Updated.{Updated}
use Rattle.cx_exec.specs.declared.stepping.PendingInstruction.{PendingInstruction}
use Rattle.cx_exec.specs.Machine.{Machine}
use Rattle.cx_exec.specs.Outcome.{IsSuppressed}
use Rattle.cx_exec.specs.Rows.{Effect}
use Rattle.cx_exec.specs.Step.{is_execute, instruction_to_perform, Runs, Steps}
use Rattle.cx_exec_laws.specs.Laws.Interruptions.{IsConversion}
use Rattle.cx_exec_laws.specs.Facts.Rows.{IsConvertedBy, effect}

pub every_row_is_there : (i : Instruction) (updated : Updated) (m after : Machine) → IsWellFormed i → is_execute i.op ≡ false
    → Effect i updated m (Err interruption.Operation) after → ⊥
unfolding IsWellFormed
every_row_is_there i updated m after formed other h = (effect i updated m).known after h formed.0 other

pub interruptions_leave : (m : Machine) (cause : Interruption) (after : Machine) → Steps m (Interrupt cause) after → (after ≡ m) ⊎ IsConversion m cause after
unfolding Steps Runs
interruptions_leave m cause after h = go (instruction_to_perform m) refl h.1
  where
    go : (r : Result PendingInstruction Interruption) → instruction_to_perform m ≡ r → MatchResult r (λ d. Effect d.inst d.updated m (Err cause) after) (λ c. IsSuppressed c m (Err cause) after)
        → (after ≡ m) ⊎ IsConversion m cause after
    go (Err c) e h = inl h.1
    go (Ok d) e h = by_cases ((effect d.inst d.updated m).left cause after h)
      where
        by_cases : (after ≡ m) ⊎ IsConvertedBy d.inst m cause after → (after ≡ m) ⊎ IsConversion m cause after
        by_cases (inl k) = inl k
        by_cases (inr (r1, x2, b2, d2, is, nine, (word, changed))) = inr (record {
          r1 = r1;
          x2 = x2;
          b2 = b2;
          d2 = d2;
          due = d;
          performs = e;
          converts = is;
          divide = nine;
          word = word;
          changes = changed;
        })

pub interruptions_keep : (m : Machine) (cause : Interruption) (after : Machine) → Steps m (Interrupt cause) after
    → (after.cc ≡ m.cc) × (after.next ≡ m.next) × (after.storage ≡ m.storage)
interruptions_keep m cause after h = go (interruptions_leave m cause after h)
  where
    kept : (other : Machine) → after ≡ other → other.cc ≡ m.cc → other.next ≡ m.next → other.storage ≡ m.storage
        → (after.cc ≡ m.cc) × (after.next ≡ m.next) × (after.storage ≡ m.storage)
    kept other e code next storage =
        (ap (λ (x : Machine). x.cc) e ∙ code, ap (λ (x : Machine). x.next) e ∙ next, ap (λ (x : Machine). x.storage) e ∙ storage)

    go : (after ≡ m) ⊎ IsConversion m cause after → (after.cc ≡ m.cc) × (after.next ≡ m.next) × (after.storage ≡ m.storage)
    go (inl e) = kept m e refl refl refl
    go (inr h) = kept _ h.changes refl refl refl
