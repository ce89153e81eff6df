-- One more statement after others: its fault becomes the first one where there is no other, or where it is earlier on
-- its line.
use Rattle.std.proofs.Common.{◌≡◌, ◌≤◌, ℕ, Bool, true, false, cond, ◌==◌, Option, Some, None, List, [], ◌∷◌, refl, sym, subst, inl, inr, ⊎_elim, eqb-true, arith}
use Rattle.std.specs.Prelude.{nat_le, option_map}
use Rattle.std.proofs.lemmas.Bool.{cases_Bool}
use Rattle.std.proofs.lemmas.Bool.Decides.{nat_tests}
use Rattle.cx_asm_expressions.specs.Faults.{lower, fault_row}
use Rattle.cx_asm_expressions.specs.Laws.FaultLaws.{IsNotBelow}
use Rattle.cx_asm_expressions.specs.declared.faults.FaultKind.{FaultKind}
use Rattle.cx_asm_pass1.specs.PassState.{first_fault_after, line_fault}
use Rattle.cx_asm_pass1.specs.Laws.FirstFaults.{AreSound, Fault, HasNoLower, IsFirst, IsFirstOf}
use Rattle.cx_asm_pass1.specs.declared.place.LineFault.{LineFault}

sound_has_no_lower : (line : ℕ) (kind : FaultKind) (faults : List Fault) → AreSound faults → HasNoLower line kind faults
sound_has_no_lower line kind [] h = tt
sound_has_no_lower line kind (f ∷ fs) h = ((λ _. subst (IsNotBelow kind) (sym h.0) tt), sound_has_no_lower line kind fs h.1)

weaker : (a b : FaultKind) (o : Option FaultKind) → (fault_row a).0 ≤ (fault_row b).0 → IsNotBelow b o → IsNotBelow a o
weaker a b None le h = tt
weaker a b (Some other) le h = omega arith

all_weaker : (line : ℕ) (a b : FaultKind) (faults : List Fault) → (fault_row a).0 ≤ (fault_row b).0 → HasNoLower line b faults → HasNoLower line a faults
all_weaker line a b [] le h = tt
all_weaker line a b (f ∷ fs) le h = ((λ e. weaker a b f.1 le (h.0 e)), all_weaker line a b fs le h.1)

-- the first fault of all
new_fault : (line : ℕ) (kind : FaultKind) (before : List Fault) → AreSound before → IsFirst ((line, Some kind) ∷ before) (line_fault line kind)
new_fault line kind before h =
    record { begins = inr (h, refl, refl); has = inl (refl, refl); lowest = ((λ _. omega arith), sound_has_no_lower line kind before h) }

-- a fault on a different line changes nothing
other_line : (f : Fault) (before : List Fault) (first : LineFault) → (f.0 ≡ first.line → ⊥) → IsFirst before first → IsFirst (f ∷ before) first
other_line f before first apart h =
    record { begins = inl h.begins; has = inr h.has; lowest = ((λ e. absurd (apart e)), h.lowest) }

same_line_step : (f : Fault) (before : List Fault) (first : LineFault) (other : FaultKind) (test : Bool)
    → f.0 ≡ first.line → f.1 ≡ Some other → (test ≡ true → (fault_row first.kind).0 ≤ (fault_row other).0) → (test ≡ false → (fault_row other).0 ≤ (fault_row first.kind).0)
    → IsFirst before first → IsFirst (f ∷ before) (line_fault first.line (cond test first.kind other))
same_line_step f before first other true on is le gt h =
    record { begins = inl h.begins; has = inr h.has; lowest = ((λ _. subst (IsNotBelow first.kind) (sym is) (le refl)), h.lowest) }
same_line_step f before first other false on is le gt h =
    record {
      begins = inl h.begins;
      has = inl (on, is);
      lowest = ((λ _. subst (IsNotBelow other) (sym is) (omega arith)), all_weaker first.line other first.kind before (gt refl) h.lowest);
    }

le_true : (a b : FaultKind) → nat_le (fault_row a).0 (fault_row b).0 ≡ true → (fault_row a).0 ≤ (fault_row b).0
le_true a b e = grind (arith, nat_tests)

le_false : (a b : FaultKind) → nat_le (fault_row a).0 (fault_row b).0 ≡ false → (fault_row b).0 ≤ (fault_row a).0
le_false a b e = grind (arith, nat_tests)

same_line : (line : ℕ) (fault : Option FaultKind) (before : List Fault) (first : LineFault) → line ≡ first.line → IsFirst before first
    → IsFirstOf ((line, fault) ∷ before) (option_map (line_fault first.line) (lower (Some first.kind) fault))
same_line line None before first on h = record { begins = inl h.begins; has = inr h.has; lowest = ((λ _. tt), h.lowest) }
same_line line (Some other) before first on h =
    same_line_step (line, Some other) before first other (nat_le (fault_row first.kind).0 (fault_row other).0) on refl (le_true first.kind other) (le_false first.kind other) h

different : (a b : ℕ) → (a == b) ≡ false → a ≡ b → ⊥
different a b e h = grind (arith, nat_tests)

pub one_more : (line : ℕ) (fault : Option FaultKind) (before : List Fault) (first : Option LineFault) → IsFirstOf before first → IsFirstOf ((line, fault) ∷ before) (first_fault_after line fault first)
one_more line None before None h = (refl, h)
one_more line (Some kind) before None h = new_fault line kind before h
one_more line fault before (Some first) h = ⊎_elim
    (λ yes. rw yes (same_line line fault before first (eqb-true line first.line yes) h))
    (λ no. rw no (other_line (line, fault) before first (different line first.line no) h))
    (cases_Bool (line == first.line))
