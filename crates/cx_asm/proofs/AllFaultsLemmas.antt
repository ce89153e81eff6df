-- The faults of the second pass, one statement more.
use Rattle.std.proofs.Common.{◌≡◌, ◌<◌, ◌≤◌, ◌+◌, ℕ, Option, List, [], ◌∷◌, add-one, arith, get_or, length, reverse, take, slice_get, refl, sym, ◌∙◌, ap}
use Rattle.std.proofs.Math.Seq.{take-suc}
use Rattle.std.proofs.lemmas.List.{length-reverse, length-take-le, reverse-append}
use Rattle.cx_asm_operands.specs.Bases.{Bases}
use Rattle.cx_asm_pass1.specs.AllFaults.{with_fault}
use Rattle.cx_asm_pass1.specs.Facts.AllFaults.{first_with_fault}
use Rattle.cx_asm_pass1.specs.PassState.{first_fault_after}
use Rattle.cx_asm_pass1.specs.declared.place.LineFault.{LineFault}
use Rattle.cx_asm_pass2.specs.SecondFaults.{bases_after, bases_after_all, second_fault, second_faults_after}
use Rattle.cx_asm_pass2.specs.Statements.{PlacedStatement}
use Rattle.cx_asm_pass2.specs.Whole.{Whole}
use Rattle.cx_asm_expressions.specs.declared.faults.FaultKind.{FaultKind}

take_one : (xs : List PlacedStatement) (d : PlacedStatement) (i : ℕ) → i < length xs → reverse (take (i + 1) xs) ≡ get_or xs i d ∷ reverse (take i xs)
take_one xs d i within = rw (add-one, take-suc xs i d within) (reverse-append (take i xs) (get_or xs i d ∷ []))

so_many : (xs : List PlacedStatement) (i : ℕ) → i < length xs → length (reverse (take i xs)) ≡ i
so_many xs i within = let le : i ≤ length xs = omega (arith, within) in length-reverse (take i xs) ∙ length-take-le i xs le

pub bases_more : (whole : Whole) (xs : List PlacedStatement) (s : PlacedStatement) (i : ℕ) (bases new : Bases) → i < length xs → s ≡ get_or xs i s
    → bases ≡ bases_after_all whole (reverse (take i xs)) → new ≡ bases_after whole bases s
    → new ≡ bases_after_all whole (reverse (take (i + 1) xs))
bases_more whole xs s i bases new within is so_far e =
    e ∙ ap (λ (b : Bases). bases_after whole b s) so_far
    ∙ ap (λ (x : PlacedStatement). bases_after_all whole (x ∷ reverse (take i xs))) is
    ∙ sym (ap (λ (l : List PlacedStatement). bases_after_all whole l) (take_one xs s i within))

pub faults_more : (whole : Whole) (xs : List PlacedStatement) (s : PlacedStatement) (i : ℕ) (bases : Bases) (faults new : List LineFault) (fault : Option FaultKind)
    → i < length xs → s ≡ get_or xs i s
    → bases ≡ bases_after_all whole (reverse (take i xs)) → faults ≡ second_faults_after whole (reverse (take i xs))
    → fault ≡ second_fault whole bases i s → new ≡ with_fault s.line fault faults
    → new ≡ second_faults_after whole (reverse (take (i + 1) xs))
faults_more whole xs s i bases faults new fault within is at so_far one e =
    let before : List PlacedStatement = reverse (take i xs) in
    e ∙ ap (λ (l : List LineFault). with_fault s.line fault l) so_far
    ∙ ap (λ (f : Option FaultKind). with_fault s.line f (second_faults_after whole before))
    (one ∙ ap (λ (b : Bases). second_fault whole b i s) at ∙ ap (λ (n : ℕ). second_fault whole (bases_after_all whole before) n s) (sym (so_many xs i within)))
    ∙ ap (λ (x : PlacedStatement). second_faults_after whole (x ∷ before)) is
    ∙ sym (ap (λ (l : List PlacedStatement). second_faults_after whole l) (take_one xs s i within))

pub first_more : (whole : Whole) (xs : List PlacedStatement) (s : PlacedStatement) (i : ℕ) (bases : Bases) (first new : Option LineFault) (fault : Option FaultKind)
    → i < length xs → s ≡ get_or xs i s
    → bases ≡ bases_after_all whole (reverse (take i xs)) → first ≡ slice_get (second_faults_after whole (reverse (take i xs))) 0
    → fault ≡ second_fault whole bases i s → new ≡ first_fault_after s.line fault first
    → new ≡ slice_get (second_faults_after whole (reverse (take (i + 1) xs))) 0
first_more whole xs s i bases first new fault within is at so_far one e =
    let before = second_faults_after whole (reverse (take i xs)) in
    e ∙ ap (λ (o : Option LineFault). first_fault_after s.line fault o) so_far ∙ sym (first_with_fault s.line fault before)
    ∙ ap (λ (l : List LineFault). slice_get l 0) (faults_more whole xs s i bases before (with_fault s.line fault before) fault within is at refl one refl)
