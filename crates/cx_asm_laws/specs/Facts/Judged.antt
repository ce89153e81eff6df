-- No statement of an accepted source has a fault of the second pass, where the bases that its USINGs make are in use.
use Rattle.std.specs.Prelude.{reverse, ⊤}
use Rattle.std.proofs.Common.{◌≡◌, ℕ, suc, Bool, true, false, cond, ◌==◌, Option, Some, None, List, [], ◌∷◌, ◌++◌, length, refl, subst, sym}
use Rattle.std.proofs.lemmas.List.{append-nil}
use Rattle.cx_source.specs.declared.source.Source.{Source}
use Rattle.cx_asm_expressions.specs.Faults.{lower_of}
use Rattle.cx_asm_expressions.specs.declared.faults.FaultKind.{FaultKind}
use Rattle.cx_asm_pass1.specs.AllFaults.{with_fault}
use Rattle.cx_asm_pass1.specs.PassState.{line_fault}
use Rattle.cx_asm_pass1.specs.declared.place.LineFault.{LineFault}
use Rattle.cx_asm_operands.specs.Bases.{Bases, none_in_use}
use Rattle.cx_asm_pass2.specs.SecondFaults.{bases_after, bases_after_all, second_fault, second_faults_after}
use Rattle.cx_asm_pass2.specs.Statements.{PlacedStatement, statements_of}
use Rattle.cx_asm_pass2.specs.Whole.{Whole, whole_of}
use Rattle.cx_asm.specs.Assembly.{second_faults_of}
use Rattle.cx_asm_laws.specs.Facts.Lines.{reverse_step}

-- statements from one on, the first with this number
unfoldable pub NoFault : Whole → Bases → ℕ → List PlacedStatement → Type 0
NoFault whole bases number [] = ⊤
NoFault whole bases number (s ∷ statements) = (second_fault whole bases number s ≡ None) × NoFault whole (bases_after whole bases s) (suc number) statements

none_with : (line : ℕ) (fault : Option FaultKind) (faults : List LineFault) → with_fault line fault faults ≡ [] → (faults ≡ []) × (fault ≡ None)
none_with line None faults e = (e, refl)
none_with line (Some kind) [] e = absurd (cc)
none_with line (Some kind) (first ∷ more) e = absurd (go (line == first.line) e)
  where
    go : (is : Bool) → cond is (line_fault first.line (lower_of first.kind kind) ∷ more) (first ∷ with_fault line (Some kind) more) ≡ [] → ⊥
    go true f = cc
    go false f = cc

judged_kept : (whole : Whole) (ss before : List PlacedStatement) → second_faults_after whole (reverse ss ++ before) ≡ []
    → (second_faults_after whole before ≡ []) × NoFault whole (bases_after_all whole before) (length before) ss
unfolding NoFault
judged_kept whole [] before e = (e, tt)
judged_kept whole (s ∷ ss) before e =
    let more = judged_kept whole ss (s ∷ before) (subst (λ k. second_faults_after whole k ≡ []) (reverse_step s ss before) e) in
    let here = none_with s.line (second_fault whole (bases_after_all whole before) (length before) s) (second_faults_after whole before) more.0 in
    (here.0, (here.1, more.1))

pub none_judged : (source : Source) → second_faults_of source ≡ [] → NoFault (whole_of source) none_in_use 0 (statements_of source)
unfolding second_faults_of
none_judged source e =
    let all = statements_of source in
    (judged_kept (whole_of source) all [] (subst (λ k. second_faults_after (whole_of source) k ≡ []) (sym (append-nil (reverse all))) e)).1
