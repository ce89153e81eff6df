use Rattle.std.proofs.Common.{◌≡◌, ◌⊎◌, inl, inr, Result, Ok, Err, IfOk, OnErr, subst}
use Rattle.cx_script.proofs.script.run_script.Goals as goal

made_or_not : {A E : Type 0} (r : Result A E) (start : A) (P : A → Type 0) (X : Type 0) → IfOk r (λ a. a ≡ start) → IfOk r P → OnErr r X → P start ⊎ X
made_or_not (Ok a) start P X same p x = inl (subst P same p)
made_or_not (Err e) start P X same p x = inr x

pub returns-clause-ran : goal.returns-clause-ran
returns-clause-ran g c = made_or_not c.edf_performer.result _ _ _ c.edf_performer.ensures c.run_script_on.ensures.ran c.run_script_on.ensures.unmade
