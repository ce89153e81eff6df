-- What holds of every effect: it has one outcome, keeps the areas of storage, and is interrupted as it should be.
use Rattle.std.proofs.Common.{ℕ, ◌%◌, ◌==◌, ◌≡◌, ◌⊎◌, Bool, true, false, Option, Some, None, Ok, Err, refl, sym, ◌∙◌, ap, subst, inl, inr, MatchBool, MatchOption}
use Rattle.cx_storage.specs.Storage.{areas_of}
use Rattle.cx_exec.specs.declared.machine.Interruption.{Interruption}
use Rattle.cx_exec.specs.declared.machine.Interruption.TheVariants as interruption
use Rattle.cx_exec.specs.Machine.{Machine}
use Rattle.cx_exec.specs.Outcome.{Outcome, Completes, IsSuppressed}
use Rattle.cx_exec.specs.Operands.{IfPresent, IfEven}
use Rattle.cx_exec_laws.specs.Laws.Areas.{SameAreas}
use Rattle.cx_exec.specs.Laws.Numbers.{DivisionIsOne}

-- there is an outcome
abbrev pub Ends : (Outcome → Machine → Type 0) → Type 0
Ends P = (outcome : Outcome) × (after : Machine) × P outcome after

-- An interruption leaves the machine as it was, or as `aside` says; where it is operation, `unknown` holds.
pub record IsEffect (unknown : Type 0) (aside : Interruption → Machine → Type 0) (m : Machine) (P : Outcome → Machine → Type 0) : Type 0 where
  pub ends : Ends P
  pub decides : DivisionIsOne → (o p : Outcome) (a b : Machine) → P o a → P p b → (o ≡ p) × (a ≡ b)
  pub keeps : (o : Outcome) (a : Machine) → P o a → SameAreas m a
  pub left : (cause : Interruption) (a : Machine) → P (Err cause) a → (a ≡ m) ⊎ aside cause a
  pub known : (a : Machine) → P (Err interruption.Operation) a → unknown

pub goes : {unknown : Type 0} {aside : Interruption → Machine → Type 0} (m written : Machine) → SameAreas m written → IsEffect unknown aside m (λ o a. Completes o a written)
goes m written same = record {
  ends = (Ok tt, written, (refl, refl));
  decides = λ one o p a b h k. (h.0 ∙ sym k.0, h.1 ∙ sym k.1);
  keeps = λ o a h. ap (λ (x : Machine). areas_of x.storage) h.1 ∙ same;
  left = λ cause a h. let e = h.0 in cc;
  known = λ a h. let e = h.0 in cc;
}

-- an interruption that leaves a machine
pub changed : {unknown : Type 0} {aside : Interruption → Machine → Type 0} (cause : Interruption) (m written : Machine) → SameAreas m written → (cause ≡ interruption.Operation → unknown)
    → ((c : Interruption) (a : Machine) → c ≡ cause → a ≡ written → (a ≡ m) ⊎ aside c a) → IsEffect unknown aside m (λ o a. (o ≡ Err cause) × (a ≡ written))
changed cause m written same other is = record {
  ends = (Err cause, written, (refl, refl));
  decides = λ one o p a b h k. (h.0 ∙ sym k.0, h.1 ∙ sym k.1);
  keeps = λ o a h. ap (λ (x : Machine). areas_of x.storage) h.1 ∙ same;
  left = λ c a h. let e = h.0 in let alike : c ≡ cause = cc in is c a alike h.1;
  known = λ a h. let e = h.0 in let alike : cause ≡ interruption.Operation = cc in other alike;
}

pub stops : {unknown : Type 0} {aside : Interruption → Machine → Type 0} (cause : Interruption) (m : Machine) → (cause ≡ interruption.Operation → unknown) → IsEffect unknown aside m (λ o a. IsSuppressed cause m o a)
stops cause m other = changed cause m m refl other (λ c a e f. inl f)

pub when_option : {unknown : Type 0} {aside : Interruption → Machine → Type 0} {A : Type 0} (operand : Option A) (cause : Interruption) (m : Machine) (P : A → Outcome → Machine → Type 0)
    → (cause ≡ interruption.Operation → unknown) → ((x : A) → IsEffect unknown aside m (P x))
    → IsEffect unknown aside m (λ o a. MatchOption operand (IsSuppressed cause m o a) (λ x. P x o a))
when_option None cause m P other each = stops cause m other
when_option (Some x) cause m P other each = each x

pub when_present : {unknown : Type 0} {aside : Interruption → Machine → Type 0} {A : Type 0} (operand : Option A) (m : Machine) (P : A → Outcome → Machine → Type 0)
    → ((x : A) → IsEffect unknown aside m (P x)) → IsEffect unknown aside m (λ o a. IfPresent operand m o a (λ x. P x o a))
when_present operand m P each = when_option operand interruption.Addressing m P (λ e. cc) each

pub when_bool : {unknown : Type 0} {aside : Interruption → Machine → Type 0} (test : Bool) (m : Machine) (P Q : Outcome → Machine → Type 0)
    → IsEffect unknown aside m P → IsEffect unknown aside m Q → IsEffect unknown aside m (λ o a. MatchBool test (P o a) (Q o a))
when_bool true m P Q first second = first
when_bool false m P Q first second = second

pub when_even : {unknown : Type 0} {aside : Interruption → Machine → Type 0} (r : ℕ) (m : Machine) (P : Outcome → Machine → Type 0)
    → IsEffect unknown aside m P → IsEffect unknown aside m (λ o a. IfEven r m o a (P o a))
when_even r m P inner = when_bool (r % 2 == 0) m P (λ o a. IsSuppressed interruption.Specification m o a) inner (stops interruption.Specification m (λ e. cc))

-- what is found by a relation that decides it
pub for_one : {unknown : Type 0} {aside : Interruption → Machine → Type 0} {A : Type 0} (m : Machine) (P : A → Type 0) (R : A → Outcome → Machine → Type 0) → (x : A) × P x → ((x y : A) → P x → P y → x ≡ y)
    → ((x : A) → IsEffect unknown aside m (R x)) → IsEffect unknown aside m (λ o a. (x : A) × P x × R x o a)
for_one m P R found once each = record {
  ends = let end = (each found.0).ends in (end.0, end.1, (found.0, found.1, end.2));
  decides = λ one o p a b h k. (each k.0).decides one o p a b (subst (λ (x : _). R x o a) (once h.0 k.0 h.1 k.1) h.2) k.2;
  keeps = λ o a h. (each h.0).keeps o a h.2;
  left = λ cause a h. (each h.0).left cause a h.2;
  known = λ a h. (each h.0).known a h.2;
}

-- the same of weaker words for what an interruption leaves
pub weaken : {unknown other : Type 0} {aside beside : Interruption → Machine → Type 0} (m : Machine) (P : Outcome → Machine → Type 0)
    → (unknown → other) → ((cause : Interruption) (a : Machine) → aside cause a → beside cause a) → IsEffect unknown aside m P → IsEffect other beside m P
weaken {unknown} {other} {aside} {beside} m P unknowns asides inner = record {
  ends = inner.ends;
  decides = inner.decides;
  keeps = inner.keeps;
  left = λ cause a h. go cause a (inner.left cause a h);
  known = λ a h. unknowns (inner.known a h);
}
  where
    go : (cause : Interruption) (a : Machine) → (a ≡ m) ⊎ aside cause a → (a ≡ m) ⊎ beside cause a
    go cause a (inl h) = inl h
    go cause a (inr h) = inr (asides cause a h)
