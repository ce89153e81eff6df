-- Keys that are to come.
use Rattle.std.proofs.Common.{◌≡◌, ℕ, zero, suc, Bool, true, false, cond, List, [], ◌∷◌, Some, refl, subst}
use Rattle.std.specs.Coded.{le_prop}
use Rattle.std.specs.Prelude.{slice_get}
use Rattle.std.specs.List.{AllByRecursion, AllByRecursion-prop}
use Rattle.std.proofs.lemmas.Option.{none-some, same_Some}
use Rattle.cx_ebcdic.specs.Names.{is_name}
use Rattle.cx_orders.specs.Moves.{IsFew, keys_of}
use Rattle.cx_orders.specs.declared.states.KeyLine.{KeyLine}

-- a ghost field may hold it
pub AreFew-prop : (keys : List KeyLine) → IsProp (AllByRecursion IsFew keys)
AreFew-prop keys = AllByRecursion-prop IsFew (λ _. le_prop) keys

-- what holds of all keys holds of each of a terminal
module _ (P : KeyLine → Type 0) (name : List ℕ) (key : KeyLine) where
  by_first : (is : Bool) (first : KeyLine) (keys : List KeyLine) (came : ℕ) → P first
      → ((came : ℕ) → slice_get (keys_of keys name) came ≡ Some key → P key)
      → slice_get (cond is (first ∷ keys_of keys name) (keys_of keys name)) came ≡ Some key → P key
  by_first true first keys zero is others at = subst P (same_Some first key at) is
  by_first true first keys (suc came) is others at = others came at
  by_first false first keys came is others at = others came at

  pub of_terminal : (keys : List KeyLine) (came : ℕ) → AllByRecursion P keys
      → slice_get (keys_of keys name) came ≡ Some key → P key
  of_terminal [] came all at = absurd (none-some key at)
  of_terminal (first ∷ keys) came all at =
      by_first (is_name first.name name) first keys came all.0 (λ came at. of_terminal keys came all.1 at) at

-- which is a key of it
module _ (name : List ℕ) (key : KeyLine) where
  by_name : (is : Bool) (first : KeyLine) (keys : List KeyLine) (came : ℕ) → is_name first.name name ≡ is
      → ((came : ℕ) → slice_get (keys_of keys name) came ≡ Some key → is_name key.name name ≡ true)
      → slice_get (cond is (first ∷ keys_of keys name) (keys_of keys name)) came ≡ Some key
      → is_name key.name name ≡ true
  by_name true first keys zero is others at =
      subst (λ (k : KeyLine). is_name k.name name ≡ true) (same_Some first key at) is
  by_name true first keys (suc came) is others at = others came at
  by_name false first keys came is others at = others came at

  pub is_of_terminal : (keys : List KeyLine) (came : ℕ) → slice_get (keys_of keys name) came ≡ Some key
      → is_name key.name name ≡ true
  is_of_terminal [] came at = absurd (none-some key at)
  is_of_terminal (first ∷ keys) came at =
      by_name (is_name first.name name) first keys came refl (λ came at. is_of_terminal keys came at) at
