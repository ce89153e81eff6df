-- What holds of each condition, where it holds of all in the table.
use Rattle.std.proofs.Common.{◌≡◌, ◌==◌, Bool, true, Some, ◌∷◌, arith}
use Rattle.std.specs.List.{find, list_all}
use Rattle.cx_ebcdic.specs.Facts.Lookup.{find_meets}
use Rattle.cx_base.specs.Conditions.{entry_of, handled_conditions}
use Rattle.cx_base.specs.declared.conditions.Condition.{Condition}
use Rattle.cx_base.specs.declared.conditions.Condition.TheVariants.{Normal}

-- its number finds it
pub number_finds : (x : Condition) → find (λ y. (entry_of y).number == (entry_of x).number) (Normal ∷ handled_conditions) ≡ Some x
number_finds x = grind arith

-- so each passes a test that all pass
pub each_condition : (test : Condition → Bool) → list_all test (Normal ∷ handled_conditions) ≡ true → (x : Condition) → test x ≡ true
each_condition test all x = (find_meets (λ y. (entry_of y).number == (entry_of x).number) test (Normal ∷ handled_conditions) x all (number_finds x)).1
