use Rattle.std.proofs.Common.{◌≡◌, ◌∷◌, ◌++◌, [], drop, List, ℕ}
use Rattle.std.specs.List.{flat_map}
use Rattle.cx_base.specs.declared.legal.ListedCondition.{ListedCondition}
use Rattle.cx_translate.specs.Call.{listed_of}
use Rattle.cx_translate.proofs.call.push_all_listed.Given as goal

abbrev bytes_of : ListedCondition → List ℕ
bytes_of condition = condition.number ∷ condition.label ∷ []

abbrev pub invariant-loop-word : goal.invariant-loop-word
invariant-loop-word l = l.bytes.items ++ flat_map bytes_of (listed_of (drop l.word-index l.words)) ≡ l.fn.bytes.items ++ flat_map bytes_of (listed_of l.words)
