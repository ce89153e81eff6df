-- A move of the graph leads to one place.
use Rattle.std.proofs.Common.{◌≡◌, ℕ, ◌<◌, ◌≤◌, inl, inr, ◌∙◌, List, Option, Some, None, sym, arith}
use Rattle.std.specs.Prelude.{slice_get, option_and_then}
use Rattle.std.proofs.lemmas.Bool.{cases_lt}
use Rattle.std.proofs.lemmas.Option.{none-some, same_Some}
use Rattle.cx_search.specs.Moves.{GoesTo}
use Rattle.test_machine.specs.declared.graph.Row.{Row}
use Rattle.test_machine.specs.Graph.{Edge, edge_of, move_of}

pub edges_lead : (rows : List Row) (from number : ℕ) (to : Option ℕ) → to ≡ edge_of rows from number → GoesTo (Edge rows) from number to
unfolding GoesTo
edges_lead rows from number None is = λ t goes. none-some t (is ∙ goes)
edges_lead rows from number (Some to) is = record { goes = sym is; only = λ other goes. same_Some other to (sym goes ∙ sym is) }

pub edges_numbered : (rows : List Row) (from to number : ℕ) → Edge rows from number to → number < 2
edges_numbered rows from to number is = by (slice_get rows from) is
  where
    past : (row : Row) (n : ℕ) → 2 ≤ n → move_of row n ≡ None
    past row n m = grind (arith, m)

    by : (row : Option Row) → option_and_then (λ r. move_of r number) row ≡ Some to → number < 2
    by None is = absurd (none-some to is)
    by (Some row) is = elim (cases_lt number 2) [ inl l ↦ l | inr m ↦ absurd (none-some to (sym (past row number m) ∙ is)) ]
