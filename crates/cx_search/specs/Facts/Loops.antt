-- A loop leads on without an end.
use Rattle.std.proofs.Common.{ℕ, zero, suc, ◌+◌, List, [], ◌∷◌, ◌++◌, subst, arith, length-append}
use Rattle.cx_search.specs.Forever.{IsLong, Loops}
use Rattle.cx_search.specs.Laws.{BoundedNeverLoop, LoopsLeadOn}
use Rattle.cx_search.specs.Moves.{Leads}

module _ {State : Type 0} (Goes : State → ℕ → State → Type 0) where
  leads_then : (from between to : State) (ms ns : List ℕ) → Leads Goes from ms between → Leads Goes between ns to
      → Leads Goes from (ms ++ ns) to
  unfolding Leads
  leads_then from between to [] ns is leads = subst (λ s. Leads Goes s ns to) is leads
  leads_then from between to (m ∷ ms) ns is leads =
      record { between = is.between; goes = is.goes; rest = leads_then is.between between to ms ns is.rest leads }

  long_from : (s : State) → Loops Goes s → (least : ℕ) → IsLong Goes s least
  unfolding Leads
  long_from s loop zero = record { moves = loop.number ∷ loop.moves; to = s; leads = loop.leads; long = omega arith }
  long_from s loop (suc least) =
      let rest = long_from s loop least in
      record {
        moves = (loop.number ∷ loop.moves) ++ rest.moves;
        to = rest.to;
        leads = leads_then s s rest.to (loop.number ∷ loop.moves) rest.moves loop.leads rest.leads;
        long = omega (arith, rest.long, length-append (loop.number ∷ loop.moves) rest.moves);
      }

  pub loop_leads_on : LoopsLeadOn Goes
  loop_leads_on from to moves leads loop least =
      let rest = long_from to loop least in
      record {
        moves = moves ++ rest.moves;
        to = rest.to;
        leads = leads_then from to rest.to moves rest.moves leads rest.leads;
        long = omega (arith, rest.long, length-append moves rest.moves);
      }

  pub bounded_never_loops : BoundedNeverLoop Goes
  bounded_never_loops from to moves bounded leads loop =
      let long = loop_leads_on from to moves leads loop (bounded.most + 1) in
      let few = bounded.bounded long.moves long.to long.leads in
      omega (arith, few, long.long)
