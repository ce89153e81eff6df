use Rattle.cx_search.specs.Forever.{CanRest, Loops}
use Rattle.cx_search.proofs.FirstLemmas.{first_place_one}
use Rattle.cx_search.proofs.laws.first_places_decide.Goals as goal

pub returns : goal.returns
returns g c = λ space. record {
  looping = first_place_one (Loops (g.T.Space.goes space));
  restless = first_place_one (λ state. CanRest (g.T.Space.goes space) state → ⊥);
}
