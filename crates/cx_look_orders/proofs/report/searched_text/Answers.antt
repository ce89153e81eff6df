use Rattle.std.proofs.Common.{subst}
use Rattle.std.specs.Prelude.{MatchOption}
use Rattle.cx_region.specs.State.{RegionState}
use Rattle.cx_search.specs.Finds.{Finds, FindsNearest, IsWhole}
use Rattle.cx_orders.specs.Moves.{Moves, begun}
use Rattle.cx_look_orders.proofs.report.searched_text.Goals as goal

pub search-requires : goal.search-requires
search-requires g c = c.requires.most

-- what a search from a snapshot of a region finds is found from the region
pub found_text-requires : goal.found_text-requires
found_text-requires g c =
    let keys = c.args.orders.now.keys in
    let found = c.in_ok-end.end.found in
    record {
      finds = subst (λ (r : RegionState). Finds (Moves keys) (begun r) found.states.entries) c.requires.same c.in_ok-end.ensures.finds;
      reaches = subst
          (λ (r : RegionState). MatchOption c.in_ok-end.end.cut
          (IsWhole (Moves keys) (begun r) found.states.entries found.links.items)
          (λ moves. FindsNearest (Moves keys) (begun r) found.states.entries c.args.most moves)) c.requires.same c.in_ok-end.ensures.reaches;
      few = c.in_ok-end.ensures.at_most_most;
    }
