use Rattle.std.proofs.Common.{subst}
use Rattle.cx_region.specs.State.{RegionState}
use Rattle.cx_search.specs.Finds.{Finds}
use Rattle.cx_search.specs.Within.{Reaches}
use Rattle.cx_choices.specs.Moves.{Goes, begun}
use Rattle.cx_look_choices.proofs.report.searched_text.Goals as goal

pub search-requires : goal.search-requires
search-requires g c = c.requires.most

-- what a search from a snapshot of a region finds is found from the region
pub found_text-requires : goal.found_text-requires
found_text-requires g c =
    let choices = c.args.choices.now.choices.items in
    let one_number = c.args.choices.now.one_number in
    let near = c.in_ok-near.near in
    let found = near.found.states.entries in
    record {
      finds = subst (λ (r : RegionState). Finds (Goes choices one_number) (begun r) found) c.requires.same c.in_ok-near.ensures.finds;
      few = c.in_ok-near.ensures.at_most_most;
      reaches = subst
          (λ (r : RegionState). Reaches (Goes choices one_number) (begun r) found near.found.links.items c.args.most c.args.keys near.reach)
          c.requires.same c.in_ok-near.ensures.reaches;
    }
