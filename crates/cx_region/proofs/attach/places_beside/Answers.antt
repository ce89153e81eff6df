use Rattle.std.proofs.Common.{arith}
use Rattle.cx_region_state.specs.Areas.{system_owner}
use Rattle.cx_region.specs.Attach.{with_eib_area}
use Rattle.cx_region.proofs.PlacingLemmas.{placed_below, placed_high}
use Rattle.cx_region.proofs.attach.places_beside.Goals as goal

-- the place of the copy, whoever owns the EIB
pub place_beside_both-requires-clause-other_start : goal.place_beside_both-requires-clause-other_start
place_beside_both-requires-clause-other_start g c =
    let owner = system_owner c.args.start.now.slot in
    placed_high (with_eib_area (g.S.Store.storage c.args.store.now) owner c.args.eib) c.from.result c.in_ok-place.place (c.in_ok-place.ensures owner)

pub place_beside_both-requires-clause-other_end : goal.place_beside_both-requires-clause-other_end
place_beside_both-requires-clause-other_end g c =
    let owner = system_owner c.args.start.now.slot in
    let below = placed_below (with_eib_area (g.S.Store.storage c.args.store.now) owner c.args.eib) c.from.result c.in_ok-place.place (c.in_ok-place.ensures owner) in
    omega (arith, below, c.from.ensures)
