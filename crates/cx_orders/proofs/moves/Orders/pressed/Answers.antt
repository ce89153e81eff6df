use Rattle.std.proofs.Common.{ap, arith, length}
use Rattle.std.proofs.lemmas.Option.{slice_get_within}
use Rattle.cx_orders.proofs.moves.Orders.pressed.Goals as goal

pub come_with-requires : goal.come_with-requires
come_with-requires g c =
    omega (
      arith,
      slice_get_within c.args.from.now.come c.args.asked.now.number c.args.asked.now.came c.requires.asked,
      ap length c.as_slice-2.ensures,
    )
