use Rattle.std.proofs.Common.{length, arith}
use Rattle.cx_load.proofs.ApartLemmas.{inside_at}
use Rattle.cx_load.proofs.program.relocate.Goals as goal

pub raise-requires : goal.raise-requires
raise-requires c =
    let fits = inside_at (length c.args.bytes.now) c.args.relocs.now c.loop-r.r-index c.requires (omega arith) in
    omega (arith, fits, c.loop-r.invariant.size)
