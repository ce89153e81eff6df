use Rattle.cx_asm.proofs.FitLemmas.{section_fits}
use Rattle.cx_asm.proofs.assembly.found_in.Goals as goal

pub second_pass-requires : goal.second_pass-requires
second_pass-requires c =
    λ is.
    let le = c.requires.fits is in
    section_fits c.args.source.now c.args.places.now c.args.statements.now c.requires.placed c.requires.statements le
    (c.made_lines_do_not_overlap.ensures c.args.source.now c.requires.sound le)
