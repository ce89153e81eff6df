use Rattle.std.proofs.Common.{length, arith}
use Rattle.cx_asm_laws.proofs.WordLemmas.{in_order, inside, no_length}
use Rattle.cx_asm_laws.proofs.laws.an_assembled_image_is_refused_for_little.Goals as goal

pub returns-clause-inside : goal.returns-clause-inside
returns-clause-inside c source made e = inside 0 made.section.image.relocs (length made.section.image.text) (c.an_assembly_stands_apart.ensures.words source made e)

pub returns-clause-apart : goal.returns-clause-apart
returns-clause-apart c source made e =
    c.words_in_order.ensures.apart made.section.image.relocs (in_order 0 made.section.image.relocs (length made.section.image.text) (c.an_assembly_stands_apart.ensures.words source made e))

pub returns-clause-refused : goal.returns-clause-refused
returns-clause-refused c source made fault e lowest =
    let words = c.an_assembly_stands_apart.ensures.words source made e in
    c.words_in_order.ensures.refused made.section.image fault (in_order 0 made.section.image.relocs (length made.section.image.text) words)
    (inside 0 made.section.image.relocs (length made.section.image.text) words) lowest

pub returns-clause-length : goal.returns-clause-length
returns-clause-length c source made e lowest =
    let size = c.an_assembly_stands_apart.ensures.size source made e in
    let short = c.an_assembly_stands_apart.ensures.within_section source made e in
    omega (arith, size, no_length made.section.image (omega (arith, size, short)) lowest)
