use Rattle.cx_asm.specs.Facts.Accepted.{accepted}
use Rattle.cx_asm.proofs.AnswerLemmas.{section_stands}
use Rattle.cx_asm.proofs.laws.an_assembly_stands_apart.Goals as goal

pub returns-clause-size : goal.returns-clause-size
returns-clause-size c source made e =
    (section_stands (λ resolved size apart. (c.the_text_is_decided_by_its_bytes.ensures.is resolved size apart).long) c.made_lines_do_not_overlap.ensures source made e).size

pub returns-clause-within_section : goal.returns-clause-within_section
returns-clause-within_section c source made e = (accepted source made e).short

pub returns-clause-lines : goal.returns-clause-lines
returns-clause-lines c source made e =
    (section_stands (λ resolved size apart. (c.the_text_is_decided_by_its_bytes.ensures.is resolved size apart).long) c.made_lines_do_not_overlap.ensures source made e).lines

pub returns-clause-words : goal.returns-clause-words
returns-clause-words c source made e =
    (section_stands (λ resolved size apart. (c.the_text_is_decided_by_its_bytes.ensures.is resolved size apart).long) c.made_lines_do_not_overlap.ensures source made e).words
