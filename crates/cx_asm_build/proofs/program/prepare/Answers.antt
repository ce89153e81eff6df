use Rattle.std.proofs.Common.{◌≡◌, ◌∙◌, ap, arith, fold, rules, subst, Err}
use Rattle.std.proofs.lemmas.Grind.{common_steps}
use Rattle.cx_source.specs.Faults.{source_in}
use Rattle.cx_source.specs.Reader.{ReadsAs, reading_at_start, finish, take_line}
use Rattle.cx_asm_build.specs.Prepared.{prepared_of}
use Rattle.cx_asm_build.proofs.StageLemmas.{source_reported}
use Rattle.cx_asm_build.proofs.program.prepare.Goals as goal

pub returns-in-Err : goal.returns-in-Err
unfolding prepared_of
returns-in-Err c =
    let fed : c.in_ok-reader.reader ≡ fold take_line reading_at_start c.args.lines.now = first_of (search rules, grind (arith, common_steps)) in
    let whole : finish c.in_ok-reader.reader ≡ source_in c.args.lines.now = ap finish fed ∙ c.lines_one_by_one_are_the_source.ensures c.args.lines.now in
    source_reported c.args.listing c.args.disassembly (source_in c.args.lines.now) c.in-Err.fault c.from.result
    (subst (λ due. ReadsAs due (Err c.in-Err.fault)) whole c.in-Err.ensures.reads) c.from.ensures
