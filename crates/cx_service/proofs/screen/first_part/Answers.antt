use Rattle.std.proofs.Common.{sym}
use Rattle.cx_service.proofs.LineLemmas.{parts_first, parts_whole}
use Rattle.cx_service.proofs.screen.first_part.Goals as goal

pub returns-in-Some-clause-first : goal.returns-in-Some-clause-first
returns-in-Some-clause-first c =
    let found = parts_first c.args.text.now c.in-Some.end (sym c.in-Some.ensures) in
    rw (c.split_at.ensures.front, c.split_at-in-Some.ensures.back) found.1

pub returns-in-None-clause-first : goal.returns-in-None-clause-first
returns-in-None-clause-first c = parts_whole c.args.text.now (sym c.in-None.ensures)
