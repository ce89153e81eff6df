use Rattle.cx_service.specs.Lines.{parts_of}
use Rattle.cx_service.proofs.LineLemmas.{one_lines}
use Rattle.cx_service.proofs.laws.lines_are_decided.Goals as goal

pub returns : goal.returns
returns c = λ text one other p q. one_lines (parts_of text) one other p q
