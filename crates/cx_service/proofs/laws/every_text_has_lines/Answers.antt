use Rattle.cx_service.specs.Lines.{parts_of}
use Rattle.cx_service.proofs.LineLemmas.{lines_exist}
use Rattle.cx_service.proofs.laws.every_text_has_lines.Goals as goal

pub returns : goal.returns
returns c = λ text. lines_exist (parts_of text)
