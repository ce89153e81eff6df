use Rattle.cx_code.proofs.ReadingLemmas.{AreBytes-spelling}
use Rattle.cx_code.proofs.LawLemmas.{every_spelling, length-spelling}
use Rattle.cx_code.proofs.laws.every_spelling.Goals as goal

pub returns-clause-spells : goal.returns-clause-spells
returns-clause-spells c = every_spelling

pub returns-clause-bytes : goal.returns-clause-bytes
returns-clause-bytes c = AreBytes-spelling

pub returns-clause-length : goal.returns-clause-length
returns-clause-length c = length-spelling
