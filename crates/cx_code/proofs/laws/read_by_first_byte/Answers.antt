use Rattle.cx_code.proofs.ReadingLemmas.{reading_from, reading_first}
use Rattle.cx_code.proofs.laws.read_by_first_byte.Goals as goal

pub returns-clause-known : goal.returns-clause-known
returns-clause-known c = λ bytes op. reading_from op bytes

pub returns-clause-only : goal.returns-clause-only
returns-clause-only c = reading_first
