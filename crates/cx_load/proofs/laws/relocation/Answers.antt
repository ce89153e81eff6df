use Rattle.cx_load.proofs.RelocateLemmas.{word_relocated, byte_kept, length-relocated}
use Rattle.cx_load.proofs.laws.relocation.Goals as goal

pub returns-clause-words : goal.returns-clause-words
returns-clause-words c = word_relocated

pub returns-clause-others : goal.returns-clause-others
returns-clause-others c = byte_kept

pub returns-clause-size : goal.returns-clause-size
returns-clause-size c = length-relocated
