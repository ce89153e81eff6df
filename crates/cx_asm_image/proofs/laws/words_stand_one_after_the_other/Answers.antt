use Rattle.cx_asm_image.proofs.WordLemmas.{length_words, word_at}
use Rattle.cx_asm_image.proofs.laws.words_stand_one_after_the_other.Goals as goal

pub returns-clause-count : goal.returns-clause-count
returns-clause-count c = length_words

pub returns-clause-places : goal.returns-clause-places
returns-clause-places c = word_at
