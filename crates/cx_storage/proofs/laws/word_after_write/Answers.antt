use Rattle.cx_storage.proofs.WordLemmas.{word_after_write, halfword_after_write, word_small, halfword_small, word_number, halfword_number}
use Rattle.cx_storage.proofs.laws.word_after_write.Goals as goal

pub returns : goal.returns
returns c = record {
  word = word_after_write;
  halfword = halfword_after_write;
  fits = word_small;
  halfword_fits = halfword_small;
  word_number = word_number;
  halfword_number = halfword_number;
}
