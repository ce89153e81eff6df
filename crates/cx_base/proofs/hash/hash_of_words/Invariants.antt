use Rattle.std.proofs.Common.{◌≡◌, take, fold}
use Rattle.cx_base.specs.Hash.{hash_with}
use Rattle.cx_base.proofs.hash.hash_of_words.Given as goal

-- the hash of those so far
abbrev pub invariant-loop-word : goal.invariant-loop-word
invariant-loop-word l = l.all ≡ fold hash_with l.fn.hash (take l.word-index l.words)
