use Rattle.std.proofs.Common.{◌≡◌, ◌++◌, drop}
use Rattle.cx_translate.specs.Call.{labels_of}
use Rattle.cx_translate.proofs.call.push_labels.Given as goal

abbrev pub invariant-loop-word : goal.invariant-loop-word
invariant-loop-word l = l.list.items ++ labels_of (drop l.word-index l.words) ≡ l.fn.list.items ++ labels_of l.words
