use Rattle.std.proofs.Common.{◌*◌, ◌==◌, length, rules, ◌∙◌}
use Rattle.std.proofs.lemmas.Iterator.Consumers.{fold_from_yields_List}
use Rattle.std.proofs.lemmas.Iterator.Splits.{YieldsList-from_slice_split}
use Rattle.cx_look.specs.Parts.{few}
use Rattle.cx_look.specs.Sets.{piece_texts}
use Rattle.cx_look.proofs.SetLemmas.{behind_counted}
use Rattle.cx_look.proofs.sets.count_behind.Goals as goal

pub returns : goal.returns
returns c =
    fold_from_yields_List _ (λ n p. few (n * few (length (piece_texts p)))) 1 c.fold.result c.fold.ensures.ran
    (YieldsList-from_slice_split _ (λ c. c == 123) c.args.text.now c.split.ensures.rest c.split.ensures.done
    c.split.ensures.closure (λ x b q call. search rules))
    (λ a x b q call. search rules)
    ∙ behind_counted c.args.text.now
