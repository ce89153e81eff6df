use Rattle.std.proofs.Common.{◌+◌, ◌==◌, length, rules, ◌∙◌}
use Rattle.std.proofs.lemmas.Iterator.Consumers.{fold_from_yields_List}
use Rattle.std.proofs.lemmas.Iterator.Splits.{YieldsList-from_slice_split}
use Rattle.cx_look.specs.Parts.{few}
use Rattle.cx_look.specs.Sets.{alternative_texts}
use Rattle.cx_look.proofs.SetLemmas.{set_counted}
use Rattle.cx_look.proofs.sets.count_of_set.Goals as goal

pub returns : goal.returns
returns c =
    fold_from_yields_List _ (λ n a. few (n + few (length (alternative_texts a)))) 0 c.fold.result c.fold.ensures.ran
    (YieldsList-from_slice_split _ (λ c. c == 124) c.args.inside.now c.split.ensures.rest c.split.ensures.done
    c.split.ensures.closure (λ x b q call. search rules))
    (λ a x b q call. search rules)
    ∙ set_counted c.args.inside.now
