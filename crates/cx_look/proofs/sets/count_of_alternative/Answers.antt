use Rattle.std.proofs.Common.{◌*◌, length, rules, ◌∙◌}
use Rattle.std.proofs.lemmas.Iterator.{YieldsList-from_slice}
use Rattle.std.proofs.lemmas.Iterator.Consumers.{fold_from_yields_List}
use Rattle.cx_look.specs.Parts.{few}
use Rattle.cx_look.specs.Sets.{character_texts}
use Rattle.cx_look.proofs.SetLemmas.{alternative_counted}
use Rattle.cx_look.proofs.sets.count_of_alternative.Goals as goal

pub returns : goal.returns
returns c =
    fold_from_yields_List _ (λ n c. few (n * length (character_texts c))) 1 c.fold.result c.fold.ensures.ran
    (YieldsList-from_slice c.args.text.now cc) (λ a x b q call. search rules)
    ∙ alternative_counted c.args.text.now
