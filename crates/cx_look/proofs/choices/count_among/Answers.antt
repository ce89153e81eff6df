use Rattle.std.proofs.Common.{◌+◌, length, rules, ◌∙◌}
use Rattle.std.proofs.lemmas.Iterator.{YieldsList-from_slice}
use Rattle.std.proofs.lemmas.Iterator.Consumers.{fold_from_yields_List}
use Rattle.cx_look.specs.Parts.{few}
use Rattle.cx_look.specs.Choices.{lines_meant}
use Rattle.cx_look.proofs.ChoiceLemmas.{among_counted}
use Rattle.cx_look.proofs.choices.count_among.Goals as goal

pub returns : goal.returns
returns c =
    fold_from_yields_List _ (λ n l. few (n + length (lines_meant l))) 0 c.fold.result c.fold.ensures.ran
    (YieldsList-from_slice c.args.lines.now cc) (λ a x b q call. search rules)
    ∙ among_counted c.args.lines.now
