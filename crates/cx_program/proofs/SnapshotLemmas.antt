-- Two lists are the same where they are the same the other way round.
use Rattle.std.proofs.Common.{◌≡◌, List, reverse, sym, ap, ◌∙◌}
use Rattle.std.proofs.lemmas.List.{reverse-reverse}

pub reversed_same : {X : Type 0} (xs ys : List X) → reverse xs ≡ reverse ys → xs ≡ ys
reversed_same xs ys e = sym (reverse-reverse xs) ∙ ap reverse e ∙ reverse-reverse ys
