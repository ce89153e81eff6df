-- What is added one after another to nothing.
use Rattle.std.proofs.Common.{◌≡◌, List, [], ◌++◌, ap, ◌∙◌}

pub two_added : {X : Type 0} (r s t a b : List X) → r ≡ [] → s ≡ r ++ a → t ≡ s ++ b → t ≡ a ++ b
two_added r s t a b e f g = g ∙ ap (λ x. x ++ b) (f ∙ ap (λ x. x ++ a) e)

pub four_added : {X : Type 0} (r s t u v a b c d : List X) → r ≡ [] → s ≡ r ++ a → t ≡ s ++ b → u ≡ t ++ c → v ≡ u ++ d → v ≡ a ++ b ++ c ++ d
four_added r s t u v a b c d e f g h i = i ∙ ap (λ x. x ++ d) (h ∙ ap (λ x. x ++ c) (two_added r s t a b e f g))
