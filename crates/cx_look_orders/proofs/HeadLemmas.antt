-- The first line says when keys may come, where there are some.
use Rattle.std.proofs.Common.{◌≡◌, [], ◌∷◌, length, true, false, ap}
use Rattle.std.specs.Prelude.{◌==◌, if◌then◌else◌}
use Rattle.cx_orders.specs.declared.states.Keys.{Keys}
use Rattle.cx_look_orders.specs.Report.{keys_words, when_words}

pub unsaid : (keys : Keys) → (length keys.lines == 0) ≡ true → keys_words keys ≡ []
unsaid keys none = ap (λ b. if b then [] else (when_words keys.typed_ahead ∷ [])) none

pub said : (keys : Keys) → (length keys.lines == 0) ≡ false → keys_words keys ≡ when_words keys.typed_ahead ∷ []
said keys some = ap (λ b. if b then [] else (when_words keys.typed_ahead ∷ [])) some
