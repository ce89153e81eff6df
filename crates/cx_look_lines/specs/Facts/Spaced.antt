-- Words, each after a blank.
use Rattle.std.specs.Prelude.{◌≡◌, ℕ, List, [], ◌∷◌, ◌++◌}
use Rattle.std.proofs.Common.{refl, sym, append_assoc}
use Rattle.std.specs.Str.{byte}
use Rattle.cx_look_lines.specs.Words.{with_blanks}

pub spaced_both : (one other : List (List ℕ)) → with_blanks (one ++ other) ≡ with_blanks one ++ with_blanks other
spaced_both [] other = refl
spaced_both (word ∷ one) other = rw (spaced_both one other) (sym (append_assoc (byte " " ∷ word) (with_blanks one) (with_blanks other)))

pub spaced_first : (word : List ℕ) (words : List (List ℕ)) → with_blanks (word ∷ words) ≡ (byte " " ∷ word) ++ with_blanks words
spaced_first word words = refl
