-- 24 lines of 80 characters.
use Rattle.std.proofs.Common.{◌≡◌, ℕ, zero, suc, List, [], ◌∷◌, length, map, replicate, refl, ◌∙◌}
use Rattle.std.specs.Prelude.{slice_set}
use Rattle.std.specs.List.{AllByRecursion}
use Rattle.std.proofs.lemmas.List.{length-map, length-set}
use Rattle.cx_ebcdic.specs.Characters.{shown_as}
use Rattle.cx_base.specs.Texts.{shown_text}
use Rattle.cx_base.specs.Pages.{IsPage, blank_page}

all_blank : (n : ℕ) → AllByRecursion (λ (line : List ℕ). length line ≡ 80) (replicate n (replicate 80 32))
all_blank zero = tt
all_blank (suc n) = (refl, all_blank n)

pub blank_is_page : IsPage blank_page
unfolding IsPage
blank_is_page = (refl, all_blank 24)

all_set : (page : List (List ℕ)) (i : ℕ) (line : List ℕ) → AllByRecursion (λ line. length line ≡ 80) page → length line ≡ 80 → AllByRecursion (λ line. length line ≡ 80) (slice_set page i line)
all_set [] i line h e = tt
all_set (l ∷ page) zero line h e = (e, h.1)
all_set (l ∷ page) (suc i) line h e = (h.0, all_set page i line h.1 e)

pub set_is_page : (page : List (List ℕ)) (i : ℕ) (line : List ℕ) → IsPage page → length line ≡ 80 → IsPage (slice_set page i line)
unfolding IsPage
set_is_page page i line h e = (length-set page i line ∙ h.0, all_set page i line h.1 e)

all_shown : (page : List (List ℕ)) → AllByRecursion (λ line. length line ≡ 80) page → AllByRecursion (λ line. length line ≡ 80) (map shown_text page)
all_shown [] h = tt
all_shown (line ∷ page) h = (length-map line shown_as ∙ h.0, all_shown page h.1)

pub shown_is_page : (page : List (List ℕ)) → IsPage page → IsPage (map shown_text page)
unfolding IsPage
shown_is_page page h = (length-map page shown_text ∙ h.0, all_shown page h.1)
