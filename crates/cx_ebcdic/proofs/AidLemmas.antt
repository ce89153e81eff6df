-- Each key is found by its name and by its code.
use Rattle.std.proofs.Common.{◌≡◌, ℕ, ◌==◌, ◌↔◌, Some, List, refl, sym, ◌∙◌, ap}
use Rattle.std.specs.List.{find}
use Rattle.std.specs.Str.{bytes_eq}
use Rattle.std.proofs.lemmas.Bool.{eqb-true}
use Rattle.std.proofs.lemmas.Slice.Eq.{bytes_eq-Decides}
use Rattle.cx_ebcdic.specs.Facts.Lookup.{find_passes}
use Rattle.cx_ebcdic.specs.Aids.{key_of}
use Rattle.cx_ebcdic.specs.declared.aids.Aid.{Aid}
use Rattle.cx_ebcdic.specs.declared.aids.Aid.TheVariants.{Enter, Clear, Pa1, Pa2, Pf1, Pf2, Pf3, Pf4, Pf5, Pf6, Pf7, Pf8, Pf9, Pf10, Pf11, Pf12}
use Rattle.cx_ebcdic.specs.declared.aids.TheConstants.Aid.{ALL}

code_finds : (aid : Aid) → find (λ a. (key_of a).code == (key_of aid).code) ALL ≡ Some aid
code_finds Enter = refl
code_finds Clear = refl
code_finds Pa1 = refl
code_finds Pa2 = refl
code_finds Pf1 = refl
code_finds Pf2 = refl
code_finds Pf3 = refl
code_finds Pf4 = refl
code_finds Pf5 = refl
code_finds Pf6 = refl
code_finds Pf7 = refl
code_finds Pf8 = refl
code_finds Pf9 = refl
code_finds Pf10 = refl
code_finds Pf11 = refl
code_finds Pf12 = refl

pub found_by_code : (code : ℕ) (aid : Aid) → (find (λ a. (key_of a).code == code) ALL ≡ Some aid) ↔ ((key_of aid).code ≡ code)
found_by_code code aid = (
  λ e. eqb-true _ _ (find_passes (λ a. (key_of a).code == code) ALL aid e),
  λ e. ap (λ k. find (λ a. (key_of a).code == k) ALL) (sym e) ∙ code_finds aid,
)

name_finds : (aid : Aid) → find (λ a. bytes_eq (key_of a).name (key_of aid).name) ALL ≡ Some aid
name_finds Enter = refl
name_finds Clear = refl
name_finds Pa1 = refl
name_finds Pa2 = refl
name_finds Pf1 = refl
name_finds Pf2 = refl
name_finds Pf3 = refl
name_finds Pf4 = refl
name_finds Pf5 = refl
name_finds Pf6 = refl
name_finds Pf7 = refl
name_finds Pf8 = refl
name_finds Pf9 = refl
name_finds Pf10 = refl
name_finds Pf11 = refl
name_finds Pf12 = refl

pub found_by_name : (name : List ℕ) (aid : Aid) → (find (λ a. bytes_eq (key_of a).name name) ALL ≡ Some aid) ↔ ((key_of aid).name ≡ name)
found_by_name name aid = (
  λ e. (bytes_eq-Decides (key_of aid).name name).0 (find_passes (λ a. bytes_eq (key_of a).name name) ALL aid e),
  λ e. ap (λ n. find (λ a. bytes_eq (key_of a).name n) ALL) (sym e) ∙ name_finds aid,
)
