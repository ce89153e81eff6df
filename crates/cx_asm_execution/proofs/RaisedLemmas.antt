-- Each word that loading raises is one of a constant's.
use Rattle.std.proofs.Common.{◌≡◌, ◌⊎◌, inl, inr, ◌≤◌, ℕ, ◌+◌, true, List, [], ◌∷◌, length, subst, arith}
use Rattle.std.specs.List.{AllByRecursion}
use Rattle.cx_code.specs.declared.disassembly.Line.{Line}
use Rattle.cx_asm_operands.specs.Bases.{none_in_use}
use Rattle.cx_asm_image.specs.Resolved.{AreApart, offset_after, is_code}
use Rattle.cx_asm_pass2.specs.Statements.{statements_of}
use Rattle.cx_asm_pass2.specs.Whole.{whole_of}
use Rattle.cx_asm.specs.Assembly.{section_of, standing_of}
use Rattle.cx_asm_execution.specs.Laws.Loaded.{NoCodeIsRelocated, IsUnrelocated}
use Rattle.cx_asm_execution.proofs.InStorage.{TextsAreMade}
use Rattle.cx_asm_execution.proofs.StandingLemmas.{accepted}
use Rattle.cx_asm_execution.proofs.HeldLemmas.{HasWord, HaveWords, all_held}

-- ---- lines that don't overlap a constant's
word_after : (from : ℕ) (ls : List Line) (size r : ℕ) → AreApart from ls size → HasWord r ls → from ≤ r
unfolding HasWord
word_after from [] size r apart h = absurd h
word_after from (l ∷ ls) size r apart (inl h) = (let at = h.begins in let first = apart.0 in omega (arith, at, first))
word_after from (l ∷ ls) size r apart (inr h) = (let rest = word_after (offset_after l) ls size r apart.1 h in let first = apart.0 in omega (arith, rest, first))

abbrev IsBeside : ℕ → Line → Type 0
IsBeside r l = (r + 4 ≤ l.at) ⊎ (offset_after l ≤ r)

all_after : (from : ℕ) (ls : List Line) (size r : ℕ) → AreApart from ls size → r + 4 ≤ from → AllByRecursion (λ l. is_code l.what ≡ true → IsBeside r l) ls
all_after from [] size r apart le = tt
all_after from (l ∷ ls) size r apart le =
    let first = apart.0 in ((λ code. inl (omega (arith, first, le))), all_after (offset_after l) ls size r apart.1 (omega (arith, first, le)))

one_clear : (from : ℕ) (ls : List Line) (size r : ℕ) → AreApart from ls size → HasWord r ls → AllByRecursion (λ l. is_code l.what ≡ true → IsBeside r l) ls
unfolding HasWord
one_clear from [] size r apart h = tt
one_clear from (l ∷ ls) size r apart (inl h) = (
  (λ code. (let no = h.constant in absurd (cc))),
  all_after (offset_after l) ls size r apart.1 h.ends,
)
one_clear from (l ∷ ls) size r apart (inr h) = (
  (λ code. inr (word_after (offset_after l) ls size r apart.1 h)),
  one_clear (offset_after l) ls size r apart.1 h,
)

clear_more : (r : ℕ) (relocs : List ℕ) (ls : List Line) → AllByRecursion (λ l. is_code l.what ≡ true → IsBeside r l) ls → AllByRecursion (λ l. is_code l.what ≡ true → IsUnrelocated relocs l) ls
    → AllByRecursion (λ l. is_code l.what ≡ true → IsUnrelocated (r ∷ relocs) l) ls
clear_more r relocs [] h k = tt
clear_more r relocs (l ∷ ls) h k = ((λ code. (h.0 code, k.0 code)), clear_more r relocs ls h.1 k.1)

clear_none : (ls : List Line) → AllByRecursion (λ l. is_code l.what ≡ true → IsUnrelocated [] l) ls
clear_none [] = tt
clear_none (l ∷ ls) = ((λ code. tt), clear_none ls)

all_clear : (relocs : List ℕ) (ls : List Line) (size : ℕ) → AreApart 0 ls size → HaveWords relocs ls → AllByRecursion (λ l. is_code l.what ≡ true → IsUnrelocated relocs l) ls
all_clear [] ls size apart h = clear_none ls
all_clear (r ∷ relocs) ls size apart h = clear_more r relocs ls (one_clear 0 ls size r apart h.0) (all_clear relocs ls size apart h.1)

pub no_code_raised : TextsAreMade → NoCodeIsRelocated
unfolding section_of standing_of
no_code_raised texts source assembly e =
    let made = (accepted source assembly e).made in
    let held : HaveWords assembly.section.image.relocs assembly.section.resolved =
    subst (λ k. HaveWords k.section.image.relocs k.section.resolved) made (all_held (whole_of source) (statements_of source) none_in_use (statements_of source)) in
    all_clear assembly.section.image.relocs assembly.section.resolved (length assembly.section.image.text) (texts source assembly e).apart held
