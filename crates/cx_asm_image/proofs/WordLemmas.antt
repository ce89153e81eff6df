-- Offsets of words one after the other.
use Rattle.std.proofs.Common.{◌≡◌, ℕ, zero, suc, ◌+◌, ◌*◌, List, [], ◌∷◌, ◌++◌, ◌<◌, length, get_or, refl, ◌∙◌, ap, arith}
use Rattle.std.proofs.lemmas.List.{append_assoc}
use Rattle.cx_asm_image.specs.Relocated.{words_at}

-- one more of them
words_more : (at k : ℕ) → words_at at (suc k) ≡ words_at at k ++ (at + 4 * k) ∷ []
words_more at zero =
    let e : at ≡ at + 4 * 0 = omega arith in
    ap (λ (n : ℕ). n ∷ []) e
words_more at (suc k) =
    let e : (at + 4) + 4 * k ≡ at + 4 * suc k = omega arith in
    ap (λ (ws : List ℕ). at ∷ ws) (words_more (at + 4) k ∙ ap (λ (n : ℕ). words_at (at + 4) k ++ n ∷ []) e)

pub word_pushed : (first relocs made : List ℕ) (at k : ℕ) → relocs ≡ first ++ words_at at k → made ≡ relocs ++ (at + 4 * k) ∷ []
    → made ≡ first ++ words_at at (k + 1)
word_pushed first relocs made at k so_far e =
    let one : k + 1 ≡ suc k = omega arith in
    rw (one, words_more at k) (e ∙ ap (λ (ws : List ℕ). ws ++ (at + 4 * k) ∷ []) so_far ∙ append_assoc first (words_at at k) ((at + 4 * k) ∷ []))

-- how many they are, and where each is
pub length_words : (at n : ℕ) → length (words_at at n) ≡ n
length_words at zero = refl
length_words at (suc n) =
    let rest = length_words (at + 4) n in
    omega arith

pub word_at : (at n k : ℕ) → k < n → get_or (words_at at n) k 0 ≡ at + 4 * k
word_at at zero k h = absurd (omega arith)
word_at at (suc n) zero h = omega arith
word_at at (suc n) (suc k) h =
    let rest = word_at (at + 4) n k (omega arith) in
    omega arith
