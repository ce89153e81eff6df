-- Levels, one after the other.
use Rattle.std.proofs.Common.{◌≡◌, ℕ, zero, suc, ◌+◌, ◌≤◌, List, [], ◌∷◌, ◌++◌, length, drop, slice_get, refl, subst, sym, ap, ◌∙◌, arith, append_assoc, append-nil}
use Rattle.cx_program.specs.declared.level.Level.{Level}
use Rattle.cx_region_state.specs.State.{SharedState}
use Rattle.cx_look_lines.specs.Words.{Lines}
use Rattle.cx_look_symbols.specs.Sources.{Sources}
use Rattle.cx_look_fields.specs.Parts.Levels.{level_at}
use Rattle.cx_look_fields.specs.Levels.{levels_text}

level_step : (sources : Sources) (shared : SharedState) (levels : List Level) (k n : ℕ)
    → level_at sources shared n (slice_get levels k) ++ levels_text sources shared (n + 1) (drop (suc k) levels) ≡ levels_text sources shared n (drop k levels)
unfolding levels_text
level_step sources shared [] zero n = refl
level_step sources shared [] (suc k) n = refl
level_step sources shared (level ∷ levels) zero n = refl
level_step sources shared (level ∷ levels) (suc k) n = level_step sources shared levels k n

pub levels_go_on : (sources : Sources) (shared : SharedState) (levels : List Level) (k : ℕ) (before after whole : Lines) → after ≡ before ++ level_at sources shared (k + 1) (slice_get levels k)
    → before ++ levels_text sources shared (k + 1) (drop k levels) ≡ whole → after ++ levels_text sources shared (k + 1 + 1) (drop (k + 1) levels) ≡ whole
levels_go_on sources shared levels k before after whole written so_far =
    let next : suc k ≡ k + 1 = omega arith in
    let P : ℕ → Type 0 = λ m. level_at sources shared (k + 1) (slice_get levels k) ++ levels_text sources shared (k + 1 + 1) (drop m levels) ≡ levels_text sources shared (k + 1) (drop k levels) in
    let step = subst P next (level_step sources shared levels k (k + 1)) in
    rw written (append_assoc before (level_at sources shared (k + 1) (slice_get levels k)) (levels_text sources shared (k + 1 + 1) (drop (k + 1) levels)) ∙ ap (λ t. before ++ t) step ∙ so_far)

levels_end : (sources : Sources) (shared : SharedState) (levels : List Level) (k n : ℕ) → length levels ≤ k → levels_text sources shared n (drop k levels) ≡ []
unfolding levels_text
levels_end sources shared [] zero n l = refl
levels_end sources shared [] (suc k) n l = refl
levels_end sources shared (level ∷ levels) zero n l = absurd (omega arith)
levels_end sources shared (level ∷ levels) (suc k) n l = levels_end sources shared levels k n (omega arith)

pub levels_done : (sources : Sources) (shared : SharedState) (levels : List Level) (k : ℕ) (before whole : Lines) → length levels ≤ k
    → before ++ levels_text sources shared (k + 1) (drop k levels) ≡ whole → before ≡ whole
levels_done sources shared levels k before whole l so_far = sym (append-nil before) ∙ ap (λ t. before ++ t) (sym (levels_end sources shared levels k (k + 1) l)) ∙ so_far
