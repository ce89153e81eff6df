-- The levels that have called another, one after the other.
use Rattle.std.proofs.Common.{◌≡◌, ℕ, zero, suc, ◌+◌, ◌≤◌, List, [], ◌∷◌, ◌++◌, length, map, reverse, slice_get, take, refl, ap, ◌∙◌, arith}
use Rattle.std.proofs.lemmas.List.{length-reverse}
use Rattle.std.proofs.Math.Seq.{take-append_seam}
use Rattle.cx_program.specs.Levels.{Levels, all_levels}
use Rattle.cx_program.specs.declared.level.Level.{Level}
use Rattle.cx_look_abend.specs.Abends.{caller_of}
use Rattle.cx_look_abend.specs.Parts.Callers.{caller_at}
use Rattle.cx_look_abend.specs.declared.abends.Caller.{Caller}

-- the first n levels and the one after them are the first n + 1
one_more : (levels : List Level) (n : ℕ) → map caller_of (take n levels) ++ caller_at (slice_get levels n) ≡ map caller_of (take (suc n) levels)
one_more [] zero = refl
one_more [] (suc n) = refl
one_more (level ∷ levels) zero = refl
one_more (level ∷ levels) (suc n) = ap (λ l. caller_of level ∷ l) (one_more levels n)

pub callers_go_on : (levels : List Level) (n : ℕ) (before after : List Caller) → after ≡ before ++ caller_at (slice_get levels n)
    → before ≡ map caller_of (take n levels) → after ≡ map caller_of (take (n + 1) levels)
callers_go_on levels n before after added so_far =
    let next : suc n ≡ n + 1 = omega arith in
    added ∙ ap (λ l. l ++ caller_at (slice_get levels n)) so_far ∙ one_more levels n ∙ ap (λ k. map caller_of (take k levels)) next

-- all but the last are those that have called it
pub callers_done : (levels : Levels) (callers : List Caller) (n : ℕ) → n ≤ length levels.callers → length levels.callers ≤ n
    → callers ≡ map caller_of (take n (all_levels levels)) → callers ≡ map caller_of (reverse levels.callers)
callers_done levels callers n low high so_far =
    let end : n ≡ length (reverse levels.callers) = omega (arith, low, high, length-reverse levels.callers) in
    let same : take n (all_levels levels) ≡ reverse levels.callers =
    ap (λ k. take k (all_levels levels)) end ∙ take-append_seam (reverse levels.callers) (levels.current ∷ []) in
    so_far ∙ ap (λ l. map caller_of l) same
