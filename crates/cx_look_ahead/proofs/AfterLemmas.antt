-- AHEAD AFTER: there is one text; and the levels that have called another.
use Rattle.std.proofs.Common.{◌≡◌, ℕ, zero, suc, ◌+◌, ◌≤◌, Option, List, [], ◌∷◌, ◌++◌, length, reverse, slice_get, take, refl, ap, sym, ◌∙◌, arith, append_assoc, append-nil}
use Rattle.std.proofs.lemmas.List.{length-reverse}
use Rattle.std.proofs.Math.Seq.{take-append_seam}
use Rattle.std.specs.Prelude.{codes}
use Rattle.std.specs.Option.{option_map_or}
use Rattle.cx_exec.specs.Machine.{Machine}
use Rattle.cx_load.specs.declared.program.Loaded.{Loaded}
use Rattle.cx_program.specs.Levels.{Levels, all_levels}
use Rattle.cx_program.specs.declared.level.Level.{Level}
use Rattle.cx_storage.specs.Storage.{Storage}
use Rattle.cx_look_symbols.specs.Sources.{Sources}
use Rattle.cx_look_fields.specs.Fields.{calling}
use Rattle.cx_look_lines.specs.Words.{Lines}
use Rattle.cx_look_turn.specs.Laws.{MachinesAfterDecide}
use Rattle.cx_look_turn.specs.NextTurn.{machine_ahead}
use Rattle.cx_look_ahead.specs.After.{after_line, caller_fields, level_fields, reached_line}
use Rattle.cx_look_ahead.specs.Parts.Callers.{caller_at}
use Rattle.cx_look_ahead.specs.Laws.Afters.{AfterDecides}

pub after_decides : MachinesAfterDecide → AfterDecides
after_decides decide region name what n then_lines one other p q =
    let same = decide (machine_ahead region name) n p.there q.there p.reached q.reached in
    p.is
    ∙ ap (λ (it : Option Machine). option_map_or (λ m. reached_line name what n m ++ then_lines m) it (after_line name what n (codes "NONE"))) same
    ∙ sym q.is

-- ---- the levels that have called another, one after the other
-- the first n and the one after them are the first n + 1
one_more : (sources : Sources) (programs : List (List ℕ × Loaded)) (s : Storage) (name : List ℕ) (levels : List Level) (n k : ℕ)
    → caller_fields sources programs s name k (take n levels) ++ caller_at sources programs s name (k + n) (slice_get levels n)
    ≡ caller_fields sources programs s name k (take (suc n) levels)
unfolding caller_fields
one_more sources programs s name [] zero k = refl
one_more sources programs s name [] (suc n) k = refl
one_more sources programs s name (level ∷ levels) zero k =
    let none : k + zero ≡ k = omega arith in
    ap (λ j. level_fields sources s name j (calling programs level)) none ∙ sym (append-nil (level_fields sources s name k (calling programs level)))
one_more sources programs s name (level ∷ levels) (suc n) k =
    let next : k + suc n ≡ k + 1 + n = omega arith in
    let first = level_fields sources s name k (calling programs level) in
    let more = caller_fields sources programs s name (k + 1) (take n levels) in
    ap (λ j. (first ++ more) ++ caller_at sources programs s name j (slice_get levels n)) next
    ∙ append_assoc first more (caller_at sources programs s name (k + 1 + n) (slice_get levels n))
    ∙ ap (λ l. first ++ l) (one_more sources programs s name levels n (k + 1))

pub callers_go_on : (sources : Sources) (programs : List (List ℕ × Loaded)) (s : Storage) (name : List ℕ) (levels : List Level) (n : ℕ)
    (whole before after : Lines) → after ≡ before ++ caller_at sources programs s name (n + 1) (slice_get levels n)
    → before ≡ whole ++ caller_fields sources programs s name 1 (take n levels)
    → after ≡ whole ++ caller_fields sources programs s name 1 (take (n + 1) levels)
callers_go_on sources programs s name levels n whole before after added so_far =
    let next : suc n ≡ n + 1 = omega arith in
    let number : n + 1 ≡ 1 + n = omega arith in
    let now = caller_at sources programs s name (n + 1) (slice_get levels n) in
    let firsts = caller_fields sources programs s name 1 (take n levels) in
    added ∙ ap (λ l. l ++ now) so_far ∙ append_assoc whole firsts now
    ∙ ap (λ l. whole ++ l)
    (ap (λ j. firsts ++ caller_at sources programs s name j (slice_get levels n)) number ∙ one_more sources programs s name levels n 1
    ∙ ap (λ j. caller_fields sources programs s name 1 (take j levels)) next)

-- all but the last are those that have called another
pub callers_done : (sources : Sources) (programs : List (List ℕ × Loaded)) (s : Storage) (name : List ℕ) (levels : Levels) (n : ℕ)
    (whole after : Lines) → n ≤ length levels.callers → length levels.callers ≤ n
    → after ≡ whole ++ caller_fields sources programs s name 1 (take n (all_levels levels))
    → after ≡ whole ++ caller_fields sources programs s name 1 (reverse levels.callers)
callers_done sources programs s name levels n whole after low high so_far =
    let end : n ≡ length (reverse levels.callers) = omega (arith, low, high, length-reverse levels.callers) in
    let same : take n (all_levels levels) ≡ reverse levels.callers =
    ap (λ k. take k (all_levels levels)) end ∙ take-append_seam (reverse levels.callers) (levels.current ∷ []) in
    so_far ∙ ap (λ l. whole ++ caller_fields sources programs s name 1 l) same
