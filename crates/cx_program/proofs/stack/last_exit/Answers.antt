-- The nearest exit with one level more.
use Rattle.std.proofs.Common.{◌≡◌, ◌∙◌, ◌+◌, ◌<◌, ℕ, List, Option, Some, [], ◌∷◌, ◌++◌, get_or, length, take, true, false, ap, sym, subst, arith}
use Rattle.std.proofs.lemmas.List.{take_more, length-take-le}
use Rattle.cx_program.specs.declared.level.Level.{Level}
use Rattle.cx_program.specs.Levels.{IsNearestExit, has_exit}
use Rattle.cx_program.proofs.LevelLemmas.{nearest_exit_none, nearest_exit_on, nearest_exit_off}
use Rattle.cx_program.proofs.stack.last_exit.Goals as goal
use Rattle.cx_program.proofs.stack.last_exit.Goals.{then-is_some, else-is_some}

take-level : (levels : List Level) (i : ℕ) (level : Level) → i < length levels → level ≡ get_or levels i level → take (i + 1) levels ≡ take i levels ++ level ∷ []
take-level levels i level within read =
    take_more levels i level within ∙ ap (λ (x : Level). take i levels ++ x ∷ []) (sym read)

step_on : (levels : List Level) (i : ℕ) (level : Level) → i < length levels → level ≡ get_or levels i level → has_exit level ≡ true → IsNearestExit (take (i + 1) levels) (Some i)
step_on levels i level within read on =
    rw (take-level levels i level within read)
    (subst (λ (k : ℕ). IsNearestExit (take i levels ++ level ∷ []) (Some k)) (length-take-le i levels (omega arith))
    (nearest_exit_on (take i levels) level on))

step_off : (levels : List Level) (i : ℕ) (level : Level) (nearest : Option ℕ) → i < length levels → level ≡ get_or levels i level → has_exit level ≡ false → IsNearestExit (take i levels) nearest → IsNearestExit (take (i + 1) levels) nearest
step_off levels i level nearest within read off so_far =
    rw (take-level levels i level within read) (nearest_exit_off (take i levels) level nearest off so_far)

pub loop-i-init : goal.loop-i-init
loop-i-init c = nearest_exit_none

pub loop-i-preserved : goal.loop-i-preserved
loop-i-preserved c =
    let levels = c.args.levels.now in
    let level = c.index-levels-i.result in
    elim c.if-is_some.branch [
      | then-is_some w ↦
          let on : has_exit level ≡ true = cc in
          rw w.last-is (step_on levels c.loop-i.i level (omega arith) c.index-levels-i.is on)
      | else-is_some w ↦
          let off : has_exit level ≡ false = cc in
          rw w.last-is (step_off levels c.loop-i.i level c.loop-i.last (omega arith) c.index-levels-i.is off c.loop-i.invariant)
    ]
