use Rattle.std.proofs.Common.{◌≡◌, false, refl, true, true≢false}
use Rattle.cx_look_tasks.specs.Activities.{is_acting, is_waiting}
use Rattle.cx_look_tasks.specs.declared.activities.Activity.{Activity}
use Rattle.cx_look_tasks.specs.declared.activities.Activity.TheVariants.{Due, NoTask, Running, Waiting}
use Rattle.cx_orders.proofs.MoveLemmas as lemmas
use Rattle.cx_orders.proofs.laws.acting_turns_move.Goals as goal

acts : (activity : Activity) → (activity ≡ NoTask → ⊥) → is_waiting activity ≡ false → is_acting activity ≡ true
acts NoTask has waits = absurd (has refl)
acts Running has waits = refl
acts (Due command) has waits = refl
acts (Waiting wait) has waits = absurd (true≢false waits)

pub returns : goal.returns
returns c = λ region new name terminal activity answer there is has waits takes.
    lemmas.acting_moves c.waits_are_reported.ensures c.half_turns_stay.ensures region name terminal activity there is
    (acts activity has waits) answer new takes
