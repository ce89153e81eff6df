-- What EDF does with each event, said once for all that follows from it.
use Rattle.std.proofs.Common.{◌≡◌, ℕ, Bool, true, false, List, Some, None, refl, is_some}
use Rattle.std.specs.Prelude.{◌&&◌, if◌then◌else◌, not}
use Rattle.cx_region.specs.Tables.{task_of, terminal_of}
use Rattle.cx_region.specs.declared.changes.Change.TheVariants as change
use Rattle.cx_region.specs.declared.replies.Event.{Event}
use Rattle.cx_region.specs.declared.replies.Event.TheVariants as event
use Rattle.cx_edf.specs.declared.answers.EdfEvent.{EdfEvent}
use Rattle.cx_edf.specs.declared.answers.EdfEvent.TheVariants as edf_event
use Rattle.cx_edf.specs.declared.answers.EdfReply.TheVariants as edf
use Rattle.cx_edf.specs.declared.answers.Answer.{Answer}
use Rattle.cx_edf.specs.declared.answers.Answer.TheVariants as answer
use Rattle.cx_edf.specs.Sessions.{after_key, fresh_session, with_session}
use Rattle.cx_edf.specs.State.{EdfState, ends_by_key, holds, session_at, stopped_at}
use Rattle.cx_edf.specs.Erasure.{is_own}
use Rattle.cx_edf.specs.Steps.{Door, Keeps, Passes, with_session_changed, door_of}
use Rattle.cx_edf.specs.Laws.Edf.{event_ends_task, is_edfs}
use Rattle.cx_edf.proofs.EndLemmas.{ends_live, ends_stopped}

-- the alteration that ends the task of a terminal
pub record IsEnd (old : EdfState) (x : Event) (own : Answer) : Type 0 where
  pub name : List ℕ
  pub abend : x ≡ event.Alter name change.Abend
  pub live : is_some (task_of old.region name) ≡ true
  pub own_answer : own ≡ answer.ToEdf

-- what holds of what EDF does with an event
unfoldable pub Fits : EdfState → EdfEvent → Door → Type 0
Fits old e (Keeps own sessions) = (is_edfs own ≡ true) × (event_ends_task old e ≡ false)
Fits old e (Passes x None) = (e ≡ edf_event.Plain x) × (event_ends_task old e ≡ false)
Fits old e (Passes x (Some own)) = (event_ends_task old e ≡ true) × IsEnd old x own

-- EDF answers itself what it keeps, and PF12 that ends a task
unfoldable pub answers_itself : Door → Bool
answers_itself (Keeps own sessions) = true
answers_itself (Passes x own) = is_some own

-- by one test, and by two
pub by_test : (P : Door → Type 0) (b : Bool) (x y : Door) → (b ≡ true → P x) → (b ≡ false → P y) → P (if b then x else y)
by_test P true x y f g = f refl
by_test P false x y f g = g refl

pub by_tests : (P : Door → Type 0) (b c : Bool) (x y z : Door) → (b ≡ true → P x) → (b ≡ false → c ≡ true → P y) → (b ≡ false → c ≡ false → P z) → P (if b then x else if c then y else z)
by_tests P true c x y z f g h = f refl
by_tests P false true x y z f g h = g refl refl
by_tests P false false x y z f g h = h refl refl

pub fits : (old : EdfState) (e : EdfEvent) → Fits old e (door_of old e)
unfolding door_of Fits
fits old (edf_event.On name) =
    by_tests (Fits old (edf_event.On name)) (not (is_some (terminal_of old.region name))) (is_some (session_at old name))
    (Keeps (answer.Edf edf.NoSuchTerminal) old.sessions) (Keeps (answer.Edf edf.AlreadyOn) old.sessions) (Keeps (answer.Edf edf.Started) (with_session old.sessions name (Some fresh_session)))
    (λ _. (refl, refl)) (λ _ _. (refl, refl)) (λ _ _. (refl, refl))
fits old (edf_event.Off name) =
    by_tests (Fits old (edf_event.Off name)) (not (is_some (terminal_of old.region name))) (is_some (session_at old name))
    (Keeps (answer.Edf edf.NoSuchTerminal) old.sessions) (Keeps (answer.Edf edf.Closed) (with_session old.sessions name None)) (Keeps (answer.Edf edf.NotOn) old.sessions)
    (λ _. (refl, refl)) (λ _ _. (refl, refl)) (λ _ _. (refl, refl))
fits old (edf_event.Plain (event.Key name aid bytes)) =
    by_tests (Fits old (edf_event.Plain (event.Key name aid bytes))) (ends_by_key old name aid) (stopped_at old name)
    (Passes (event.Alter name change.Abend) (Some answer.ToEdf)) (Keeps answer.ToEdf (with_session_changed old.sessions name (λ session. after_key session aid bytes))) (Passes (event.Key name aid bytes) None)
    (λ ends. (ends, record { name = name; abend = refl; live = ends_live old name aid ends; own_answer = refl })) (λ ends _. (refl, ends)) (λ ends _. (refl, ends))
fits old (edf_event.Plain (event.Turn name)) =
    by_test (Fits old (edf_event.Plain (event.Turn name))) (holds old name) (Keeps answer.Held old.sessions) (Passes (event.Turn name) None) (λ _. (refl, refl)) (λ _. (refl, refl))
fits old (edf_event.Plain (event.Alter name c)) =
    by_test (Fits old (edf_event.Plain (event.Alter name c))) (is_some (terminal_of old.region name) && not (stopped_at old name)) (Keeps answer.NotStopped old.sessions) (Passes (event.Alter name c) None) (λ _. (refl, refl)) (λ _. (refl, refl))
fits old (edf_event.Plain (event.Program name image)) = (refl, refl)
fits old (edf_event.Plain (event.Transaction tran program)) = (refl, refl)
fits old (edf_event.Plain (event.Terminal name)) = (refl, refl)
fits old (edf_event.Plain (event.Clock time date)) = (refl, refl)

-- its own events are those that it answers itself
pub own_at_door : (old : EdfState) (e : EdfEvent) → is_own old e ≡ answers_itself (door_of old e)
unfolding is_own door_of answers_itself
own_at_door old (edf_event.On name) =
    by_tests (λ door. true ≡ answers_itself door) (not (is_some (terminal_of old.region name))) (is_some (session_at old name))
    (Keeps (answer.Edf edf.NoSuchTerminal) old.sessions) (Keeps (answer.Edf edf.AlreadyOn) old.sessions) (Keeps (answer.Edf edf.Started) (with_session old.sessions name (Some fresh_session)))
    (λ _. refl) (λ _ _. refl) (λ _ _. refl)
own_at_door old (edf_event.Off name) =
    by_tests (λ door. true ≡ answers_itself door) (not (is_some (terminal_of old.region name))) (is_some (session_at old name))
    (Keeps (answer.Edf edf.NoSuchTerminal) old.sessions) (Keeps (answer.Edf edf.Closed) (with_session old.sessions name None)) (Keeps (answer.Edf edf.NotOn) old.sessions)
    (λ _. refl) (λ _ _. refl) (λ _ _. refl)
own_at_door old (edf_event.Plain (event.Key name aid bytes)) =
    by_tests (λ door. stopped_at old name ≡ answers_itself door) (ends_by_key old name aid) (stopped_at old name)
    (Passes (event.Alter name change.Abend) (Some answer.ToEdf)) (Keeps answer.ToEdf (with_session_changed old.sessions name (λ session. after_key session aid bytes))) (Passes (event.Key name aid bytes) None)
    (λ ends. ends_stopped old name aid ends) (λ _ stopped. stopped) (λ _ stopped. stopped)
own_at_door old (edf_event.Plain (event.Turn name)) =
    by_test (λ door. holds old name ≡ answers_itself door) (holds old name) (Keeps answer.Held old.sessions) (Passes (event.Turn name) None) (λ held. held) (λ held. held)
own_at_door old (edf_event.Plain (event.Alter name c)) =
    by_test (λ door. is_some (terminal_of old.region name) && not (stopped_at old name) ≡ answers_itself door) (is_some (terminal_of old.region name) && not (stopped_at old name))
    (Keeps answer.NotStopped old.sessions) (Passes (event.Alter name c) None) (λ own. own) (λ own. own)
own_at_door old (edf_event.Plain (event.Program name image)) = refl
own_at_door old (edf_event.Plain (event.Transaction tran program)) = refl
own_at_door old (edf_event.Plain (event.Terminal name)) = refl
own_at_door old (edf_event.Plain (event.Clock time date)) = refl
