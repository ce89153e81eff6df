-- A key that ends a task.
use Rattle.std.proofs.Common.{◌≡◌, ℕ, true, List, Some, refl, subst, sym, ◌∙◌, ap, is_some}
use Rattle.std.proofs.lemmas.Bool.{and_parts, true≢false}
use Rattle.cx_ebcdic.specs.declared.aids.Aid.{Aid}
use Rattle.cx_ebcdic.specs.declared.aids.Aid.TheVariants as aid
use Rattle.cx_region.specs.declared.changes.AlterReply.{AlterReply}
use Rattle.cx_region.specs.declared.changes.AlterReply.TheVariants as alter
use Rattle.cx_region.specs.declared.changes.Change.TheVariants as change
use Rattle.cx_region.specs.declared.replies.Event.TheVariants as event
use Rattle.cx_region.specs.declared.replies.Reply.{Reply}
use Rattle.cx_region.specs.declared.replies.Reply.TheVariants as reply
use Rattle.cx_region.specs.State.{RegionState}
use Rattle.cx_region.specs.Tables.{task_of}
use Rattle.cx_region.specs.Alter.{Alters}
use Rattle.cx_region.specs.Events.{Applies}
use Rattle.cx_region_laws.specs.Facts.Alterations.{abends_are_done, alter_reply}
use Rattle.cx_edf.specs.declared.answers.Answer.TheVariants as answer
use Rattle.cx_edf.specs.State.{EdfState, ends_by_key, holds, stopped_at}
use Rattle.cx_edf.specs.Steps.{DisplayMaker, PassesOn, sessions_after}

-- it is met in Stopped with a live task
ends_held : (old : EdfState) (name : List ℕ) (a : Aid) → ends_by_key old name a ≡ true → holds old name ≡ true
ends_held old name aid.Pf12 ends = ends
ends_held old name _ ends = absurd (true≢false (sym ends))

pub ends_stopped : (old : EdfState) (name : List ℕ) (a : Aid) → ends_by_key old name a ≡ true → stopped_at old name ≡ true
ends_stopped old name a ends = (and_parts (stopped_at old name) (is_some (task_of old.region name)) (ends_held old name a ends)).0

pub ends_live : (old : EdfState) (name : List ℕ) (a : Aid) → ends_by_key old name a ≡ true → is_some (task_of old.region name) ≡ true
ends_live old name a ends = (and_parts (stopped_at old name) (is_some (task_of old.region name)) (ends_held old name a ends)).1

-- and its alteration is done
pub ended_reply : (old : RegionState) (name : List ℕ) (r : Reply) (new : RegionState) → is_some (task_of old name) ≡ true → Applies old (event.Alter name change.Abend) r new
    → r ≡ reply.Alter alter.Altered
ended_reply old name r new live applies =
    let altered = alter_reply old name change.Abend r new applies in
    altered.1 ∙ ap (λ x. reply.Alter x) (abends_are_done old name altered.0 new altered.2 live)

-- so the event is passed
pub ended_passed : (make : DisplayMaker) (old v new : EdfState) (name : List ℕ) (given : AlterReply) → old ≡ v → Alters old.region name change.Abend given new.region
    → new.sessions ≡ sessions_after old.sessions (event.Alter name change.Abend) (reply.Alter given) (make new.region)
    → PassesOn make v (event.Alter name change.Abend) (Some answer.ToEdf) answer.ToEdf new
unfolding Applies
ended_passed make old v new name given same alters table =
    subst (λ (s : EdfState). PassesOn make s (event.Alter name change.Abend) (Some answer.ToEdf) answer.ToEdf new) same
    (record { reply = reply.Alter given; applies = alters; table = table; answers = refl })
