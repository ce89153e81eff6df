-- What an alteration is answered, and what a refusal leaves.
use Rattle.std.proofs.Common.{◌≡◌, ℕ, true, Option, Some, None, List, refl, sym, ◌∙◌, is_some}
use Rattle.std.specs.Prelude.{MatchOption}
use Rattle.std.specs.Option.{option_and_then, option_map_or}
use Rattle.std.proofs.lemmas.Bool.{true≢false}
use Rattle.cx_region_state.specs.State.{TaskState}
use Rattle.cx_region.specs.declared.changes.AlterReply.{AlterReply}
use Rattle.cx_region.specs.declared.changes.AlterReply.TheVariants as alter
use Rattle.cx_region.specs.declared.changes.Change.{Change}
use Rattle.cx_region.specs.declared.changes.Change.TheVariants.{Abend}
use Rattle.cx_region.specs.declared.replies.Event.TheVariants as event
use Rattle.cx_region.specs.declared.replies.Reply.{Reply}
use Rattle.cx_region.specs.declared.replies.Reply.TheVariants as reply
use Rattle.cx_region.specs.State.{RegionState, TerminalState}
use Rattle.cx_region.specs.Tables.{terminal_of}
use Rattle.cx_region.specs.Turn.{context_of}
use Rattle.cx_region.specs.Alter.{Alters, alter_refusal, altered_region, change_refusal}
use Rattle.cx_region.specs.Events.{Applies}
use Rattle.cx_region_laws.specs.Laws.Alterations.{AbendsOfTasksAreDone, AlterationsDecide, RefusedAlterationsLeaveTheRegion}

-- the reply of the event is an alteration's
pub alter_reply : (old : RegionState) (name : List ℕ) (change : Change) (r : Reply) (new : RegionState) → Applies old (event.Alter name change) r new
    → (answer : AlterReply) × (r ≡ reply.Alter answer) × Alters old name change answer new
unfolding Applies
alter_reply old name change (reply.Alter answer) new h = (answer, refl, h)
alter_reply old name change _ new h = absurd h

-- ---- one outcome
pub alterations_decide : AlterationsDecide
unfolding Alters
alterations_decide old name change reply other new later h k = by_refusal (alter_refusal old name change) h k
  where
    by_refusal : (o : Option AlterReply) → MatchOption o ((reply ≡ alter.Altered) × (new ≡ altered_region old name change)) (λ refusal. (reply ≡ refusal) × (new ≡ old))
        → MatchOption o ((other ≡ alter.Altered) × (later ≡ altered_region old name change)) (λ refusal. (other ≡ refusal) × (later ≡ old)) → (reply ≡ other) × (new ≡ later)
    by_refusal None one two = (one.0 ∙ sym two.0, one.1 ∙ sym two.1)
    by_refusal (Some refusal) one two = (one.0 ∙ sym two.0, one.1 ∙ sym two.1)

pub refused_alterations_leave : RefusedAlterationsLeaveTheRegion
unfolding Alters
refused_alterations_leave old name change reply new h refused = by_refusal (alter_refusal old name change) h
  where
    by_refusal : (o : Option AlterReply) → MatchOption o ((reply ≡ alter.Altered) × (new ≡ altered_region old name change)) (λ refusal. (reply ≡ refusal) × (new ≡ old)) → new ≡ old
    by_refusal None done = absurd (refused done.0)
    by_refusal (Some refusal) h = h.1

-- ---- the abend
pub abends_are_done : AbendsOfTasksAreDone
unfolding Alters alter_refusal
abends_are_done old name reply new h live = by_terminal (terminal_of old name) h live
  where
    Due : Option AlterReply → Type 0
    Due o = MatchOption o ((reply ≡ alter.Altered) × (new ≡ altered_region old name Abend)) (λ refusal. (reply ≡ refusal) × (new ≡ old))

    by_task : (t : TerminalState) (o : Option TaskState) → Due (option_map_or (λ task. change_refusal Abend (context_of old t task)) o (Some alter.NoTask)) → is_some o ≡ true → reply ≡ alter.Altered
    by_task t None h live = absurd (true≢false (sym live))
    by_task t (Some task) h live = h.0

    by_terminal : (o : Option TerminalState) → Due (option_map_or (λ t. option_map_or (λ task. change_refusal Abend (context_of old t task)) t.task (Some alter.NoTask)) o (Some alter.NoSuchTerminal)) → is_some (option_and_then (λ t. t.task) o) ≡ true → reply ≡ alter.Altered
    by_terminal None h live = absurd (true≢false (sym live))
    by_terminal (Some t) h live = by_task t t.task h live
