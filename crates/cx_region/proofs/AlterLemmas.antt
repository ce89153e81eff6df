-- An alteration by the parts that change, and what it keeps.
use Rattle.std.proofs.Common.{◌≡◌, ℕ, ◌≤◌, ◌^◌, Bool, Option, Some, None, List, [], ◌∷◌, refl, sym, ◌∙◌, ap, subst, arith, inl, inr}
use Rattle.std.specs.Prelude.{if◌then◌else◌, MatchOption}
use Rattle.std.specs.Option.{option_map_or}
use Rattle.std.specs.Map.{lookup}
use Rattle.std.proofs.lemmas.Option.{none-some}
use Rattle.cx_storage.specs.Facts.Sound.{covers_cases}
use Rattle.cx_storage.specs.Storage.{Storage, with_byte, IsSoundStorage}
use Rattle.cx_service.specs.Queues.{AreSoundQueues}
use Rattle.cx_service.specs.Resources.{AreSoundResources}
use Rattle.cx_region_state.specs.State.{SharedState, TaskContext, TerminalEntryState, TaskState, context}
use Rattle.cx_region.specs.declared.changes.Change.{Change}
use Rattle.cx_region.specs.declared.changes.AlterReply.{AlterReply}
use Rattle.cx_region.specs.declared.changes.AlterReply.TheVariants as alter
use Rattle.cx_region.specs.State.{RegionState, TerminalState}
use Rattle.cx_ebcdic.specs.Names.{is_name}
use Rattle.cx_region.specs.Turn.{context_of}
use Rattle.cx_region.specs.Alter.{Alters, after_change, alter_refusal, altered_at, altered_region, ends_task, task_left}
use Rattle.cx_region.specs.Parts.Altering.{AlteredAt}
use Rattle.cx_region.specs.Sound.{IsSound}
use Rattle.cx_region.proofs.TurnLemmas.{Puts, Terminals, put_same, terminal_with, with_parts}
use Rattle.cx_region.specs.Facts.SoundAlter.{sound_altered}

-- ---- bytes
-- past the end of storage there is no byte to be set
pub byte_unset : (s : Storage) (a v : ℕ) → IsSoundStorage s → 2 ^ 24 ≤ a → with_byte s a v ≡ s
unfolding with_byte IsSoundStorage
byte_unset [] a v ok high = refl
byte_unset (h ∷ hs) a v ok high = elim (covers_cases h.area a) [
  | inl c ↦ absurd (omega (arith, c.2, ok.0.0.below, high))
  | inr c ↦ rw (c.0, byte_unset hs a v (ok.0.1, ok.1.1) high) refl
]

-- ---- the terminal itself
pub altered_on : (change : Change) (shared after : SharedState) (t : TerminalState) (entry left : TerminalEntryState) (task final : TaskState) (over : Bool) (kept : Option TaskState)
    → terminal_with entry (Some task) ≡ t → context after left final ≡ after_change change (context shared entry task) → over ≡ ends_task change → kept ≡ (if over then None else Some final)
    → AlteredAt change shared t after (terminal_with left kept)
unfolding AlteredAt
altered_on change shared after t entry left task final over kept e altered over_is is =
    let dropped : kept ≡ task_left change final = rw over_is at is in
    let left_of : TaskContext → TerminalState = λ r. terminal_with r.terminal_entry (task_left change r.task) in
    subst (λ (k : TerminalState). AlteredAt change shared k after (terminal_with left kept)) e
    (ap (λ (r : TaskContext). r.shared) altered, ap (terminal_with left) dropped ∙ ap left_of altered)

-- ---- the whole region
pub altered_whole : (r : RegionState) (name : List ℕ) (change : Change) (t left : TerminalState) (shared : SharedState) (later : Terminals) → Puts r name t left later
    → AlteredAt change r.shared t shared left → with_parts r shared later ≡ altered_region r name change
unfolding altered_region AlteredAt
altered_whole r name change t left shared later puts altered = rw puts.0 (by_task t.task altered)
  where
    by_task : (o : Option TaskState)
        → MatchOption o ((shared ≡ r.shared) × (left ≡ t)) (λ task. let reached = after_change change (context_of r t task) in (shared ≡ reached.shared) × (left ≡ terminal_with reached.terminal_entry (task_left change reached.task)))
        → with_parts r shared later ≡ option_map_or (altered_at r name change t) o r
    by_task None stays = put_same r name t left shared later puts stays.0 stays.1
    by_task (Some task) done = rw (done.0, puts.1, done.1) refl

pub sound_alter : (r : RegionState) (name : List ℕ) (change : Change) (t left : TerminalState) (shared : SharedState) (later : Terminals) → Puts r name t left later → IsSound r
    → AlteredAt change r.shared t shared left → IsSoundStorage shared.storage → AreSoundQueues shared.queues → AreSoundResources shared.resources → IsSound (with_parts r shared later)
sound_alter r name change t left shared later puts ok altered storage queues resources =
    sound_altered r (with_parts r shared later) name change ok (altered_whole r name change t left shared later puts altered) storage queues resources

-- ---- either way
pub alters_refused : (r : RegionState) (name : List ℕ) (change : Change) (refusal : AlterReply) → alter_refusal r name change ≡ Some refusal → Alters r name change refusal r
unfolding Alters
alters_refused r name change refusal due = rw due (refl, refl)

-- a terminal that isn't there is refused
pub alters_there : {P : Type 0} (r v : RegionState) (name : List ℕ) (change : Change) → r ≡ v → alter_refusal v name change ≡ None → lookup (is_name name) r.terminals ≡ None → P
unfolding alter_refusal
alters_there r v name change e none absent =
    let due : alter_refusal r name change ≡ Some alter.NoSuchTerminal = rw absent refl in
    absurd (none-some alter.NoSuchTerminal (sym none ∙ ap (λ (k : RegionState). alter_refusal k name change) (sym e) ∙ due))

pub alters_done : (r v : RegionState) (name : List ℕ) (change : Change) (t left : TerminalState) (shared : SharedState) (later : Terminals) → Puts r name t left later → r ≡ v
    → alter_refusal v name change ≡ None → AlteredAt change r.shared t shared left → Alters v name change alter.Altered (with_parts r shared later)
unfolding Alters
alters_done r v name change t left shared later puts e none altered =
    rw none (refl, altered_whole r name change t left shared later puts altered ∙ ap (λ (k : RegionState). altered_region k name change) e)
