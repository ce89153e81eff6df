-- What alterations leave and keep.
use Rattle.std.proofs.Common.{◌≡◌, ℕ, Bool, true, false, Option, Some, None, List, refl, sym, ◌∙◌, ap, subst}
use Rattle.std.specs.Prelude.{◌==◌, MatchOption, if◌then◌else◌, slice_set}
use Rattle.std.specs.Option.{option_map_or}
use Rattle.std.proofs.lemmas.Bool.{eq-eqb, true≢false}
use Rattle.std.proofs.lemmas.Map.{keys-set_value}
use Rattle.cx_storage.specs.Facts.Writes.{areas_after_set, byte_after_set_elsewhere}
use Rattle.cx_storage.specs.Storage.{Storage, byte_at, is_of_other_slot, with_areas_kept, with_byte}
use Rattle.cx_service.specs.Resources.{without_owner}
use Rattle.cx_program.specs.Levels.{with_current}
use Rattle.cx_region_state.specs.State.{TaskContext, TaskState}
use Rattle.cx_region_task.specs.Abends.{AbendsAt}
use Rattle.cx_region.specs.declared.changes.Change.{Change}
use Rattle.cx_region.specs.declared.changes.Change.TheVariants.{Register, Byte, Nop, Abend}
use Rattle.cx_region.specs.declared.changes.AlterReply.{AlterReply}
use Rattle.cx_region.specs.declared.changes.AlterReply.TheVariants as alter
use Rattle.cx_region.specs.State.{RegionState, TerminalState}
use Rattle.cx_ebcdic.specs.Names.{is_name}
use Rattle.cx_region.specs.Tables.{terminal_of}
use Rattle.cx_region.specs.Turn.{context_of}
use Rattle.cx_region.specs.Alter.{Alters, alter_refusal, after_change, altered_at, altered_region, ends_task, with_register}
use Rattle.cx_region_laws.specs.Laws.Alterations.{AbendsKeepOthers, AbendsLookAtNoExit, AlterKeeps, AlterKeepsLevels, AlterKeepsOthers, AlterKeepsStorage, AlterationsKeepLevels, AlterationsKeepStorage, AlterationsKeepToTheirTask, KeepsWhereDue}
use Rattle.cx_region_laws.proofs.KeepsLemmas.{other_stays}
use Rattle.cx_region.specs.Facts.SoundAlter.{kept_twice, released_twice}

-- ---- what stays: the region, or what is put back at the terminal
-- what holds of a region as it is, and of one with what is reached after a change of a terminal's task put back
record EachWay (P : RegionState → Type 0) (old : RegionState) (name : List ℕ) (change : Change) : Type 0 where
  stays : P old
  changes : (t : TerminalState) (task : TaskState) → terminal_of old name ≡ Some t → P (altered_at old name change t task)

by_way : (P : RegionState → Type 0) (old : RegionState) (name : List ℕ) (change : Change) (reply : AlterReply) (new : RegionState) → EachWay P old name change → Alters old name change reply new → P new
unfolding Alters altered_region
by_way P old name change reply new each h = by_refusal (alter_refusal old name change) h
  where
    by_task : (t : TerminalState) → terminal_of old name ≡ Some t → (o : Option TaskState) → P (option_map_or (altered_at old name change t) o old)
    by_task t there None = each.stays
    by_task t there (Some task) = each.changes t task there

    by_terminal : (o : Option TerminalState) → terminal_of old name ≡ o → P (option_map_or (λ t. option_map_or (altered_at old name change t) t.task old) o old)
    by_terminal None there = each.stays
    by_terminal (Some t) there = by_task t there t.task

    by_refusal : (o : Option AlterReply) → MatchOption o ((reply ≡ alter.Altered) × (new ≡ altered_region old name change)) (λ refusal. (reply ≡ refusal) × (new ≡ old)) → P new
    by_refusal None done = subst P (sym done.1) (by_terminal (terminal_of old name) refl)
    by_refusal (Some refusal) h = subst P (sym h.1) each.stays

programs_stay : (change : Change) (before : TaskContext) → (after_change change before).shared.programs ≡ before.shared.programs
unfolding after_change
programs_stay (Register r v) before = refl
programs_stay (Byte a v) before = refl
programs_stay Nop before = refl
programs_stay Abend before = refl

queues_stay : (change : Change) (before : TaskContext) → (after_change change before).shared.queues ≡ before.shared.queues
unfolding after_change
queues_stay (Register r v) before = refl
queues_stay (Byte a v) before = refl
queues_stay Nop before = refl
queues_stay Abend before = refl

pub alterations_keep : AlterationsKeepToTheirTask
alterations_keep old name change reply new h =
    by_way (AlterKeeps old name) old name change reply new (record {
      stays = record { others = λ other differ. refl; names = refl; programs = refl; transactions = refl; time = refl; date = refl; counter = refl; queues = refl };
      changes = λ t task there. record {
        others = λ other differ. other_stays name other old.terminals _ differ;
        names = keys-set_value (is_name name) old.terminals _;
        programs = programs_stay change (context_of old t task);
        transactions = refl;
        time = refl;
        date = refl;
        counter = refl;
        queues = queues_stay change (context_of old t task);
      };
    }) h

byte_elsewhere : (s : Storage) (a v x : ℕ) → x == a ≡ false → byte_at (with_byte s a v) x ≡ byte_at s x
byte_elsewhere s a v x apart = byte_after_set_elsewhere s a v x (λ e. true≢false (sym (eq-eqb x a e) ∙ apart))

live_keeps : (change : Change) (old : RegionState) (name : List ℕ) (t : TerminalState) (task : TaskState) → ends_task change ≡ false → AlterKeepsStorage old change (altered_at old name change t task)
unfolding after_change
live_keeps (Register r v) old name t task on = record { areas = refl; bytes = λ x other. refl; resources = refl }
live_keeps (Byte a v) old name t task on =
    record { areas = areas_after_set old.shared.storage a v; bytes = byte_elsewhere old.shared.storage a v; resources = refl }
live_keeps Nop old name t task on = record { areas = refl; bytes = λ x other. refl; resources = refl }
live_keeps Abend old name t task on = absurd (true≢false on)

pub alterations_keep_storage : AlterationsKeepStorage
alterations_keep_storage old name change reply new h on =
    by_way (AlterKeepsStorage old change) old name change reply new (record {
      stays = record { areas = refl; bytes = λ x other. refl; resources = refl };
      changes = λ t task there. live_keeps change old name t task on;
    }) h

same_at : {A B : Type 0} (o : Option TerminalState) (x : A) (f : TerminalState → B) → MatchOption o (x ≡ x) (λ t. f t ≡ f t)
same_at None x f = refl
same_at (Some t) x f = refl

at_terminal : (P : Type 0) (Q : TerminalState → Type 0) (o : Option TerminalState) (t : TerminalState) → o ≡ Some t → Q t → MatchOption o P Q
at_terminal P Q o t there q = subst (λ (x : Option TerminalState). MatchOption x P Q) (sym there) q

pub abends_keep_others : AbendsKeepOthers
unfolding after_change
abends_keep_others old name reply new h =
    by_way (AlterKeepsOthers old name) old name Abend reply new (record {
      stays = record {
        areas = same_at (terminal_of old name) old.shared.storage (λ t. with_areas_kept (is_of_other_slot t.entry.slot) old.shared.storage);
        resources = same_at (terminal_of old name) old.shared.resources (λ t. without_owner old.shared.resources t.entry.slot);
      };
      changes = λ t task there. record {
        areas = at_terminal _ _ (terminal_of old name) t there (kept_twice (is_of_other_slot t.entry.slot) old.shared.storage);
        resources = at_terminal _ _ (terminal_of old name) t there (released_twice old.shared.resources t.entry.slot);
      };
    }) h

-- ---- the abend
pub abends_look_at_no_exit : AbendsLookAtNoExit
unfolding after_change AbendsAt
abends_look_at_no_exit before = record { exit = None; takes = refl; ends = (refl, refl) }

-- ---- levels
same_levels : (before after : TaskState) → after ≡ before → AlterKeepsLevels before after
same_levels before after same = rw same (record { callers = refl; kept = λ kept. kept })

-- a value in a register, which the current level keeps too where a command is due
register_kept : (task : TaskState) (r v : ℕ) → AlterKeepsLevels task (with_register task r v)
register_kept task r v = record { callers = callers task.due; kept = λ kept due. by_due kept due }
  where
    callers : (b : Bool) → (if b then with_current task.levels (record task.levels.current { regs = slice_set task.levels.current.regs r v }) else task.levels).callers ≡ task.levels.callers
    callers true = refl
    callers false = refl

    by_due : KeepsWhereDue task → task.due ≡ true → ((with_register task r v).levels.current.regs ≡ slice_set task.regs r v) × ((with_register task r v).levels.current.cc ≡ task.cc)
    by_due kept due = rw due (ap (λ (regs : List ℕ). slice_set regs r v) (kept due).0, (kept due).1)

pub alterations_keep_levels : AlterationsKeepLevels
unfolding after_change
alterations_keep_levels (Register r v) before = register_kept before.task r v
alterations_keep_levels (Byte a v) before = same_levels before.task before.task refl
alterations_keep_levels Nop before = record { callers = refl; kept = λ kept due. cc }
alterations_keep_levels Abend before = same_levels before.task before.task refl
