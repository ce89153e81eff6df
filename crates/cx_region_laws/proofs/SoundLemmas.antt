-- What always holds of a region is kept, event by event.
use Rattle.std.proofs.Common.{◌≡◌, ℕ, ◌≤◌, ◌+◌, Option, Some, None, List, length, refl, sym, ◌∙◌, ap, subst}
use Rattle.std.specs.Prelude.{MatchOption, Result, Ok, Err}
use Rattle.std.specs.Map.{set_value}
use Rattle.indexmap.specs.IndexMap.{insert_entry}
use Rattle.cx_code.specs.declared.image.Image.{Image}
use Rattle.cx_ebcdic.specs.Facts.Names.{is_name-laws}
use Rattle.cx_load.specs.declared.program.Loaded.{Loaded}
use Rattle.cx_load.specs.Fault.{IsFit}
use Rattle.cx_load.specs.Facts.Faults.{facts_of_fit}
use Rattle.cx_region_state.specs.State.{Input, TaskState}
use Rattle.cx_base.specs.Facts.Tables.{distinct-insert_entry}
use Rattle.cx_region_task.specs.Laws.HalfTurns.{HalfTurnsKeep}
use Rattle.cx_region.specs.declared.changes.AlterReply.{AlterReply}
use Rattle.cx_region.specs.declared.changes.AlterReply.TheVariants as alter
use Rattle.cx_region.specs.declared.changes.Change.{Change}
use Rattle.cx_region.specs.declared.replies.DefineFault.{DefineFault}
use Rattle.cx_region.specs.declared.replies.DefineFault.TheVariants.{NoRoom}
use Rattle.cx_region.specs.declared.replies.Event.TheVariants as event
use Rattle.cx_region.specs.declared.replies.KeyReply.{KeyReply}
use Rattle.cx_region.specs.declared.replies.KeyReply.TheVariants as key
use Rattle.cx_region.specs.declared.asking.Start.{Start}
use Rattle.cx_region.specs.State.{RegionState, TerminalState}
use Rattle.cx_ebcdic.specs.Names.{is_name}
use Rattle.cx_region.specs.Tables.{fresh_terminal, program_of, terminal_of, transaction_of, with_terminal}
use Rattle.cx_region.specs.Defining.{DefinesProgram, DefinesTerminal, DefinesTransaction, LoadsProgram, program_fault, terminal_fault, transaction_fault}
use Rattle.cx_region.specs.Attach.{Attaches, Gives, TakesKey, OnlyAnswers, StartsTask, with_task_attached, commarea_kept, eib_at_attach, input_from, next_number, transaction_named, with_task}
use Rattle.cx_region.specs.Alter.{Alters, alter_refusal, altered_region}
use Rattle.cx_region.specs.Sound.{IsSound}
use Rattle.cx_region.specs.Parts.Asking.{Giving, Starting, level_of, task_of_start}
use Rattle.cx_region.specs.Facts.SoundAlter.{sound_altered}
use Rattle.cx_region.specs.Facts.SoundAttach.{sound_attached, sound_given}
use Rattle.cx_region.specs.Facts.SoundDefining.{sound_loaded, sound_program, sound_terminal, sound_transaction}
use Rattle.cx_region.specs.Facts.SoundTurned.{sound_turned}
use Rattle.cx_region_laws.specs.Facts.Alterations.{alter_reply}
use Rattle.cx_region_laws.specs.Laws.Sound.{ArePartsSound, SoundIsKept}
use Rattle.cx_region_laws.proofs.DecideLemmas.{clock_reply, key_reply, program_reply, terminal_reply, transaction_reply, turn_reply}

-- ---- definitions
program_kept : (old new : RegionState) (name : List ℕ) (image : Image) (result : Result Loaded DefineFault) → IsSound old → IsFit image → ArePartsSound new → DefinesProgram old name image result new → IsSound new
unfolding DefinesProgram
program_kept old new name image result ok fit parts h = by_fault (program_fault old name) refl h
  where
    loads : (answer : Result Loaded DefineFault) → program_fault old name ≡ None → LoadsProgram old name image answer new → IsSound new
    loads (Ok loaded) free h =
        subst IsSound (sym h.1)
        (sound_program old name image loaded new.shared.storage (insert_entry is_name old.shared.programs name loaded) ok parts.storage (facts_of_fit image fit).nonempty
        (sound_loaded old.shared.storage new.shared.storage image loaded fit h.0) free h.0 refl (distinct-insert_entry is_name is_name-laws old.shared.programs name loaded ok.programs_distinct))
    loads (Err NoRoom) free h = subst IsSound (sym h.1) ok
    loads (Err _) free h = absurd h

    by_fault : (o : Option DefineFault) → program_fault old name ≡ o → MatchOption o (LoadsProgram old name image result new) (λ fault. (result ≡ Err fault) × (new ≡ old)) → IsSound new
    by_fault None free h = loads result free h
    by_fault (Some fault) is h = subst IsSound (sym h.1) ok

transaction_kept : (old new : RegionState) (tran program : List ℕ) (result : Result (Unit {0}) DefineFault) → IsSound old → DefinesTransaction old tran program result new → IsSound new
unfolding DefinesTransaction
transaction_kept old new tran program result ok h = by_fault (transaction_fault old tran program) refl h
  where
    by_fault : (o : Option DefineFault) → transaction_fault old tran program ≡ o
        → MatchOption o ((result ≡ Ok tt) × (new ≡ record old { transactions = insert_entry is_name old.transactions tran program })) (λ fault. (result ≡ Err fault) × (new ≡ old)) → IsSound new
    by_fault None free h =
        subst IsSound (sym h.1)
        (sound_transaction old tran program (insert_entry is_name old.transactions tran program) ok free refl (distinct-insert_entry is_name is_name-laws old.transactions tran program ok.transactions_distinct))
    by_fault (Some fault) is h = subst IsSound (sym h.1) ok

terminal_kept : (old new : RegionState) (name : List ℕ) (result : Result (Unit {0}) DefineFault) → IsSound old → DefinesTerminal old name result new → IsSound new
unfolding DefinesTerminal
terminal_kept old new name result ok h = by_fault (terminal_fault old name) refl h
  where
    fresh : TerminalState
    fresh = fresh_terminal (length old.terminals + 1)

    by_fault : (o : Option DefineFault) → terminal_fault old name ≡ o
        → MatchOption o ((result ≡ Ok tt) × (new ≡ record old { terminals = insert_entry is_name old.terminals name (fresh_terminal (length old.terminals + 1)) })) (λ fault. (result ≡ Err fault) × (new ≡ old)) → IsSound new
    by_fault None free h =
        subst IsSound (sym h.1)
        (sound_terminal old name (insert_entry is_name old.terminals name fresh) ok free refl (distinct-insert_entry is_name is_name-laws old.terminals name fresh ok.terminals_distinct))
    by_fault (Some fault) is h = subst IsSound (sym h.1) ok

clock_kept : (old : RegionState) (time date : ℕ) → IsSound old → time ≤ 999999 → date ≤ 99999 → IsSound (record old { time = time; date = date })
clock_kept old time date ok first second =
    record {
      storage = ok.storage;
      cwa_stands = ok.cwa_stands;
      programs_distinct = ok.programs_distinct;
      transactions_distinct = ok.transactions_distinct;
      terminals_distinct = ok.terminals_distinct;
      programs_few = ok.programs_few;
      transactions_few = ok.transactions_few;
      terminals_few = ok.terminals_few;
      programs_sound = ok.programs_sound;
      numbered = ok.numbered;
      tasks = ok.tasks;
      areas = ok.areas;
      resources = ok.resources;
      queues_sound = ok.queues_sound;
      resources_sound = ok.resources_sound;
      time = first;
      date = second;
      counter = ok.counter;
    }

-- ---- keys
abbrev started : TerminalState → List ℕ → List ℕ → Loaded → Start
started t tran program loaded = record { slot = t.entry.slot; tran = tran; program = program; loaded = loaded; calen = length (commarea_kept t.entry.following) }

attach_kept : (old new : RegionState) (name : List ℕ) (t : TerminalState) (input : Input) (program : List ℕ) (loaded : Loaded) (reply : KeyReply) → IsSound old → ArePartsSound new
    → terminal_of old name ≡ Some t → t.task ≡ None → transaction_of old (transaction_named t.entry.following input.bytes) ≡ Some program → program_of old program ≡ Some loaded
    → Attaches old name t input (transaction_named t.entry.following input.bytes) program loaded reply new → IsSound new
attach_kept old new name t input program loaded key.Attached ok parts there idle defined found h =
    let tran = transaction_named t.entry.following input.bytes in
    let kept = commarea_kept t.entry.following in
    let start = started t tran program loaded in
    let starting : Starting old name input.bytes start =
    record { terminal = t; there = there; idle = idle; slot = refl; tran = refl; defined = defined; program = found; calen = refl } in
    let storage_is : new.shared.storage ≡ (with_task_attached old name t input tran program loaded h.areas).shared.storage = ap (λ (r : RegionState). r.shared.storage) h.after in
    let ts = set_value (is_name name) old.terminals (with_task t input (task_of_start start (next_number old.counter) h.areas)) in
    let sound : IsSound (record old { shared = record old.shared { storage = new.shared.storage }; terminals = ts; counter = next_number old.counter }) =
    sound_attached old name input.bytes start input h.areas (eib_at_attach old name tran (length kept) input.aid) kept (level_of start h.areas) new.shared.storage ts
    ok starting parts.storage h.placed storage_is refl in
    subst IsSound (sym (h.after ∙ (λ i. record old { shared = record old.shared { storage = sym storage_is i }; terminals = ts; counter = next_number old.counter }))) sound
attach_kept old new name t input program loaded key.NoStorage ok parts there idle defined found h = subst IsSound (sym h.1) ok
attach_kept old new name t input program loaded _ ok parts there idle defined found h = absurd h

key_kept : (old new : RegionState) (name : List ℕ) (input : Input) (reply : KeyReply) → IsSound old → ArePartsSound new → TakesKey old name input reply new → IsSound new
unfolding TakesKey
key_kept old new name input reply ok parts h = at_terminal (terminal_of old name) refl h
  where
    only : (due : KeyReply) → OnlyAnswers due old reply new → IsSound new
    only due h = subst IsSound (sym h.1) ok

    at_program : (t : TerminalState) (program : List ℕ) (o : Option Loaded) → program_of old program ≡ o → terminal_of old name ≡ Some t → t.task ≡ None
        → transaction_of old (transaction_named t.entry.following input.bytes) ≡ Some program
        → MatchOption o (OnlyAnswers key.NoSuchTransaction old reply new) (λ loaded. Attaches old name t input (transaction_named t.entry.following input.bytes) program loaded reply new) → IsSound new
    at_program t program None found there idle defined h = only key.NoSuchTransaction h
    at_program t program (Some loaded) found there idle defined h = attach_kept old new name t input program loaded reply ok parts there idle defined found h

    at_tran : (t : TerminalState) (o : Option (List ℕ)) → transaction_of old (transaction_named t.entry.following input.bytes) ≡ o → terminal_of old name ≡ Some t → t.task ≡ None
        → MatchOption o (OnlyAnswers key.NoSuchTransaction old reply new) (λ program.
        MatchOption (program_of old program) (OnlyAnswers key.NoSuchTransaction old reply new) (λ loaded. Attaches old name t input (transaction_named t.entry.following input.bytes) program loaded reply new)) → IsSound new
    at_tran t None defined there idle h = only key.NoSuchTransaction h
    at_tran t (Some program) defined there idle h = at_program t program (program_of old program) refl there idle defined h

    at_input : (t : TerminalState) (task : TaskState) (o : Option Input) → t.entry.input ≡ o → terminal_of old name ≡ Some t → t.task ≡ Some task
        → MatchOption o ((reply ≡ key.Given) × (new ≡ with_terminal old name (record t { entry = record t.entry { input = Some input } }))) (λ held. OnlyAnswers key.AlreadyHeldInput old reply new) → IsSound new
    at_input t task None none there live h =
        let giving : Giving old name = record { terminal = t; there = there; task = task; live = live; none = none } in
        subst IsSound (sym h.1) (sound_given old name input (set_value (is_name name) old.terminals (record t { entry = record t.entry { input = Some input } })) ok giving refl)
    at_input t task (Some held) is there live h = only key.AlreadyHeldInput h

    at_task : (t : TerminalState) (o : Option TaskState) → t.task ≡ o → terminal_of old name ≡ Some t
        → MatchOption o (StartsTask old name t input (transaction_named t.entry.following input.bytes) reply new) (λ task. Gives old name t input reply new) → IsSound new
    at_task t None idle there h = at_tran t (transaction_of old (transaction_named t.entry.following input.bytes)) refl there idle h
    at_task t (Some task) live there h = at_input t task t.entry.input refl there live h

    at_terminal : (o : Option TerminalState) → terminal_of old name ≡ o → MatchOption o (OnlyAnswers key.NoSuchTerminal old reply new) (λ t. MatchOption t.task (StartsTask old name t input (transaction_named t.entry.following input.bytes) reply new) (λ task. Gives old name t input reply new)) → IsSound new
    at_terminal None there h = only key.NoSuchTerminal h
    at_terminal (Some t) there h = at_task t t.task refl there h

-- ---- alterations
alter_kept : (old new : RegionState) (name : List ℕ) (change : Change) (reply : AlterReply) → IsSound old → ArePartsSound new → Alters old name change reply new → IsSound new
unfolding Alters
alter_kept old new name change reply ok parts h = by_refusal (alter_refusal old name change) h
  where
    by_refusal : (o : Option AlterReply) → MatchOption o ((reply ≡ alter.Altered) × (new ≡ altered_region old name change)) (λ refusal. (reply ≡ refusal) × (new ≡ old)) → IsSound new
    by_refusal None done = sound_altered old new name change ok done.1 parts.storage parts.queues parts.resources
    by_refusal (Some refusal) h = subst IsSound (sym h.1) ok

-- ---- events
pub sound_is_kept : HalfTurnsKeep → SoundIsKept
sound_is_kept law old new (event.Program name image) r ok allowed fit h parts =
    let one = program_reply old name image r new h in program_kept old new name image one.0 ok fit parts one.2
sound_is_kept law old new (event.Transaction tran program) r ok allowed fit h parts =
    let one = transaction_reply old tran program r new h in transaction_kept old new tran program one.0 ok one.2
sound_is_kept law old new (event.Terminal name) r ok allowed fit h parts =
    let one = terminal_reply old name r new h in terminal_kept old new name one.0 ok one.2
sound_is_kept law old new (event.Clock time date) r ok allowed fit h parts =
    subst IsSound (sym (clock_reply old time date r new h).1) (clock_kept old time date ok allowed.0 allowed.1)
sound_is_kept law old new (event.Key name aid bytes) r ok allowed fit h parts =
    let one = key_reply old name aid bytes r new h in key_kept old new name (input_from aid bytes) one.0 ok parts one.2
sound_is_kept law old new (event.Turn name) r ok allowed fit h parts =
    let one = turn_reply old name r new h in sound_turned law old new name one.0 ok one.2 parts.storage parts.queues parts.resources
sound_is_kept law old new (event.Alter name change) r ok allowed fit h parts =
    let one = alter_reply old name change r new h in alter_kept old new name change one.0 ok parts one.2
