-- Two outcomes of one event, or of one run of events, are equal.
use Rattle.std.proofs.Common.{◌≡◌, ℕ, ◌+◌, Option, Some, None, List, [], ◌∷◌, length, refl, sym, ◌∙◌, ap, subst, inl, inr}
use Rattle.std.specs.Prelude.{◌⊎◌, MatchOption, Result, Ok, Err}
use Rattle.std.specs.Prelude.{◌==◌}
use Rattle.std.proofs.lemmas.Bool.{true≢false}
use Rattle.std.proofs.lemmas.Option.{same_Some, none-some}
use Rattle.indexmap.specs.IndexMap.{insert_entry}
use Rattle.cx_ebcdic.specs.Names.{is_name}
use Rattle.cx_ebcdic.specs.declared.aids.Aid.{Aid}
use Rattle.cx_code.specs.declared.image.Image.{Image}
use Rattle.cx_storage.specs.declared.areas.Owner.{Owner}
use Rattle.cx_storage.specs.Storage.{Storage}
use Rattle.cx_storage.specs.Facts.Places.{place_decides}
use Rattle.cx_load.specs.declared.program.Loaded.{Loaded}
use Rattle.cx_load.specs.Program.{IsLoaded, IsProgramPlace, first_of_programs, last_of_programs}
use Rattle.cx_region.specs.declared.replies.DefineFault.{DefineFault}
use Rattle.cx_region.specs.declared.replies.DefineFault.TheVariants.{NoRoom}
use Rattle.cx_region.specs.declared.replies.Event.TheVariants as event
use Rattle.cx_region.specs.declared.replies.KeyReply.{KeyReply}
use Rattle.cx_region.specs.declared.replies.KeyReply.TheVariants as key
use Rattle.cx_region.specs.declared.replies.Reply.{Reply}
use Rattle.cx_region.specs.declared.replies.Reply.TheVariants as reply
use Rattle.cx_region_state.specs.declared.replies.TurnReply.{TurnReply}
use Rattle.cx_region_state.specs.declared.replies.TurnReply.TheVariants as turn
use Rattle.cx_region.specs.State.{RegionState, TerminalState}
use Rattle.cx_region_state.specs.State.{Input, TaskContext, TaskState}
use Rattle.cx_region.specs.Tables.{fresh_terminal, program_of, terminal_of, transaction_of, with_terminal}
use Rattle.cx_region.specs.Defining.{DefinesProgram, DefinesTerminal, DefinesTransaction, LoadsProgram, program_fault, terminal_fault, transaction_fault}
use Rattle.cx_base.specs.Eib.{eib_len}
use Rattle.cx_region.specs.Attach.{ArePlaced, AttachesTask, Attaches, Gives, HasNoPlaces, IsCopyPlace, TakesKey, OnlyAnswers, StartsTask, with_task_attached, commarea_kept, input_from, transaction_named, with_eib_area, with_kept_area}
use Rattle.cx_region.specs.declared.asking.Places.{Places}
use Rattle.cx_region_state.specs.Areas.{IsTaskPlace, first_of_tasks, last_of_tasks, system_owner}
use Rattle.cx_region_task.specs.Laws.HalfTurns.{HalfTurnsDecide}
use Rattle.cx_region.specs.Turn.{TaskTakesTurn, TakesTurn, put_back, context_of, task_after}
use Rattle.cx_region.specs.Events.{Applies, Run}
use Rattle.cx_region_laws.specs.Facts.Alterations.{alter_reply, alterations_decide}
use Rattle.cx_region_laws.specs.Laws.Regions.{EventsDecide, RegionRunsDecide}

-- what loading and the runs of a machine are known for
abbrev pub LoadingDecides : Type 0
LoadingDecides = (storage after later : Storage) (image : Image) (one other : Loaded)
    → IsLoaded storage image one after → IsLoaded storage image other later → (one ≡ other) × (after ≡ later)

-- two outcomes that are both the given one
same_answers : {A B : Type 0} (r s x : A) (a b y : B) → (r ≡ x) × (a ≡ y) → (s ≡ x) × (b ≡ y) → (r ≡ s) × (a ≡ b)
same_answers r s x a b y h k = (h.0 ∙ sym k.0, h.1 ∙ sym k.1)

-- ---- definitions
abbrev Alike : {A : Type 0} → A → A → RegionState → RegionState → Type 0
Alike r s a b = (r ≡ s) × (a ≡ b)

refused_load : (old : RegionState) (name : List ℕ) (image : Image) (fault : DefineFault) (new : RegionState) → LoadsProgram old name image (Err fault) new
    → (fault ≡ NoRoom) × IsProgramPlace old.shared.storage (length image.text) None × (new ≡ old)
refused_load old name image NoRoom new h = (refl, h.0, h.1)
refused_load old name image _ new h = absurd h

no_place_too : (storage : Storage) (len at : ℕ) → IsProgramPlace storage len (Some at) → IsProgramPlace storage len None → ⊥
no_place_too storage len at place none =
    none-some at (place_decides storage first_of_programs last_of_programs len None (Some at) none place)

loads_decide : LoadingDecides → (old : RegionState) (name : List ℕ) (image : Image) (r s : Result Loaded DefineFault) (a b : RegionState)
    → LoadsProgram old name image r a → LoadsProgram old name image s b → Alike r s a b
loads_decide loading old name image (Ok one) (Ok other) a b h k =
    let same = loading old.shared.storage a.shared.storage b.shared.storage image one other h.0 k.0 in (
      ap Ok same.0,
      h.1 ∙ ap (λ (l : Loaded). record old { shared = record old.shared { programs = insert_entry is_name old.shared.programs name l; storage = a.shared.storage } }) same.0
          ∙ ap (λ (s : Storage). record old { shared = record old.shared { programs = insert_entry is_name old.shared.programs name other; storage = s } }) same.1 ∙ sym k.1,
    )
loads_decide loading old name image (Ok one) (Err fault) a b h k =
    absurd (no_place_too old.shared.storage (length image.text) one.at h.0.place (refused_load old name image fault b k).1)
loads_decide loading old name image (Err fault) (Ok other) a b h k =
    absurd (no_place_too old.shared.storage (length image.text) other.at k.0.place (refused_load old name image fault a h).1)
loads_decide loading old name image (Err fault) (Err also) a b h k =
    let one = refused_load old name image fault a h in
    let two = refused_load old name image also b k in
    (ap Err (one.0 ∙ sym two.0), one.2 ∙ sym two.2)

pub program_decides : LoadingDecides → (old : RegionState) (name : List ℕ) (image : Image) (r s : Result Loaded DefineFault) (a b : RegionState)
    → DefinesProgram old name image r a → DefinesProgram old name image s b → Alike r s a b
unfolding DefinesProgram
program_decides loading old name image r s a b h k = by_fault (program_fault old name) h k
  where
    by_fault : (o : Option DefineFault)
        → MatchOption o (LoadsProgram old name image r a) (λ fault. (r ≡ Err fault) × (a ≡ old))
        → MatchOption o (LoadsProgram old name image s b) (λ fault. (s ≡ Err fault) × (b ≡ old)) → Alike r s a b
    by_fault None one two = loads_decide loading old name image r s a b one two
    by_fault (Some fault) one two = same_answers r s (Err fault) a b old one two

done_or_refused : (o : Option DefineFault) (old after : RegionState) (r s : Result (Unit {0}) DefineFault) (a b : RegionState)
    → MatchOption o ((r ≡ Ok tt) × (a ≡ after)) (λ fault. (r ≡ Err fault) × (a ≡ old))
    → MatchOption o ((s ≡ Ok tt) × (b ≡ after)) (λ fault. (s ≡ Err fault) × (b ≡ old)) → Alike r s a b
done_or_refused None old after r s a b one two = same_answers r s (Ok tt) a b after one two
done_or_refused (Some fault) old after r s a b one two = same_answers r s (Err fault) a b old one two

pub transaction_decides : (old : RegionState) (tran program : List ℕ) (r s : Result (Unit {0}) DefineFault) (a b : RegionState)
    → DefinesTransaction old tran program r a → DefinesTransaction old tran program s b → Alike r s a b
unfolding DefinesTransaction
transaction_decides old tran program r s a b h k =
    done_or_refused (transaction_fault old tran program) old (record old { transactions = insert_entry is_name old.transactions tran program }) r s a b h k

pub terminal_decides : (old : RegionState) (name : List ℕ) (r s : Result (Unit {0}) DefineFault) (a b : RegionState)
    → DefinesTerminal old name r a → DefinesTerminal old name s b → Alike r s a b
unfolding DefinesTerminal
terminal_decides old name r s a b h k = done_or_refused (terminal_fault old name) old (record old { terminals = insert_entry is_name old.terminals name (fresh_terminal (length old.terminals + 1)) }) r s a b h k

-- ---- keys
pub task_place_once : (storage : Storage) (len : ℕ) (one other : Option ℕ) → IsTaskPlace storage len one → IsTaskPlace storage len other → one ≡ other
task_place_once storage len one other h k = place_decides storage first_of_tasks last_of_tasks len one other h k

pub copy_place_once : (storage : Storage) (len : ℕ) (one other : Option ℕ) → IsCopyPlace storage len one → IsCopyPlace storage len other → one ≡ other
copy_place_once storage len None None h k = refl
copy_place_once storage len None (Some place) h k = absurd (true≢false (sym (ap (λ (n : ℕ). n == 0) h) ∙ k.0))
copy_place_once storage len (Some place) None h k = absurd (true≢false (sym (ap (λ (n : ℕ). n == 0) k) ∙ h.0))
copy_place_once storage len (Some place) (Some also) h k = task_place_once storage len (Some place) (Some also) h.1 k.1

places_decide : (storage : Storage) (owner : Owner) (len stg_len : ℕ) (p q : Places)
    → ArePlaced storage owner len stg_len p → ArePlaced storage owner len stg_len q → p ≡ q
places_decide storage owner len stg_len p q h k =
    let eib : p.eib ≡ q.eib = same_Some _ _ (task_place_once storage eib_len (Some p.eib) (Some q.eib) h.eib k.eib) in
    let copied : IsCopyPlace (with_eib_area storage owner q.eib) len p.commarea =
    subst (λ (a : ℕ). IsCopyPlace (with_eib_area storage owner a) len p.commarea) eib h.commarea in
    let commarea : p.commarea ≡ q.commarea = copy_place_once (with_eib_area storage owner q.eib) len p.commarea q.commarea copied k.commarea in
    let first : IsTaskPlace (with_kept_area storage owner len q.eib p.commarea) stg_len (Some p.stg) =
    subst (λ (a : ℕ). IsTaskPlace (with_kept_area storage owner len a p.commarea) stg_len (Some p.stg)) eib h.stg in
    let second : IsTaskPlace (with_kept_area storage owner len q.eib q.commarea) stg_len (Some p.stg) =
    subst (λ (o : Option ℕ). IsTaskPlace (with_kept_area storage owner len q.eib o) stg_len (Some p.stg)) commarea first in
    let stg : p.stg ≡ q.stg = same_Some _ _ (task_place_once (with_kept_area storage owner len q.eib q.commarea) stg_len (Some p.stg) (Some q.stg) second k.stg) in
    λ i. record { eib = eib i; commarea = commarea i; stg = stg i }

-- what an attach answers: a task with places for its areas, or that there are none
abbrev Answered : RegionState → List ℕ → TerminalState → Input → List ℕ → List ℕ → Loaded → KeyReply → RegionState → Type 0
Answered old name terminal input tran program loaded answer new =
    ((answer ≡ key.Attached) × AttachesTask old name terminal input tran program loaded new)
    ⊎ ((answer ≡ key.NoStorage) × HasNoPlaces old.shared.storage (system_owner terminal.entry.slot) (length (commarea_kept terminal.entry.following)) loaded.stg_len × (new ≡ old))

attach_answers : (old : RegionState) (name : List ℕ) (terminal : TerminalState) (input : Input) (tran program : List ℕ) (loaded : Loaded) (answer : KeyReply) (new : RegionState)
    → Attaches old name terminal input tran program loaded answer new → Answered old name terminal input tran program loaded answer new
attach_answers old name terminal input tran program loaded key.Attached new h = inl (refl, h)
attach_answers old name terminal input tran program loaded key.NoStorage new h = inr (refl, h.0, h.1)
attach_answers old name terminal input tran program loaded _ new h = absurd h

attach_decides : (old : RegionState) (name : List ℕ) (terminal : TerminalState) (input : Input) (tran program : List ℕ) (loaded : Loaded) (r s : KeyReply) (a b : RegionState)
    → Attaches old name terminal input tran program loaded r a → Attaches old name terminal input tran program loaded s b → Alike r s a b
attach_decides old name terminal input tran program loaded r s a b h k =
    elim (attach_answers old name terminal input tran program loaded r a h) [
      | inl one ↦ elim (attach_answers old name terminal input tran program loaded s b k) [
        | inl two ↦
            let same = places_decide old.shared.storage (system_owner terminal.entry.slot) (length (commarea_kept terminal.entry.following)) loaded.stg_len one.1.areas two.1.areas one.1.placed two.1.placed in
            (one.0 ∙ sym two.0, one.1.after ∙ ap (λ (p : Places). with_task_attached old name terminal input tran program loaded p) same ∙ sym two.1.after)
        | inr two ↦ absurd (two.1.none one.1.areas one.1.placed)
      ]
      | inr one ↦ elim (attach_answers old name terminal input tran program loaded s b k) [
        | inl two ↦ absurd (one.1.none two.1.areas two.1.placed)
        | inr two ↦ (one.0 ∙ sym two.0, one.2 ∙ sym two.2)
      ]
    ]

pub key_decides : (old : RegionState) (name : List ℕ) (input : Input) (r s : KeyReply) (a b : RegionState)
    → TakesKey old name input r a → TakesKey old name input s b → Alike r s a b
unfolding TakesKey
key_decides old name input r s a b h k = at_terminal (terminal_of old name) h k
  where
    at_program : (t : TerminalState) (tran program : List ℕ) (o : Option Loaded)
        → MatchOption o (OnlyAnswers key.NoSuchTransaction old r a) (λ loaded. Attaches old name t input tran program loaded r a)
        → MatchOption o (OnlyAnswers key.NoSuchTransaction old s b) (λ loaded. Attaches old name t input tran program loaded s b) → Alike r s a b
    at_program t tran program None one two = same_answers r s key.NoSuchTransaction a b old one two
    at_program t tran program (Some loaded) one two = attach_decides old name t input tran program loaded r s a b one two

    at_tran : (t : TerminalState) (tran : List ℕ) (o : Option (List ℕ))
        → MatchOption o (OnlyAnswers key.NoSuchTransaction old r a) (λ program. MatchOption (program_of old program) (OnlyAnswers key.NoSuchTransaction old r a) (λ loaded. Attaches old name t input tran program loaded r a))
        → MatchOption o (OnlyAnswers key.NoSuchTransaction old s b) (λ program. MatchOption (program_of old program) (OnlyAnswers key.NoSuchTransaction old s b) (λ loaded. Attaches old name t input tran program loaded s b))
        → Alike r s a b
    at_tran t tran None one two = same_answers r s key.NoSuchTransaction a b old one two
    at_tran t tran (Some program) one two = at_program t tran program (program_of old program) one two

    at_input : (t : TerminalState) (o : Option Input)
        → MatchOption o ((r ≡ key.Given) × (a ≡ with_terminal old name (record t { entry = record t.entry { input = Some input } }))) (λ held. OnlyAnswers key.AlreadyHeldInput old r a)
        → MatchOption o ((s ≡ key.Given) × (b ≡ with_terminal old name (record t { entry = record t.entry { input = Some input } }))) (λ held. OnlyAnswers key.AlreadyHeldInput old s b) → Alike r s a b
    at_input t None one two = same_answers r s key.Given a b _ one two
    at_input t (Some held) one two = same_answers r s key.AlreadyHeldInput a b old one two

    at_task : (t : TerminalState) (tran : List ℕ) (o : Option TaskState)
        → MatchOption o (MatchOption (transaction_of old tran) (OnlyAnswers key.NoSuchTransaction old r a) (λ program. MatchOption (program_of old program) (OnlyAnswers key.NoSuchTransaction old r a) (λ loaded. Attaches old name t input tran program loaded r a)))
        (λ task. MatchOption t.entry.input ((r ≡ key.Given) × (a ≡ with_terminal old name (record t { entry = record t.entry { input = Some input } }))) (λ held. OnlyAnswers key.AlreadyHeldInput old r a))
        → MatchOption o (MatchOption (transaction_of old tran) (OnlyAnswers key.NoSuchTransaction old s b) (λ program. MatchOption (program_of old program) (OnlyAnswers key.NoSuchTransaction old s b) (λ loaded. Attaches old name t input tran program loaded s b)))
        (λ task. MatchOption t.entry.input ((s ≡ key.Given) × (b ≡ with_terminal old name (record t { entry = record t.entry { input = Some input } }))) (λ held. OnlyAnswers key.AlreadyHeldInput old s b))
        → Alike r s a b
    at_task t tran None one two = at_tran t tran (transaction_of old tran) one two
    at_task t tran (Some task) one two = at_input t t.entry.input one two

    at_terminal : (o : Option TerminalState)
        → MatchOption o (OnlyAnswers key.NoSuchTerminal old r a) (λ t. MatchOption t.task (StartsTask old name t input (transaction_named t.entry.following input.bytes) r a) (λ task. Gives old name t input r a))
        → MatchOption o (OnlyAnswers key.NoSuchTerminal old s b) (λ t. MatchOption t.task (StartsTask old name t input (transaction_named t.entry.following input.bytes) s b) (λ task. Gives old name t input s b)) → Alike r s a b
    at_terminal None one two = same_answers r s key.NoSuchTerminal a b old one two
    at_terminal (Some t) one two = at_task t (transaction_named t.entry.following input.bytes) t.task one two

-- ---- turns
task_turn_decides : HalfTurnsDecide → (old : RegionState) (name : List ℕ) (terminal : TerminalState) (task : TaskState)
    (r s : TurnReply) (a b : RegionState)
    → TaskTakesTurn old name terminal task r a → TaskTakesTurn old name terminal task s b → Alike r s a b
task_turn_decides law old name terminal task r s a b h k =
    let same = law (context_of old terminal task) h.reached k.reached r s h.half_turn k.half_turn in (
      same.0,
      h.after ∙ ap (λ (answer : TurnReply). put_back old name h.reached (task_after answer h.reached.task)) same.0 ∙ ap (λ (x : TaskContext). put_back old name x (task_after s x.task)) same.1 ∙ sym k.after,
    )

abbrev MatchTask : RegionState → List ℕ → TurnReply → RegionState → TerminalState → Option TaskState → Type 0
MatchTask old name answer new terminal o = MatchOption o ((answer ≡ turn.Idle) × (new ≡ old)) (λ task. TaskTakesTurn old name terminal task answer new)

pub turn_decides : HalfTurnsDecide → (old : RegionState) (name : List ℕ) (r s : TurnReply) (a b : RegionState)
    → TakesTurn old name r a → TakesTurn old name s b → Alike r s a b
unfolding TakesTurn
turn_decides law old name r s a b h k = at_terminal (terminal_of old name) h k
  where
    at_task : (terminal : TerminalState) (o : Option TaskState) → MatchTask old name r a terminal o → MatchTask old name s b terminal o → Alike r s a b
    at_task terminal None one two = same_answers r s turn.Idle a b old one two
    at_task terminal (Some task) one two = task_turn_decides law old name terminal task r s a b one two

    at_terminal : (o : Option TerminalState)
        → MatchOption o ((r ≡ turn.NoSuchTerminal) × (a ≡ old)) (λ terminal. MatchTask old name r a terminal terminal.task)
        → MatchOption o ((s ≡ turn.NoSuchTerminal) × (b ≡ old)) (λ terminal. MatchTask old name s b terminal terminal.task)
        → Alike r s a b
    at_terminal None one two = same_answers r s turn.NoSuchTerminal a b old one two
    at_terminal (Some terminal) one two = at_task terminal terminal.task one two

-- ---- events
pub program_reply : (old : RegionState) (name : List ℕ) (image : Image) (r : Reply) (new : RegionState) → Applies old (event.Program name image) r new
    → (result : Result Loaded DefineFault) × (r ≡ reply.Program result) × DefinesProgram old name image result new
unfolding Applies
program_reply old name image (reply.Program result) new h = (result, refl, h)
program_reply old name image _ new h = absurd h

pub transaction_reply : (old : RegionState) (tran program : List ℕ) (r : Reply) (new : RegionState) → Applies old (event.Transaction tran program) r new
    → (result : Result (Unit {0}) DefineFault) × (r ≡ reply.Transaction result) × DefinesTransaction old tran program result new
unfolding Applies
transaction_reply old tran program (reply.Transaction result) new h = (result, refl, h)
transaction_reply old tran program _ new h = absurd h

pub terminal_reply : (old : RegionState) (name : List ℕ) (r : Reply) (new : RegionState) → Applies old (event.Terminal name) r new
    → (result : Result (Unit {0}) DefineFault) × (r ≡ reply.Terminal result) × DefinesTerminal old name result new
unfolding Applies
terminal_reply old name (reply.Terminal result) new h = (result, refl, h)
terminal_reply old name _ new h = absurd h

pub clock_reply : (old : RegionState) (time date : ℕ) (r : Reply) (new : RegionState) → Applies old (event.Clock time date) r new
    → (r ≡ reply.Clock) × (new ≡ record old { time = time; date = date })
unfolding Applies
clock_reply old time date reply.Clock new h = (refl, h)
clock_reply old time date _ new h = absurd h

pub key_reply : (old : RegionState) (name : List ℕ) (aid : Aid) (bytes : List ℕ) (r : Reply) (new : RegionState) → Applies old (event.Key name aid bytes) r new
    → (answer : KeyReply) × (r ≡ reply.Key answer) × TakesKey old name (input_from aid bytes) answer new
unfolding Applies
key_reply old name aid bytes (reply.Key answer) new h = (answer, refl, h)
key_reply old name aid bytes _ new h = absurd h

pub turn_reply : (old : RegionState) (name : List ℕ) (r : Reply) (new : RegionState) → Applies old (event.Turn name) r new
    → (answer : TurnReply) × (r ≡ reply.Turn answer) × TakesTurn old name answer new
unfolding Applies
turn_reply old name (reply.Turn answer) new h = (answer, refl, h)
turn_reply old name _ new h = absurd h

-- two replies that hold equal answers
replies_same : {A : Type 0} (hold : A → Reply) (r s : Reply) (x y : A) → r ≡ hold x → s ≡ hold y → x ≡ y → r ≡ s
replies_same hold r s x y one two same = one ∙ ap hold same ∙ sym two

pub events_decide : LoadingDecides → HalfTurnsDecide → EventsDecide
events_decide loading runs old (event.Program name image) r s a b h k =
    let one = program_reply old name image r a h in
    let two = program_reply old name image s b k in
    let same = program_decides loading old name image one.0 two.0 a b one.2 two.2 in
    (replies_same (λ x. reply.Program x) r s one.0 two.0 one.1 two.1 same.0, same.1)
events_decide loading runs old (event.Transaction tran program) r s a b h k =
    let one = transaction_reply old tran program r a h in
    let two = transaction_reply old tran program s b k in
    let same = transaction_decides old tran program one.0 two.0 a b one.2 two.2 in
    (replies_same (λ x. reply.Transaction x) r s one.0 two.0 one.1 two.1 same.0, same.1)
events_decide loading runs old (event.Terminal name) r s a b h k =
    let one = terminal_reply old name r a h in
    let two = terminal_reply old name s b k in
    let same = terminal_decides old name one.0 two.0 a b one.2 two.2 in
    (replies_same (λ x. reply.Terminal x) r s one.0 two.0 one.1 two.1 same.0, same.1)
events_decide loading runs old (event.Clock time date) r s a b h k =
    same_answers r s reply.Clock a b (record old { time = time; date = date }) (clock_reply old time date r a h) (clock_reply old time date s b k)
events_decide loading runs old (event.Key name aid bytes) r s a b h k =
    let one = key_reply old name aid bytes r a h in
    let two = key_reply old name aid bytes s b k in
    let same = key_decides old name (input_from aid bytes) one.0 two.0 a b one.2 two.2 in
    (replies_same (λ x. reply.Key x) r s one.0 two.0 one.1 two.1 same.0, same.1)
events_decide loading runs old (event.Turn name) r s a b h k =
    let one = turn_reply old name r a h in
    let two = turn_reply old name s b k in
    let same = turn_decides runs old name one.0 two.0 a b one.2 two.2 in
    (replies_same (λ x. reply.Turn x) r s one.0 two.0 one.1 two.1 same.0, same.1)
events_decide loading runs old (event.Alter name change) r s a b h k =
    let one = alter_reply old name change r a h in
    let two = alter_reply old name change s b k in
    let same = alterations_decide old name change one.0 two.0 a b one.2 two.2 in
    (replies_same (λ x. reply.Alter x) r s one.0 two.0 one.1 two.1 same.0, same.1)

-- ---- runs
pub runs_decide : EventsDecide → RegionRunsDecide
unfolding Run
runs_decide events old [] [] [] a b h k = (refl, h ∙ sym k)
runs_decide events old [] [] (s ∷ ss) a b h k = absurd k
runs_decide events old [] (r ∷ rs) ss a b h k = absurd h
runs_decide events old (e ∷ es) [] ss a b h k = absurd h
runs_decide events old (e ∷ es) (r ∷ rs) [] a b h k = absurd k
runs_decide events old (e ∷ es) (r ∷ rs) (s ∷ ss) a b h k =
    let first = events old e r s h.0 k.0 h.1 k.1 in
    let rest = runs_decide events k.0 es rs ss a b (subst (λ (x : RegionState). Run x es rs a) first.1 h.2) k.2 in
    (λ i. first.0 i ∷ rest.0 i, rest.1)
