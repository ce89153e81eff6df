-- A key by what it asks for, and what it keeps.
use Rattle.std.proofs.Common.{◌≡◌, ◌⊎◌, inl, inr, ℕ, true, false, is_some, Option, Some, None, List, length, refl, sym, ◌∙◌, ap, subst}
use Rattle.std.specs.Prelude.{MatchOption, ⊤}
use Rattle.std.proofs.lemmas.Option.{none-some, same_Some}
use Rattle.std.specs.Map.{lookup, set_value}
use Rattle.cx_storage.specs.Storage.{Storage, IsSoundStorage}
use Rattle.cx_region_state.specs.Eib.{Content, fields_at_attach}
use Rattle.cx_ebcdic.specs.declared.aids.Aid.{Aid}
use Rattle.cx_ebcdic.specs.Aids.{key_of}
use Rattle.cx_region_state.specs.declared.verdict.NewLevel.{NewLevel}
use Rattle.cx_region_state.specs.Areas.{system_owner}
use Rattle.cx_region_state.specs.State.{Input, SharedState, TaskState}
use Rattle.cx_region.specs.declared.asking.KeyEffect.TheVariants.{Answer}
use Rattle.cx_region.specs.declared.asking.Start.{Start}
use Rattle.cx_region.specs.declared.replies.KeyReply.{KeyReply}
use Rattle.cx_region.specs.declared.replies.KeyReply.TheVariants as key
use Rattle.cx_region.specs.State.{RegionState, TerminalState}
use Rattle.cx_ebcdic.specs.Names.{is_name}
use Rattle.cx_region.specs.Tables.{program_of, terminal_of, transaction_of, with_terminal}
use Rattle.cx_region.specs.Attach.{ArePlaced, AttachesTask, Attaches, Gives, HasNoPlaces, KeyTakesMemory, TakesKey, OnlyAnswers, StartsTask, commarea_kept, eib_at_attach, input_from, with_areas_filled, next_number, transaction_named, with_task, with_task_areas}
use Rattle.cx_region.specs.declared.asking.Places.{Places}
use Rattle.cx_region.specs.Parts.Asking.{Asks, Giving, Starting, input_with, level_of, task_of_start}
use Rattle.cx_region.specs.Parts.Placing.{HasNoPlacesFor, IsReadyTask}
use Rattle.cx_region.specs.Sound.{IsSound}
use Rattle.cx_region.specs.Facts.SoundAttach.{of_found, of_none, of_some, sound_attached, sound_given}

-- ---- an answer that is due with no change
some_of : {T : Type 0} (o : Option T) → is_some o ≡ true → (t : T) × o ≡ Some t
some_of None e = cc
some_of (Some t) e = (t, refl)

none_of : {T : Type 0} (o : Option T) → is_some o ≡ false → o ≡ None
none_of None e = refl
none_of (Some t) e = cc

pub key_nowhere : (r : RegionState) (name : List ℕ) (input : Input) → terminal_of r name ≡ None → TakesKey r name input key.NoSuchTerminal r
unfolding TakesKey
key_nowhere r name input none = rw none (refl, refl)

pub key_held : (r : RegionState) (name : List ℕ) (input : Input) (t : TerminalState) → terminal_of r name ≡ Some t → is_some t.task ≡ true → is_some t.entry.input ≡ true
    → TakesKey r name input key.AlreadyHeldInput r
unfolding TakesKey
key_held r name input t there live is =
    let task = some_of t.task live in
    let held = some_of t.entry.input is in
    rw there (rw task.1 (rw held.1 (refl, refl)))

pub key_giving : (r : RegionState) (name : List ℕ) (t : TerminalState) → terminal_of r name ≡ Some t → is_some t.task ≡ true → is_some t.entry.input ≡ false → Giving r name
key_giving r name t there live none =
    let task = some_of t.task live in
    record { terminal = t; there = there; task = task.0; live = task.1; none = none_of t.entry.input none }

pub key_unknown : (r : RegionState) (name : List ℕ) (input : Input) (t : TerminalState) → terminal_of r name ≡ Some t → t.task ≡ None
    → transaction_of r (transaction_named t.entry.following input.bytes) ≡ None → TakesKey r name input key.NoSuchTransaction r
unfolding TakesKey
key_unknown r name input t there idle none = rw there (rw idle (rw none (refl, refl)))

pub key_unloaded : (r : RegionState) (name : List ℕ) (input : Input) (t : TerminalState) (program : List ℕ) → terminal_of r name ≡ Some t → t.task ≡ None
    → transaction_of r (transaction_named t.entry.following input.bytes) ≡ Some program → program_of r program ≡ None → TakesKey r name input key.NoSuchTransaction r
unfolding TakesKey
key_unloaded r name input t program there idle defined none = rw there (rw idle (rw defined (rw none (refl, refl))))

pub keyed_answer : (r : RegionState) (name : List ℕ) (aid : Aid) (bytes sent : List ℕ) (due : KeyReply) → sent ≡ (input_from aid bytes).bytes
    → Asks r name sent (Answer due) → TakesKey r name (input_from aid bytes) due r
unfolding input_from
keyed_answer r name aid bytes sent due is asks = subst (λ (b : List ℕ). TakesKey r name (input_with aid b) due r) is (asks aid)

-- ---- what a key that is asked for so does
pub keyed_given : (r new : RegionState) (name : List ℕ) (input : Input) (giving : Giving r name) → new ≡ with_terminal r name (record giving.terminal { entry = record giving.terminal.entry { input = Some input } }) → TakesKey r name input key.Given new
unfolding TakesKey
keyed_given r new name input giving is =
    of_some _ (λ t. MatchOption t.task (StartsTask r name t input (transaction_named t.entry.following input.bytes) key.Given new) (λ task. Gives r name t input key.Given new)) (terminal_of r name) giving.terminal giving.there
    (of_some _ (λ task. Gives r name giving.terminal input key.Given new) giving.terminal.task giving.task giving.live
    (of_none _ (λ held. OnlyAnswers key.AlreadyHeldInput r key.Given new) giving.terminal.entry.input giving.none (refl, is)))

pub from_some : {T : Type 0} (A : Type 0) (P : T → Type 0) (o : Option T) (t : T) → o ≡ Some t → MatchOption o A P → P t
from_some A P None t e h = absurd (none-some t e)
from_some A P (Some u) t e h = subst P (same_Some u t e) h

from_none : {T : Type 0} (A : Type 0) (P : T → Type 0) (o : Option T) → o ≡ None → MatchOption o A P → A
from_none A P None e h = h
from_none A P (Some u) e h = absurd (none-some u (sym e))

-- what is due at a terminal, by its task
at_terminal : (r new : RegionState) (name : List ℕ) (input : Input) (answer : KeyReply) (t : TerminalState) → terminal_of r name ≡ Some t → TakesKey r name input answer new
    → MatchOption t.task (StartsTask r name t input (transaction_named t.entry.following input.bytes) answer new) (λ task. Gives r name t input answer new)
unfolding TakesKey
at_terminal r new name input answer t there takes =
    from_some (OnlyAnswers key.NoSuchTerminal r answer new)
    (λ t. MatchOption t.task (StartsTask r name t input (transaction_named t.entry.following input.bytes) answer new) (λ task. Gives r name t input answer new))
    (terminal_of r name) t there takes

pub given_grows : (r : RegionState) (name : List ℕ) (input : Input) → Giving r name → KeyTakesMemory r name input
unfolding KeyTakesMemory
given_grows r name input giving = λ answer new takes.
    let t = giving.terminal in
    let gives : Gives r name t input answer new =
    from_some (StartsTask r name t input (transaction_named t.entry.following input.bytes) answer new) (λ (task : TaskState). Gives r name t input answer new) t.task giving.task giving.live
    (at_terminal r new name input answer t giving.there takes) in
    let given : (answer ≡ key.Given) × (new ≡ with_terminal r name (record t { entry = record t.entry { input = Some input } })) =
    from_none ((answer ≡ key.Given) × (new ≡ with_terminal r name (record t { entry = record t.entry { input = Some input } }))) (λ (held : Input). OnlyAnswers key.AlreadyHeldInput r answer new) t.entry.input giving.none gives in
    inr given.0

pub keyed_start : (r new : RegionState) (name : List ℕ) (input : Input) (start : Start) (starting : Starting r name input.bytes start) (reply : KeyReply)
    → Attaches r name starting.terminal input start.tran start.program start.loaded reply new → TakesKey r name input reply new
unfolding TakesKey
keyed_start r new name input start starting reply h =
    of_some _ (λ t. MatchOption t.task (StartsTask r name t input (transaction_named t.entry.following input.bytes) reply new) (λ task. Gives r name t input reply new)) (terminal_of r name) starting.terminal starting.there
    (of_none _ (λ task. Gives r name starting.terminal input reply new) starting.terminal.task starting.idle
    (subst (λ (tran : List ℕ). StartsTask r name starting.terminal input tran reply new) starting.tran
    (of_some _ (λ program. MatchOption (program_of r program) (OnlyAnswers key.NoSuchTransaction r reply new) (λ loaded. Attaches r name starting.terminal input start.tran program loaded reply new))
    (transaction_of r start.tran) start.program starting.defined
    (of_some _ (λ loaded. Attaches r name starting.terminal input start.tran start.program loaded reply new) (program_of r start.program) start.loaded starting.program h))))

start_answer : (r new : RegionState) (name : List ℕ) (input : Input) (start : Start) (starting : Starting r name input.bytes start) (answer : KeyReply) → TakesKey r name input answer new
    → Attaches r name starting.terminal input start.tran start.program start.loaded answer new
start_answer r new name input start starting answer takes =
    let t = starting.terminal in
    let starts : StartsTask r name t input start.tran answer new =
    subst (λ (tran : List ℕ). StartsTask r name t input tran answer new) (sym starting.tran)
    (from_none (StartsTask r name t input (transaction_named t.entry.following input.bytes) answer new) (λ (task : TaskState). Gives r name t input answer new) t.task starting.idle
    (at_terminal r new name input answer t starting.there takes)) in
    let defined : MatchOption (program_of r start.program) (OnlyAnswers key.NoSuchTransaction r answer new) (λ loaded. Attaches r name t input start.tran start.program loaded answer new) =
    from_some (OnlyAnswers key.NoSuchTransaction r answer new)
    (λ program. MatchOption (program_of r program) (OnlyAnswers key.NoSuchTransaction r answer new) (λ loaded. Attaches r name t input start.tran program loaded answer new))
    (transaction_of r start.tran) start.program starting.defined starts in
    from_some (OnlyAnswers key.NoSuchTransaction r answer new) (λ loaded. Attaches r name t input start.tran start.program loaded answer new) (program_of r start.program) start.loaded starting.program defined

pub start_grows : (r : RegionState) (name : List ℕ) (input : Input) (start : Start) → Starting r name input.bytes start → (HasNoPlacesFor r.shared.storage start → ⊥) → KeyTakesMemory r name input
unfolding KeyTakesMemory
start_grows r name input start starting there = λ answer new takes. go answer new (start_answer r new name input start starting answer takes)
  where
    go : (answer : KeyReply) (new : RegionState) → Attaches r name starting.terminal input start.tran start.program start.loaded answer new → (answer ≡ key.Attached) ⊎ (answer ≡ key.Given)
    go key.Attached new it = inl refl
    go key.NoStorage new it = absurd (there (rw (starting.slot, starting.calen) it.0))
    go key.Given new it = inr refl
    go key.AlreadyHeldInput new it = absurd it
    go key.NoSuchTerminal new it = absurd it
    go key.NoSuchTransaction new it = absurd it

pub no_places : (r : RegionState) (name bytes : List ℕ) (start : Start) (starting : Starting r name bytes start) → HasNoPlaces r.shared.storage (system_owner start.slot) start.calen start.loaded.stg_len
    → HasNoPlaces r.shared.storage (system_owner starting.terminal.entry.slot) (length (commarea_kept starting.terminal.entry.following)) start.loaded.stg_len
no_places r name bytes start starting none = rw (← starting.slot, ← starting.calen) none

-- ---- what attach leaves
pub attached_is : (r v : RegionState) (name bytes : List ℕ) (start : Start) (starting : Starting v name bytes start) (input : Input) (places : Places) (number : ℕ) (s : Storage) (ts : List (List ℕ × TerminalState))
    → r ≡ v → number ≡ next_number r.counter → ArePlaced r.shared.storage (system_owner start.slot) start.calen start.loaded.stg_len places
    → s ≡ with_areas_filled (with_task_areas r.shared.storage (system_owner start.slot) start.calen start.loaded.stg_len places) places (eib_at_attach r name start.tran start.calen input.aid) (commarea_kept starting.terminal.entry.following) (level_of start places)
    → ts ≡ set_value (is_name name) r.terminals (with_task starting.terminal input (task_of_start start (next_number r.counter) places))
    → AttachesTask v name starting.terminal input start.tran start.program start.loaded (record r { shared = record r.shared { storage = s }; terminals = ts; counter = number })
attached_is r v name bytes start starting input places number s ts e n placed is is_ts =
    record {
      areas = places;
      placed = rw (← starting.slot, ← starting.calen, ← e) placed;
      after = rw (is, is_ts, n, e, ← starting.slot, ← starting.calen) refl;
    }

-- the fields that the code lists are those in the EIB
pub fields_are : (r : RegionState) (name tran terminal : List ℕ) (number code : ℕ) (start : Start) (aid : Aid) → tran ≡ start.tran → terminal ≡ name → number ≡ next_number r.counter → code ≡ (key_of aid).code
    → fields_at_attach (record { time = r.time; date = r.date; tran = tran; number = number; terminal = terminal; calen = start.calen; aid = code }) ≡ eib_at_attach r name start.tran start.calen aid
fields_are r name tran terminal number code start aid at on n by = rw (at, on, n, by) refl

pub entries_at : (terminals : List (List ℕ × TerminalState)) (counter : ℕ) (name : List ℕ) (terminal : TerminalState) (start : Start) (held input : Input) (task : TaskState) (number : ℕ) (places : Places) (ts : List (List ℕ × TerminalState))
    → ts ≡ set_value (is_name name) terminals (with_task terminal held task) → held ≡ input → task ≡ task_of_start start number places → number ≡ next_number counter
    → ts ≡ set_value (is_name name) terminals (with_task terminal input (task_of_start start (next_number counter) places))
entries_at terminals counter name terminal start held input task number places ts is e f n = is ∙ rw (e, f, n) refl

-- ---- the whole of an attach
-- a region with what tasks share, its terminals and its counter
abbrev pub with_shared : RegionState → SharedState → List (List ℕ × TerminalState) → ℕ → RegionState
with_shared r shared terminals counter =
    record r { shared = shared; terminals = terminals; counter = counter }

rest_same : (r : RegionState) (mid after : SharedState) (terminals : List (List ℕ × TerminalState)) (number counter : ℕ) → mid ≡ record r.shared { storage = mid.storage } → after ≡ record mid { storage = after.storage } → number ≡ counter
    → with_shared r after terminals number ≡ record r { shared = record r.shared { storage = after.storage }; terminals = terminals; counter = counter }
rest_same r mid after terminals number counter e f n =
    let shared : after ≡ record r.shared { storage = after.storage } = f ∙ ap (λ (h : SharedState). record h { storage = after.storage }) e in
    λ i. record r { shared = shared i; terminals = terminals; counter = n i }

record AttachedParts (r : RegionState) (name bytes : List ℕ) (start : Start) (terminal : TerminalState) (input : Input) (fields : List Content) (places : Places) (level : NewLevel) (after : Storage) (ts : List (List ℕ × TerminalState)) : Type 0 where
  pub storage : after ≡ with_areas_filled (with_task_areas r.shared.storage (system_owner start.slot) start.calen start.loaded.stg_len places) places fields (commarea_kept terminal.entry.following) level
  pub terminals : ts ≡ set_value (is_name name) r.terminals (with_task terminal input (task_of_start start (next_number r.counter) places))

parts_of : (r : RegionState) (name bytes : List ℕ) (start : Start) (starting : Starting r name bytes start) (input held : Input) (fields : List Content) (places : Places) (level : NewLevel) (task : TaskState) (number : ℕ) (mid after : Storage) (ts : List (List ℕ × TerminalState))
    → IsReadyTask r.shared.storage start number input places level task held mid → number ≡ next_number r.counter
    → MatchOption (lookup (is_name name) r.terminals) ⊤ (λ terminal. after ≡ with_areas_filled mid places fields (commarea_kept terminal.entry.following) level)
    → MatchOption (lookup (is_name name) r.terminals) ⊤ (λ terminal. ts ≡ set_value (is_name name) r.terminals (with_task terminal held task))
    → AttachedParts r name bytes start starting.terminal input fields places level after ts
parts_of r name bytes start starting input held fields places level task number mid after ts ready n is is_ts =
    record {
      storage = of_found (λ terminal. after ≡ with_areas_filled mid places fields (commarea_kept terminal.entry.following) level) (lookup (is_name name) r.terminals) starting.terminal starting.there is
          ∙ ap (λ (s : Storage). with_areas_filled s places fields (commarea_kept starting.terminal.entry.following) level) ready.made;
      terminals = entries_at r.terminals r.counter name starting.terminal start held input task number places ts
          (of_found (λ terminal. ts ≡ set_value (is_name name) r.terminals (with_task terminal held task)) (lookup (is_name name) r.terminals) starting.terminal starting.there is_ts)
          ready.input_is ready.task_is n;
    }

pub sound_attach : (r : RegionState) (name bytes : List ℕ) (start : Start) (starting : Starting r name bytes start) (input held : Input) (fields : List Content) (places : Places) (level : NewLevel) (task : TaskState) (number : ℕ) (mid after : SharedState) (ts : List (List ℕ × TerminalState))
    → IsSound r → IsSoundStorage after.storage → IsReadyTask r.shared.storage start number input places level task held mid.storage → number ≡ next_number r.counter
    → mid ≡ record r.shared { storage = mid.storage } → after ≡ record mid { storage = after.storage }
    → MatchOption (lookup (is_name name) r.terminals) ⊤ (λ terminal. after.storage ≡ with_areas_filled mid.storage places fields (commarea_kept terminal.entry.following) level)
    → MatchOption (lookup (is_name name) r.terminals) ⊤ (λ terminal. ts ≡ set_value (is_name name) r.terminals (with_task terminal held task))
    → IsSound (with_shared r after ts number)
sound_attach r name bytes start starting input held fields places level task number mid after ts ok sound ready n e f is is_ts =
    let parts = parts_of r name bytes start starting input held fields places level task number mid.storage after.storage ts ready n is is_ts in
    subst IsSound (sym (rest_same r mid after ts number (next_number r.counter) e f n))
    (sound_attached r name bytes start input places fields (commarea_kept starting.terminal.entry.following) level after.storage ts ok starting sound ready.placed parts.storage parts.terminals)

abbrev pub fields_begun : RegionState → Start → List ℕ → List ℕ → ℕ → ℕ → List Content
fields_begun r start tran terminal number code =
    fields_at_attach (record { time = r.time; date = r.date; tran = tran; number = number; terminal = terminal; calen = start.calen; aid = code })

pub keyed_attach : (r : RegionState) (name : List ℕ) (start : Start) (input held : Input) (starting : Starting r name input.bytes start) (tran terminal : List ℕ) (code : ℕ) (places : Places) (level : NewLevel) (task : TaskState) (number : ℕ) (mid after : SharedState) (ts : List (List ℕ × TerminalState))
    → IsReadyTask r.shared.storage start number input places level task held mid.storage → number ≡ next_number r.counter → tran ≡ start.tran → terminal ≡ name → code ≡ (key_of input.aid).code
    → mid ≡ record r.shared { storage = mid.storage } → after ≡ record mid { storage = after.storage }
    → MatchOption (lookup (is_name name) r.terminals) ⊤ (λ t. after.storage ≡ with_areas_filled mid.storage places (fields_begun r start tran terminal number code) (commarea_kept t.entry.following) level)
    → MatchOption (lookup (is_name name) r.terminals) ⊤ (λ t. ts ≡ set_value (is_name name) r.terminals (with_task t held task))
    → TakesKey r name input key.Attached (with_shared r after ts number)
keyed_attach r name start input held starting tran terminal code places level task number mid after ts ready n at on by e f is is_ts =
    let fields = fields_begun r start tran terminal number code in
    let fields_is : fields ≡ eib_at_attach r name start.tran start.calen input.aid = fields_are r name tran terminal number code start input.aid at on n by in
    let parts = parts_of r name input.bytes start starting input held fields places level task number mid.storage after.storage ts ready n is is_ts in
    let storage = parts.storage ∙ ap (λ (fs : List Content). with_areas_filled (with_task_areas r.shared.storage (system_owner start.slot) start.calen start.loaded.stg_len places) places fs (commarea_kept starting.terminal.entry.following) level) fields_is
    ∙ ap (λ (l : NewLevel). with_areas_filled (with_task_areas r.shared.storage (system_owner start.slot) start.calen start.loaded.stg_len places) places (eib_at_attach r name start.tran start.calen input.aid) (commarea_kept starting.terminal.entry.following) l) ready.level_is in
    keyed_start r (with_shared r after ts number) name input start starting key.Attached
    (subst (λ (v : RegionState). AttachesTask r name starting.terminal input start.tran start.program start.loaded v) (sym (rest_same r mid after ts number number e f refl))
    (attached_is r r name input.bytes start starting input places number after.storage ts refl n ready.placed storage parts.terminals))

pub keyed_unplaced : (r : RegionState) (name : List ℕ) (start : Start) (input : Input) → Starting r name input.bytes start → (mid : SharedState)
    → HasNoPlacesFor r.shared.storage start × (mid.storage ≡ r.shared.storage) → mid ≡ record r.shared { storage = mid.storage } → TakesKey r name input key.NoStorage (with_shared r mid r.terminals r.counter)
keyed_unplaced r name start input starting mid nowhere e =
    let same : with_shared r mid r.terminals r.counter ≡ r = ap (λ (h : SharedState). record r { shared = h }) e ∙ (λ i. record r { shared = record r.shared { storage = nowhere.1 i } }) in
    keyed_start r (with_shared r mid r.terminals r.counter) name input start starting key.NoStorage (no_places r name input.bytes start starting nowhere.0, same)

pub keyed_give : (r : RegionState) (name : List ℕ) (giving : Giving r name) (held input : Input) (ts : List (List ℕ × TerminalState))
    → MatchOption (lookup (is_name name) r.terminals) ⊤ (λ terminal. ts ≡ set_value (is_name name) r.terminals (record terminal { entry = record terminal.entry { input = Some held } })) → held ≡ input
    → TakesKey r name input key.Given (record r { terminals = ts })
keyed_give r name giving held input ts is same =
    let put = of_found (λ terminal. ts ≡ set_value (is_name name) r.terminals (record terminal { entry = record terminal.entry { input = Some held } })) (lookup (is_name name) r.terminals) giving.terminal giving.there is in
    let put_is : ts ≡ set_value (is_name name) r.terminals (record giving.terminal { entry = record giving.terminal.entry { input = Some input } }) = put ∙ ap (λ (x : Input). set_value (is_name name) r.terminals (record giving.terminal { entry = record giving.terminal.entry { input = Some x } })) same in
    keyed_given r (record r { terminals = ts }) name input giving (λ i. record r { terminals = put_is i })

pub sound_give : (r : RegionState) (name : List ℕ) (giving : Giving r name) (held : Input) (ts : List (List ℕ × TerminalState)) → IsSound r
    → MatchOption (lookup (is_name name) r.terminals) ⊤ (λ terminal. ts ≡ set_value (is_name name) r.terminals (record terminal { entry = record terminal.entry { input = Some held } }))
    → IsSound (record r { terminals = ts })
sound_give r name giving held ts ok is =
    sound_given r name held ts ok giving (of_found (λ terminal. ts ≡ set_value (is_name name) r.terminals (record terminal { entry = record terminal.entry { input = Some held } })) (lookup (is_name name) r.terminals) giving.terminal giving.there is)

-- of a region that is seen so
pub keyed_seen : (r v : RegionState) (name : List ℕ) (input : Input) (reply : KeyReply) (new : RegionState) → r ≡ v → TakesKey r name input reply new → TakesKey v name input reply new
keyed_seen r v name input reply new e h = subst (λ (k : RegionState). TakesKey k name input reply new) e h

pub memory_seen : (r v : RegionState) (name : List ℕ) (input : Input) → r ≡ v → KeyTakesMemory r name input → KeyTakesMemory v name input
memory_seen r v name input e h = subst (λ (k : RegionState). KeyTakesMemory k name input) e h
