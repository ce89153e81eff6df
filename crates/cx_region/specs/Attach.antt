-- A key of a terminal: a task is attached, or the input is held for the task that is there (Application Programmer's
-- Reference Manual, SC33-0077, "Terminal Control", "EXEC Interface Block"). The rules are this product's own.
use Rattle.std.specs.Prelude.{◌≡◌, ℕ, ◌+◌, ◌==◌, ◌⊎◌, Bool, true, false, if◌then◌else◌, List, [], length, take, min, position, Option, Some, None, unwrap_or, MatchOption}
use Rattle.std.specs.Option.{option_map, option_map_or}
use Rattle.cx_ebcdic.specs.declared.aids.Aid.{Aid}
use Rattle.cx_ebcdic.specs.declared.aids.Aid.TheVariants.{Clear, Pa1, Pa2}
use Rattle.cx_ebcdic.specs.Aids.{key_of}
use Rattle.cx_ebcdic.specs.Names.{pad}
use Rattle.cx_storage.specs.declared.areas.Owner.{Owner}
use Rattle.cx_storage.specs.Storage.{Storage, with_area, after_write}
use Rattle.cx_load.specs.declared.program.Loaded.{Loaded}
use Rattle.cx_program.specs.Levels.{highest}
use Rattle.cx_base.specs.Eib.{eib_len}
use Rattle.cx_region_state.specs.Eib.{Content, fields_at_attach, with_fields}
use Rattle.cx_region_state.specs.declared.inputs.StorageSpan.{StorageSpan}
use Rattle.cx_region_state.specs.declared.verdict.NewLevel.{NewLevel}
use Rattle.cx_region_state.specs.State.{Input, NextTransaction, TaskState}
use Rattle.cx_region_state.specs.Areas.{IsTaskPlace, entry_level, registers_of, system_owner, with_cap}
use Rattle.cx_region.specs.declared.asking.Places.{Places}
use Rattle.cx_region.specs.declared.replies.KeyReply.{KeyReply}
use Rattle.cx_region.specs.declared.replies.KeyReply.TheVariants as key
use Rattle.cx_region.specs.State.{TerminalState, RegionState}
use Rattle.cx_region.specs.Tables.{program_of, transaction_of, terminal_of, with_terminal}

-- ---- input
-- CLEAR, PA1 and PA2 send no data
abbrev pub sends_data : Aid → Bool
sends_data Clear = false
sends_data Pa1 = false
sends_data Pa2 = false
sends_data _ = true

unfoldable pub input_from : Aid → List ℕ → Input
input_from aid bytes = record { aid = aid; bytes = if sends_data aid then bytes else [] }

-- a transaction by the bytes of an input before its first blank, at most four
unfoldable pub first_word : List ℕ → List ℕ
first_word bytes = pad 4 (take (min 4 (unwrap_or (position (λ byte. byte == 0x40) bytes) (length bytes))) bytes)

-- the transaction: the terminal's next one, or the input's first word
abbrev pub transaction_named : Option NextTransaction → List ℕ → List ℕ
transaction_named following bytes = option_map_or (λ next. next.tran) following (first_word bytes)

-- the COMMAREA kept for it; no bytes where there is none
abbrev pub commarea_kept : Option NextTransaction → List ℕ
commarea_kept following = option_map_or (λ next. next.commarea) following []

-- ---- areas: the EIB, the copy of the COMMAREA where there is one, the DFHEISTG of the program
-- the copy's place: none for no bytes
abbrev pub IsCopyPlace : Storage → ℕ → Option ℕ → Type 0
IsCopyPlace storage len None = len ≡ 0
IsCopyPlace storage len (Some place) = (len == 0 ≡ false) × IsTaskPlace storage len (Some place)

-- storage with the first of the areas, with the first two, and with all three
abbrev pub with_eib_area : Storage → Owner → ℕ → Storage
with_eib_area storage owner eib = with_area storage (Some eib) eib_len owner

abbrev pub with_kept_area : Storage → Owner → ℕ → ℕ → Option ℕ → Storage
with_kept_area storage owner len eib copy = with_area (with_eib_area storage owner eib) copy len owner

abbrev pub with_task_areas : Storage → Owner → ℕ → ℕ → Places → Storage
with_task_areas storage owner len stg_len areas =
    with_area (with_kept_area storage owner len areas.eib areas.commarea) (Some areas.stg) stg_len owner

-- each area is placed where the ones before it leave the least place
pub record ArePlaced (storage : Storage) (owner : Owner) (len stg_len : ℕ) (areas : Places) : Type 0 where
  pub eib : IsTaskPlace storage eib_len (Some areas.eib)
  pub commarea : IsCopyPlace (with_eib_area storage owner areas.eib) len areas.commarea
  pub stg : IsTaskPlace (with_kept_area storage owner len areas.eib areas.commarea) stg_len (Some areas.stg)

-- no three such places are there
pub record HasNoPlaces (storage : Storage) (owner : Owner) (len stg_len : ℕ) : Type 0 where
  pub none : (areas : Places) → ArePlaced storage owner len stg_len areas → ⊥

-- ---- the task
-- the level with which a task begins: its program, where that is, the copy of its COMMAREA, and its DFHEISTG
abbrev pub first_level : List ℕ → Loaded → ℕ → Places → NewLevel
first_level program loaded len areas =
    let copy : Option StorageSpan = option_map (λ at. record { place = at; len = len }) areas.commarea in
    record { program = program; loaded = loaded; commarea = copy; stg = areas.stg }

unfoldable pub fresh_task : List ℕ → ℕ → ℕ → NewLevel → TaskState
fresh_task tran number eib level =
    record {
      tran = tran;
      number = number;
      eib = eib;
      levels = highest (entry_level level eib);
      regs = registers_of level eib;
      cc = 0;
      next = level.loaded.entry;
      due = false;
    }

-- the number of the next task: 9,999,999 is followed by 1
abbrev pub next_number : ℕ → ℕ
next_number counter = if counter == 9999999 then 1 else counter + 1

-- what is in the task's EIB: the clock, the transaction, the task's number, the terminal, the length of the COMMAREA,
-- the key
abbrev pub eib_at_attach : RegionState → List ℕ → List ℕ → ℕ → Aid → List Content
eib_at_attach region name tran len aid =
    fields_at_attach (record {
      time = region.time;
      date = region.date;
      tran = tran;
      number = next_number region.counter;
      terminal = name;
      calen = len;
      aid = (key_of aid).code;
    })

-- the bytes of the COMMAREA in its copy, where there is one
unfoldable pub with_copy : Storage → Option ℕ → List ℕ → Storage
with_copy storage None bytes = storage
with_copy storage (Some place) bytes = after_write storage place bytes

-- storage with the EIB's fields, the copy of the COMMAREA, and DFHEICAP of DFHEISTG filled
unfoldable pub with_areas_filled : Storage → Places → List Content → List ℕ → NewLevel → Storage
with_areas_filled storage areas fields commarea level =
    with_cap (with_copy (with_fields storage areas.eib fields) areas.commarea commarea) level

-- the terminal when its task starts: the next transaction is cleared, and the whole input is held
abbrev pub with_task : TerminalState → Input → TaskState → TerminalState
with_task terminal input task =
    record { entry = record terminal.entry { input = Some input; following = None }; task = Some task }

-- the region with a task attached at a terminal: of this transaction, at the entry of its program
abbrev pub with_task_attached : RegionState → List ℕ → TerminalState → Input → List ℕ → List ℕ → Loaded → Places
    → RegionState
with_task_attached region name terminal input tran program loaded areas =
    let kept = commarea_kept terminal.entry.following in
    let level = first_level program loaded (length kept) areas in
    let owner = system_owner terminal.entry.slot in
    let made = with_task_areas region.shared.storage owner (length kept) loaded.stg_len areas in
    let fields = eib_at_attach region name tran (length kept) input.aid in
    record (with_terminal region name
    (with_task terminal input (fresh_task tran (next_number region.counter) areas.eib level))) {
      shared = record region.shared { storage = with_areas_filled made areas fields kept level };
      counter = next_number region.counter;
    }

-- ---- the key
-- the task is attached, with its areas in their places
pub record AttachesTask (old : RegionState) (name : List ℕ) (terminal : TerminalState) (input : Input)
    (tran program : List ℕ) (loaded : Loaded) (new : RegionState) : Type 0 where
  pub areas : Places
  pub placed : ArePlaced old.shared.storage (system_owner terminal.entry.slot)
      (length (commarea_kept terminal.entry.following)) loaded.stg_len areas
  pub after : new ≡ with_task_attached old name terminal input tran program loaded areas

-- a task is attached where there are places for its areas; else the answer is NoStorage, and all is as before
abbrev pub Attaches : RegionState → List ℕ → TerminalState → Input → List ℕ → List ℕ → Loaded → KeyReply → RegionState
    → Type 0
Attaches old name terminal input tran program loaded key.Attached new =
    AttachesTask old name terminal input tran program loaded new
Attaches old name terminal input tran program loaded key.NoStorage new =
    HasNoPlaces old.shared.storage (system_owner terminal.entry.slot)
    (length (commarea_kept terminal.entry.following)) loaded.stg_len × (new ≡ old)
Attaches old name terminal input tran program loaded _ new = ⊥

-- the answer, with which all is as before
abbrev pub OnlyAnswers : KeyReply → RegionState → KeyReply → RegionState → Type 0
OnlyAnswers due old reply new = (reply ≡ due) × (new ≡ old)

-- of a terminal without a task: its transaction's program is started, where both are defined
abbrev pub StartsTask : RegionState → List ℕ → TerminalState → Input → List ℕ → KeyReply → RegionState → Type 0
StartsTask old name terminal input tran reply new =
    MatchOption (transaction_of old tran) (OnlyAnswers key.NoSuchTransaction old reply new) (λ program.
    MatchOption (program_of old program) (OnlyAnswers key.NoSuchTransaction old reply new) (λ loaded.
    Attaches old name terminal input tran program loaded reply new))

-- of a terminal with a task: the input is held for it, unless one is held already
abbrev pub Gives : RegionState → List ℕ → TerminalState → Input → KeyReply → RegionState → Type 0
Gives old name terminal input reply new =
    MatchOption terminal.entry.input
    ((reply ≡ key.Given)
    × (new ≡ with_terminal old name (record terminal { entry = record terminal.entry { input = Some input } })))
    (λ held. OnlyAnswers key.AlreadyHeldInput old reply new)

-- a key of a terminal with its input
unfoldable pub TakesKey : RegionState → List ℕ → Input → KeyReply → RegionState → Type 0
TakesKey old name input reply new =
    MatchOption (terminal_of old name) (OnlyAnswers key.NoSuchTerminal old reply new) (λ terminal.
    MatchOption terminal.task
    (StartsTask old name terminal input (transaction_named terminal.entry.following input.bytes) reply new)
    (λ task. Gives old name terminal input reply new))

-- a key may take memory: where the answer that is due to it is Attached or Given
unfoldable pub KeyTakesMemory : RegionState → List ℕ → Input → Type 0
KeyTakesMemory region name input =
    (answer : KeyReply) (new : RegionState) → TakesKey region name input answer new
    → (answer ≡ key.Attached) ⊎ (answer ≡ key.Given)
