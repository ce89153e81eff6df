-- A program that a key starts finds the COMMAREA that was kept for it.
use Rattle.std.proofs.Common.{◌≡◌, ℕ, zero, suc, ◌+◌, ◌^◌, ◌<◌, ◌≤◌, true, false, Option, Some, None, is_some, List, [], ◌∷◌, length, refl, sym, ◌∙◌, ap, subst, arith, inl}
use Rattle.std.specs.Prelude.{◌==◌, MatchOption}
use Rattle.std.specs.Option.{option_and_then, option_map, option_map_or}
use Rattle.std.specs.Int.{w16, w32, to_be_bytes}
use Rattle.std.proofs.lemmas.Option.{same_Some}
use Rattle.cx_base.specs.declared.eib.EibField.TheVariants as field
use Rattle.cx_base.specs.Eib.{eib_field, eib_len}
use Rattle.cx_base.specs.Facts.Lookups.{lookup-set_value-same}
use Rattle.cx_base.specs.Facts.Tables.{found_meets}
use Rattle.cx_ebcdic.specs.Aids.{key_of}
use Rattle.cx_ebcdic.specs.Facts.Names.{is_name-laws}
use Rattle.cx_ebcdic.specs.Names.{is_name}
use Rattle.cx_load.specs.declared.program.Loaded.{Loaded}
use Rattle.cx_storage.specs.declared.areas.Owner.{Owner}
use Rattle.cx_storage.specs.Address.{address_after}
use Rattle.cx_storage.specs.Place.{IsLeastPlace}
use Rattle.cx_storage.specs.Storage.{Storage, after_write, area_at, area_from, byte_at, span, with_area, IsSoundStorage}
use Rattle.cx_storage.specs.Facts.Areas.{area_span}
use Rattle.cx_storage.specs.Facts.Sound.{sound_with_area}
use Rattle.cx_storage.specs.Facts.Spans.{span_at, span_first, span_from, span_has}
use Rattle.cx_storage.specs.Facts.Writes.{span_after_write}
use Rattle.cx_storage.specs.Word.{word_at}
use Rattle.cx_region_state.specs.Eib.{Content, content, packed_decimal, with_field, with_fields}
use Rattle.cx_region_state.specs.declared.inputs.StorageSpan.{StorageSpan}
use Rattle.cx_region_state.specs.declared.verdict.NewLevel.{NewLevel}
use Rattle.cx_region_state.specs.Areas.{IsSoundProgram, entry_level, first_of_tasks, last_of_tasks, length_or_zero, system_owner, with_cap}
use Rattle.cx_region_state.specs.Facts.Areas.{area_put}
use Rattle.cx_region_state.specs.State.{Input, TaskState}
use Rattle.cx_region.specs.declared.asking.Places.{Places}
use Rattle.cx_region.specs.declared.replies.KeyReply.TheVariants as key
use Rattle.cx_region.specs.Attach.{ArePlaced, AttachesTask, Attaches, Gives, IsCopyPlace, OnlyAnswers, StartsTask, TakesKey, commarea_kept, eib_at_attach, first_level, fresh_task, next_number, transaction_named, with_areas_filled, with_copy, with_eib_area, with_kept_area, with_task, with_task_areas}
use Rattle.cx_region.specs.Sound.{IsSound}
use Rattle.cx_region.specs.State.{RegionState, TerminalState}
use Rattle.cx_region.specs.Tables.{program_of, task_of, terminal_of, transaction_of, with_terminal}
use Rattle.cx_region_laws.specs.Laws.Commareas.{AttachedCalenIsTheLevels, AttachedFindCommareas, FindsCommarea}
use Rattle.cx_region_laws.specs.Laws.Reports.{field_at}
use Rattle.cx_region_laws.proofs.ClearLemmas.{placed_ends}
use Rattle.cx_region_laws.proofs.CommareaLemmas.{cap_apart, cap_of, cap_stands, word_from}
use Rattle.cx_region_laws.proofs.EibLemmas.{IsEibThere, field_apart, field_here, fields_agree, there_field}
use Rattle.cx_region_laws.proofs.ReportLemmas.{some_of}
use Rattle.cx_region_laws.proofs.StandLemmas.{KeepsPresent, area_present, spans_kept, write_present}
use Rattle.cx_region_laws.proofs.StayingLemmas.{inside_apart}

-- ---- the key
record IsAttached (old : RegionState) (name : List ℕ) (terminal : TerminalState) (input : Input) (new : RegionState) : Type 0 where
  tran : List ℕ
  program : List ℕ
  loaded : Loaded
  found : program_of old program ≡ Some loaded
  attaches : AttachesTask old name terminal input tran program loaded new

attached : (old new : RegionState) (name : List ℕ) (input : Input) (terminal : TerminalState) → TakesKey old name input key.Attached new → terminal_of old name ≡ Some terminal
    → IsAttached old name terminal input new
unfolding TakesKey
attached old new name input terminal takes there = by_task terminal.task (by_terminal (terminal_of old name) there takes)
  where
    tran : List ℕ
    tran = transaction_named terminal.entry.following input.bytes

    by_terminal : (o : Option TerminalState) → o ≡ Some terminal
        → MatchOption o (OnlyAnswers key.NoSuchTerminal old key.Attached new) (λ terminal.
        MatchOption terminal.task (StartsTask old name terminal input (transaction_named terminal.entry.following input.bytes) key.Attached new) (λ task. Gives old name terminal input key.Attached new))
        → MatchOption terminal.task (StartsTask old name terminal input tran key.Attached new) (λ task. Gives old name terminal input key.Attached new)
    by_terminal None e it = cc
    by_terminal (Some found) e it =
        let same : found ≡ terminal = same_Some found terminal e in
        subst (λ (t : TerminalState). MatchOption t.task (StartsTask old name t input (transaction_named t.entry.following input.bytes) key.Attached new) (λ task. Gives old name t input key.Attached new)) same it

    by_program : (program : List ℕ) (o : Option Loaded) → program_of old program ≡ o
        → MatchOption o (OnlyAnswers key.NoSuchTransaction old key.Attached new) (λ loaded. Attaches old name terminal input tran program loaded key.Attached new) → IsAttached old name terminal input new
    by_program program None e it = let never : key.Attached ≡ key.NoSuchTransaction = it.0 in cc
    by_program program (Some loaded) e it = record { tran = tran; program = program; loaded = loaded; found = e; attaches = it }

    by_transaction : (o : Option (List ℕ)) → MatchOption o (OnlyAnswers key.NoSuchTransaction old key.Attached new) (λ program.
        MatchOption (program_of old program) (OnlyAnswers key.NoSuchTransaction old key.Attached new) (λ loaded. Attaches old name terminal input tran program loaded key.Attached new))
        → IsAttached old name terminal input new
    by_transaction None it = let never : key.Attached ≡ key.NoSuchTransaction = it.0 in cc
    by_transaction (Some program) it = by_program program (program_of old program) refl it

    by_input : Gives old name terminal input key.Attached new → IsAttached old name terminal input new
    by_input it = go terminal.entry.input it
      where
        go : (o : Option Input) → MatchOption o ((key.Attached ≡ key.Given) × (new ≡ with_terminal old name (record terminal { entry = record terminal.entry { input = Some input } }))) (λ held. OnlyAnswers key.AlreadyHeldInput old key.Attached new)
            → IsAttached old name terminal input new
        go None it = let never : key.Attached ≡ key.Given = it.0 in cc
        go (Some held) it = let never : key.Attached ≡ key.AlreadyHeldInput = it.0 in cc

    by_task : (o : Option TaskState) → MatchOption o (StartsTask old name terminal input tran key.Attached new) (λ task. Gives old name terminal input key.Attached new) → IsAttached old name terminal input new
    by_task None it = by_transaction (transaction_of old tran) it
    by_task (Some task) it = by_input it

-- ---- storage
some_long : (n : ℕ) → (n == 0) ≡ false → 0 < n
some_long zero e = cc
some_long (suc n) e = omega arith

copy_sound : (s : Storage) (owner : Owner) (len : ℕ) (copy : Option ℕ) → IsSoundStorage s → IsCopyPlace s len copy → IsSoundStorage (with_area s copy len owner)
unfolding with_area
copy_sound s owner len None ok placed = ok
copy_sound s owner len (Some place) ok placed = sound_with_area s 0x200000 0xFFFFFF len (Some place) owner ok (omega arith) (some_long len placed.0) placed.1

copy_present : (s : Storage) (owner : Owner) (len : ℕ) (copy : Option ℕ) → KeepsPresent s (with_area s copy len owner)
unfolding with_area
copy_present s owner len None x e = e
copy_present s owner len (Some place) x e = area_present s place len owner x e

field_present : (s : Storage) (eib : ℕ) (c : Content) → KeepsPresent s (with_field s eib c)
unfolding with_field
field_present s eib c x e = write_present s (address_after eib (eib_field c.field).offset) c.bytes x e

fields_present : (s : Storage) (eib : ℕ) (fields : List Content) → KeepsPresent s (with_fields s eib fields)
fields_present s eib [] x e = e
fields_present s eib (c ∷ cs) x e = fields_present (with_field s eib c) eib cs x (field_present s eib c x e)

filled_present : (s : Storage) (copy : Option ℕ) (bytes : List ℕ) → KeepsPresent s (with_copy s copy bytes)
unfolding with_copy
filled_present s None bytes x e = e
filled_present s (Some place) bytes x e = write_present s place bytes x e

-- the copy is written where nothing was
copy_apart : (s t : Storage) (copy : Option ℕ) (bytes : List ℕ) (x b : ℕ) → IsCopyPlace s (length bytes) copy → x < 2 ^ 24 → byte_at s x ≡ Some b
    → byte_at (with_copy t copy bytes) x ≡ byte_at t x
unfolding with_copy
copy_apart s t None bytes x b placed low was = refl
copy_apart s t (Some place) bytes x b placed low was =
    let ends = placed_ends s (length bytes) place placed.1 in
    let some = some_long (length bytes) placed.0 in
    let at : address_after place 0 ≡ place = omega (arith, ends, some) in
    rw at at (inside_apart s t (length bytes) place 0 bytes x b placed.1 (omega arith) low was)

copy_is : (s : Storage) (place : ℕ) (bytes : List ℕ) (n : ℕ) → span (with_copy s (Some place) bytes) place n ≡ span (after_write s place bytes) place n
unfolding with_copy
copy_is s place bytes n = refl

-- EIBCALEN is written before EIBAID
calen_written : (s : Storage) (region : RegionState) (name tran : List ℕ) (len : ℕ) (input : Input) (eib : ℕ) → eib + eib_len ≤ 2 ^ 24 → IsEibThere s eib
    → field_at (with_fields s eib (eib_at_attach region name tran len input.aid)) eib field.Calen ≡ Some (to_be_bytes w16 len)
calen_written s region name tran len input eib ends there =
    let one = with_field s eib (content field.Time (packed_decimal region.time)) in
    let two = with_field one eib (content field.Date (packed_decimal region.date)) in
    let three = with_field two eib (content field.Trnid tran) in
    let four = with_field three eib (content field.Taskn (packed_decimal (next_number region.counter))) in
    let five = with_field four eib (content field.Trmid name) in
    let six = with_field five eib (content field.Calen (to_be_bytes w16 len)) in
    let there5 : IsEibThere five eib = there_field four eib field.Trmid name
    (there_field three eib field.Taskn (packed_decimal (next_number region.counter)) (there_field two eib field.Trnid tran
    (there_field one eib field.Date (packed_decimal region.date) (there_field s eib field.Time (packed_decimal region.time) there)))) in
    field_apart six eib field.Calen field.Aid ((key_of input.aid).code ∷ []) ends (omega arith) (omega arith) (inl (omega arith))
    ∙ field_here five eib field.Calen (to_be_bytes w16 len) ends there5 (omega arith) (omega arith) refl

-- ---- what the program finds
task_new : (old : RegionState) (name : List ℕ) (terminal made : TerminalState) (task : TaskState) (o : Option TerminalState) → o ≡ Some made → made.task ≡ Some task → option_and_then (λ (t : TerminalState). t.task) o ≡ Some task
task_new old name terminal made task o e f = ap (λ (o : Option TerminalState). option_and_then (λ (t : TerminalState). t.task) o) e ∙ f

task_eib : (level : NewLevel) (eib : ℕ) (tran : List ℕ) (number : ℕ) → (fresh_task tran number eib level).eib ≡ eib
unfolding fresh_task
task_eib level eib tran number = refl

task_stg : (level : NewLevel) (eib : ℕ) (tran : List ℕ) (number : ℕ) → (fresh_task tran number eib level).levels.current.stg ≡ level.stg
unfolding fresh_task entry_level
task_stg level eib tran number = refl

-- storage with the areas filled
record IsFilled (s z : Storage) (eib : ℕ) (level : NewLevel) (kept : List ℕ) : Type 0 where
  calen : field_at z eib field.Calen ≡ Some (to_be_bytes w16 (length kept))
  cap : span z (address_after level.stg 76) 4 ≡ Some (to_be_bytes w32 (cap_of level))
  small : cap_of level < 2 ^ 32
  there : span z (cap_of level) (length kept) ≡ Some kept
  none : kept ≡ [] → cap_of level ≡ 0

filled : (old : RegionState) (name tran program : List ℕ) (input : Input) (loaded : Loaded) (areas : Places) (slot : ℕ) (kept : List ℕ) → IsSoundStorage old.shared.storage → IsSoundProgram loaded
    → ArePlaced old.shared.storage (system_owner slot) (length kept) loaded.stg_len areas
    → IsFilled old.shared.storage (with_areas_filled (with_task_areas old.shared.storage (system_owner slot) (length kept) loaded.stg_len areas) areas (eib_at_attach old name tran (length kept) input.aid) kept
    (first_level program loaded (length kept) areas)) areas.eib (first_level program loaded (length kept) areas) kept
unfolding with_areas_filled IsLeastPlace span
filled old name tran program input loaded areas slot kept ok sound placed =
    record {
      calen =
          fields_agree fields_in z eib field.Calen ends (omega arith) (λ x from to.
          let b1 = some_of (byte_at one x) (there1 x from to) in
          let b2 = some_of (byte_at two x) (copy_present one owner len areas.commarea x (there1 x from to)) in
          cap_apart two copied level x b2.0 placed.stg long (omega (arith, ends, to)) b2.1
          ∙ copy_apart one fields_in areas.commarea kept x b1.0 placed.commarea (omega (arith, ends, to)) b1.1)
          ∙ calen_written three old name tran len input eib ends there3;
      cap = cap_stands copied level (omega (arith, stg_ends, long)) (spans_kept three copied (λ x e. filled_present fields_in areas.commarea kept x (fields_present three eib fields x e)) (level.stg + 76) 4 stg_present);
      small = by_copy.0;
      there = by_copy.1.0;
      none = by_copy.1.1;
    }
  where
    owner : Owner
    owner = system_owner slot

    len : ℕ
    len = length kept

    eib : ℕ
    eib = areas.eib

    level : NewLevel
    level = first_level program loaded len areas

    fields : List Content
    fields = eib_at_attach old name tran len input.aid

    one : Storage
    one = with_eib_area old.shared.storage owner eib

    two : Storage
    two = with_kept_area old.shared.storage owner len eib areas.commarea

    three : Storage
    three = with_task_areas old.shared.storage owner len loaded.stg_len areas

    fields_in : Storage
    fields_in = with_fields three eib fields

    copied : Storage
    copied = with_copy fields_in areas.commarea kept

    z : Storage
    z = with_cap copied level

    long : 80 ≤ loaded.stg_len
    long = sound.stg_low

    ends : eib + eib_len ≤ 2 ^ 24
    ends = placed_ends old.shared.storage eib_len eib placed.eib

    stg_ends : areas.stg + loaded.stg_len ≤ 2 ^ 24
    stg_ends = placed_ends two loaded.stg_len areas.stg placed.stg

    ok1 : IsSoundStorage one
    ok1 = sound_with_area old.shared.storage 0x200000 0xFFFFFF eib_len (Some eib) owner ok (omega arith) (omega arith) placed.eib

    ok2 : IsSoundStorage two
    ok2 = copy_sound one owner len areas.commarea ok1 placed.commarea

    ok3 : IsSoundStorage three
    ok3 = sound_with_area two 0x200000 0xFFFFFF loaded.stg_len (Some areas.stg) owner ok2 (omega arith) (omega (arith, long)) placed.stg

    there1 : IsEibThere one eib
    there1 x from to =
        span_first one x 1
        (area_span one eib (area_from eib eib_len owner) x 1 ok1 (area_put old.shared.storage first_of_tasks last_of_tasks eib_len eib owner ok (omega arith) placed.eib.0) from (omega (arith, to))) (omega arith)

    there3 : IsEibThere three eib
    there3 x from to = area_present two areas.stg loaded.stg_len owner x (copy_present one owner len areas.commarea x (there1 x from to))

    stg_present : is_some (span three (level.stg + 76) 4) ≡ true
    stg_present =
        area_span three areas.stg (area_from areas.stg loaded.stg_len owner) (areas.stg + 76) 4 ok3
        (area_put two first_of_tasks last_of_tasks loaded.stg_len areas.stg owner ok2 (omega (arith, long)) placed.stg.0) (omega arith) (omega (arith, long))

    Found : ℕ → Type 0
    Found place = (place < 2 ^ 32) × ((span z place len ≡ Some kept) × (kept ≡ [] → place ≡ 0))

    none_kept : (l : List ℕ) → length l ≡ 0 → l ≡ []
    none_kept [] e = refl
    none_kept (b ∷ bs) e = absurd (omega (arith, e))

    in_copy : (place : ℕ) → IsCopyPlace one len (Some place) → areas.commarea ≡ Some place → Found place
    in_copy place spot is =
        let some = some_long len spot.0 in
        let copy_ends = placed_ends one len place spot.1 in
        let low : place < 2 ^ 24 = omega (arith, some, copy_ends) in
        let put : area_at (with_area one (Some place) len owner) place ≡ Some (area_from place len owner) = area_put one first_of_tasks last_of_tasks len place owner ok1 some spot.1.0 in
        let area2 : area_at two place ≡ Some (area_from place len owner) = ap (λ (o : Option ℕ). area_at (with_area one o len owner) place) is ∙ put in
        let span2 = area_span two place (area_from place len owner) place len ok2 area2 (omega arith) (omega arith) in
        let present : is_some (span fields_in place len) ≡ true =
        spans_kept two fields_in (λ x e. fields_present three eib fields x (area_present two areas.stg loaded.stg_len owner x e)) place len span2 in
        let written : span (after_write fields_in place kept) place len ≡ Some kept = span_after_write fields_in place kept low (omega (arith, copy_ends)) present in
        let in_copied : span copied place len ≡ Some kept = ap (λ (o : Option ℕ). span (with_copy fields_in o kept) place len) is ∙ copy_is fields_in place kept len ∙ written in (
          omega (arith, low),
          (
            span_from z place len kept low refl (λ k less.
                let b = some_of (byte_at two (address_after place k)) (span_has two place len k low span2 less) in
                cap_apart two copied level (address_after place k) b.0 placed.stg long (omega arith) b.1 ∙ span_at copied place len kept k low in_copied less),
            λ e. absurd (omega (arith, some, ap length e)),
          ),
        )

    by_place : (o : Option ℕ) → areas.commarea ≡ o → IsCopyPlace one len o → Found (option_map_or (λ (piece : StorageSpan). piece.place) (option_map (λ at. record { place = at; len = len }) o) 0)
    by_place None e spot = (omega arith, (rw spot (ap Some (sym (none_kept kept spot))), λ e. refl))
    by_place (Some place) e spot = in_copy place spot e

    by_copy : Found (cap_of level)
    by_copy = by_place areas.commarea refl placed.commarea

-- the program finds it, and EIBCALEN is its level's
record HasBegun (new : RegionState) (task : TaskState) (kept : List ℕ) : Type 0 where
  finds : FindsCommarea new.shared.storage task kept
  calen : task.levels.current.calen ≡ length kept

task_calen : (level : NewLevel) (eib : ℕ) (tran : List ℕ) (number : ℕ) → (fresh_task tran number eib level).levels.current.calen ≡ length_or_zero level.commarea
unfolding fresh_task entry_level
task_calen level eib tran number = refl

copy_long : (s : Storage) (len : ℕ) (copy : Option ℕ) → IsCopyPlace s len copy → length_or_zero (option_map (λ at. record { place = at; len = len }) copy) ≡ len
copy_long s len None placed = sym placed
copy_long s len (Some place) placed = refl

has_begun : (old new : RegionState) (name : List ℕ) (input : Input) (terminal : TerminalState) (task : TaskState) → IsSound old → TakesKey old name input key.Attached new
    → terminal_of old name ≡ Some terminal → task_of new name ≡ Some task → HasBegun new task (commarea_kept terminal.entry.following)
has_begun old new name input terminal task ok takes there given =
    let it = attached old new name input terminal takes there in
    let kept = commarea_kept terminal.entry.following in
    let sound : IsSoundProgram it.loaded = found_meets IsSoundProgram (is_name it.program) old.shared.programs it.loaded ok.programs_sound it.found in
    let areas = it.attaches.areas in
    let level = first_level it.program it.loaded (length kept) areas in
    let made = fresh_task it.tran (next_number old.counter) areas.eib level in
    let stores = filled old name it.tran it.program input it.loaded areas terminal.entry.slot kept ok.storage sound it.attaches.placed in
    let put : terminal_of new name ≡ Some (with_task terminal input made) =
    ap (λ (r : RegionState). terminal_of r name) it.attaches.after
    ∙ lookup-set_value-same is_name is_name-laws old.terminals name terminal (with_task terminal input made) there in
    let is : task ≡ made = same_Some task made (sym given ∙ task_new old name terminal (with_task terminal input made) made (terminal_of new name) put refl) in
    let storage = ap (λ (r : RegionState). r.shared.storage) it.attaches.after in
    let z = with_areas_filled (with_task_areas old.shared.storage (system_owner terminal.entry.slot) (length kept) it.loaded.stg_len areas) areas (eib_at_attach old name it.tran (length kept) input.aid) kept level in
    let finds : FindsCommarea z made kept = record {
      calen = ap (λ (n : ℕ). field_at z n field.Calen) (task_eib level areas.eib it.tran (next_number old.counter)) ∙ stores.calen;
      place = cap_of level;
      cap = ap (λ (n : ℕ). word_at z (address_after n 76)) (task_stg level areas.eib it.tran (next_number old.counter)) ∙ word_from z (address_after level.stg 76) (cap_of level) stores.small stores.cap;
      there = stores.there;
      none = stores.none;
    } in
    record {
      finds = subst (λ (s : Storage). FindsCommarea s task kept) (sym storage) (subst (λ (t : TaskState). FindsCommarea z t kept) (sym is) finds);
      calen =
          ap (λ (t : TaskState). t.levels.current.calen) is ∙ task_calen level areas.eib it.tran (next_number old.counter)
          ∙ copy_long (with_eib_area old.shared.storage (system_owner terminal.entry.slot) areas.eib) (length kept) areas.commarea it.attaches.placed.commarea;
    }

pub attached_find_commareas : AttachedFindCommareas
attached_find_commareas old new name input terminal task ok takes there given = (has_begun old new name input terminal task ok takes there given).finds

pub attached_calen : AttachedCalenIsTheLevels
attached_calen old new name input terminal task ok takes there given =
    let begun = has_begun old new name input terminal task ok takes there given in
    begun.finds.calen ∙ ap (λ (n : ℕ). Some (to_be_bytes w16 n)) (sym begun.calen)
