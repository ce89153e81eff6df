-- What a command makes leaves the areas of others as they were.
use Rattle.std.proofs.Common.{◌≡◌, ℕ, ◌+◌, ◌^◌, ◌<◌, ◌≤◌, Option, Some, None, List, [], length, refl, sym, ◌∙◌, ap, subst, arith}
use Rattle.std.specs.Prelude.{unwrap_or}
use Rattle.std.specs.Option.{option_map, option_map_or}
use Rattle.std.specs.Int.{w32, to_be_bytes}
use Rattle.std.proofs.lemmas.List.{length-replicate}
use Rattle.cx_storage.specs.declared.areas.Owner.{Owner}
use Rattle.cx_storage.specs.Address.{address_after}
use Rattle.cx_storage.specs.Storage.{Storage, span, with_area, after_write}
use Rattle.cx_storage.specs.Facts.Spans.{span_length}
use Rattle.cx_region_state.specs.declared.inputs.StorageSpan.{StorageSpan}
use Rattle.cx_region_state.specs.declared.verdict.TaskChange.{TaskChange}
use Rattle.cx_region_state.specs.declared.verdict.TaskChange.TheVariants.{Nothing, Before, After, Gets, Enters, Replaces, LevelEnds, TaskEnds, AbendsWith}
use Rattle.cx_region_state.specs.declared.verdict.Copying.{Copying}
use Rattle.cx_region_state.specs.declared.verdict.Fill.{Fill}
use Rattle.cx_region_state.specs.declared.verdict.Fill.TheVariants.{Byte, Item}
use Rattle.cx_region_state.specs.declared.verdict.BeforeOutputs.{BeforeOutputs}
use Rattle.cx_region_state.specs.declared.verdict.BeforeOutputs.TheVariants as made
use Rattle.cx_region_state.specs.declared.verdict.NewLevel.{NewLevel}
use Rattle.cx_region_state.specs.Areas.{IsTaskPlace, bytes_in, got_owner, system_owner, with_cap, with_copied, with_copy_area, with_filled, with_stg_area}
use Rattle.cx_region_state.specs.State.{TaskContext}
use Rattle.cx_region_state.specs.Parts.Fits.{FitsChange, FitsCopy, FitsFill, FitsLevel}
use Rattle.cx_region_task.specs.Changes.{AppliesBefore, fill_bytes, with_got, with_replacement, with_stg}
use Rattle.cx_region_laws.specs.Laws.Bytes.{others_storage}
use Rattle.cx_region_laws.proofs.OthersLemmas.{Uncovered, own_put, own_write}
use Rattle.cx_region_laws.proofs.ClearLemmas.{placed_ends, placed_uncovered}

-- none of some consecutive addresses below 2^24 is one of others' areas
pub record Own (slot : ℕ) (s : Storage) (base len : ℕ) : Type 0 where
  pub ends : base + len ≤ 2 ^ 24
  pub clear : (x : ℕ) → base ≤ x → x < base + len → Uncovered (others_storage slot s) x

pub own_same : (slot : ℕ) (s t : Storage) (base len : ℕ) → others_storage slot t ≡ others_storage slot s → Own slot s base len → Own slot t base len
own_same slot s t base len e own =
    record { ends = own.ends; clear = λ x low high. subst (λ (o : Storage). Uncovered o x) (sym e) (own.clear x low high) }

pub write_in : (slot : ℕ) (s : Storage) (base len off : ℕ) (bytes : List ℕ) → Own slot s base len → off + length bytes ≤ len
    → others_storage slot (after_write s (address_after base off) bytes) ≡ others_storage slot s
write_in slot s base len off bytes own fits =
    let ends = own.ends in
    own_write slot s (address_after base off) bytes (omega arith) (λ k less.
    let at : address_after (address_after base off) k ≡ base + off + k = omega (arith, ends, fits, less) in
    subst (λ (y : ℕ). Uncovered (others_storage slot s) y) (sym at) (own.clear (base + off + k) (omega arith) (omega (arith, fits, less))))

write_at : (slot : ℕ) (s : Storage) (base len : ℕ) (bytes : List ℕ) → Own slot s base len → 0 < len → length bytes ≤ len
    → others_storage slot (after_write s base bytes) ≡ others_storage slot s
write_at slot s base len bytes own some fits =
    let ends = own.ends in
    own_write slot s base bytes (omega (arith, ends, some)) (λ k less.
    let at : address_after base k ≡ base + k = omega (arith, ends, fits, less) in
    subst (λ (y : ℕ). Uncovered (others_storage slot s) y) (sym at) (own.clear (base + k) (omega arith) (omega (arith, fits, less))))

placed_own : (slot : ℕ) (s : Storage) (len place : ℕ) → IsTaskPlace s len (Some place) → Own slot s place len
placed_own slot s len place least = record { ends = placed_ends s len place least; clear = λ x low high. placed_uncovered s slot len place x least low high }

-- ---- an area got
filled_others : (slot : ℕ) (s : Storage) (place len : ℕ) (owner : Owner) (bytes : List ℕ) → 0 < len → IsTaskPlace s len (Some place) → owner.slot ≡ slot → length bytes ≤ len
    → others_storage slot (with_filled s place len owner bytes) ≡ others_storage slot s
unfolding with_filled
filled_others slot s place len owner bytes some least own fits =
    let put = own_put slot s place len owner own in
    write_at slot (with_area s (Some place) len owner) place len bytes (own_same slot s (with_area s (Some place) len owner) place len put (placed_own slot s len place least)) some fits ∙ put

pub fill_fits : (fill : Fill) (len : ℕ) (r : TaskContext) → FitsFill fill len r → length (fill_bytes fill len r.shared.queues) ≤ len
fill_fits (Byte b) len r fits = omega (arith, length-replicate len b)
fill_fits (Item name n) len r fits = go _ fits
  where
    go : (o : Option (List ℕ)) → option_map length o ≡ Some len → length (unwrap_or o []) ≤ len
    go None e = cc
    go (Some bytes) e = let is : length bytes ≡ len = cc in omega (arith, is)

-- ---- a level's DFHEISTG
pub four_bytes : (n : ℕ) → length (to_be_bytes w32 n) ≡ 4
four_bytes n = refl

cap_others : (slot : ℕ) (s : Storage) (level : NewLevel) → Own slot s level.stg level.loaded.stg_len → 80 ≤ level.loaded.stg_len
    → others_storage slot (with_cap s level) ≡ others_storage slot s
unfolding with_cap
cap_others slot s level own long =
    let four = four_bytes (option_map_or (λ piece. piece.place) level.commarea 0) in
    write_in slot s level.stg level.loaded.stg_len 76 (to_be_bytes w32 (option_map_or (λ piece. piece.place) level.commarea 0)) own (omega (arith, four, long))

level_others : (slot : ℕ) (s : Storage) (level : NewLevel) → FitsLevel s level → others_storage slot (with_stg s slot level) ≡ others_storage slot s
unfolding with_stg
level_others slot s level fits =
    let put : others_storage slot (with_stg_area s slot level) ≡ others_storage slot s = own_put slot s level.stg level.loaded.stg_len (system_owner slot) refl in
    let own = own_same slot s (with_stg_area s slot level) level.stg level.loaded.stg_len put (placed_own slot s level.loaded.stg_len level.stg fits.place) in
    cap_others slot (with_stg_area s slot level) level own fits.program.stg_low ∙ put

-- ---- a level in place of another
copy_area_others : (slot : ℕ) (s : Storage) (copying : Option Copying) → others_storage slot (with_copy_area s slot copying) ≡ others_storage slot s
unfolding with_copy_area
copy_area_others slot s None = refl
copy_area_others slot s (Some copying) = own_put slot s copying.to copying.from.len (system_owner slot) refl

pub bytes_fit : (s : Storage) (piece : StorageSpan) → length (bytes_in s piece) ≤ piece.len
bytes_fit s piece = go (span s piece.place piece.len) (λ bytes e. span_length s piece.place piece.len bytes e)
  where
    go : (o : Option (List ℕ)) → ((bytes : List ℕ) → o ≡ Some bytes → length bytes ≡ piece.len) → length (unwrap_or o []) ≤ piece.len
    go None long = omega arith
    go (Some bytes) long = let is = long bytes refl in omega (arith, is)

copied_others : (slot : ℕ) (s t : Storage) (copying : Option Copying) → FitsCopy copying s → others_storage slot t ≡ others_storage slot s
    → others_storage slot (with_copied t copying (option_map_or (λ copying. bytes_in s copying.from) copying [])) ≡ others_storage slot t
unfolding with_copied
copied_others slot s t None fits e = refl
copied_others slot s t (Some copying) fits e =
    write_at slot t copying.to copying.from.len (bytes_in s copying.from) (own_same slot s t copying.to copying.from.len e (placed_own slot s copying.from.len copying.to fits.place)) fits.some (bytes_fit s copying.from)

replaced_others : (slot : ℕ) (s : Storage) (copying : Option Copying) (level : NewLevel) → FitsCopy copying s → FitsLevel (with_copy_area s slot copying) level
    → others_storage slot (with_replacement s slot copying level) ≡ others_storage slot s
unfolding with_replacement
replaced_others slot s copying level copy fits =
    let one = with_copy_area s slot copying in
    let two = with_stg_area one slot level in
    let three = with_copied two copying (option_map_or (λ copying. bytes_in s copying.from) copying []) in
    let first = copy_area_others slot s copying in
    let second : others_storage slot two ≡ others_storage slot one = own_put slot one level.stg level.loaded.stg_len (system_owner slot) refl in
    let third = copied_others slot s two copying copy (second ∙ first) in
    let own = own_same slot one three level.stg level.loaded.stg_len (third ∙ second) (placed_own slot one level.loaded.stg_len level.stg fits.place) in
    cap_others slot three level own fits.program.stg_low ∙ third ∙ second ∙ first

-- ---- each change
at_storage : (slot : ℕ) (made to : TaskContext) → made ≡ to → others_storage slot made.shared.storage ≡ others_storage slot to.shared.storage
at_storage slot made to e = ap (λ (r : TaskContext). others_storage slot r.shared.storage) e

made_others : (it : BeforeOutputs) (slot : ℕ) (before made : TaskContext) → AppliesBefore (Before it) before made → others_storage slot made.shared.storage ≡ others_storage slot before.shared.storage
unfolding AppliesBefore
made_others (made.ItemLast name piece) slot before after applied = at_storage slot after _ applied
made_others (made.ItemAt name n piece) slot before after applied = at_storage slot after _ applied
made_others (made.Enqueues resource) slot before after applied = at_storage slot after _ applied
made_others (made.Shows piece erase) slot before after applied = at_storage slot after _ applied.others
made_others (made.Handles request) slot before after applied = at_storage slot after _ applied

pub applied_others : (change : TaskChange) (before after : TaskContext) → FitsChange change before → AppliesBefore change before after
    → others_storage before.terminal_entry.slot after.shared.storage ≡ others_storage before.terminal_entry.slot before.shared.storage
unfolding AppliesBefore with_got
applied_others Nothing before after fits applied = at_storage before.terminal_entry.slot after _ applied
applied_others (Before it) before after fits applied = made_others it before.terminal_entry.slot before after applied
applied_others (After it) before after fits applied = at_storage before.terminal_entry.slot after _ applied
applied_others (Gets got) before after fits applied =
    at_storage before.terminal_entry.slot after _ applied
    ∙ filled_others before.terminal_entry.slot before.shared.storage got.place got.len (got_owner before.terminal_entry.slot) (fill_bytes got.fill got.len before.shared.queues) fits.some fits.place refl (fill_fits got.fill got.len before fits.fill)
applied_others (Enters level) before after fits applied =
    at_storage before.terminal_entry.slot after _ applied ∙ level_others before.terminal_entry.slot before.shared.storage level fits.begins
applied_others (Replaces copying level) before after fits applied =
    at_storage before.terminal_entry.slot after _ applied ∙ replaced_others before.terminal_entry.slot before.shared.storage copying level fits.copy fits.begins
applied_others LevelEnds before after fits applied = at_storage before.terminal_entry.slot after _ applied
applied_others (TaskEnds next) before after fits applied = at_storage before.terminal_entry.slot after _ applied
applied_others (AbendsWith code cancel) before after fits applied = at_storage before.terminal_entry.slot after _ applied

-- ---- the task's own areas stay its own
pub record SameTask (before after : TaskContext) : Type 0 where
  pub slot : after.terminal_entry.slot ≡ before.terminal_entry.slot
  pub eib : after.task.eib ≡ before.task.eib
  pub callers : after.task.levels.callers ≡ before.task.levels.callers
  pub stg : after.task.levels.current.stg ≡ before.task.levels.current.stg

pub task_at : (before to after : TaskContext) → after ≡ to → SameTask before to → SameTask before after
task_at before to after e same =
    record {
      slot = ap (λ (r : TaskContext). r.terminal_entry.slot) e ∙ same.slot;
      eib = ap (λ (r : TaskContext). r.task.eib) e ∙ same.eib;
      callers = ap (λ (r : TaskContext). r.task.levels.callers) e ∙ same.callers;
      stg = ap (λ (r : TaskContext). r.task.levels.current.stg) e ∙ same.stg;
    }

pub task_on : (before between after : TaskContext) → SameTask before between → SameTask between after → SameTask before after
task_on before between after one two =
    record { slot = two.slot ∙ one.slot; eib = two.eib ∙ one.eib; callers = two.callers ∙ one.callers; stg = two.stg ∙ one.stg }

made_task : (it : BeforeOutputs) (before after : TaskContext) → AppliesBefore (Before it) before after → SameTask before after
unfolding AppliesBefore
made_task (made.ItemLast name piece) before after applied = task_at before _ after applied (record { slot = refl; eib = refl; callers = refl; stg = refl })
made_task (made.ItemAt name n piece) before after applied = task_at before _ after applied (record { slot = refl; eib = refl; callers = refl; stg = refl })
made_task (made.Enqueues resource) before after applied = task_at before _ after applied (record { slot = refl; eib = refl; callers = refl; stg = refl })
made_task (made.Shows piece erase) before after applied = task_at before _ after applied.others (record { slot = refl; eib = refl; callers = refl; stg = refl })
made_task (made.Handles request) before after applied = task_at before _ after applied (record { slot = refl; eib = refl; callers = refl; stg = refl })

pub applied_task : (change : TaskChange) (before after : TaskContext) → AppliesBefore change before after → SameTask before after
unfolding AppliesBefore
applied_task Nothing before after applied = task_at before _ after applied (record { slot = refl; eib = refl; callers = refl; stg = refl })
applied_task (Before it) before after applied = made_task it before after applied
applied_task (After it) before after applied = task_at before _ after applied (record { slot = refl; eib = refl; callers = refl; stg = refl })
applied_task (Gets got) before after applied = task_at before _ after applied (record { slot = refl; eib = refl; callers = refl; stg = refl })
applied_task (Enters level) before after applied = task_at before _ after applied (record { slot = refl; eib = refl; callers = refl; stg = refl })
applied_task (Replaces copying level) before after applied = task_at before _ after applied (record { slot = refl; eib = refl; callers = refl; stg = refl })
applied_task LevelEnds before after applied = task_at before _ after applied (record { slot = refl; eib = refl; callers = refl; stg = refl })
applied_task (TaskEnds next) before after applied = task_at before _ after applied (record { slot = refl; eib = refl; callers = refl; stg = refl })
applied_task (AbendsWith code cancel) before after applied = task_at before _ after applied (record { slot = refl; eib = refl; callers = refl; stg = refl })
