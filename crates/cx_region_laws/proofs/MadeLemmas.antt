-- What a command makes leaves each byte that is there, and the order of areas.
use Rattle.std.proofs.Common.{◌≡◌, ℕ, ◌^◌, ◌<◌, ◌≤◌, Option, Some, None, List, [], length, refl, sym, ◌∙◌, ap, subst, arith}
use Rattle.std.specs.Option.{option_map_or}
use Rattle.std.specs.Int.{w32, to_be_bytes}
use Rattle.cx_storage.specs.declared.areas.Owner.{Owner}
use Rattle.cx_storage.specs.Address.{address_after}
use Rattle.cx_storage.specs.Storage.{Storage, after_write, byte_at, with_area, AreOrdered, IsSoundStorage}
use Rattle.cx_storage.specs.Facts.Sound.{sound_with_area}
use Rattle.cx_storage.specs.Facts.Writes.{areas_after_write}
use Rattle.cx_region_state.specs.declared.verdict.TaskChange.{TaskChange}
use Rattle.cx_region_state.specs.declared.verdict.TaskChange.TheVariants.{Nothing, Before, After, Gets, Enters, Replaces, LevelEnds, TaskEnds, AbendsWith}
use Rattle.cx_region_state.specs.declared.verdict.Copying.{Copying}
use Rattle.cx_region_state.specs.declared.verdict.BeforeOutputs.{BeforeOutputs}
use Rattle.cx_region_state.specs.declared.verdict.BeforeOutputs.TheVariants as made
use Rattle.cx_region_state.specs.declared.verdict.NewLevel.{NewLevel}
use Rattle.cx_region_state.specs.Areas.{IsTaskPlace, bytes_in, got_owner, system_owner, with_cap, with_copied, with_copy_area, with_filled, with_stg_area}
use Rattle.cx_region_state.specs.State.{TaskContext}
use Rattle.cx_region_state.specs.Parts.Fits.{FitsChange, FitsCopy, FitsLevel}
use Rattle.cx_region_task.specs.Changes.{AppliesBefore, fill_bytes, with_got, with_replacement, with_stg}
use Rattle.cx_region_laws.proofs.AppliedLemmas.{bytes_fit, fill_fits, four_bytes}
use Rattle.cx_region_laws.proofs.ClearLemmas.{placed_ends}
use Rattle.cx_region_laws.proofs.StayingLemmas.{area_leaves, inside_leaves, order_of, ordered_same}

-- each byte that is there stays, and areas are in order
pub record Stays (s t : Storage) : Type 0 where
  pub bytes : (x b : ℕ) → x < 2 ^ 24 → byte_at s x ≡ Some b → byte_at t x ≡ Some b
  pub ordered : AreOrdered t

stays_same : (s t : Storage) → IsSoundStorage s → t ≡ s → Stays s t
stays_same s t ok e = subst (Stays s) (sym e) (record { bytes = λ x b low at. at; ordered = order_of s ok })

-- ---- an area got
area_sound : (s : Storage) (len a : ℕ) (owner : Owner) → IsSoundStorage s → 0 < len → IsTaskPlace s len (Some a) → IsSoundStorage (with_area s (Some a) len owner)
area_sound s len a owner ok some least = sound_with_area s 0x200000 0xFFFFFF len (Some a) owner ok (omega arith) some least

write_ordered : (s : Storage) (a : ℕ) (bytes : List ℕ) → AreOrdered s → AreOrdered (after_write s a bytes)
write_ordered s a bytes ok = ordered_same s (after_write s a bytes) (areas_after_write s a bytes) ok

-- bytes written from the start of a fresh area
start_leaves : (s t : Storage) (len a : ℕ) (bytes : List ℕ) (x b : ℕ) → IsTaskPlace s len (Some a) → a < 2 ^ 24 → length bytes ≤ len → x < 2 ^ 24
    → byte_at s x ≡ Some b → byte_at t x ≡ Some b → byte_at (after_write t a bytes) x ≡ Some b
start_leaves s t len a bytes x b least low fits below was there =
    let at : address_after a 0 ≡ a = omega (arith, low) in
    rw at at (inside_leaves s t len a 0 bytes x b least (omega (arith, fits)) below was there)

filled_stays : (s : Storage) (a len : ℕ) (owner : Owner) (bytes : List ℕ) → IsSoundStorage s → 0 < len → a < 2 ^ 24 → IsTaskPlace s len (Some a) → length bytes ≤ len → Stays s (with_filled s a len owner bytes)
unfolding with_filled
filled_stays s a len owner bytes ok some low least fits =
    record {
      bytes = λ x b below at. start_leaves s (with_area s (Some a) len owner) len a bytes x b least low fits below at (area_leaves s len a x b owner least at);
      ordered = write_ordered (with_area s (Some a) len owner) a bytes (order_of (with_area s (Some a) len owner) (area_sound s len a owner ok some least));
    }

-- ---- a level's DFHEISTG
cap_leaves : (s t : Storage) (level : NewLevel) (x b : ℕ) → IsTaskPlace s level.loaded.stg_len (Some level.stg) → 80 ≤ level.loaded.stg_len → x < 2 ^ 24
    → byte_at s x ≡ Some b → byte_at t x ≡ Some b → byte_at (with_cap t level) x ≡ Some b
unfolding with_cap
cap_leaves s t level x b least long low was there =
    let four = four_bytes (option_map_or (λ piece. piece.place) level.commarea 0) in
    inside_leaves s t level.loaded.stg_len level.stg 76 (to_be_bytes w32 (option_map_or (λ piece. piece.place) level.commarea 0)) x b least (omega (arith, four, long)) low was there

pub cap_ordered : (s : Storage) (level : NewLevel) → AreOrdered s → AreOrdered (with_cap s level)
unfolding with_cap
cap_ordered s level ok = write_ordered s (address_after level.stg 76) _ ok

stg_stays : (s : Storage) (slot : ℕ) (level : NewLevel) → IsSoundStorage s → FitsLevel s level → Stays s (with_stg s slot level)
unfolding with_stg
stg_stays s slot level ok fits =
    let long = fits.program.stg_low in
    record {
      bytes = λ x b low at. cap_leaves s (with_stg_area s slot level) level x b fits.place long low at (area_leaves s level.loaded.stg_len level.stg x b (system_owner slot) fits.place at);
      ordered = cap_ordered (with_stg_area s slot level) level (order_of (with_stg_area s slot level) (area_sound s level.loaded.stg_len level.stg (system_owner slot) ok (omega (arith, long)) fits.place));
    }

-- ---- a level in place of another
pub copy_sound : (s : Storage) (slot : ℕ) (copying : Option Copying) → IsSoundStorage s → FitsCopy copying s → IsSoundStorage (with_copy_area s slot copying)
unfolding with_copy_area
copy_sound s slot None ok fits = ok
copy_sound s slot (Some copying) ok fits = area_sound s copying.from.len copying.to (system_owner slot) ok fits.some fits.place

pub copy_leaves : (s : Storage) (slot : ℕ) (copying : Option Copying) (x b : ℕ) → FitsCopy copying s → byte_at s x ≡ Some b → byte_at (with_copy_area s slot copying) x ≡ Some b
unfolding with_copy_area
copy_leaves s slot None x b fits at = at
copy_leaves s slot (Some copying) x b fits at = area_leaves s copying.from.len copying.to x b (system_owner slot) fits.place at

copied_leaves : (s t : Storage) (copying : Option Copying) (bytes : List ℕ) (x b : ℕ) → FitsCopy copying s → length bytes ≤ option_map_or (λ copying. copying.from.len) copying 0 → x < 2 ^ 24
    → byte_at s x ≡ Some b → byte_at t x ≡ Some b → byte_at (with_copied t copying bytes) x ≡ Some b
unfolding with_copied
copied_leaves s t None bytes x b fits few low was there = there
copied_leaves s t (Some copying) bytes x b fits few low was there =
    let some = fits.some in
    let ends = placed_ends s copying.from.len copying.to fits.place in
    start_leaves s t copying.from.len copying.to bytes x b fits.place (omega (arith, some, ends)) few low was there

pub copied_ordered : (s : Storage) (copying : Option Copying) (bytes : List ℕ) → AreOrdered s → AreOrdered (with_copied s copying bytes)
unfolding with_copied
copied_ordered s None bytes ok = ok
copied_ordered s (Some copying) bytes ok = write_ordered s copying.to bytes ok

copied_few : (s : Storage) (copying : Option Copying)
    → length (option_map_or (λ (copying : Copying). bytes_in s copying.from) copying []) ≤ option_map_or (λ (copying : Copying). copying.from.len) copying 0
copied_few s None = omega arith
copied_few s (Some copying) = bytes_fit s copying.from

replacement_stays : (s : Storage) (slot : ℕ) (copying : Option Copying) (level : NewLevel) → IsSoundStorage s → FitsCopy copying s → FitsLevel (with_copy_area s slot copying) level
    → Stays s (with_replacement s slot copying level)
unfolding with_replacement
replacement_stays s slot copying level ok copy fits =
    let long = fits.program.stg_low in
    let one = with_copy_area s slot copying in
    let two = with_stg_area one slot level in
    let bytes = option_map_or (λ (copying : Copying). bytes_in s copying.from) copying [] in
    let three = with_copied two copying bytes in
    let one_ok = copy_sound s slot copying ok copy in
    record {
      bytes = λ x b low at.
          let first = copy_leaves s slot copying x b copy at in
          let second = area_leaves one level.loaded.stg_len level.stg x b (system_owner slot) fits.place first in
          let third = copied_leaves s two copying bytes x b copy (copied_few s copying) low at second in
          cap_leaves one three level x b fits.place long low first third;
      ordered = cap_ordered three level (copied_ordered two copying bytes (order_of two (area_sound one level.loaded.stg_len level.stg (system_owner slot) one_ok (omega (arith, long)) fits.place)));
    }

-- ---- each change
at_once : (before made to : TaskContext) → made ≡ to → IsSoundStorage before.shared.storage → to.shared.storage ≡ before.shared.storage → Stays before.shared.storage made.shared.storage
at_once before made to e ok same = stays_same before.shared.storage made.shared.storage ok (ap (λ (r : TaskContext). r.shared.storage) e ∙ same)

stays_at : (before made to : TaskContext) → made ≡ to → Stays before.shared.storage to.shared.storage → Stays before.shared.storage made.shared.storage
stays_at before made to e stays = subst (λ (r : TaskContext). Stays before.shared.storage r.shared.storage) (sym e) stays

made_stays : (it : BeforeOutputs) (before after : TaskContext) → IsSoundStorage before.shared.storage → AppliesBefore (Before it) before after → Stays before.shared.storage after.shared.storage
unfolding AppliesBefore
made_stays (made.ItemLast name piece) before after ok applied = at_once before after _ applied ok refl
made_stays (made.ItemAt name n piece) before after ok applied = at_once before after _ applied ok refl
made_stays (made.Enqueues resource) before after ok applied = at_once before after _ applied ok refl
made_stays (made.Shows piece erase) before after ok applied = at_once before after _ applied.others ok refl
made_stays (made.Handles request) before after ok applied = at_once before after _ applied ok refl

pub applied_stays : (change : TaskChange) (before after : TaskContext) → IsSoundStorage before.shared.storage → FitsChange change before → AppliesBefore change before after
    → Stays before.shared.storage after.shared.storage
unfolding AppliesBefore with_got
applied_stays Nothing before after ok fits applied = at_once before after _ applied ok refl
applied_stays (Before it) before after ok fits applied = made_stays it before after ok applied
applied_stays (After it) before after ok fits applied = at_once before after _ applied ok refl
applied_stays (Gets got) before after ok fits applied =
    let s = before.shared.storage in
    let some = fits.some in
    let ends = placed_ends s got.len got.place fits.place in
    stays_at before after _ applied
    (filled_stays s got.place got.len (got_owner before.terminal_entry.slot) (fill_bytes got.fill got.len before.shared.queues) ok some (omega (arith, some, ends)) fits.place (fill_fits got.fill got.len before fits.fill))
applied_stays (Enters level) before after ok fits applied = stays_at before after _ applied (stg_stays before.shared.storage before.terminal_entry.slot level ok fits.begins)
applied_stays (Replaces copying level) before after ok fits applied =
    stays_at before after _ applied (replacement_stays before.shared.storage before.terminal_entry.slot copying level ok fits.copy fits.begins)
applied_stays LevelEnds before after ok fits applied = at_once before after _ applied ok refl
applied_stays (TaskEnds next) before after ok fits applied = at_once before after _ applied ok refl
applied_stays (AbendsWith code cancel) before after ok fits applied = at_once before after _ applied ok refl
