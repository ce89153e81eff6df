use Rattle.std.proofs.Common.{ℕ, List, [], ◌∷◌, zero, suc, ◌%◌, ◌<◌, ◌≤◌, ◌^◌, length, get_or, ◌≡◌, ◌∙◌, None, true, false, rules, refl, arith}
use Rattle.std.proofs.lemmas.Bool.{eq-eqb, ne_eqb}
use Rattle.std.proofs.lemmas.Fn.{filter_same}
use Rattle.cx_storage.specs.Storage.{end_of, is_of_other_slot}
use Rattle.cx_storage.specs.declared.areas.Area.{Area}
use Rattle.cx_storage.specs.declared.areas.Kind.TheVariants.{Fixed}
use Rattle.cx_storage_pages.specs.declared.page.Page.{Page}
use Rattle.cx_storage_pages.specs.Parts.Shown.{IsShown}
use Rattle.cx_storage_pages.specs.Parts.Change.{Changes}
use Rattle.cx_storage_pages.specs.Pages.{byte_in_pages}
use Rattle.cx_storage_pages.proofs.ChangeLemmas.{area_fits, goes_in, slot_step, slot_kept, still_gone, goes_none, free_shows}
use Rattle.cx_storage_pages.proofs.store.free_slot_of.Goals as goal
use Rattle.cx_storage_pages.proofs.store.free_slot_of.Goals.{then-area-slot, else-area-slot, After-retain}

-- the area at an index, in the same areas
abbrev nowhere : Area
nowhere = record { start = 0; len = 0; owner = record { slot = 0; kind = Fixed } }

at_index : (found areas : List Area) (i : ℕ) → found ≡ areas → i < length found → get_or found i nowhere ≡ get_or areas i (get_or found i nowhere)
at_index found areas i same within = rw (← same) (any_default found i nowhere (get_or found i nowhere) within)
  where
    any_default : (some : List Area) (k : ℕ) (d e : Area) → k < length some → get_or some k d ≡ get_or some k e
    any_default [] k d e h = absurd (omega arith)
    any_default (a ∷ more) zero d e h = refl
    any_default (a ∷ more) (suc k) d e h = any_default more k d e (omega arith)

fits_in : (found areas : List Area) (pages : List Page) (i : ℕ) → IsShown areas pages → found ≡ areas → i < length found
    → ((get_or found i nowhere).start % 16 ≡ 0) × ((get_or found i nowhere).start < end_of (get_or found i nowhere)) × (end_of (get_or found i nowhere) ≤ 2 ^ 24)
fits_in found areas pages i shown same within = area_fits areas pages i (get_or found i nowhere) shown (rw same at within) (at_index found areas i same within)

pub clear_in-requires-clause-granule : goal.clear_in-requires-clause-granule
clear_in-requires-clause-granule c = (fits_in _ c.args.areas.now.items c.args.pages.now.items c.loop-area.area-index c.requires c.deref-area-items.ensures.value c.loop-area-test.true).0

pub clear_in-requires-clause-order : goal.clear_in-requires-clause-order
clear_in-requires-clause-order c = (fits_in _ c.args.areas.now.items c.args.pages.now.items c.loop-area.area-index c.requires c.deref-area-items.ensures.value c.loop-area-test.true).1

pub clear_in-requires-clause-low : goal.clear_in-requires-clause-low
clear_in-requires-clause-low c = (fits_in _ c.args.areas.now.items c.args.pages.now.items c.loop-area.area-index c.requires c.deref-area-items.ensures.value c.loop-area-test.true).2

pub loop-area-preserved : goal.loop-area-preserved
loop-area-preserved c =
    let areas = c.args.areas.now.items in
    let i = c.loop-area.area-index in
    let area = get_or c.deref-area-items.result.now i nowhere in
    let at = at_index c.deref-area-items.result.now areas i c.deref-area-items.ensures.value c.loop-area-test.true in
    let within : i < length areas = rw c.deref-area-items.ensures.value at c.loop-area-test.true in
    let keeps = is_of_other_slot c.args.slot in
    elim c.if-area-slot.branch [
      | then-area-slot w ↦
          let goes : keeps area ≡ false = rw (eq-eqb area.owner.slot c.args.slot w.if-area-slot.true) refl in
          rw w.pages-is (
            λ x. slot_step keeps areas c.args.pages.now.items (byte_in_pages c.loop-area.pages.items) (byte_in_pages w.clear_in.new.pages.items) i x area c.requires within at goes (c.loop-area.invariant.1 x) w.clear_in.ensures
                ∙ c.loop-area.invariant.0 x,
            λ x gone. still_gone area (byte_in_pages c.loop-area.pages.items) (byte_in_pages w.clear_in.new.pages.items) x (c.loop-area.invariant.1 x gone) w.clear_in.ensures,
          )
      | else-area-slot w ↦
          let stays : keeps area ≡ true = rw (ne_eqb area.owner.slot c.args.slot w.if-area-slot.false) refl in
          rw w.pages-is (
            λ x. let same = slot_kept keeps areas i x area within at stays in rw same (c.loop-area.invariant.0 x),
            c.loop-area.invariant.1,
          )
    ]

-- after the loop all areas of the slot are cleared
all_gone : (c : After-retain) → Changes (goes_in (is_of_other_slot c.args.slot) c.args.areas.now.items) (λ _. None) (byte_in_pages c.args.pages.now.items) (byte_in_pages c.loop-area.pages.items)
all_gone c = λ x.
    let none = goes_none (is_of_other_slot c.args.slot) c.args.areas.now.items c.loop-area.area-index x (rw c.deref-area-items.ensures.value at c.loop-area-test.false) in
    rw none at (c.loop-area.invariant.0 x)

pub returns-clause-after : goal.returns-clause-after
returns-clause-after c =
    let kept = filter_same _ (is_of_other_slot c.args.slot) _ (λ x b f' k. search rules) _ _ c.retain.ensures.filtered in
    rw kept (free_shows c.args.areas.now.items c.args.pages.now.items c.loop-area.pages.items (is_of_other_slot c.args.slot) c.requires (all_gone (goal.at.returns-clause-after c).After-retain)).is

pub returns-clause-shown : goal.returns-clause-shown
returns-clause-shown c =
    let kept = filter_same _ (is_of_other_slot c.args.slot) _ (λ x b f' k. search rules) _ _ c.retain.ensures.filtered in
    rw kept (free_shows c.args.areas.now.items c.args.pages.now.items c.loop-area.pages.items (is_of_other_slot c.args.slot) c.requires (all_gone (goal.at.returns-clause-shown c).After-retain)).shown
