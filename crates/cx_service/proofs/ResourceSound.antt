-- What always holds of the resources is kept.
use Rattle.std.proofs.Common.{◌≡◌, ℕ, ◌+◌, ◌-◌, ◌<◌, ◌≤◌, false, Option, Some, None, [], ◌∷◌, length, refl, ◌∙◌, ap, ⊎_elim, arith}
use Rattle.std.specs.Prelude.{not, ◌==◌, if◌then◌else◌, nat_le}
use Rattle.std.specs.List.{AllByRecursion, IsDistinct, filter}
use Rattle.std.specs.Map.{set_value, keys_of, remove_entry}
use Rattle.std.proofs.lemmas.Bool.{cases_Bool, cond-true, cond-false, leb-false, eqb-false, eq-eqb, ne_eqb}
use Rattle.std.proofs.lemmas.List.{length_push}
use Rattle.std.proofs.lemmas.Map.{length-set_value}
use Rattle.indexmap.specs.IndexMap.{insert_entry}
use Rattle.cx_service.specs.Resources.{Resources, is_resource, most_resources, most_count, hold_of, hold_fault, enq_fault, count_at, enqueue, with_count_down, dequeue, without_owner, IsSoundHold, AreSoundResources}
use Rattle.cx_service.specs.declared.resources.ResourceName.{ResourceName}
use Rattle.cx_service.specs.declared.resources.Hold.{Hold}
use Rattle.cx_service.specs.declared.faults.ServiceFault.TheVariants.{Enqbusy, Invreq}
use Rattle.cx_service.proofs.QueueSound.{no_fault}
use Rattle.cx_base.specs.Facts.Tables.{insert_entry_present, insert_entry_absent, found_meets, each-set_value, each-remove_entry, each-insert_entry, length-remove_entry, distinct-set_value, distinct-remove_entry, distinct-filter, each-filter, length-filter}

-- ---- ENQ
pub enqueued_keeps : (resources : Resources) (slot : ℕ) (name : ResourceName) → AreSoundResources resources → enq_fault resources slot name ≡ None → IsDistinct is_resource (keys_of (enqueue resources slot name)) → AreSoundResources (enqueue resources slot name)
unfolding enq_fault enqueue
enqueued_keeps resources slot name sound none apart = by_hold (hold_of resources name) refl none apart
  where
    by_hold : (o : Option Hold) → hold_of resources name ≡ o → hold_fault resources slot o ≡ None → IsDistinct is_resource (keys_of (insert_entry is_resource resources name (record { owner = slot; count = count_at (hold_of resources name) + 1 }))) → AreSoundResources (insert_entry is_resource resources name (record { owner = slot; count = count_at (hold_of resources name) + 1 }))
    by_hold None is free distinct =
        let room : length resources < 256 = leb-false _ _ (no_fault _ _ _ free).0 in
        let new : Hold = record { owner = slot; count = count_at (hold_of resources name) + 1 } in
        let none_yet : count_at (hold_of resources name) ≡ 0 = ap count_at is in
        let longer : length (insert_entry is_resource resources name new) ≡ length resources + 1 =
        ap length (insert_entry_absent is_resource resources name new is) ∙ length_push resources (name, new) in
        let one : IsSoundHold new = record { some = omega arith; few = omega arith } in
        record { distinct = distinct; few = omega arith; each = each-insert_entry IsSoundHold is_resource resources name new one sound.each }
    by_hold (Some hold) is free distinct =
        let owned = no_fault (not (hold.owner == slot)) Enqbusy (if nat_le most_count hold.count then Some Invreq else None) free in
        let room : hold.count < 65535 = leb-false most_count hold.count (no_fault (nat_le most_count hold.count) Invreq None owned.1).0 in
        let new : Hold = record { owner = slot; count = count_at (hold_of resources name) + 1 } in
        let now : count_at (hold_of resources name) ≡ hold.count = ap count_at is in
        let same : length (insert_entry is_resource resources name new) ≡ length resources =
        ap length (insert_entry_present is_resource resources name new hold is) ∙ length-set_value (is_resource name) resources new in
        let one : IsSoundHold new = record { some = omega arith; few = omega arith } in
        let few : length resources ≤ most_resources = sound.few in
        record { distinct = distinct; few = omega arith; each = each-insert_entry IsSoundHold is_resource resources name new one sound.each }

-- the count may rise
pub count_below : (resources : Resources) (slot : ℕ) (name : ResourceName) → enq_fault resources slot name ≡ None → count_at (hold_of resources name) < 65535
unfolding enq_fault
count_below resources slot name none = by_hold (hold_of resources name) none
  where
    by_hold : (o : Option Hold) → hold_fault resources slot o ≡ None → count_at o < 65535
    by_hold None free = omega arith
    by_hold (Some hold) free =
        let owned = no_fault (not (hold.owner == slot)) Enqbusy (if nat_le most_count hold.count then Some Invreq else None) free in
        leb-false most_count hold.count (no_fault (nat_le most_count hold.count) Invreq None owned.1).0

-- ---- DEQ
freed_keeps : (resources : Resources) (name : ResourceName) → AreSoundResources resources → AreSoundResources (remove_entry (is_resource name) resources)
freed_keeps resources name sound =
    let fewer : length (remove_entry (is_resource name) resources) ≤ length resources = length-remove_entry (is_resource name) resources in
    let few : length resources ≤ most_resources = sound.few in
    record {
      distinct = distinct-remove_entry is_resource (is_resource name) resources sound.distinct;
      few = omega arith;
      each = each-remove_entry IsSoundHold (is_resource name) resources sound.each;
    }

counted_down_keeps : (resources : Resources) (name : ResourceName) (hold : Hold) → AreSoundResources resources → hold_of resources name ≡ Some hold → 1 < hold.count → AreSoundResources (set_value (is_resource name) resources (record hold { count = hold.count - 1 }))
counted_down_keeps resources name hold sound is above =
    let was : IsSoundHold hold = found_meets IsSoundHold (is_resource name) resources hold sound.each is in
    let most : hold.count ≤ most_count = was.few in
    let new : Hold = record hold { count = hold.count - 1 } in
    let one : IsSoundHold new = record { some = omega arith; few = omega arith } in
    let same : length (set_value (is_resource name) resources new) ≡ length resources = length-set_value (is_resource name) resources new in
    let few : length resources ≤ most_resources = sound.few in
    record {
      distinct = distinct-set_value is_resource (is_resource name) resources new sound.distinct;
      few = omega arith;
      each = each-set_value IsSoundHold (is_resource name) resources new one sound.each;
    }

pub dequeued_keeps : (resources : Resources) (slot : ℕ) (name : ResourceName) → AreSoundResources resources → AreSoundResources (dequeue resources slot name)
unfolding dequeue
dequeued_keeps resources slot name sound = by_hold (hold_of resources name) refl
  where
    by_hold : (o : Option Hold) → hold_of resources name ≡ o → AreSoundResources (with_count_down resources slot name o)
    by_hold None is = sound
    by_hold (Some hold) is = ⊎_elim
        (λ another. rw another sound)
        (λ own. rw own (⊎_elim
        (λ last. rw last (freed_keeps resources name sound))
        (λ more.
        let differs : hold.count ≡ 1 → ⊥ = eqb-false hold.count 1 more in
        let some : 1 ≤ hold.count = (found_meets IsSoundHold (is_resource name) resources hold sound.each is).some in
        rw more (counted_down_keeps resources name hold sound is (omega arith)))
        (cases_Bool (hold.count == 1))))
        (cases_Bool (not (hold.owner == slot)))

-- what DEQ does, by who holds the resource
pub dequeued_none : (resources : Resources) (slot : ℕ) (name : ResourceName) → hold_of resources name ≡ None → dequeue resources slot name ≡ resources
unfolding dequeue
dequeued_none resources slot name is = ap (with_count_down resources slot name) is

pub dequeued_other : (resources : Resources) (slot : ℕ) (name : ResourceName) (hold : Hold) → hold_of resources name ≡ Some hold → (hold.owner ≡ slot → ⊥) → dequeue resources slot name ≡ resources
unfolding dequeue
dequeued_other resources slot name hold is another =
    ap (with_count_down resources slot name) is ∙ cond-true (not (hold.owner == slot)) _ _ (ap not (ne_eqb hold.owner slot another))

pub dequeued_last : (resources : Resources) (slot : ℕ) (name : ResourceName) (hold : Hold) → hold_of resources name ≡ Some hold → hold.owner ≡ slot → hold.count ≡ 1 → dequeue resources slot name ≡ remove_entry (is_resource name) resources
unfolding dequeue
dequeued_last resources slot name hold is own last =
    ap (with_count_down resources slot name) is
    ∙ cond-false (not (hold.owner == slot)) _ _ (ap not (eq-eqb hold.owner slot own))
    ∙ cond-true (hold.count == 1) _ _ (eq-eqb hold.count 1 last)

pub dequeued_more : (resources : Resources) (slot : ℕ) (name : ResourceName) (hold : Hold) → hold_of resources name ≡ Some hold → hold.owner ≡ slot → (hold.count ≡ 1 → ⊥) → dequeue resources slot name ≡ set_value (is_resource name) resources (record hold { count = hold.count - 1 })
unfolding dequeue
dequeued_more resources slot name hold is own more =
    ap (with_count_down resources slot name) is
    ∙ cond-false (not (hold.owner == slot)) _ _ (ap not (eq-eqb hold.owner slot own))
    ∙ cond-false (hold.count == 1) _ _ (ne_eqb hold.count 1 more)

-- ---- the end of a task
pub released_keeps : (resources : Resources) (slot : ℕ) → AreSoundResources resources → AreSoundResources (without_owner resources slot)
unfolding without_owner
released_keeps resources slot sound =
    let fewer : length (filter (λ entry. not (entry.1.owner == slot)) resources) ≤ length resources = length-filter (λ entry. not (entry.1.owner == slot)) resources in
    let few : length resources ≤ most_resources = sound.few in
    record {
      distinct = distinct-filter is_resource (λ entry. not (entry.1.owner == slot)) resources sound.distinct;
      few = omega arith;
      each = each-filter IsSoundHold (λ entry. not (entry.1.owner == slot)) resources sound.each;
    }

pub none_of_owner : (resources : Resources) (slot : ℕ) → AllByRecursion (λ entry. (entry.1.owner == slot) ≡ false) (without_owner resources slot)
unfolding without_owner
none_of_owner [] slot = tt
none_of_owner (e ∷ es) slot = ⊎_elim
    (λ own. rw own (none_of_owner es slot))
    (λ other. rw other (other, none_of_owner es slot))
    (cases_Bool (e.1.owner == slot))
