-- Resources that others own are as they were.
use Rattle.std.proofs.Common.{◌≡◌, ℕ, Bool, true, false, Option, Some, None, [], ◌∷◌, ◌++◌, refl, sym, ◌∙◌, ap, inl, inr}
use Rattle.std.specs.Prelude.{◌==◌, ◌-◌, ◌+◌, not}
use Rattle.std.specs.Map.{lookup, remove_entry, set_value}
use Rattle.std.proofs.lemmas.Bool.{cases_Bool, eq-eqb}
use Rattle.std.proofs.lemmas.Option.{none-some, same_Some}
use Rattle.indexmap.specs.IndexMap.{insert_entry}
use Rattle.cx_base.specs.Facts.Tables.{insert_entry_absent, insert_entry_present}
use Rattle.cx_service.specs.declared.faults.ServiceFault.TheVariants.{Enqbusy}
use Rattle.cx_service.specs.declared.resources.Hold.{Hold}
use Rattle.cx_service.specs.declared.resources.ResourceName.{ResourceName}
use Rattle.cx_service.specs.Resources.{Resources, count_at, dequeue, enq_fault, enqueue, hold_fault, hold_of, is_resource, with_count_down, without_owner}

owned : (slot : ℕ) (hold : Hold) → hold.owner == slot ≡ true → not (hold.owner == slot) ≡ false
owned slot hold e = rw e refl

-- what is put in the place of an own one
set_own : (test : ResourceName → Bool) (rs : Resources) (slot : ℕ) (old new : Hold) → lookup test rs ≡ Some old → old.owner == slot ≡ true → new.owner == slot ≡ true
    → without_owner (set_value test rs new) slot ≡ without_owner rs slot
unfolding without_owner
set_own test [] slot old new found was is = absurd (none-some old found)
set_own test (e ∷ rs) slot old new found was is = elim (cases_Bool (test e.0)) [
  | inl on ↦
      let same : e.1 ≡ old = same_Some e.1 old (rw on at found) in
      let mine : e.1.owner == slot ≡ true = ap (λ (h : Hold). h.owner == slot) same ∙ was in
      rw (on, is, mine) refl
  | inr off ↦ elim (cases_Bool (e.1.owner == slot)) [
    | inl mine ↦ rw (off, mine) (set_own test rs slot old new (rw off at found) was is)
    | inr other ↦ rw (off, other) (ap (λ l. e ∷ l) (set_own test rs slot old new (rw off at found) was is))
  ]
]

remove_own : (test : ResourceName → Bool) (rs : Resources) (slot : ℕ) (old : Hold) → lookup test rs ≡ Some old → old.owner == slot ≡ true
    → without_owner (remove_entry test rs) slot ≡ without_owner rs slot
unfolding without_owner
remove_own test [] slot old found was = absurd (none-some old found)
remove_own test (e ∷ rs) slot old found was = elim (cases_Bool (test e.0)) [
  | inl on ↦
      let same : e.1 ≡ old = same_Some e.1 old (rw on at found) in
      let mine : e.1.owner == slot ≡ true = ap (λ (h : Hold). h.owner == slot) same ∙ was in
      rw (on, mine) refl
  | inr off ↦ elim (cases_Bool (e.1.owner == slot)) [
    | inl mine ↦ rw (off, mine) (remove_own test rs slot old (rw off at found) was)
    | inr other ↦ rw (off, other) (ap (λ l. e ∷ l) (remove_own test rs slot old (rw off at found) was))
  ]
]

put_own : (rs : Resources) (slot : ℕ) (name : ResourceName) (new : Hold) → new.owner == slot ≡ true → without_owner (rs ++ (name, new) ∷ []) slot ≡ without_owner rs slot
unfolding without_owner
put_own [] slot name new is = rw is refl
put_own (e ∷ rs) slot name new is = elim (cases_Bool (e.1.owner == slot)) [
  | inl mine ↦ rw mine (put_own rs slot name new is)
  | inr other ↦ rw other (ap (λ l. e ∷ l) (put_own rs slot name new is))
]

pub enqueued_keeps : (rs : Resources) (slot : ℕ) (name : ResourceName) → enq_fault rs slot name ≡ None → without_owner (enqueue rs slot name) slot ≡ without_owner rs slot
unfolding enqueue enq_fault
enqueued_keeps rs slot name fits = go (hold_of rs name) refl
  where
    new : Hold
    new = record { owner = slot; count = count_at (hold_of rs name) + 1 }

    by_owner : (hold : Hold) (mine : Bool) → hold.owner == slot ≡ mine → hold_fault rs slot (Some hold) ≡ None → hold.owner == slot ≡ true
    by_owner hold true e ok = e
    by_owner hold false e ok = absurd (none-some Enqbusy (sym ok ∙ rw e refl))

    go : (o : Option Hold) → hold_of rs name ≡ o → without_owner (insert_entry is_resource rs name new) slot ≡ without_owner rs slot
    go None e = rw (insert_entry_absent is_resource rs name new e) (put_own rs slot name new (eq-eqb slot slot refl))
    go (Some hold) e =
        let mine : hold.owner == slot ≡ true = by_owner hold (hold.owner == slot) refl (ap (λ (o : Option Hold). hold_fault rs slot o) (sym e) ∙ fits) in
        rw (insert_entry_present is_resource rs name new hold e) (set_own (is_resource name) rs slot hold new e mine (eq-eqb slot slot refl))

pub dequeued_keeps : (rs : Resources) (slot : ℕ) (name : ResourceName) → without_owner (dequeue rs slot name) slot ≡ without_owner rs slot
unfolding dequeue
dequeued_keeps rs slot name = go (hold_of rs name) refl
  where
    go : (o : Option Hold) → hold_of rs name ≡ o → without_owner (with_count_down rs slot name o) slot ≡ without_owner rs slot
    go None e = refl
    go (Some hold) e = elim (cases_Bool (hold.owner == slot)) [
      | inr other ↦ rw other refl
      | inl mine ↦ elim (cases_Bool (hold.count == 1)) [
        | inl one ↦ rw (mine, one) (remove_own (is_resource name) rs slot hold e mine)
        | inr more ↦ rw (mine, more) (set_own (is_resource name) rs slot hold (record hold { count = hold.count - 1 }) e mine mine)
      ]
    ]

pub released_twice : (rs : Resources) (slot : ℕ) → without_owner (without_owner rs slot) slot ≡ without_owner rs slot
unfolding without_owner
released_twice [] slot = refl
released_twice (e ∷ rs) slot = elim (cases_Bool (e.1.owner == slot)) [
  | inl mine ↦ rw mine (released_twice rs slot)
  | inr other ↦ rw (other, other) (ap (λ l. e ∷ l) (released_twice rs slot))
]
