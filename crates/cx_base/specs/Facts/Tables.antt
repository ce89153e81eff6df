-- What a change of one entry leaves of a table by names.
use Rattle.std.proofs.Common.{◌≡◌, ◌≤◌, Bool, true, false, cond, Option, Some, None, List, [], ◌∷◌, ◌++◌, length, refl, sym, ◌∙◌, ap, subst, ⊎_elim, arith}
use Rattle.std.specs.Prelude.{◌||◌}
use Rattle.std.specs.Cmp.{IsEquivalence}
use Rattle.std.specs.List.{AllByRecursion, IsDistinct, list_any, filter}
use Rattle.std.specs.Map.{lookup, set_value, keys_of, remove_entry}
use Rattle.std.proofs.lemmas.Bool.{cases_Bool, cond-true, cond-false}
use Rattle.std.proofs.lemmas.Option.{none-some, same_Some}
use Rattle.std.proofs.lemmas.List.{map-append}
use Rattle.std.proofs.lemmas.Map.{keys-set_value}
use Rattle.std.proofs.lemmas.Map.Keys.{IsDistinct-push, IsDistinct-head, IsDistinct-tail, IsDistinct-cons}
use Rattle.indexmap.specs.IndexMap.{insert_entry}

-- a key that isn't there is after no entry either
none_after : {V : Type 0} (b : Bool) (v : V) (rest : Option V) → cond b (Some v) rest ≡ None → (b ≡ false) × (rest ≡ None)
none_after true v rest e = absurd (none-some v (sym e))
none_after false v rest e = (refl, e)

-- a key that isn't there has no value to set
pub set_value_absent : {K V : Type 0} (test : K → Bool) (es : List (K × V)) (v : V) → lookup test es ≡ None → set_value test es v ≡ es
set_value_absent test [] v e = refl
set_value_absent test (x ∷ es) v e =
    let parts = none_after (test x.0) x.1 (lookup test es) e in
    cond-false _ _ _ parts.0 ∙ ap (λ l. x ∷ l) (set_value_absent test es v parts.1)

-- a key that is there keeps its place
pub insert_entry_present : {K V : Type 0} (eq : K → K → Bool) (es : List (K × V)) (k : K) (v old : V) → lookup (eq k) es ≡ Some old → insert_entry eq es k v ≡ set_value (eq k) es v
insert_entry_present eq [] k v old there = absurd (none-some old there)
insert_entry_present eq (e ∷ es) k v old there = ⊎_elim
    (λ yes. cond-true _ _ _ yes ∙ sym (cond-true _ _ _ yes))
    (λ no.
    cond-false _ _ _ no
    ∙ ap (λ l. e ∷ l) (insert_entry_present eq es k v old (sym (cond-false _ _ _ no) ∙ there))
    ∙ sym (cond-false _ _ _ no))
    (cases_Bool (eq k e.0))

-- a new key goes last
pub insert_entry_absent : {K V : Type 0} (eq : K → K → Bool) (es : List (K × V)) (k : K) (v : V) → lookup (eq k) es ≡ None → insert_entry eq es k v ≡ es ++ (k, v) ∷ []
insert_entry_absent eq [] k v none = refl
insert_entry_absent eq (e ∷ es) k v none =
    let parts = none_after (eq k e.0) e.1 (lookup (eq k) es) none in
    cond-false _ _ _ parts.0 ∙ ap (λ l. e ∷ l) (insert_entry_absent eq es k v parts.1)

none_among : {K V : Type 0} (test : K → Bool) (es : List (K × V)) → lookup test es ≡ None → list_any test (keys_of es) ≡ false
none_among test [] none = refl
none_among test (e ∷ es) none =
    let parts = none_after (test e.0) e.1 (lookup test es) none in
    ap (λ b. b || list_any test (keys_of es)) parts.0 ∙ none_among test es parts.1

-- what holds of the value found
pub found_meets : {K V : Type 0} (P : V → Type 0) (test : K → Bool) (es : List (K × V)) (v : V) → AllByRecursion (λ e. P e.1) es → lookup test es ≡ Some v → P v
found_meets P test [] v all e = absurd (none-some v e)
found_meets P test (x ∷ es) v all e = ⊎_elim
    (λ yes. subst P (same_Some _ _ (sym (cond-true _ _ _ yes) ∙ e)) all.0)
    (λ no. found_meets P test es v all.1 (sym (cond-false _ _ _ no) ∙ e))
    (cases_Bool (test x.0))

pub each-set_value : {K V : Type 0} (P : V → Type 0) (test : K → Bool) (es : List (K × V)) (v : V) → P v → AllByRecursion (λ e. P e.1) es → AllByRecursion (λ e. P e.1) (set_value test es v)
each-set_value P test [] v new all = tt
each-set_value P test (e ∷ es) v new all = ⊎_elim
    (λ yes. rw yes (new, all.1))
    (λ no. rw no (all.0, each-set_value P test es v new all.1))
    (cases_Bool (test e.0))

pub each-push : {K V : Type 0} (P : V → Type 0) (es : List (K × V)) (k : K) (v : V) → P v → AllByRecursion (λ e. P e.1) es → AllByRecursion (λ e. P e.1) (es ++ (k, v) ∷ [])
each-push P [] k v new all = (new, tt)
each-push P (e ∷ es) k v new all = (all.0, each-push P es k v new all.1)

pub each-remove_entry : {K V : Type 0} (P : V → Type 0) (test : K → Bool) (es : List (K × V)) → AllByRecursion (λ e. P e.1) es → AllByRecursion (λ e. P e.1) (remove_entry test es)
each-remove_entry P test [] all = tt
each-remove_entry P test (e ∷ es) all = ⊎_elim
    (λ yes. rw yes all.1)
    (λ no. rw no (all.0, each-remove_entry P test es all.1))
    (cases_Bool (test e.0))

pub length-remove_entry : {K V : Type 0} (test : K → Bool) (es : List (K × V)) → length (remove_entry test es) ≤ length es
length-remove_entry test [] = omega arith
length-remove_entry test (e ∷ es) = ⊎_elim
    (λ yes. rw yes (omega arith))
    (λ no. rw no (omega (arith, length-remove_entry test es)))
    (cases_Bool (test e.0))

-- what holds of each value holds after an insertion
pub each-insert_entry : {K V : Type 0} (P : V → Type 0) (eq : K → K → Bool) (es : List (K × V)) (k : K) (v : V) → P v → AllByRecursion (λ e. P e.1) es → AllByRecursion (λ e. P e.1) (insert_entry eq es k v)
each-insert_entry P eq [] k v new all = (new, tt)
each-insert_entry P eq (e ∷ es) k v new all = ⊎_elim
    (λ yes. rw yes (new, all.1))
    (λ no. rw no (all.0, each-insert_entry P eq es k v new all.1))
    (cases_Bool (eq k e.0))

-- keys stay apart
pub distinct-set_value : {K V : Type 0} (eq : K → K → Bool) (test : K → Bool) (es : List (K × V)) (v : V) → IsDistinct eq (keys_of es) → IsDistinct eq (keys_of (set_value test es v))
distinct-set_value eq test es v apart = subst (IsDistinct eq) (sym (keys-set_value test es v)) apart

pub distinct-insert_entry : {K V : Type 0} (eq : K → K → Bool) → IsEquivalence eq → (es : List (K × V)) (k : K) (v : V) → IsDistinct eq (keys_of es) → IsDistinct eq (keys_of (insert_entry eq es k v))
distinct-insert_entry {K} {V} eq laws es k v apart = by_look_up (lookup (eq k) es) refl
  where
    by_look_up : (o : Option V) → lookup (eq k) es ≡ o → IsDistinct eq (keys_of (insert_entry eq es k v))
    by_look_up None none =
        subst (λ fs. IsDistinct eq (keys_of fs)) (sym (insert_entry_absent eq es k v none))
        (subst (IsDistinct eq) (sym (map-append (λ (e : K × V). e.0) es ((k, v) ∷ []))) (IsDistinct-push laws (keys_of es) k apart (none_among (eq k) es none)))
    by_look_up (Some old) there =
        subst (λ fs. IsDistinct eq (keys_of fs)) (sym (insert_entry_present eq es k v old there)) (distinct-set_value eq (eq k) es v apart)

keys-remove : {K V : Type 0} (P : K → Type 0) (test : K → Bool) (es : List (K × V)) → AllByRecursion P (keys_of es) → AllByRecursion P (keys_of (remove_entry test es))
keys-remove P test [] all = all
keys-remove P test (e ∷ es) all = ⊎_elim
    (λ yes. rw yes all.1)
    (λ differ. rw differ (all.0, keys-remove P test es all.1))
    (cases_Bool (test e.0))

pub distinct-remove_entry : {K V : Type 0} (eq : K → K → Bool) (test : K → Bool) (es : List (K × V)) → IsDistinct eq (keys_of es) → IsDistinct eq (keys_of (remove_entry test es))
distinct-remove_entry eq test [] apart = apart
distinct-remove_entry eq test (e ∷ es) apart = ⊎_elim
    (λ yes. rw yes (IsDistinct-tail eq e.0 (keys_of es) apart))
    (λ differ. rw differ
    (IsDistinct-cons eq e.0 (keys_of (remove_entry test es))
    (keys-remove (λ k. eq e.0 k ≡ false) test es (IsDistinct-head eq e.0 (keys_of es) apart))
    (distinct-remove_entry eq test es (IsDistinct-tail eq e.0 (keys_of es) apart))))
    (cases_Bool (test e.0))

keys-filter : {K V : Type 0} (P : K → Type 0) (test : K × V → Bool) (es : List (K × V)) → AllByRecursion P (keys_of es) → AllByRecursion P (keys_of (filter test es))
keys-filter P test [] all = all
keys-filter P test (e ∷ es) all = ⊎_elim
    (λ yes. rw yes (all.0, keys-filter P test es all.1))
    (λ differ. rw differ (keys-filter P test es all.1))
    (cases_Bool (test e))

pub distinct-filter : {K V : Type 0} (eq : K → K → Bool) (test : K × V → Bool) (es : List (K × V)) → IsDistinct eq (keys_of es) → IsDistinct eq (keys_of (filter test es))
distinct-filter eq test [] apart = apart
distinct-filter eq test (e ∷ es) apart = ⊎_elim
    (λ yes. rw yes
    (IsDistinct-cons eq e.0 (keys_of (filter test es))
    (keys-filter (λ k. eq e.0 k ≡ false) test es (IsDistinct-head eq e.0 (keys_of es) apart))
    (distinct-filter eq test es (IsDistinct-tail eq e.0 (keys_of es) apart))))
    (λ differ. rw differ (distinct-filter eq test es (IsDistinct-tail eq e.0 (keys_of es) apart)))
    (cases_Bool (test e))

-- a choice of the entries
pub each-filter : {K V : Type 0} (P : V → Type 0) (test : K × V → Bool) (es : List (K × V)) → AllByRecursion (λ e. P e.1) es → AllByRecursion (λ e. P e.1) (filter test es)
each-filter P test [] all = tt
each-filter P test (e ∷ es) all = ⊎_elim
    (λ yes. rw yes (all.0, each-filter P test es all.1))
    (λ no. rw no (each-filter P test es all.1))
    (cases_Bool (test e))

pub length-filter : {K V : Type 0} (test : K × V → Bool) (es : List (K × V)) → length (filter test es) ≤ length es
length-filter test [] = omega arith
length-filter test (e ∷ es) = ⊎_elim
    (λ yes. rw yes (omega (arith, length-filter test es)))
    (λ no. rw no (omega (arith, length-filter test es)))
    (cases_Bool (test e))
