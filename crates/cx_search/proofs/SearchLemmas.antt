-- A search goes on by one move.
use Rattle.std.proofs.Common.{◌≡◌, ℕ, ◌+◌, ◌<◌, ◌≤◌, List, [], ◌∷◌, ◌++◌, length, Option, Some, None, true, false, true≢false, ◌⊎◌, inl, inr, ap, sym, subst, refl, ◌∙◌, arith}
use Rattle.std.specs.Prelude.{slice_get, Bool, IfNone, MatchBool}
use Rattle.std.proofs.lemmas.Bool.{cases_lt}
use Rattle.std.proofs.lemmas.Option.{none-some, same_Some, slice_get_within}
use Rattle.cx_search.specs.declared.found.Origin.{Origin}
use Rattle.cx_search.specs.Moves.{GoesOnly, GoesTo}
use Rattle.cx_search.specs.Found.{IsAt, IsBefore, IsFoundBy, ComesFrom, Searched}
use Rattle.cx_search.specs.Facts.Items.{item_kept, item_last, item_appended}
use Rattle.cx_search.proofs.ListLemmas.{item_at}

-- below the next number is below it, or it
pub below_next : (a b : ℕ) → a < b + 1 → (a < b) ⊎ (a ≡ b)
below_next a b l = elim (cases_lt a b) [ inl h ↦ inl h | inr h ↦ inr (omega (arith, l, h)) ]

-- what is at one place is one
pub at_same : {State : Type 0} (found : List (State × Origin)) (i j : ℕ) (s t : State) (o p : Origin) → i ≡ j
    → slice_get found i ≡ Some (s, o) → slice_get found j ≡ Some (t, p) → (s ≡ t) × (o ≡ p)
at_same found i j s t o p place one other =
    let both = same_Some _ _ (sym one ∙ ap (slice_get found) place ∙ other) in
    (ap (λ e. e.0) both, ap (λ e. e.1) both)

pub at_within : {State : Type 0} (found : List (State × Origin)) (i : ℕ) (s : State) → IsAt found i s → i < length found
at_within found i s at = slice_get_within found i (s, at.origin) at.there

pub at_kept : {State : Type 0} (found : List (State × Origin)) (t : State) (o : Origin) (i : ℕ) (s : State) → IsAt found i s
    → IsAt (found ++ (t, o) ∷ []) i s
at_kept found t o i s at = record { origin = at.origin; there = item_kept found ((t, o) ∷ []) i (s, at.origin) at.there }

module _ {State : Type 0} (Goes : State → ℕ → State → Type 0)
    (found : List (State × Origin)) (done tried : ℕ) (s : State) (by : Origin) (h : Searched Goes found done tried)
    (at : slice_get found done ≡ Some (s, by)) where
  -- one more move was tried: it was tried before, or it is this one
  tried_cases : (place number : ℕ) → IsBefore place number done (tried + 1) → IsBefore place number done tried ⊎ ((place ≡ done) × (number ≡ tried))
  tried_cases place number (inl l) = inl (inl l)
  tried_cases place number (inr e) = elim (below_next number tried e.1) [ inl l ↦ inl (inr (e.0, l)) | inr m ↦ inr (e.0, m) ]

  sooner : (place number : ℕ) → IsBefore place number done tried → IsBefore place number done (tried + 1)
  sooner place number (inl l) = inl l
  sooner place number (inr e) = inr (e.0, omega (arith, e.1))

  -- what was found, as it is, where more moves were tried
  as_found : (at tried : ℕ) → ((place : ℕ) (a : State) (o : Origin) → 0 < place → slice_get found place ≡ Some (a, o) → IsBefore o.from o.number at tried)
      → ((place number : ℕ) (a b : State) (o : Origin) → IsBefore place number at tried → slice_get found place ≡ Some (a, o) → Goes a number b
      → IsFoundBy found b place number)
      → Searched Goes found at tried
  as_found at tried soon closed = record {
    start = h.start;
    first = h.first;
    begins = h.begins;
    zero_moves = h.zero_moves;
    comes = h.comes;
    once = h.once;
    sorted = h.sorted;
    small = h.small;
    soon = soon;
    closed = closed;
  }

  -- a move that can't be made
  pub more_none : ((t : State) → Goes s tried t → ⊥) → Searched Goes found done (tried + 1)
  more_none never = as_found done (tried + 1)
      (λ place a o some there. sooner o.from o.number (h.soon place a o some there))
      (λ place number a b o it there goes. elim (tried_cases place number it) [
        | inl old ↦ h.closed place number a b o old there goes
        | inr e ↦ absurd (never b (subst (λ n. Goes s n b) e.1 (subst (λ x. Goes x number b) (at_same found place done a s o by e.0 there at).0 goes)))
      ])

  -- a move to a state that was found before
  pub more_known : (t : State) (j : ℕ) → GoesOnly Goes s tried t → IsAt found j t → Searched Goes found done (tried + 1)
  more_known t j goes there = as_found done (tried + 1)
      (λ place a o some is. sooner o.from o.number (h.soon place a o some is))
      (λ place number a b o it here moved. elim (tried_cases place number it) [
        | inl old ↦ h.closed place number a b o old here moved
        | inr e ↦ known place number a b o e here moved
      ])
    where
      known : (place number : ℕ) (a b : State) (o : Origin) → (place ≡ done) × (number ≡ tried) → slice_get found place ≡ Some (a, o) → Goes a number b
          → IsFoundBy found b place number
      known place number a b o e here moved =
          let both = at_same found place done a s o by e.0 here at in
          let to : Goes s tried b = subst (λ n. Goes s n b) e.1 (subst (λ x. Goes x number b) both.0 moved) in
          let is : t ≡ b = sym (goes.only b to) in
          record {
            place = j;
            origin = there.origin;
            there = there.there ∙ ap (λ x. Some (x, there.origin)) is;
            soon = elim (cases_lt 0 j) [
              | inl some ↦ inr (subst (λ p. IsBefore there.origin.from there.origin.number p (number + 1)) (sym e.0)
                  (subst (λ n. IsBefore there.origin.from there.origin.number done (n + 1)) (sym e.1)
                  (sooner there.origin.from there.origin.number (h.soon j t there.origin some there.there))))
              | inr none ↦ inl (omega (arith, none))
            ];
          }

  -- a move to a new state
  pub more_new : (t : State) → GoesOnly Goes s tried t → ((place : ℕ) → IsAt found place t → ⊥) → (o : Origin) → o.from ≡ done → o.number ≡ tried → o.moves ≡ by.moves + 1
      → Searched Goes (found ++ (t, o) ∷ []) done (tried + 1)
  more_new t goes new o from number many = record {
    start = h.start;
    first = h.first;
    begins = item_kept found ((t, o) ∷ []) 0 (h.start, h.first) h.begins;
    zero_moves = h.zero_moves;
    comes = λ place a q some there. comes place a q some (cases place a q there);
    once = λ i j a q r one other. once i j a q r (cases i a q one) (cases j a r other);
    sorted = λ i j a b q r some l one other. sorted i j a b q r some l (cases i a q one) (cases j b r other);
    soon = λ place a q some there. soon place a q some (cases place a q there);
    small = λ place a q there. small place a q (cases place a q there);
    closed = λ place k a b q it here moved. closed place k a b q (tried_cases place k it) (cases place a q here) moved;
  }
    where
      last : ℕ
      last = length found

      here_below : done < last
      here_below = slice_get_within found done (s, by) at

      Old : ℕ → State → Origin → Type 0
      Old i a q = (slice_get found i ≡ Some (a, q)) ⊎ ((i ≡ last) × (t ≡ a) × (o ≡ q))

      cases : (i : ℕ) (a : State) (q : Origin) → slice_get (found ++ (t, o) ∷ []) i ≡ Some (a, q) → Old i a q
      cases i a q there = elim (item_appended found (t, o) (a, q) i there) [
        | inl old ↦ inl old
        | inr e ↦ inr (e.0, ap (λ x. x.0) e.1, ap (λ x. x.1) e.1)
      ]

      -- the new origin's move is the one that was tried
      is_new : (a : State) (q : Origin) → o ≡ q → (q.from ≡ done) × (q.number ≡ tried) × (q.moves ≡ by.moves + 1)
      is_new a q e = (ap (λ x. x.from) (sym e) ∙ from, ap (λ x. x.number) (sym e) ∙ number, ap (λ x. x.moves) (sym e) ∙ many)

      comes : (place : ℕ) (a : State) (q : Origin) → 0 < place → Old place a q → ComesFrom Goes (found ++ (t, o) ∷ []) place a q
      comes place a q some (inl old) =
          let it = h.comes place a q some old in
          record {
            from = it.from;
            by = it.by;
            before = it.before;
            goes = it.goes;
            more = it.more;
            there = item_kept found ((t, o) ∷ []) q.from (it.from, it.by) it.there;
          }
      comes place a q some (inr e) =
          let is = is_new a q e.2 in
          record {
            from = s;
            by = by;
            before = omega (arith, is.0, e.0, here_below);
            there = item_kept found ((t, o) ∷ []) q.from (s, by) (ap (slice_get found) is.0 ∙ at);
            goes = subst (λ n. Goes s n a) (sym is.1) (subst (λ x. Goes s tried x) e.1 goes.goes);
            more = is.2;
          }

      once : (i j : ℕ) (a : State) (q r : Origin) → Old i a q → Old j a r → i ≡ j
      once i j a q r (inl one) (inl other) = h.once i j a q r one other
      once i j a q r (inl one) (inr e) = absurd (new i (record { origin = q; there = one ∙ ap (λ x. Some (x, q)) (sym e.1) }))
      once i j a q r (inr e) (inl other) = absurd (new j (record { origin = r; there = other ∙ ap (λ x. Some (x, r)) (sym e.1) }))
      once i j a q r (inr d) (inr e) = d.0 ∙ sym e.0

      sorted : (i j : ℕ) (a b : State) (q r : Origin) → 0 < i → i < j → Old i a q → Old j b r → IsBefore q.from q.number r.from r.number
      sorted i j a b q r some l (inl one) (inl other) = h.sorted i j a b q r some l one other
      sorted i j a b q r some l (inl one) (inr e) =
          let is = is_new b r e.2 in
          subst (λ x. IsBefore q.from q.number x r.number) (sym is.0) (subst (λ x. IsBefore q.from q.number done x) (sym is.1) (h.soon i a q some one))
      sorted i j a b q r some l (inr e) (inl other) = absurd (omega (arith, l, e.0, at_within found j b (record { origin = r; there = other })))
      sorted i j a b q r some l (inr d) (inr e) = absurd (omega (arith, l, d.0, e.0))

      soon : (i : ℕ) (a : State) (q : Origin) → 0 < i → Old i a q → IsBefore q.from q.number done (tried + 1)
      soon i a q some (inl old) = sooner q.from q.number (h.soon i a q some old)
      soon i a q some (inr e) = let is = is_new a q e.2 in inr (is.0, omega (arith, is.1))

      small : (i : ℕ) (a : State) (q : Origin) → Old i a q → q.moves ≤ i
      small i a q (inl old) = h.small i a q old
      small i a q (inr e) = let is = is_new a q e.2 in omega (arith, is.2, e.0, here_below, h.small done s by at)

      closed : (place k : ℕ) (a b : State) (q : Origin) → IsBefore place k done tried ⊎ ((place ≡ done) × (k ≡ tried)) → Old place a q → Goes a k b
          → IsFoundBy (found ++ (t, o) ∷ []) b place k
      closed place k a b q (inl old) (inl here) moved =
          let it = h.closed place k a b q old here moved in
          record { place = it.place; origin = it.origin; there = item_kept found ((t, o) ∷ []) it.place (b, it.origin) it.there; soon = it.soon }
      closed place k a b q (inr e) (inl here) moved =
          let both = at_same found place done a s q by e.0 here at in
          let to : Goes s tried b = subst (λ n. Goes s n b) e.1 (subst (λ x. Goes x k b) both.0 moved) in
          record {
            place = last;
            origin = o;
            there = item_last found (t, o) ∙ ap (λ x. Some (x, o)) (sym (goes.only b to));
            soon = inr (inr (from ∙ sym e.0, omega (arith, number, e.1)));
          }
      closed place k a b q (inl (inl before)) (inr e) moved = absurd (omega (arith, before, e.0, here_below))
      closed place k a b q (inl (inr f)) (inr e) moved = absurd (omega (arith, f.0, e.0, here_below))
      closed place k a b q (inr f) (inr e) moved = absurd (omega (arith, f.0, e.0, here_below))

  -- all moves of a state were tried
  pub all_tried : ((b : State) (n : ℕ) → Goes s n b → n < tried) → Searched Goes found (done + 1) 0
  all_tried below = as_found (done + 1) 0
      (λ place a o some there. elim (h.soon place a o some there) [ inl l ↦ inl (omega (arith, l)) | inr e ↦ inl (omega (arith, e.0)) ])
      closed
    where
      closed : (place number : ℕ) (a b : State) (o : Origin) → IsBefore place number (done + 1) 0 → slice_get found place ≡ Some (a, o) → Goes a number b
          → IsFoundBy found b place number
      closed place number a b o (inl l) here moved = elim (below_next place done l) [
        | inl m ↦ h.closed place number a b o (inl m) here moved
        | inr e ↦ h.closed place number a b o (inr (e, below b number (subst (λ x. Goes x number b) (at_same found place done a s o by e here at).0 moved))) here moved
      ]
      closed place number a b o (inr e) here moved = absurd (omega (arith, e.1))

-- the first state alone
pub begun : {State : Type 0} (Goes : State → ℕ → State → Type 0) (start : State) (o : Origin) → o.moves ≡ 0 → Searched Goes ((start, o) ∷ []) 0 0
begun {State = State} Goes start o none = record {
  start = start;
  first = o;
  begins = refl;
  zero_moves = none;
  comes = λ place s p some there. absurd (omega (arith, some, within place s p there));
  once = λ i j s p q one other. omega (arith, within i s p one, within j s q other);
  sorted = λ i j s t p q some l one other. absurd (omega (arith, some, within i s p one));
  soon = λ place s p some there. absurd (omega (arith, some, within place s p there));
  small = λ place s p there. small place s p there;
  closed = λ place number s t p it there goes. elim it [ inl l ↦ absurd (omega (arith, l)) | inr e ↦ absurd (omega (arith, e.1)) ];
}
  where
    within : (place : ℕ) (s : State) (p : Origin) → slice_get {X = State × Origin} ((start, o) ∷ []) place ≡ Some (s, p) → place < 1
    within place s p there = slice_get_within ((start, o) ∷ []) place (s, p) there

    small : (place : ℕ) (s : State) (p : Origin) → slice_get {X = State × Origin} ((start, o) ∷ []) place ≡ Some (s, p) → p.moves ≤ place
    small place s p there =
        let is : slice_get {X = State × Origin} ((start, o) ∷ []) 0 ≡ Some (start, o) = refl in
        let both = at_same ((start, o) ∷ []) place 0 s start p o (omega (arith, within place s p there)) there is in
        let m : p.moves ≡ 0 = ap (λ x. x.moves) both.1 ∙ none in
        omega (arith, m)

module _ {State : Type 0} (Goes : State → ℕ → State → Type 0) where
  pub goes_none : (s : State) (n : ℕ) (to : Option State) → GoesTo Goes s n to → to ≡ None → (t : State) → Goes s n t → ⊥
  unfolding GoesTo
  goes_none s n None it is = it
  goes_none s n (Some t) it is = absurd (none-some t (sym is))

  pub goes_some : (s : State) (n : ℕ) (to : Option State) (t : State) → GoesTo Goes s n to → to ≡ Some t → GoesOnly Goes s n t
  unfolding GoesTo
  goes_some s n None t it is = absurd (none-some t is)
  goes_some s n (Some u) t it is = subst (λ x. GoesOnly Goes s n x) (same_Some u t is) it

-- where none was found
pub no_place : (r : Option ℕ) (P : Type 0) → IfNone r P → r ≡ None → P
no_place None P it is = it
no_place (Some place) P it is = absurd (none-some place (sym is))

-- a place that was within is, where states keep their places
pub within_kept : {State : Type 0} (old new : List (State × Origin)) (i : ℕ) → i < length old
    → ((place : ℕ) (s : State) → IsAt old place s → IsAt new place s) → i < length new
within_kept old new i below kept =
    let item = item_at old i below in
    at_within new i item.0.0 (kept i item.0.0 (record { origin = item.0.1; there = item.1 }))

pub match_true : (b : Bool) (P Q : Type 0) → MatchBool b P Q → b ≡ true → P
match_true true P Q it is = it
match_true false P Q it is = absurd (true≢false (sym is))

pub match_false : (b : Bool) (P Q : Type 0) → MatchBool b P Q → b ≡ false → Q
match_false true P Q it is = absurd (true≢false is)
match_false false P Q it is = it
