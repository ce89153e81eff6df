-- The lists of moves that origins spell, from their ends.
use Rattle.std.proofs.Common.{◌≡◌, ℕ, zero, suc, ◌+◌, ◌<◌, ◌≤◌, List, [], ◌∷◌, ◌++◌, length, Some, ◌⊎◌, inl, inr, ap, sym, subst, refl, ◌∙◌, arith, append_assoc, length-append, Option}
use Rattle.std.specs.Prelude.{reverse, slice_get, option_map, MatchOption}
use Rattle.std.proofs.lemmas.List.{append-nil, reverse-append, reverse-reverse, length-reverse}
use Rattle.std.proofs.lemmas.Option.{slice_get_within}
use Rattle.std.proofs.lemmas.Bool.{cases_lt, cases_order}
use Rattle.cx_search.specs.declared.found.Origin.{Origin}
use Rattle.cx_search.specs.Moves.{IsSooner, Leads, IsFirst}
use Rattle.cx_search.specs.Found.{IsAt, IsFound, IsBefore, IsFoundBy, Searched}
use Rattle.cx_search.specs.Parts.Searching.{IsCut}
use Rattle.cx_search.specs.Finds.{Finds, FindsAll, FindsNearest}
use Rattle.cx_search.proofs.ListLemmas.{item_at}
use Rattle.cx_search.proofs.OrderLemmas.{sooner_trans, sooner_not_self, shorter_back, length_back, more_back, last_back}
use Rattle.cx_search.proofs.SearchLemmas.{at_same, below_next}

-- the last move of a list, what is said of the state before it, and where it leads
record Last {State : Type 0} (Goes : State → ℕ → State → Type 0) (Before : State → Type 0) (number : ℕ) (to : State) : Type 0 where
  between : State
  before : Before between
  goes : Goes between number to

-- a list that is read from its end leads to a state
LeadsBack : {State : Type 0} → (State → ℕ → State → Type 0) → State → List ℕ → State → Type 0
LeadsBack Goes start [] to = to ≡ start
LeadsBack Goes start (number ∷ numbers) to = Last Goes (LeadsBack Goes start numbers) number to

-- the last move of a place's list, and what is said of the place that it was made from
pub record SpelledBy {State : Type 0} (found : List (State × Origin)) (Before : ℕ → Type 0) (number : ℕ) (place : ℕ) : Type 0 where
  pub state : State
  pub origin : Origin
  pub some : 0 < place
  pub there : slice_get found place ≡ Some (state, origin)
  pub is : origin.number ≡ number
  pub before : Before origin.from

-- the list of a place, read from its end
abbrev pub Spells : {State : Type 0} → List (State × Origin) → List ℕ → ℕ → Type 0
Spells found [] place = place ≡ 0
Spells found (number ∷ numbers) place = SpelledBy found (Spells found numbers) number place

module _ {State : Type 0} (Goes : State → ℕ → State → Type 0) where
  pub leads_on : (from : State) (ms : List ℕ) (s : State) (n : ℕ) (t : State) → Leads Goes from ms s → Goes s n t → Leads Goes from (ms ++ n ∷ []) t
  unfolding Leads
  leads_on from [] s n t is goes = record { between = t; goes = subst (λ x. Goes x n t) is goes; rest = refl }
  leads_on from (m ∷ ms) s n t is goes = record { between = is.between; goes = is.goes; rest = leads_on is.between ms s n t is.rest goes }

  leads_of : (start : State) (b : List ℕ) (t : State) → LeadsBack Goes start b t → Leads Goes start (reverse b) t
  unfolding Leads LeadsBack
  leads_of start [] t is = is
  leads_of start (n ∷ b) t is =
      subst (λ xs. Leads Goes start xs t) (sym (reverse-append (n ∷ []) b)) (leads_on start (reverse b) is.between n t (leads_of start b is.between is.before) is.goes)

  back_onto : (start from : State) (ms b : List ℕ) (t : State) → Leads Goes from ms t → LeadsBack Goes start b from → LeadsBack Goes start (reverse ms ++ b) t
  unfolding Leads LeadsBack
  back_onto start from [] b t is before = subst (λ x. LeadsBack Goes start b x) (sym is) before
  back_onto start from (m ∷ ms) b t is before =
      subst (λ xs. LeadsBack Goes start xs t) (sym (append_assoc (reverse ms) (m ∷ []) b) ∙ ap (λ xs. xs ++ b) (sym (reverse-append (m ∷ []) ms)))
      (back_onto start is.between ms (m ∷ b) t is.rest (record { between = from; before = before; goes = is.goes }))

  back_of : (start : State) (ms : List ℕ) (t : State) → Leads Goes start ms t → LeadsBack Goes start (reverse ms) t
  unfolding LeadsBack
  back_of start ms t is = subst (λ xs. LeadsBack Goes start xs t) (append-nil (reverse ms)) (back_onto start start ms [] t is refl)

  -- two lists that lead to a state first are one
  pub first_one : (from s : State) (ms ns : List ℕ) → IsFirst Goes from ms s → IsFirst Goes from ns s → ms ≡ ns
  first_one from s ms ns one other = elim (one.soonest ns other.leads) [
    | inl e ↦ e
    | inr l ↦ elim (other.soonest ms one.leads) [
      | inl e ↦ sym e
      | inr m ↦ absurd (sooner_not_self ms (sooner_trans ms ns ms l m))
    ]
  ]

-- a move was tried, or it wasn't
untried : (place number at tried : ℕ) → IsBefore place number at tried ⊎ ((at < place) ⊎ ((at ≡ place) × (tried ≤ number)))
untried place number at tried = elim (cases_order place at) [
  | inr (inl l) ↦ inl (inl l)
  | inr (inr l) ↦ inr (inl l)
  | inl e ↦ elim (cases_lt number tried) [ inl l ↦ inl (inr (e, l)) | inr m ↦ inr (inr (sym e, m)) ]
]

module _ {State : Type 0} (Goes : State → ℕ → State → Type 0) (found : List (State × Origin)) (done tried : ℕ) (h : Searched Goes found done tried) where
  spelled_to : (k place : ℕ) → place < k → place < length found → (b : List ℕ) × Spells found b place
  spelled_to zero place l within = absurd (omega (arith, l))
  spelled_to (suc k) zero l within = ([], refl)
  spelled_to (suc k) (suc p) l within =
      let item = item_at found (suc p) within in
      let it = h.comes (suc p) item.0.0 item.0.1 (omega arith) item.1 in
      let rest = spelled_to k item.0.1.from (omega (arith, l, it.before)) (slice_get_within found item.0.1.from (it.from, it.by) it.there) in
      (item.0.1.number ∷ rest.0, record { state = item.0.0; origin = item.0.1; some = omega arith; there = item.1; is = refl; before = rest.1 })

  -- each place has a list
  pub spelled : (place : ℕ) → place < length found → (b : List ℕ) × Spells found b place
  spelled place within = spelled_to (place + 1) place (omega arith) within

  spells_one : (b c : List ℕ) (i j : ℕ) → i ≡ j → Spells found b i → Spells found c j → b ≡ c
  spells_one [] [] i j e is it = refl
  spells_one [] (n ∷ c) i j e is it = absurd (omega (arith, e, is, it.some))
  spells_one (m ∷ b) [] i j e is it = absurd (omega (arith, e, it, is.some))
  spells_one (m ∷ b) (n ∷ c) i j e is it =
      let both = at_same found i j is.state it.state is.origin it.origin e is.there it.there in
      let rest = spells_one b c is.origin.from it.origin.from (ap (λ x. x.from) both.1) is.before it.before in
      ap (λ z. z ∷ b) (sym is.is ∙ ap (λ x. x.number) both.1 ∙ it.is) ∙ ap (λ zs. n ∷ zs) rest

  -- that list leads to the place's state, by as many moves as are kept with it
  spelled_leads : (b : List ℕ) (place : ℕ) (s : State) (o : Origin) → Spells found b place → slice_get found place ≡ Some (s, o)
      → LeadsBack Goes h.start b s × (length b ≡ o.moves)
  unfolding LeadsBack
  spelled_leads [] place s o is there =
      let both = at_same found place 0 s h.start o h.first is there h.begins in
      (both.0, sym (ap (λ x. x.moves) both.1 ∙ h.zero_moves))
  spelled_leads (n ∷ b) place s o is there =
      let it = h.comes place s o is.some there in
      let both = at_same found place place s is.state o is.origin refl there is.there in
      let rest = spelled_leads b o.from it.from it.by (subst (λ x. Spells found b x) (ap (λ x. x.from) (sym both.1)) is.before) it.there in (
        record { between = it.from; before = rest.0; goes = subst (λ m. Goes it.from m s) (ap (λ x. x.number) both.1 ∙ is.is) it.goes },
        omega (arith, rest.1, it.more),
      )

  -- places are in the order of their lists
  spelled_order : (b c : List ℕ) (i j : ℕ) → i < j → Spells found b i → Spells found c j → IsSooner (reverse b) (reverse c)
  spelled_order b [] i j l is it = absurd (omega (arith, l, it))
  spelled_order [] (n ∷ c) i j l is it = shorter_back [] (n ∷ c) (omega arith)
  spelled_order (m ∷ b) (n ∷ c) i j l is it = elim (h.sorted i j is.state it.state is.origin it.origin is.some l is.there it.there) [
    | inl less ↦ more_back b c m n (spelled_order b c is.origin.from it.origin.from less is.before it.before)
    | inr e ↦
        let rest = spells_one b c is.origin.from it.origin.from e.0 is.before it.before in
        subst (λ zs. IsSooner (reverse (m ∷ b)) (reverse (n ∷ zs))) rest (last_back b m n (omega (arith, e.1, is.is, it.is)))
  ]

  AtMost : List ℕ → List ℕ → Type 0
  AtMost b c = (b ≡ c) ⊎ IsSooner (reverse b) (reverse c)

  most_length : (b c : List ℕ) → AtMost b c → length b ≤ length c
  unfolding AtMost
  most_length b c (inl e) = omega (arith, ap length e)
  most_length b c (inr l) = length_back b c l

  after_most : (b p c : List ℕ) → IsSooner (reverse b) (reverse p) → AtMost p c → IsSooner (reverse b) (reverse c)
  unfolding AtMost
  after_most b p c l (inl e) = subst (λ x. IsSooner (reverse b) (reverse x)) e l
  after_most b p c l (inr m) = sooner_trans (reverse b) (reverse p) (reverse c) l m

  -- what a list that leads to a state says: no place's list is later that has the state; and it was found, or the list has more moves
  -- than those of the places that were done
  record Reached (c : List ℕ) (v : State) : Type 0 where
    least : (j : ℕ) (b : List ℕ) (o : Origin) → slice_get found j ≡ Some (v, o) → Spells found b j → AtMost b c
    met : IsFound found v ⊎ ((k : ℕ) (b : List ℕ) → k ≤ done → Spells found b k → length b < length c)

  -- where the list before the last move is a place's, or later
  joined : (b c p : List ℕ) (m n from i : ℕ) → Spells found b from → Spells found p i → AtMost p c → IsBefore from n i (m + 1) → AtMost (n ∷ b) (m ∷ c)
  unfolding AtMost
  joined b c p m n from i is it most (inl l) = inr (more_back b c n m (after_most b p c (spelled_order b p from i l is it) most))
  joined b c p m n from i is it (inl e) (inr q) =
      let same : b ≡ c = spells_one b p from i q.0 is it ∙ e in
      elim (below_next n m q.1) [
        | inl l ↦ inr (subst (λ x. IsSooner (reverse (n ∷ b)) (reverse (m ∷ x))) same (last_back b n m l))
        | inr s ↦ inl (ap (λ z. z ∷ b) s ∙ ap (λ zs. m ∷ zs) same)
      ]
  joined b c p m n from i is it (inr l) (inr q) =
      inr (more_back b c n m (subst (λ x. IsSooner (reverse x) (reverse c)) (sym (spells_one b p from i q.0 is it)) l))

  reached_on : (c : List ℕ) (u v : State) (m : ℕ) → Goes u m v → Reached c u → Reached (m ∷ c) v
  unfolding AtMost
  reached_on c u v m goes r = record { least = λ j b o there it. least j b o there it; met = by r.met }
    where
      -- a move that was tried leads to what was found; one that wasn't is no sooner than those that were
      step : (i : ℕ) (w : Origin) → slice_get found i ≡ Some (u, w) → (j : ℕ) (o : Origin) → 0 < j → slice_get found j ≡ Some (v, o)
          → IsBefore o.from o.number i (m + 1)
      step i w at j o some there = elim (untried i m done tried) [
        | inl was ↦ old (h.closed i m u v w was at goes)
        | inr not ↦ late not (h.soon j v o some there)
      ]
        where
          old : IsFoundBy found v i m → IsBefore o.from o.number i (m + 1)
          old it = elim it.soon [
            | inl none ↦ absurd (omega (arith, some, none, h.once j it.place v o it.origin there it.there))
            | inr early ↦
                let both = at_same found j it.place v v o it.origin (h.once j it.place v o it.origin there it.there) there it.there in
                subst (λ (x : Origin). IsBefore x.from x.number i (m + 1)) (sym both.1) early
          ]

          late : (done < i) ⊎ ((done ≡ i) × (tried ≤ m)) → IsBefore o.from o.number done tried → IsBefore o.from o.number i (m + 1)
          late (inl l) (inl k) = inl (omega (arith, l, k))
          late (inl l) (inr e) = inl (omega (arith, l, e.0))
          late (inr d) (inl k) = inl (omega (arith, d.0, k))
          late (inr d) (inr e) = inr (e.0 ∙ d.0, omega (arith, d.1, e.1))

      least : (j : ℕ) (b : List ℕ) (o : Origin) → slice_get found j ≡ Some (v, o) → Spells found b j → AtMost b (m ∷ c)
      least j [] o there it = inr (shorter_back [] (m ∷ c) (omega arith))
      least j (n ∷ b) o there it = elim r.met [
        | inl was ↦
            let p = spelled was.place (slice_get_within found was.place (u, was.is.origin) was.is.there) in
            let q = step was.place was.is.origin was.is.there j it.origin it.some (there ∙ ap (λ x. Some (v, x)) (at_same found j j v it.state o it.origin refl there it.there).1) in
            joined b c p.0 m n it.origin.from was.place it.before p.1 (r.least was.place p.0 was.is.origin was.is.there p.1) (subst (λ x. IsBefore it.origin.from x was.place (m + 1)) it.is q)
        | inr long ↦ inr (shorter_back (n ∷ b) (m ∷ c) (short (long it.origin.from b (upto (h.soon j it.state it.origin it.some it.there)) it.before)))
      ]
        where
          upto : IsBefore it.origin.from it.origin.number done tried → it.origin.from ≤ done
          upto (inl l) = omega (arith, l)
          upto (inr e) = omega (arith, e.0)

          short : length b < length c → length (n ∷ b) < length (m ∷ c)
          short l = omega (arith, l)

      by : IsFound found u ⊎ ((k : ℕ) (b : List ℕ) → k ≤ done → Spells found b k → length b < length c)
          → IsFound found v ⊎ ((k : ℕ) (b : List ℕ) → k ≤ done → Spells found b k → length b < length (m ∷ c))
      by (inr long) = inr (λ k b l it. let q : length b < length c = long k b l it in omega (arith, q))
      by (inl was) = elim (untried was.place m done tried) [
        | inl early ↦
            let it = h.closed was.place m u v was.is.origin early was.is.there goes in
            inl (record { place = it.place; is = record { origin = it.origin; there = it.there } })
        | inr late ↦ inr (λ k b l it. long k b (upto k l late) it)
      ]
        where
          p : (q : List ℕ) × Spells found q was.place
          p = spelled was.place (slice_get_within found was.place (u, was.is.origin) was.is.there)

          shorter : length p.0 ≤ length c
          shorter = most_length p.0 c (r.least was.place p.0 was.is.origin was.is.there p.1)

          upto : (k : ℕ) → k ≤ done → (done < was.place) ⊎ ((done ≡ was.place) × (tried ≤ m)) → k ≤ was.place
          upto k l (inl a) = omega (arith, l, a)
          upto k l (inr e) = omega (arith, l, e.0)

          long : (k : ℕ) (b : List ℕ) → k ≤ was.place → Spells found b k → length b < length (m ∷ c)
          long k b l it = elim (cases_lt k was.place) [
            | inl less ↦ let q : length b ≤ length p.0 = length_back b p.0 (spelled_order b p.0 k was.place less it p.1) in omega (arith, q, shorter)
            | inr not ↦ let q : length b ≡ length p.0 = ap length (spells_one b p.0 k was.place (omega (arith, l, not)) it p.1) in omega (arith, q, shorter)
          ]

  reached : (c : List ℕ) (v : State) → LeadsBack Goes h.start c v → Reached c v
  unfolding LeadsBack AtMost
  reached [] v is = record { least = λ j b o there it. least j b o there it; met = inl (record { place = 0; is = begins }) }
    where
      begins : IsAt found 0 v
      begins = record { origin = h.first; there = h.begins ∙ ap (λ x. Some (x, h.first)) (sym is) }

      least : (j : ℕ) (b : List ℕ) (o : Origin) → slice_get found j ≡ Some (v, o) → Spells found b j → AtMost b []
      least j [] o there it = inl refl
      least j (n ∷ b) o there it = absurd (omega (arith, it.some, h.once j 0 v o h.first there begins.there))
  reached (m ∷ c) v is = reached_on c is.between v m is.goes (reached c is.between is.before)

  -- a place's list leads there first
  pub spelled_first : (b : List ℕ) (place : ℕ) (s : State) (o : Origin) → Spells found b place → slice_get found place ≡ Some (s, o)
      → IsFirst Goes h.start (reverse b) s
  unfolding AtMost
  spelled_first b place s o is there = record {
    leads = leads_of Goes h.start b s (spelled_leads b place s o is there).0;
    soonest = λ other leads. by other ((reached (reverse other) s (back_of Goes h.start other s leads)).least place b o there is);
  }
    where
      by : (other : List ℕ) → AtMost b (reverse other) → (reverse b ≡ other) ⊎ IsSooner (reverse b) other
      by other (inl e) = inl (ap reverse e ∙ reverse-reverse other)
      by other (inr l) = inr (subst (λ x. IsSooner (reverse b) x) (reverse-reverse other) l)

  pub finds : Finds Goes h.start found
  finds = record {
    led = λ place s o there.
        let p = spelled place (slice_get_within found place (s, o) there) in
        record {
          moves = reverse p.0;
          first = spelled_first p.0 place s o p.1 there;
          many = length-reverse p.0 ∙ (spelled_leads p.0 place s o p.1 there).1;
        };
    once = λ i j s one other. h.once i j s one.origin other.origin one.there other.there;
    ordered = λ i j s t ms ns l one other first second. ordered i j s t ms ns l one other first second;
    begins = record { origin = h.first; there = h.begins };
    done = done;
    tried = tried;
    searched = h;
  }
    where
      ordered : (i j : ℕ) (s t : State) (ms ns : List ℕ) → i < j → IsAt found i s → IsAt found j t → IsFirst Goes h.start ms s → IsFirst Goes h.start ns t → IsSooner ms ns
      ordered i j s t ms ns l one other first second =
          let p = spelled i (slice_get_within found i (s, one.origin) one.there) in
          let q = spelled j (slice_get_within found j (t, other.origin) other.there) in
          let e = first_one Goes h.start s (reverse p.0) ms (spelled_first p.0 i s one.origin p.1 one.there) first in
          let f = first_one Goes h.start t (reverse q.0) ns (spelled_first q.0 j t other.origin q.1 other.there) second in
          subst (λ xs. IsSooner xs ns) e (subst (λ ys. IsSooner (reverse p.0) ys) f (spelled_order p.0 q.0 i j l p.1 q.1))

  -- where all moves of all that was found were tried, none is missed
  pub finds_all : length found ≤ done → FindsAll Goes h.start found
  unfolding LeadsBack
  finds_all all moves s leads = by (reverse moves) s (back_of Goes h.start moves s leads)
    where
      by : (c : List ℕ) (v : State) → LeadsBack Goes h.start c v → IsFound found v
      by [] v is = record { place = 0; is = record { origin = h.first; there = h.begins ∙ ap (λ x. Some (x, h.first)) (sym is) } }
      by (m ∷ c) v is =
          let was = by c is.between is.before in
          let l = slice_get_within found was.place (is.between, was.is.origin) was.is.there in
          let it = h.closed was.place m is.between v was.is.origin (inl (omega (arith, l, all))) was.is.there is.goes in
          record { place = it.place; is = record { origin = it.origin; there = it.there } }

  -- where all moves of all before a place were tried, all is found of at most as many moves as the place's state has
  pub finds_near : (from : State) (by : Origin) → slice_get found done ≡ Some (from, by) → (list : List ℕ) (s : State) → Leads Goes h.start list s
      → length list ≤ by.moves → IsFound found s
  finds_near from by at list s leads short = near (reached (reverse list) s (back_of Goes h.start list s leads)).met
    where
      p : (b : List ℕ) × Spells found b done
      p = spelled done (slice_get_within found done (from, by) at)

      near : IsFound found s ⊎ ((k : ℕ) (b : List ℕ) → k ≤ done → Spells found b k → length b < length (reverse list)) → IsFound found s
      near (inl was) = was
      near (inr long) =
          let l : length p.0 < length (reverse list) = long done p.0 (omega arith) p.1 in
          absurd (omega (arith, l, short, (spelled_leads p.0 done from by p.1 at).1, length-reverse list))

module _ {State : Type 0} (Goes : State → ℕ → State → Type 0) (found : List (State × Origin)) (done most : ℕ) (h : IsCut Goes found done most) where
  -- where it was cut: all of at most so many moves as the state's that was next
  pub finds_nearest : FindsNearest Goes h.searched.start found most h.by.moves
  unfolding LeadsBack
  finds_nearest = record {
    near = λ list s leads short. finds_near Goes found done h.tried h.searched h.from h.by h.at list s leads short;
    far = λ place s o there. far place s o there (cases_lt 0 place);
    full = h.full;
    list = reverse (h.tried ∷ p.0);
    more = h.more;
    leads = leads_of Goes h.searched.start (h.tried ∷ p.0) h.more last;
    long = length-reverse (h.tried ∷ p.0) ∙ omega (arith, is.1);
    new = h.new;
  }
    where
      p : (b : List ℕ) × Spells found b done
      p = spelled Goes found done h.tried h.searched done (slice_get_within found done (h.from, h.by) h.at)

      is : LeadsBack Goes h.searched.start p.0 h.from × (length p.0 ≡ h.by.moves)
      is = spelled_leads Goes found done h.tried h.searched p.0 done h.from h.by p.1 h.at

      last : LeadsBack Goes h.searched.start (h.tried ∷ p.0) h.more
      last = record { between = h.from; before = is.0; goes = h.goes }

      far : (place : ℕ) (s : State) (o : Origin) → slice_get found place ≡ Some (s, o) → (0 < place) ⊎ (place ≤ 0) → o.moves ≤ h.by.moves + 1
      far place s o there (inr none) =
          let both = at_same found place 0 s h.searched.start o h.searched.first (omega (arith, none)) there h.searched.begins in
          let m : o.moves ≡ 0 = ap (λ x. x.moves) both.1 ∙ h.searched.zero_moves in
          omega (arith, m)
      far place s o there (inl some) =
          let it = h.searched.comes place s o some there in
          let q = spelled Goes found done h.tried h.searched o.from (slice_get_within found o.from (it.from, it.by) it.there) in
          let long = (spelled_leads Goes found done h.tried h.searched q.0 o.from it.from it.by q.1 it.there).1 in
          let l : length q.0 ≤ length p.0 = by q.0 o.from q.1 (h.searched.soon place s o some there) in
          omega (arith, l, long, is.1, it.more)
        where
          by : (b : List ℕ) (i : ℕ) → Spells found b i → IsBefore i o.number done h.tried → length b ≤ length p.0
          by b i it (inl l) = length_back b p.0 (spelled_order Goes found done h.tried h.searched b p.0 i done l it p.1)
          by b i it (inr e) = let q : length b ≡ length p.0 = ap length (spells_one Goes found done h.tried h.searched b p.0 i done e.0 it p.1) in omega (arith, q)

-- the moves so far, latest first, of a place's list; and the place that they were made from
pub record Walked {State : Type 0} (found : List (State × Origin)) (moves : List ℕ) (place at many : ℕ) : Type 0 where
  pub state : State
  pub origin : Origin
  pub there : slice_get found at ≡ Some (state, origin)
  pub left : origin.moves + length moves ≡ many
  pub spells : (b : List ℕ) → Spells found b at → Spells found (moves ++ b) place

-- where the first state is that one
module _ {State : Type 0} (Goes : State → ℕ → State → Type 0) (start : State) (found : List (State × Origin)) (at : IsAt found 0 start) where
  starts : (done tried : ℕ) (h : Searched Goes found done tried) → h.start ≡ start
  starts done tried h = (at_same found 0 0 h.start start h.first at.origin refl h.begins at.there).0

  pub finds_from : (done tried : ℕ) → Searched Goes found done tried → Finds Goes start found
  finds_from done tried h = subst (λ s. Finds Goes s found) (starts done tried h) (finds Goes found done tried h)

  pub finds_all_from : (done tried : ℕ) → Searched Goes found done tried → length found ≤ done → FindsAll Goes start found
  finds_all_from done tried h all = subst (λ s. FindsAll Goes s found) (starts done tried h) (finds_all Goes found done tried h all)

  pub finds_near_from : (done tried : ℕ) → Searched Goes found done tried → (from : State) (by : Origin) → slice_get found done ≡ Some (from, by)
      → (list : List ℕ) (s : State) → Leads Goes start list s → length list ≤ by.moves → IsFound found s
  finds_near_from done tried h from by at list s leads short =
      finds_near Goes found done tried h from by at list s (subst (λ x. Leads Goes x list s) (sym (starts done tried h)) leads) short

  pub finds_nearest_from : (done most : ℕ) (h : IsCut Goes found done most) → FindsNearest Goes start found most h.by.moves
  finds_nearest_from done most h = subst (λ s. FindsNearest Goes s found most h.by.moves) (starts done h.tried h.searched) (finds_nearest Goes found done most h)

  -- the list that a place's origins spell leads there first
  pub spelled_first_from : Finds Goes start found → (b : List ℕ) (place : ℕ) (s : State) → Spells found b place → IsAt found place s → IsFirst Goes start (reverse b) s
  spelled_first_from f b place s is there =
      subst (λ x. IsFirst Goes x (reverse b) s) (starts f.done f.tried f.searched) (spelled_first Goes found f.done f.tried f.searched b place s there.origin is there.there)

  pub walk_begins : (place many : ℕ) (state : State) (origin : Origin) → slice_get found place ≡ Some (state, origin) → origin.moves ≡ many
      → Walked found [] place place many
  walk_begins place many state origin there is = record { state = state; origin = origin; there = there; left = omega (arith, is); spells = λ b it. it }

  pub walk_on : Finds Goes start found → (moves : List ℕ) (place at many : ℕ) (state : State) (origin : Origin) → Walked found moves place at many
      → length moves < many → slice_get found at ≡ Some (state, origin) → Walked found (moves ++ origin.number ∷ []) place origin.from many
  walk_on f moves place at many state origin w short there =
      let both = at_same found at at w.state state w.origin origin refl w.there there in
      let some : 0 < at = by (cases_lt 0 at) w.left in
      let it = f.searched.comes at state origin some there in
      record {
        state = it.from;
        origin = it.by;
        there = it.there;
        left = omega (arith, w.left, it.more, length-append moves (origin.number ∷ []), ap (λ x. x.moves) both.1);
        spells = λ b is.
            subst (λ xs. Spells found xs place) (sym (append_assoc moves (origin.number ∷ []) b))
            (w.spells (origin.number ∷ b) (record { state = state; origin = origin; some = some; there = there; is = refl; before = is }));
      }
    where
      by : (0 < at) ⊎ (at ≤ 0) → w.origin.moves + length moves ≡ many → 0 < at
      by (inl some) left = some
      by (inr none) left = let few : w.origin.moves ≤ at = f.searched.small at w.state w.origin w.there in absurd (omega (arith, few, none, left, short))

  pub walk_ends : Finds Goes start found → (moves : List ℕ) (place at : ℕ) (state : State) → Walked found moves place at (length moves) → IsAt found place state
      → IsFirst Goes start (reverse moves) state
  walk_ends f moves place at state w there =
      subst (λ xs. IsFirst Goes start (reverse xs) state) (append-nil moves) (spelled_first_from f (moves ++ []) place state (w.spells [] (none (cases_lt 0 at))) there)
    where
      none : (0 < at) ⊎ (at ≤ 0) → at ≡ 0
      none (inr l) = omega (arith, l)
      none (inl some) = let it = f.searched.comes at w.state w.origin some w.there in absurd (omega (arith, it.more, w.left))

-- what is at a place, by its moves
pub moves_at : {State : Type 0} (found : List (State × Origin)) (place : ℕ) (r : Option ℕ) → r ≡ option_map (λ e. e.1.moves) (slice_get found place)
    → (state : State) (origin : Origin) → slice_get found place ≡ Some (state, origin) → r ≡ Some origin.moves
moves_at found place r is state origin there = is ∙ ap (option_map (λ e. e.1.moves)) there

-- where it was cut, by how many moves the state has that was next
pub reaches_nearest : {State : Type 0} (Goes : State → ℕ → State → Type 0) (start : State) (found : List (State × Origin)) → IsAt found 0 start → (done most : ℕ)
    (h : IsCut Goes found done most) (Whole : Type 0) (cut : Option ℕ) → cut ≡ option_map (λ e. e.1.moves) (slice_get found done)
    → MatchOption cut Whole (λ moves. FindsNearest Goes start found most moves)
reaches_nearest Goes start found at done most h Whole cut is =
    subst (λ c. MatchOption c Whole (λ moves. FindsNearest Goes start found most moves)) (sym (moves_at found done cut is h.from h.by h.at))
    (finds_nearest_from Goes start found at done most h)
