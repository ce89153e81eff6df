-- A search that tries no move from a state of more than so many moves.
use Rattle.std.proofs.Common.{◌≡◌, ℕ, ◌+◌, ◌<◌, ◌≤◌, List, length, Option, Some, None, ◌⊎◌, inl, inr, ap, sym, refl, ◌∙◌, arith, subst}
use Rattle.std.specs.Prelude.{option_map, slice_get}
use Rattle.std.proofs.lemmas.Bool.{cases_lt, cases_order}
use Rattle.std.proofs.lemmas.Option.{none-some, same_Some, slice_get_within}
use Rattle.cx_search.specs.declared.found.Origin.{Origin}
use Rattle.cx_search.specs.Finds.{Finds, FindsAll, FindsNearest}
use Rattle.cx_search.specs.Found.{IsAt, Searched}
use Rattle.cx_search.specs.Parts.Searching.{IsCut}
use Rattle.cx_search.specs.Moves.{IsSooner}
use Rattle.cx_search.specs.Within.{FindsWithin, IsClosed, IsOpen, Reaches}
use Rattle.cx_search.specs.declared.within.Reach.{Reach}
use Rattle.cx_search.specs.declared.within.Reach.TheVariants.{Closed, Full, Open}
use Rattle.cx_search.proofs.ListLemmas.{item_at}
use Rattle.cx_search.proofs.PathLemmas.{finds_all_from, finds_from, finds_near_from, finds_nearest_from, first_one}
use Rattle.cx_search.proofs.SearchLemmas.{at_same, below_next}

-- none of the first states has more moves
abbrev pub AreFew : {State : Type 0} → List (State × Origin) → ℕ → ℕ → Type 0
AreFew {State = State} found done moves =
    (place : ℕ) (state : State) (origin : Origin) → place < done → slice_get found place ≡ Some (state, origin) → origin.moves ≤ moves

-- what is at a place, by how many moves it has
pub record HasMany {State : Type 0} (found : List (State × Origin)) (place many : ℕ) : Type 0 where
  pub state : State
  pub origin : Origin
  pub there : slice_get found place ≡ Some (state, origin)
  pub same : origin.moves ≡ many

pub many_at : {State : Type 0} (found : List (State × Origin)) (place many : ℕ) → Some many ≡ option_map (λ e. e.1.moves) (slice_get found place)
    → HasMany found place many
many_at {State = State} found place many is = by (slice_get found place) refl is
  where
    by : (r : Option (State × Origin)) → slice_get found place ≡ r → Some many ≡ option_map (λ (e : State × Origin). e.1.moves) r → HasMany found place many
    by None there is = absurd (none-some many (sym is))
    by (Some e) there is = record { state = e.0; origin = e.1; there = there; same = sym (same_Some many e.1.moves is) }

pub none_at : {State : Type 0} (found : List (State × Origin)) (place : ℕ) → None ≡ option_map (λ e. e.1.moves) (slice_get found place) → length found ≤ place
none_at found place is = elim (cases_lt place (length found)) [
  | inr beyond ↦ beyond
  | inl within ↦
      let item = item_at found place within in
      absurd (none-some item.0.1.moves (is ∙ ap (option_map (λ e. e.1.moves)) item.1))
]

no_longer : (xs ys : List ℕ) → IsSooner xs ys → length xs ≤ length ys
no_longer xs ys (inl l) = omega (arith, l)
no_longer xs ys (inr e) = omega (arith, e.0)

module _ {State : Type 0} (Goes : State → ℕ → State → Type 0) (start : State) where
  -- a state that stays at its place has as many moves as before
  moves_kept : (old new : List (State × Origin)) → Finds Goes start old → Finds Goes start new → (place : ℕ) (s t : State) (o p : Origin)
      → slice_get old place ≡ Some (s, o) → IsAt new place s → slice_get new place ≡ Some (t, p) → o.moves ≡ p.moves
  moves_kept old new f g place s t o p was is there =
      let both = at_same new place place s t is.origin p refl is.there there in
      let one = f.led place s o was in
      let other = g.led place s is.origin is.there in
      sym one.many ∙ ap length (first_one Goes start s one.moves other.moves one.first other.first) ∙ other.many ∙ ap (λ x. x.moves) both.1

  -- one state more has no more moves
  pub few_on : (old new : List (State × Origin)) → Finds Goes start old → Finds Goes start new
      → ((place : ℕ) (s : State) → IsAt old place s → IsAt new place s) → (done many moves : ℕ) → HasMany old done many → many ≤ moves
      → AreFew old done moves → AreFew new (done + 1) moves
  few_on old new f g kept done many moves at short few place state origin below there =
      elim (below_next place done below) [
        | inl before ↦ by (λ p. p < done) (few place) before
        | inr e ↦ by (λ p. p < done + 1) (λ s o l is. same s o (subst (λ p. slice_get old p ≡ Some (s, o)) e is)) below
      ]
    where
      within : place < length old
      within = let l = slice_get_within old done (at.state, at.origin) at.there in omega (arith, l, below)

      same : (s : State) (o : Origin) → slice_get old done ≡ Some (s, o) → o.moves ≤ moves
      same s o is =
          let m : o.moves ≡ at.origin.moves = ap (λ x. x.moves) (at_same old done done s at.state o at.origin refl is at.there).1 in
          omega (arith, m, at.same, short)

      by : (P : ℕ → Type 0) → ((s : State) (o : Origin) → P place → slice_get old place ≡ Some (s, o) → o.moves ≤ moves) → P place → origin.moves ≤ moves
      by P each holds =
          let item = item_at old place within in
          let m = moves_kept old new f g place item.0.0 state item.0.1 origin item.1 (kept place item.0.0 (record { origin = item.0.1; there = item.1 })) there in
          let l = each item.0.0 item.0.1 holds item.1 in
          omega (arith, m, l)

  module _ (found : List (State × Origin)) (begins : IsAt found 0 start) (done moves : ℕ) (h : Searched Goes found done 0) (few : AreFew found done moves) where
    -- where all moves of all that was found were tried
    pub is_closed : length found ≤ done → IsClosed Goes start moves
    is_closed all list state leads =
        let is = finds_all_from Goes start found begins done 0 h all list state leads in
        let led = (finds_from Goes start found begins done 0 h).led is.place state is.is.origin is.is.there in
        let within = slice_get_within found is.place (state, is.is.origin) is.is.there in
        let m = few is.place state is.is.origin (omega (arith, within, all)) is.is.there in
        record { list = led.moves; leads = led.first.leads; short = omega (arith, led.many, m) }

    far : (place : ℕ) (s : State) (o : Origin) → slice_get found place ≡ Some (s, o) → (0 < place) ⊎ (place ≤ 0) → o.moves ≤ moves + 1
    far place s o there (inr none) =
        let both = at_same found place 0 s h.start o h.first (omega (arith, none)) there h.begins in
        let m : o.moves ≡ 0 = ap (λ x. x.moves) both.1 ∙ h.zero_moves in
        omega (arith, m)
    far place s o there (inl some) =
        let it = h.comes place s o some there in
        elim (h.soon place s o some there) [
          | inl l ↦ let m = few o.from it.from it.by l it.there in omega (arith, m, it.more)
          | inr e ↦ absurd (omega (arith, e.1))
        ]

    -- where the next state has more moves
    module _ (many : ℕ) (at : HasMany found done many) (more : moves < many) where
      enough : moves < at.origin.moves
      enough = omega (arith, at.same, more)

      pub finds_within : FindsWithin Goes start found moves
      finds_within = record {
        near = λ state is.
            let short : length is.list ≤ at.origin.moves = omega (arith, is.short, enough) in
            finds_near_from Goes start found begins done 0 h at.state at.origin at.there is.list state is.leads short;
        far = λ place s o there. far place s o there (cases_lt 0 place);
      }

      pub is_open : IsOpen Goes start moves
      is_open =
          let led = (finds_from Goes start found begins done 0 h).led done at.state at.origin at.there in
          record {
            list = led.moves;
            state = at.state;
            leads = led.first.leads;
            long = omega (arith, led.many, enough, far done at.state at.origin at.there (cases_lt 0 done));
            new = λ is. elim (led.first.soonest is.list is.leads) [
              | inl e ↦ let m : length led.moves ≡ length is.list = ap length e in absurd (omega (arith, m, led.many, enough, is.short))
              | inr l ↦ let m = no_longer led.moves is.list l in absurd (omega (arith, m, led.many, enough, is.short))
            ];
          }

  -- where it was cut
  pub finds_full : (old new : List (State × Origin)) → Finds Goes start old → IsAt old 0 start
      → ((place : ℕ) (s : State) → IsAt old place s → IsAt new place s) → (done most many : ℕ) → HasMany old done many → IsCut Goes new done most
      → FindsNearest Goes start new most many
  finds_full old new f begins kept done most many at h =
      let starts = kept 0 start begins in
      let g = finds_from Goes start new starts done h.tried h.searched in
      let m = moves_kept old new f g done at.state h.from at.origin h.by at.there (kept done at.state (record { origin = at.origin; there = at.there })) h.at in
      subst (λ n. FindsNearest Goes start new most n) (sym m ∙ at.same) (finds_nearest_from Goes start new starts done most h)

  -- of one search
  module _ (found : List (State × Origin)) (links : List (List ℕ)) (most moves : ℕ) where
    -- all that a list of at most so many moves leads to isn't all
    full_once : (m n : ℕ) → FindsNearest Goes start found most m → FindsNearest Goes start found most n → m < n → ⊥
    full_once m n one other less =
        let is = other.near one.list one.more one.leads (omega (arith, one.long, less)) in
        one.new is.place is.is

    not_closed : (n : ℕ) → FindsAll Goes start found → FindsNearest Goes start found most n → ⊥
    not_closed n all full = let is = all full.list full.more full.leads in full.new is.place is.is

    not_open : (n : ℕ) → FindsWithin Goes start found moves → FindsNearest Goes start found most n → n ≤ moves → ⊥
    not_open n within full short =
        let is = within.near full.more (record { list = full.list; leads = full.leads; short = omega (arith, full.long, short) }) in
        full.new is.place is.is

    pub one_reach : (one other : Reach) → Reaches Goes start found links most moves one → Reaches Goes start found links most moves other → one ≡ other
    one_reach Closed Closed one other = refl
    one_reach Open Open one other = refl
    one_reach Closed Open one other = absurd (other.1.new (one.1 other.1.list other.1.state other.1.leads))
    one_reach Open Closed one other = absurd (one.1.new (other.1 one.1.list one.1.state one.1.leads))
    one_reach Closed (Full n) one other = absurd (not_closed n one.0.all other.0)
    one_reach (Full n) Closed one other = absurd (not_closed n other.0.all one.0)
    one_reach Open (Full n) one other = absurd (not_open n one.0 other.0 other.1)
    one_reach (Full n) Open one other = absurd (not_open n other.0 one.0 one.1)
    one_reach (Full m) (Full n) one other = elim (cases_order m n) [
      | inl e ↦ ap Full e
      | inr (inl l) ↦ absurd (full_once m n one.0 other.0 l)
      | inr (inr l) ↦ absurd (full_once n m other.0 one.0 l)
    ]
