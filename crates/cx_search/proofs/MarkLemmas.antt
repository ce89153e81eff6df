-- A mark more.
use Rattle.std.proofs.Common.{◌≡◌, ℕ, zero, suc, ◌+◌, ◌<◌, ◌≤◌, ◌-◌, Bool, true, false, true≢false, List, [], ◌∷◌, length, Some, ◌⊎◌, inl, inr, sym, subst, refl, ◌∙◌, ap, arith, cond, eq-eqb}
use Rattle.std.specs.Prelude.{slice_get, slice_set, replicate, MatchBool, ◌&&◌, ◌||◌, ◌==◌}
use Rattle.std.specs.List.{list_all, list_any}
use Rattle.std.proofs.lemmas.Bool.{cases_lt, eqb-true}
use Rattle.std.proofs.lemmas.Option.{none-some, same_Some, slice_get_within}
use Rattle.cx_search.specs.declared.found.Origin.{Origin}
use Rattle.cx_search.specs.declared.marks.Rule.{Rule}
use Rattle.cx_search.specs.declared.marks.Rule.TheVariants.{All, Any, To}
use Rattle.cx_search.specs.Forever.{AtRest, CanRest, IsBounded, Loops}
use Rattle.cx_search.specs.Found.{IsAt}
use Rattle.cx_search.specs.Parts.Marks.{AreRight, AreStable, LeadsOn, Says, is_due, is_marked, unmarked}
use Rattle.cx_search.specs.Moves.{Leads}
use Rattle.cx_search.specs.Nexts.{AreLinked, AreNexts, LeadsTo}
use Rattle.cx_search.proofs.ListLemmas.{item_at}
use Rattle.cx_search.proofs.SearchLemmas.{at_same}

-- ---- marks
pub fewer_unmarked : (marks : List Bool) (p : ℕ) → p < length marks → is_marked marks p ≡ false → unmarked (slice_set marks p true) < unmarked marks
fewer_unmarked [] p l is = absurd (omega (arith, l))
fewer_unmarked (true ∷ marks) zero l is = absurd (true≢false is)
fewer_unmarked (false ∷ marks) zero l is = omega arith
fewer_unmarked (true ∷ marks) (suc p) l is = fewer_unmarked marks p (omega (arith, l)) is
fewer_unmarked (false ∷ marks) (suc p) l is = let q = fewer_unmarked marks p (omega (arith, l)) is in omega (arith, q)

pub marked_set : (marks : List Bool) (p q : ℕ) → is_marked (slice_set marks p true) q ≡ true → (q ≡ p) ⊎ (is_marked marks q ≡ true)
marked_set [] p q is = inr is
marked_set (x ∷ marks) zero zero is = inl refl
marked_set (x ∷ marks) zero (suc q) is = inr is
marked_set (x ∷ marks) (suc p) zero is = inr is
marked_set (x ∷ marks) (suc p) (suc q) is = elim (marked_set marks p q is) [ inl e ↦ inl (ap suc e) | inr h ↦ inr h ]

pub none_marked : (n q : ℕ) → is_marked (replicate n false) q ≡ true → ⊥
none_marked zero q is = true≢false (sym is)
none_marked (suc n) zero is = true≢false (sym is)
none_marked (suc n) (suc q) is = none_marked n q is

-- ---- tests of lists
both : (b c : Bool) → (b && c) ≡ true → (b ≡ true) × (c ≡ true)
both true true is = (refl, refl)
both true false is = absurd (true≢false (sym is))
both false c is = absurd (true≢false (sym is))

one_of : (b c : Bool) → (b && c) ≡ false → (b ≡ false) ⊎ (c ≡ false)
one_of true true is = absurd (true≢false is)
one_of true false is = inr refl
one_of false c is = inl refl

either : (b c : Bool) → (b || c) ≡ true → (b ≡ true) ⊎ (c ≡ true)
either true c is = inl refl
either false true is = inr refl
either false false is = absurd (true≢false (sym is))

neither : (b c : Bool) → (b || c) ≡ false → (b ≡ false) × (c ≡ false)
neither false false is = (refl, refl)
neither true c is = absurd (true≢false is)
neither false true is = absurd (true≢false is)

-- an item that passes, or fails
pub record Passes (f : ℕ → Bool) (xs : List ℕ) (passes : Bool) : Type 0 where
  pub index : ℕ
  pub item : ℕ
  pub at : slice_get xs index ≡ Some item
  pub is : f item ≡ passes

all_of : (f : ℕ → Bool) (xs : List ℕ) → list_all f xs ≡ true → (index x : ℕ) → slice_get xs index ≡ Some x → f x ≡ true
all_of f [] is index x at = absurd (none-some x at)
all_of f (y ∷ xs) is zero x at = ap f (sym (same_Some y x at)) ∙ (both (f y) (list_all f xs) is).0
all_of f (y ∷ xs) is (suc index) x at = all_of f xs (both (f y) (list_all f xs) is).1 index x at

none_of : (f : ℕ → Bool) (xs : List ℕ) → list_any f xs ≡ false → (index x : ℕ) → slice_get xs index ≡ Some x → f x ≡ false
none_of f [] is index x at = absurd (none-some x at)
none_of f (y ∷ xs) is zero x at = ap f (sym (same_Some y x at)) ∙ (neither (f y) (list_any f xs) is).0
none_of f (y ∷ xs) is (suc index) x at = none_of f xs (neither (f y) (list_any f xs) is).1 index x at

some_of : (f : ℕ → Bool) (xs : List ℕ) → list_any f xs ≡ true → Passes f xs true
some_of f [] is = absurd (true≢false (sym is))
some_of f (y ∷ xs) is = elim (either (f y) (list_any f xs) is) [
  | inl e ↦ record { index = 0; item = y; at = refl; is = e }
  | inr h ↦ let r = some_of f xs h in record { index = suc r.index; item = r.item; at = r.at; is = r.is }
]

fails_of : (f : ℕ → Bool) (xs : List ℕ) → list_all f xs ≡ false → Passes f xs false
fails_of f [] is = absurd (true≢false is)
fails_of f (y ∷ xs) is = elim (one_of (f y) (list_all f xs) is) [
  | inl e ↦ record { index = 0; item = y; at = refl; is = e }
  | inr h ↦ let r = fails_of f xs h in record { index = suc r.index; item = r.item; at = r.at; is = r.is }
]

-- ---- what a due mark says
module _ {State : Type 0} (Goes : State → ℕ → State → Type 0) (found : List (State × Origin)) where
  -- a bound of all lists from the places
  bound_of : (s : State) (xs : List ℕ) → ((index to : ℕ) → slice_get xs index ≡ Some to → LeadsTo Goes found s to)
      → ((index to : ℕ) (t : State) → slice_get xs index ≡ Some to → IsAt found to t → IsBounded Goes t)
      → (most : ℕ) × ((index to : ℕ) (t : State) → slice_get xs index ≡ Some to → IsAt found to t → (ms : List ℕ) (u : State) → Leads Goes t ms u → length ms ≤ most)
  bound_of s [] each bounds = (0, λ index to t at is ms u leads. absurd (none-some to at))
  bound_of s (x ∷ xs) each bounds =
      let first = each 0 x refl in
      let b = bounds 0 x first.next refl first.at in
      let rest = bound_of s xs (λ index to at. each (suc index) to at) (λ index to t at is. bounds (suc index) to t at is) in
      (b.most + rest.0, λ index to t at is ms u leads. by x xs first.next first.at b rest.0 rest.1 index to t at is ms u leads)
    where
      by : (x : ℕ) (xs : List ℕ) (next : State) → IsAt found x next → (b : IsBounded Goes next) (rest : ℕ)
          → ((index to : ℕ) (t : State) → slice_get xs index ≡ Some to → IsAt found to t → (ms : List ℕ) (u : State) → Leads Goes t ms u → length ms ≤ rest)
          → (index to : ℕ) (t : State) → slice_get (x ∷ xs) index ≡ Some to → IsAt found to t → (ms : List ℕ) (u : State) → Leads Goes t ms u → length ms ≤ b.most + rest
      by x xs next there b rest others zero to t at is ms u leads =
          let same = (at_same found to x t next is.origin there.origin (sym (same_Some x to at)) is.there there.there).0 in
          let few = b.bounded ms u (subst (λ y. Leads Goes y ms u) same leads) in
          omega (arith, few)
      by x xs next there b rest others (suc index) to t at is ms u leads = let few = others index to t at is ms u leads in omega (arith, few)

  no_move : (s : State) (nexts : List ℕ) → AreNexts Goes found s nexts → length nexts ≡ 0 → AtRest Goes s
  no_move s nexts are none = λ number to goes. let it = are.all number to goes in omega (arith, none, slice_get_within nexts it.index it.to it.among)

  can_rest : (s : State) (nexts : List ℕ) (marks : List Bool) → AreNexts Goes found s nexts → is_due Any nexts marks ≡ true → AreRight Goes found Any marks → CanRest Goes s
  unfolding Leads
  can_rest s nexts marks are due right = elim (either (length nexts == 0) (list_any (is_marked marks) nexts) due) [
    | inl none ↦ record { moves = []; to = s; leads = refl; rest = no_move s nexts are (eqb-true (length nexts) 0 none) }
    | inr some ↦
        let it = some_of (is_marked marks) nexts some in
        let next = are.each it.index it.item it.at in
        let rests = right it.item next.next it.is next.at in
        record {
          moves = next.number ∷ rests.moves;
          to = rests.to;
          leads = record { between = next.next; goes = next.goes; rest = rests.leads };
          rest = rests.rest;
        }
  ]

  is_bounded : (s : State) (nexts : List ℕ) (marks : List Bool) → AreNexts Goes found s nexts → is_due All nexts marks ≡ true → AreRight Goes found All marks → IsBounded Goes s
  unfolding Leads
  is_bounded s nexts marks are due right =
      let b = bound_of s nexts are.each (λ index to t at is. right to t (all_of (is_marked marks) nexts due index to at) is) in
      record { most = b.0 + 1; bounded = λ ms u leads. by b.0 b.1 ms u leads }
    where
      by : (most : ℕ) → ((index to : ℕ) (t : State) → slice_get nexts index ≡ Some to → IsAt found to t → (ms : List ℕ) (u : State) → Leads Goes t ms u → length ms ≤ most)
          → (ms : List ℕ) (u : State) → Leads Goes s ms u → length ms ≤ most + 1
      by most bound [] u leads = omega arith
      by most bound (n ∷ ms) u leads =
          let it = are.all n leads.between leads.goes in
          let few = bound it.index it.to leads.between it.among it.at ms u leads.rest in
          omega (arith, few)

  leads_on_to : (target : ℕ) (s : State) (nexts : List ℕ) (marks : List Bool) (to : State) → AreNexts Goes found s nexts → is_due (To target) nexts marks ≡ true
      → AreRight Goes found (To target) marks → IsAt found target to → LeadsOn Goes s to
  unfolding Leads
  leads_on_to target s nexts marks to are due right there =
      let it = some_of (λ next. (next == target) || is_marked marks next) nexts due in
      let next = are.each it.index it.item it.at in
      elim (either (it.item == target) (is_marked marks it.item) it.is) [
        | inl e ↦
            let same = (at_same found it.item target next.next to next.at.origin there.origin (eqb-true it.item target e) next.at.there there.there).0 in
            record { number = next.number; moves = []; leads = record { between = next.next; goes = next.goes; rest = sym same } }
        | inr m ↦
            let on = right it.item next.next m next.at to there in
            record { number = next.number; moves = on.number ∷ on.moves; leads = record { between = next.next; goes = next.goes; rest = on.leads } }
      ]

  says : (rule : Rule) (s : State) (nexts : List ℕ) (marks : List Bool) → AreNexts Goes found s nexts → is_due rule nexts marks ≡ true → AreRight Goes found rule marks
      → Says Goes found rule s
  says Any s nexts marks are due right = can_rest s nexts marks are due right
  says All s nexts marks are due right = is_bounded s nexts marks are due right
  says (To target) s nexts marks are due right = λ to there. leads_on_to target s nexts marks to are due right there

  -- a mark more
  pub right_set : (links : List (List ℕ)) (done : ℕ) (rule : Rule) (marks : List Bool) (p : ℕ) → AreLinked Goes found links done → p < length links
      → ((nexts : List ℕ) → slice_get links p ≡ Some nexts → is_due rule nexts marks ≡ true) → AreRight Goes found rule marks
      → AreRight Goes found rule (slice_set marks p true)
  right_set links done rule marks p linked within due right = λ q state is at. elim (marked_set marks p q is) [
    | inr old ↦ right q state old at
    | inl e ↦
        let row = item_at links p within in
        says rule state row.0 marks (linked.nexts p state row.0 row.1 (subst (λ x. IsAt found x state) e at)) (due row.0 row.1) right
  ]

  pub right_swept : (links : List (List ℕ)) (done : ℕ) (rule : Rule) (now next : List Bool) (marked : Bool) (place : ℕ) → AreLinked Goes found links done
      → place < length links
      → (marked ≡ true → (is_marked now place ≡ false) × (next ≡ slice_set now place true) × ((nexts : List ℕ) → slice_get links place ≡ Some nexts → is_due rule nexts now ≡ true))
      → (marked ≡ false → (next ≡ now) × ((nexts : List ℕ) → slice_get links place ≡ Some nexts → is_marked now place ≡ false → is_due rule nexts now ≡ false))
      → AreRight Goes found rule now → AreRight Goes found rule next
  right_swept links done rule now next true place linked within marks leaves right =
      let m = marks refl in
      subst (λ xs. AreRight Goes found rule xs) (sym m.1) (right_set links done rule now place linked within m.2 right)
  right_swept links done rule now next false place linked within marks leaves right = subst (λ xs. AreRight Goes found rule xs) (sym (leaves refl).0) right

  pub none_right : (rule : Rule) (n : ℕ) → AreRight Goes found rule (replicate n false)
  none_right rule n = λ place state is at. absurd (none_marked n place is)

  -- what no mark says
  module _ (links : List (List ℕ)) (done : ℕ) (linked : AreLinked Goes found links done) (enough : length found ≤ done) where
    pub row_of : (p : ℕ) (s : State) → IsAt found p s → (row : List ℕ) × (slice_get links p ≡ Some row)
    row_of p s at = item_at links p (omega (arith, enough, linked.many, slice_get_within found p (s, at.origin) at.there))

    restless_by : (marks : List Bool) → AreStable links Any marks → (ms : List ℕ) (p : ℕ) (s t : State) → is_marked marks p ≡ false → IsAt found p s → Leads Goes s ms t
        → AtRest Goes t → ⊥
    unfolding Leads
    restless_by marks stable [] p s t free at leads rest =
        let row = row_of p s at in
        let due = neither (length row.0 == 0) (list_any (is_marked marks) row.0) (stable p row.0 row.1 free) in
        let item = item_at row.0 0 (some (length row.0) due.0) in
        let next = (linked.nexts p s row.0 row.1 at).each 0 item.0 item.1 in
        rest next.number next.next (subst (λ x. Goes x next.number next.next) (sym leads) next.goes)
      where
        some : (n : ℕ) → (n == 0) ≡ false → 0 < n
        some zero is = absurd (true≢false is)
        some (suc n) is = omega arith
    restless_by marks stable (n ∷ ms) p s t free at leads rest =
        let row = row_of p s at in
        let due = neither (length row.0 == 0) (list_any (is_marked marks) row.0) (stable p row.0 row.1 free) in
        let it = (linked.nexts p s row.0 row.1 at).all n leads.between leads.goes in
        restless_by marks stable ms it.to leads.between t (none_of (is_marked marks) row.0 due.1 it.index it.to it.among) it.at leads.rest rest

    -- no rest can be come to from a state without a mark
    pub restless : (marks : List Bool) → AreStable links Any marks → (p : ℕ) (s : State) → is_marked marks p ≡ false → IsAt found p s → CanRest Goes s → ⊥
    restless marks stable p s free at can = restless_by marks stable can.moves p s can.to free at can.leads can.rest

    no_way : (marks : List Bool) (target : ℕ) (to : State) → AreStable links (To target) marks → IsAt found target to
        → ((one other : ℕ) (state : State) → IsAt found one state → IsAt found other state → one ≡ other)
        → (ms : List ℕ) (n p : ℕ) (s : State) → is_marked marks p ≡ false → IsAt found p s → Leads Goes s (n ∷ ms) to → ⊥
    unfolding Leads
    no_way marks target to stable there once [] n p s free at leads =
        let row = row_of p s at in
        let it = (linked.nexts p s row.0 row.1 at).all n leads.between leads.goes in
        let not_on = neither (it.to == target) (is_marked marks it.to)
        (none_of (λ next. (next == target) || is_marked marks next) row.0 (stable p row.0 row.1 free) it.index it.to it.among) in
        let same = once it.to target to (subst (λ x. IsAt found it.to x) (sym leads.rest) it.at) there in
        true≢false (sym (eq-eqb it.to target same) ∙ not_on.0)
    no_way marks target to stable there once (m ∷ ms) n p s free at leads =
        let row = row_of p s at in
        let it = (linked.nexts p s row.0 row.1 at).all n leads.between leads.goes in
        let not_on = neither (it.to == target) (is_marked marks it.to)
        (none_of (λ next. (next == target) || is_marked marks next) row.0 (stable p row.0 row.1 free) it.index it.to it.among) in
        no_way marks target to stable there once ms m it.to leads.between not_on.1 it.at leads.rest

    -- no moves lead from a state without a mark to itself
    pub no_loop : (marks : List Bool) (p : ℕ) (s : State) → AreStable links (To p) marks
        → ((one other : ℕ) (state : State) → IsAt found one state → IsAt found other state → one ≡ other)
        → is_marked marks p ≡ false → IsAt found p s → Loops Goes s → ⊥
    no_loop marks p s stable once free at loop = no_way marks p s stable at once loop.moves loop.number p s free at loop.leads

    -- whether they do, by the mark
    pub loops_by : (marks : List Bool) (p : ℕ) (s : State) (marked : Bool) → marked ≡ is_marked marks p → AreRight Goes found (To p) marks → AreStable links (To p) marks
        → ((one other : ℕ) (state : State) → IsAt found one state → IsAt found other state → one ≡ other) → IsAt found p s
        → MatchBool marked (Loops Goes s) (Loops Goes s → ⊥)
    loops_by marks p s true is right stable once at =
        let on = right p s (sym is) at s at in
        record { number = on.number; moves = on.moves; leads = on.leads }
    loops_by marks p s false is right stable once at = no_loop marks p s stable once (sym is) at

    -- one that moves lead to has none either
    pub unmarked_next : (marks : List Bool) → AreStable links All marks → (p : ℕ) (s : State) (row : List ℕ) → is_marked marks p ≡ false → slice_get links p ≡ Some row
        → Passes (is_marked marks) row false
    unmarked_next marks stable p s row free is = fails_of (is_marked marks) row (stable p row is free)

-- ---- a sweep goes on by one place
pub record Swept (links : List (List ℕ)) (rule : Rule) (before now : List Bool) (changed : Bool) (k : ℕ) : Type 0 where
  pub long : length now ≡ length before
  pub same : changed ≡ false → now ≡ before
  pub stable : changed ≡ false → (p : ℕ) (nexts : List ℕ) → length links ≤ p + k → slice_get links p ≡ Some nexts → is_marked now p ≡ false → is_due rule nexts now ≡ false
  pub fewer : changed ≡ true → unmarked now < unmarked before

module _ (links : List (List ℕ)) (rule : Rule) (before : List Bool) where
  pub swept_none : Swept links rule before before false 0
  swept_none = record {
    long = refl;
    same = λ _. refl;
    stable = λ _ p nexts l is free. absurd (omega (arith, l, slice_get_within links p nexts is));
    fewer = λ is. absurd (true≢false (sym is));
  }

  pub swept_on : (now next : List Bool) (changed marked after : Bool) (k place : ℕ) → Swept links rule before now changed k → place + k + 1 ≡ length links
      → length before ≡ length links
      → (marked ≡ true → (is_marked now place ≡ false) × (next ≡ slice_set now place true) × ((nexts : List ℕ) → slice_get links place ≡ Some nexts → is_due rule nexts now ≡ true))
      → (marked ≡ false → (next ≡ now) × ((nexts : List ℕ) → slice_get links place ≡ Some nexts → is_marked now place ≡ false → is_due rule nexts now ≡ false))
      → length next ≡ length now → (after ≡ true → (changed ≡ true) ⊎ (marked ≡ true)) → (after ≡ false → (changed ≡ false) × (marked ≡ false))
      → Swept links rule before next after (k + 1)
  swept_on now next changed marked after k place so_far at long marks leaves same_length one none = record {
    long = same_length ∙ so_far.long;
    same = λ is. (leaves (none is).1).0 ∙ so_far.same (none is).0;
    stable = λ is p nexts l row free.
        let left = leaves (none is).1 in
        let was : is_marked now p ≡ false = ap (λ ms. is_marked ms p) (sym left.0) ∙ free in
        ap (λ ms. is_due rule nexts ms) left.0 ∙ (elim (cases_lt p (length links - k)) [
          | inl less ↦
              let e : p ≡ place = omega (arith, l, at, less) in
              left.1 nexts (ap (slice_get links) (sym e) ∙ row) (ap (is_marked now) (sym e) ∙ was)
          | inr more ↦ so_far.stable (none is).0 p nexts (omega (arith, more)) row was
        ]);
    fewer = λ is. by is (both_ways marked);
  }
    where
      both_ways : (b : Bool) → (b ≡ true) ⊎ (b ≡ false)
      both_ways true = inl refl
      both_ways false = inr refl

      by : after ≡ true → (marked ≡ true) ⊎ (marked ≡ false) → unmarked next < unmarked before
      by is (inr not_marked) =
          let changed_so : changed ≡ true = elim (one is) [ inl h ↦ h | inr h ↦ absurd (true≢false (sym h ∙ not_marked)) ] in
          let few = so_far.fewer changed_so in
          let e : unmarked next ≡ unmarked now = ap unmarked (leaves not_marked).0 in
          omega (arith, few, e)
      by is (inl now_marked) =
          let y = marks now_marked in
          let less = fewer_unmarked now place (omega (arith, at, long, so_far.long)) y.0 in
          let e : unmarked next ≡ unmarked (slice_set now place true) = ap unmarked y.1 in
          let most : unmarked now ≤ unmarked before = elim (both_ways changed) [
            | inl h ↦ let few = so_far.fewer h in omega (arith, few)
            | inr h ↦ let e : unmarked now ≡ unmarked before = ap unmarked (so_far.same h) in omega (arith, e)
          ] in
          omega (arith, less, e, most)

pub swept_less : (before after : List Bool) (changed now : Bool) → changed ≡ true → (now ≡ false → after ≡ before) → (now ≡ true → unmarked after < unmarked before)
    → unmarked after + cond now 1 0 < unmarked before + cond changed 1 0
swept_less before after true true is same fewer = let few = fewer refl in omega (arith, few)
swept_less before after true false is same fewer = let e : unmarked after ≡ unmarked before = ap unmarked (same refl) in omega (arith, e)
swept_less before after false now is same fewer = absurd (true≢false (sym is))
