-- What a tally counts.
use Rattle.std.proofs.Common.{◌≡◌, ℕ, zero, suc, ◌+◌, ◌-◌, ◌<◌, ◌≤◌, ◌^◌, Bool, true, false, List, [], ◌∷◌, ◌++◌, length, get_or, refl, sym, subst, ap, ◌∙◌, arith}
use Rattle.std.specs.Prelude.{◌==◌, cond, replicate, slice_get, Some}
use Rattle.std.specs.List.{filter, flat_map, fold}
use Rattle.std.proofs.lemmas.List.{get_or-set_other, get_or-set_same, length-append, length-replicate, length-set}
use Rattle.std.proofs.lemmas.List.Sums.{sum_by-append}
use Rattle.std.proofs.lemmas.Option.{unwrap_or-slice_get}
use Rattle.std.proofs.lemmas.Bool.Decides.{nat_tests}
use Rattle.cx_exec_laws.specs.Laws.Passages.{PassagesDecide}
use Rattle.cx_look_cover.specs.Laws.{ProgramsAreReached, TalliesCount, times_at, times_in}
use Rattle.cx_exec.specs.Passages.{Passage, places_run, went_away}
use Rattle.cx_exec.specs.Tallies.{capped, no_runs, tally_after, tally_at, with_passage, with_run}
use Rattle.cx_load.specs.declared.program.Loaded.{Loaded}
use Rattle.cx_look_cover.specs.Tallies.{end_with, programs_end, reaching}
use Rattle.cx_exec.specs.declared.tallied.Tally.{Tally}

-- ---- one run at an address
abbrev counted_at : ℕ → Bool → Bool → List Tally → Tally
counted_at address away here tallies = cond here (tally_after away (tally_at tallies address)) (tally_at tallies address)

with_run_at : (away : Bool) (tallies : List Tally) (place address : ℕ) (here : Bool) → (place == address) ≡ here → address < length tallies
    → tally_at (with_run away tallies place) address ≡ counted_at address away here tallies
unfolding with_run
with_run_at away tallies place address true e there =
    let same : place ≡ address = grind (arith, nat_tests, e) in
    unwrap_or-slice_get (with_run away tallies place) address no_runs
    ∙ ap (λ (a : ℕ). get_or (with_run away tallies place) a no_runs) (sym same)
    ∙ get_or-set_same tallies place (tally_after away (tally_at tallies place)) no_runs (omega (arith, same, there))
    ∙ ap (λ (a : ℕ). tally_after away (tally_at tallies a)) same
with_run_at away tallies place address false e there =
    let apart : (address ≡ place → ⊥) = λ same. grind (arith, nat_tests, e, same) in
    unwrap_or-slice_get (with_run away tallies place) address no_runs
    ∙ get_or-set_other tallies place address (tally_after away (tally_at tallies place)) no_runs apart
    ∙ sym (unwrap_or-slice_get tallies address no_runs)

-- and there are as many tallies as before
run_length : (away : Bool) (tallies : List Tally) (place : ℕ) → length (with_run away tallies place) ≡ length tallies
unfolding with_run
run_length away tallies place = length-set tallies place (tally_after away (tally_at tallies place))

pub places_length : (away : Bool) (tallies : List Tally) (places : List ℕ) → length (fold (with_run away) tallies places) ≡ length tallies
places_length away tallies [] = refl
places_length away tallies (place ∷ places) = places_length away (with_run away tallies place) places ∙ run_length away tallies place

-- ---- counts that stop
abbrev pub IsSmall : ℕ → Type 0
IsSmall n = n < 2 ^ 64

pub capped_small : (n : ℕ) → IsSmall (capped n)
capped_small n = grind (arith, nat_tests)

pub capped_same : (n : ℕ) → IsSmall n → n ≡ capped (n + 0)
capped_same n small = grind (arith, nat_tests, small)

pub capped_twice : (n a b : ℕ) → capped (capped (n + a) + b) ≡ capped (n + (a + b))
capped_twice n a b = grind (arith, nat_tests)

abbrev if_so : Bool → ℕ → ℕ
if_so away n = cond away n 0

-- so many runs more, and as many after which the machine went elsewhere, or none
record IsMore (away : Bool) (n : ℕ) (old new : Tally) : Type 0 where
  pub runs : new.runs ≡ capped (old.runs + n)
  gone : new.away ≡ capped (old.away + if_so away n)
  small_runs : IsSmall new.runs
  small_gone : IsSmall new.away

one_run : (away : Bool) (old : Tally) → IsSmall old.runs → IsSmall old.away → IsMore away 1 old (tally_after away old)
one_run true old small gone = record { runs = refl; gone = refl; small_runs = capped_small (old.runs + 1); small_gone = capped_small (old.away + 1) }
one_run false old small gone = record { runs = refl; gone = capped_same old.away gone; small_runs = capped_small (old.runs + 1); small_gone = gone }

none_more : (away : Bool) (old : Tally) → IsSmall old.runs → IsSmall old.away → IsMore away 0 old old
none_more true old small gone = record { runs = capped_same old.runs small; gone = capped_same old.away gone; small_runs = small; small_gone = gone }
none_more false old small gone = record { runs = capped_same old.runs small; gone = capped_same old.away gone; small_runs = small; small_gone = gone }

both_more : (away : Bool) (a b : ℕ) (old mid new : Tally) → IsMore away a old mid → IsMore away b mid new → IsMore away (a + b) old new
both_more true a b old mid new p q = record {
  runs = q.runs ∙ ap (λ (n : ℕ). capped (n + b)) p.runs ∙ capped_twice old.runs a b;
  gone = q.gone ∙ ap (λ (n : ℕ). capped (n + b)) p.gone ∙ capped_twice old.away a b;
  small_runs = q.small_runs;
  small_gone = q.small_gone;
}
both_more false a b old mid new p q = record {
  runs = q.runs ∙ ap (λ (n : ℕ). capped (n + b)) p.runs ∙ capped_twice old.runs a b;
  gone = q.gone ∙ ap (λ (n : ℕ). capped (n + 0)) p.gone ∙ capped_twice old.away 0 0;
  small_runs = q.small_runs;
  small_gone = q.small_gone;
}

-- ---- the places of a passage
run_more : (away : Bool) (tallies : List Tally) (place address : ℕ) (here : Bool) → (place == address) ≡ here
    → IsSmall (tally_at tallies address).runs → IsSmall (tally_at tallies address).away
    → IsMore away (cond here 1 0) (tally_at tallies address) (counted_at address away here tallies)
run_more away tallies place address true e small gone = one_run away (tally_at tallies address) small gone
run_more away tallies place address false e small gone = none_more away (tally_at tallies address) small gone

pub times_both : (address : ℕ) (one other : List ℕ) → times_in address (one ++ other) ≡ times_in address one + times_in address other
times_both address one other = sum_by-append (λ place. cond (place == address) 1 0) one other

times_one : (address place : ℕ) → times_in address (place ∷ []) ≡ cond (place == address) 1 0
times_one address place = omega arith

times_more : (address place : ℕ) (places : List ℕ) → times_in address (place ∷ places) ≡ cond (place == address) 1 0 + times_in address places
times_more address place places =
    times_both address (place ∷ []) places ∙ ap (λ (n : ℕ). n + times_in address places) (times_one address place)

places_more : (away : Bool) (tallies : List Tally) (places : List ℕ) (address : ℕ) → address < length tallies
    → IsSmall (tally_at tallies address).runs → IsSmall (tally_at tallies address).away
    → IsMore away (times_in address places) (tally_at tallies address) (tally_at (fold (with_run away) tallies places) address)
places_more away tallies [] address there small gone = none_more away (tally_at tallies address) small gone
places_more away tallies (place ∷ places) address there small gone =
    let size = run_length away tallies place in
    let one = subst (λ (t : Tally). IsMore away (cond (place == address) 1 0) (tally_at tallies address) t)
    (sym (with_run_at away tallies place address (place == address) refl there))
    (run_more away tallies place address (place == address) refl small gone) in
    let both = both_more away (cond (place == address) 1 0) (times_in address places) (tally_at tallies address)
    (tally_at (with_run away tallies place) address) (tally_at (fold (with_run away) (with_run away tallies place) places) address)
    one (places_more away (with_run away tallies place) places address (omega (arith, there, size)) one.small_runs one.small_gone) in
    subst (λ (n : ℕ). IsMore away n (tally_at tallies address) (tally_at (fold (with_run away) (with_run away tallies place) places) address))
    (sym (times_more address place places)) both

-- ---- the passages of a run
-- so many runs, and so many of them after which the machine went elsewhere
pub record IsMoreOf (n gone_n : ℕ) (old new : Tally) : Type 0 where
  pub runs : new.runs ≡ capped (old.runs + n)
  pub gone : new.away ≡ capped (old.away + gone_n)

none_before : (n : ℕ) → n ≡ 0 + n
none_before n = omega arith

gone_times : (address : ℕ) (p : Passage) (passages : List Passage) (away : Bool) → went_away p ≡ away
    → times_at address (filter went_away (p ∷ passages)) ≡ if_so away (times_in address (places_run p)) + times_at address (filter went_away passages)
gone_times address p passages true e =
    ap (λ (b : Bool). times_at address (cond b (p ∷ filter went_away passages) (filter went_away passages))) e
    ∙ times_both address (places_run p) (flat_map places_run (filter went_away passages))
gone_times address p passages false e =
    ap (λ (b : Bool). times_at address (cond b (p ∷ filter went_away passages) (filter went_away passages))) e
    ∙ none_before (times_at address (filter went_away passages))

pub passages_more : (tallies : List Tally) (passages : List Passage) (address : ℕ) → address < length tallies → IsSmall (tally_at tallies address).runs
    → IsSmall (tally_at tallies address).away
    → IsMoreOf (times_at address passages) (times_at address (filter went_away passages)) (tally_at tallies address)
    (tally_at (fold with_passage tallies passages) address)
passages_more tallies [] address there small gone =
    record { runs = capped_same (tally_at tallies address).runs small; gone = capped_same (tally_at tallies address).away gone }
passages_more tallies (p ∷ passages) address there small gone =
    let one = places_more (went_away p) tallies (places_run p) address there small gone in
    let size = places_length (went_away p) tallies (places_run p) in
    let rest = passages_more (with_passage tallies p) passages address (omega (arith, there, size)) one.small_runs one.small_gone in
    let here = times_in address (places_run p) in
    let old = tally_at tallies address in
    record {
      runs =
          rest.runs ∙ ap (λ (n : ℕ). capped (n + times_at address passages)) one.runs
          ∙ capped_twice old.runs here (times_at address passages)
          ∙ ap (λ (n : ℕ). capped (old.runs + n)) (sym (times_both address (places_run p) (flat_map places_run passages)));
      gone =
          rest.gone ∙ ap (λ (n : ℕ). capped (n + times_at address (filter went_away passages))) one.gone
          ∙ capped_twice old.away (if_so (went_away p) here) (times_at address (filter went_away passages))
          ∙ ap (λ (n : ℕ). capped (old.away + n)) (sym (gone_times address p passages (went_away p) refl));
    }

pub tallies_count : PassagesDecide → TalliesCount
tallies_count decide limit m old new passages address are tallied range there =
    let same = decide limit m tallied.passages passages tallied.are are in
    let is = tallied.is ∙ ap (λ (l : List Passage). fold with_passage old l) same in
    let more = passages_more old passages address there range.runs range.away in
    record {
      runs = ap (λ (l : List Tally). (tally_at l address).runs) is ∙ more.runs;
      away = ap (λ (l : List Tally). (tally_at l address).away) is ∙ more.gone;
    }

-- ---- programs
reaches : (tallies : List Tally) (n : ℕ) → n ≤ length (reaching tallies n)
reaches tallies n =
    let both = length-append tallies (replicate (n - length tallies) no_runs) in
    let more = length-replicate (n - length tallies) no_runs in
    omega (arith, both, more)

ends_later : (end : ℕ) (programs : List (List ℕ × Loaded)) → end ≤ fold end_with end programs
ends_later end [] = omega arith
ends_later end ((name, loaded) ∷ programs) =
    let rest = ends_later (end_with end (name, loaded)) programs in
    grind (arith, nat_tests, rest)

ends_after : (end k : ℕ) (programs : List (List ℕ × Loaded)) (name : List ℕ) (loaded : Loaded) → slice_get programs k ≡ Some (name, loaded)
    → loaded.at + loaded.len ≤ fold end_with end programs
ends_after end k [] name loaded e = cc
ends_after end zero (one ∷ programs) name loaded e =
    let same : one ≡ (name, loaded) = cc in
    let rest = ends_later (end_with end (name, loaded)) programs in
    let whole : fold end_with (end_with end one) programs ≡ fold end_with (end_with end (name, loaded)) programs
    = ap (λ (p : List ℕ × Loaded). fold end_with (end_with end p) programs) same in
    grind (arith, nat_tests, rest, whole)
ends_after end (suc k) (one ∷ programs) name loaded e = ends_after (end_with end one) k programs name loaded e

pub programs_are_reached : ProgramsAreReached
programs_are_reached tallies programs k name loaded e =
    let long = reaches tallies (programs_end programs) in
    let after = ends_after 0 k programs name loaded e in
    omega (arith, long, after)
