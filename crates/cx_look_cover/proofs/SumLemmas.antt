-- What tallies count of several runs.
use Rattle.std.proofs.Common.{◌≡◌, ℕ, zero, suc, ◌+◌, ◌-◌, ◌<◌, ◌≤◌, ◌^◌, Bool, true, false, List, [], ◌∷◌, ◌++◌, length, refl, sym, subst, ap, ◌∙◌, arith}
use Rattle.std.specs.Prelude.{cond, max, nat_lt, replicate}
use Rattle.std.specs.List.{filter, flat_map, fold}
use Rattle.std.proofs.lemmas.List.{length-append, length-replicate}
use Rattle.std.proofs.lemmas.List.Elements.{filter-append}
use Rattle.std.proofs.lemmas.Grind.{flat_map-append}
use Rattle.std.proofs.lemmas.Bool.Decides.{nat_tests}
use Rattle.cx_look_cover.specs.Laws.{AreCounted, CountedRun, CountsThem, IsInRange, RunsAddUp, counted_at, times_at, times_in}
use Rattle.cx_exec.specs.Passages.{Passage, places_run, went_away}
use Rattle.cx_exec.specs.Tallies.{capped, no_runs, tally_at, with_passage}
use Rattle.cx_look_cover.specs.Tallies.{reaching}
use Rattle.cx_exec.specs.declared.tallied.Tally.{Tally}
use Rattle.cx_look_cover.proofs.TallyLemmas.{capped_same, capped_small, capped_twice, passages_more, places_length, times_both}

-- ---- how far tallies reach
reach_is : (old : List Tally) (n : ℕ) → length (reaching old n) ≡ max (length old) n
reach_is old n =
    let both = length-append old (replicate (n - length old) no_runs) in
    let more = length-replicate (n - length old) no_runs in
    grind (arith, nat_tests, both, more)

passages_length : (tallies : List Tally) (passages : List Passage) → length (fold with_passage tallies passages) ≡ length tallies
passages_length tallies [] = refl
passages_length tallies (p ∷ passages) = passages_length (with_passage tallies p) passages ∙ places_length (went_away p) tallies (places_run p)

-- ---- what is at an address that they are made to reach
none_there : (k address : ℕ) → tally_at (replicate k no_runs) address ≡ no_runs
none_there zero address = refl
none_there (suc k) zero = refl
none_there (suc k) (suc address) = none_there k address

same_there : (old : List Tally) (k address : ℕ) → tally_at (old ++ replicate k no_runs) address ≡ tally_at old address
same_there [] k address = none_there k address
same_there (t ∷ old) k zero = refl
same_there (t ∷ old) k (suc address) = same_there old k address

none_beyond : (tallies : List Tally) (address : ℕ) → length tallies ≤ address → tally_at tallies address ≡ no_runs
none_beyond [] address far = refl
none_beyond (t ∷ tallies) zero far = absurd (omega (arith, far))
none_beyond (t ∷ tallies) (suc address) far = none_beyond tallies address (omega (arith, far))

-- ---- one run
record Counted (passages : List Passage) (old new : List Tally) (address : ℕ) : Type 0 where
  counts : CountsThem passages old new address
  range : IsInRange new address

reached_by : (reach address : ℕ) → nat_lt address reach ≡ true → address < reach
reached_by reach address e = grind (arith, nat_tests, e)

not_reached_by : (reach address : ℕ) → nat_lt address reach ≡ false → reach ≤ address
not_reached_by reach address e = grind (arith, nat_tests, e)

small_by : (one n : ℕ) → one ≡ capped n → one < 2 ^ 64
small_by one n e = subst (λ (k : ℕ). k < 2 ^ 64) (sym e) (capped_small n)

counted_there : (old new : List Tally) (n address : ℕ) (passages : List Passage) → IsInRange old address → new ≡ fold with_passage (reaching old n) passages
    → address < length (reaching old n) → Counted passages old new address
counted_there old new n address passages range is there =
    let same = same_there old (n - length old) address in
    let more = passages_more (reaching old n) passages address there
    (subst (λ (t : Tally). t.runs < 2 ^ 64) (sym same) range.runs) (subst (λ (t : Tally). t.away < 2 ^ 64) (sym same) range.away) in
    let runs = ap (λ (l : List Tally). (tally_at l address).runs) is ∙ more.runs ∙ ap (λ (t : Tally). capped (t.runs + times_at address passages)) same in
    let away = ap (λ (l : List Tally). (tally_at l address).away) is ∙ more.gone
    ∙ ap (λ (t : Tally). capped (t.away + times_at address (filter went_away passages))) same in
    record { counts = record { runs = runs; away = away }; range = record { runs = small_by _ _ runs; away = small_by _ _ away } }

nothing_there : (old new : List Tally) (n address : ℕ) (passages : List Passage) → IsInRange old address → new ≡ fold with_passage (reaching old n) passages
    → length (reaching old n) ≤ address → Counted [] old new address
nothing_there old new n address passages range is far =
    let size = passages_length (reaching old n) passages in
    let long = reach_is old n in
    let same : tally_at new address ≡ tally_at old address =
    ap (λ (l : List Tally). tally_at l address) is
    ∙ none_beyond (fold with_passage (reaching old n) passages) address (omega (arith, far, size))
    ∙ sym (none_beyond (reaching old n) address far) ∙ same_there old (n - length old) address in
    let runs = ap (λ (t : Tally). t.runs) same ∙ capped_same (tally_at old address).runs range.runs in
    let away = ap (λ (t : Tally). t.away) same ∙ capped_same (tally_at old address).away range.away in
    record { counts = record { runs = runs; away = away }; range = record { runs = small_by _ _ runs; away = small_by _ _ away } }

one_counted : (old new : List Tally) (n address : ℕ) (passages : List Passage) (here : Bool) → nat_lt address (max (length old) n) ≡ here
    → IsInRange old address → new ≡ fold with_passage (reaching old n) passages → Counted (cond here passages []) old new address
one_counted old new n address passages true e range is =
    counted_there old new n address passages range is (subst (λ (k : ℕ). address < k) (sym (reach_is old n)) (reached_by (max (length old) n) address e))
one_counted old new n address passages false e range is =
    nothing_there old new n address passages range is (subst (λ (k : ℕ). k ≤ address) (sym (reach_is old n)) (not_reached_by (max (length old) n) address e))

-- ---- one after another
times_of_both : (address : ℕ) (one other : List Passage) → times_at address (one ++ other) ≡ times_at address one + times_at address other
times_of_both address one other =
    ap (λ (ps : List ℕ). times_in address ps) (flat_map-append places_run one other)
    ∙ times_both address (flat_map places_run one) (flat_map places_run other)

both_counted : (one other : List Passage) (old mid new : List Tally) (address : ℕ) → CountsThem one old mid address → CountsThem other mid new address
    → CountsThem (one ++ other) old new address
both_counted one other old mid new address p q =
    record {
      runs =
          q.runs ∙ ap (λ (n : ℕ). capped (n + times_at address other)) p.runs
          ∙ capped_twice (tally_at old address).runs (times_at address one) (times_at address other)
          ∙ ap (λ (n : ℕ). capped ((tally_at old address).runs + n)) (sym (times_of_both address one other));
      away =
          q.away ∙ ap (λ (n : ℕ). capped (n + times_at address (filter went_away other))) p.away
          ∙ capped_twice (tally_at old address).away (times_at address (filter went_away one)) (times_at address (filter went_away other))
          ∙ ap (λ (n : ℕ). capped ((tally_at old address).away + n))
          (sym (ap (λ (ps : List Passage). times_at address ps) (filter-append went_away one other) ∙ times_of_both address (filter went_away one) (filter went_away other)));
    }

pub runs_add_up : RunsAddUp
runs_add_up [] old new address is range =
    record {
      runs = ap (λ (l : List Tally). (tally_at l address).runs) is ∙ capped_same (tally_at old address).runs range.runs;
      away = ap (λ (l : List Tally). (tally_at l address).away) is ∙ capped_same (tally_at old address).away range.away;
    }
runs_add_up (run ∷ runs) old new address are range =
    let mid = fold with_passage (reaching old run.end) run.passages in
    let one = one_counted old mid run.end address run.passages (nat_lt address (max (length old) run.end)) refl range refl in
    let long : length mid ≡ max (length old) run.end = passages_length (reaching old run.end) run.passages ∙ reach_is old run.end in
    let rest = runs_add_up runs mid new address are one.range in
    both_counted (cond (nat_lt address (max (length old) run.end)) run.passages []) (counted_at (max (length old) run.end) address runs) old mid new address one.counts
    (subst (λ (k : ℕ). CountsThem (counted_at k address runs) mid new address) long rest)
