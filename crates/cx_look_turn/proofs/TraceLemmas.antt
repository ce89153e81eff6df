-- One instruction more.
use Rattle.std.proofs.Common.{◌≡◌, ℕ, zero, suc, ◌+◌, ◌-◌, ◌<◌, ◌≤◌, List, [], ◌∷◌, ◌++◌, length, drop, refl, sym, subst, ap, ◌∙◌, inl, inr, append_assoc, append-nil, arith}
use Rattle.std.proofs.lemmas.Bool.{cases_lt}
use Rattle.std.proofs.lemmas.List.{drop-append-le}
use Rattle.circular_buffer.specs.Buffer.{Buffer, buffer, keep_last}
use Rattle.cx_exec.specs.Advance.{Passes}
use Rattle.cx_exec.specs.Machine.{Machine}
use Rattle.cx_exec.specs.Step.{Steps}
use Rattle.cx_exec.specs.declared.machine.Interruption.{Interruption}
use Rattle.cx_exec.specs.declared.machine.Step.TheVariants.{Done, AtEntry, Interrupt}
use Rattle.cx_look_turn.specs.Parts.Runs.{Begins}
use Rattle.cx_look_turn.specs.Traces.{IsTrace, Visits, visit}
use Rattle.cx_look_turn.specs.declared.traces.Visit.{Visit}
use Rattle.cx_look_turn.specs.Facts.Left.{passes_more}

-- ---- the last of one more
drop_one : {X : Type 0} (k : ℕ) (xs : List X) → drop 1 (drop k xs) ≡ drop (suc k) xs
drop_one zero xs = refl
drop_one (suc k) [] = refl
drop_one (suc k) (x ∷ xs) = drop_one k xs

length_one : {X : Type 0} (xs : List X) (x : X) → length (xs ++ x ∷ []) ≡ length xs + 1
length_one [] x = refl
length_one (y ∷ xs) x =
    let more = length_one xs x in
    omega (arith, more)

length_left : {X : Type 0} (k : ℕ) (xs : List X) → length (drop k xs) ≡ length xs - k
length_left zero xs = omega arith
length_left (suc k) [] = omega arith
length_left (suc k) (x ∷ xs) =
    let more = length_left k xs in
    omega (arith, more)

pub kept_more : (most : ℕ) (visits : List Visit) (one : Visit) → keep_last most (keep_last most visits ++ one ∷ []) ≡ keep_last most (visits ++ one ∷ [])
kept_more most visits one = elim (cases_lt (length visits) most) [
  | inl few ↦
      let none : length visits - most ≡ 0 = omega (arith, few) in
      ap (λ k. keep_last most (drop k visits ++ one ∷ [])) none
  | inr many ↦
      let kept : List Visit = drop (length visits - most) visits in
      let left = length_left (length visits - most) visits in
      let longer = length_one kept one in
      let whole = length_one visits one in
      let here : length (kept ++ one ∷ []) - most ≡ 1 = omega (arith, many, left, longer) in
      let there : length (visits ++ one ∷ []) - most ≡ suc (length visits - most) = omega (arith, many, whole) in
      let seam : drop (length visits - most) (visits ++ one ∷ []) ≡ kept ++ one ∷ [] =
      drop-append-le (length visits - most) visits (one ∷ []) (omega arith) in
      ap (λ k. drop k (kept ++ one ∷ [])) here ∙ ap (λ l. drop 1 l) (sym seam) ∙ drop_one (length visits - most) (visits ++ one ∷ [])
      ∙ sym (ap (λ k. drop k (visits ++ one ∷ [])) there)
]

kept_from : (most : ℕ) (last visits : List Visit) (one : Visit) → last ≡ keep_last most visits → keep_last most (last ++ one ∷ []) ≡ keep_last most (visits ++ one ∷ [])
kept_from most last visits one e = ap (λ l. keep_last most (l ++ one ∷ [])) e ∙ kept_more most visits one

-- ---- steps
visits_one : (limit count : ℕ) (now : Machine) (more : List Visit) → count < limit
    → ((n : ℕ) → limit - count ≡ suc n → n ≡ limit - (count + 1) → Visits (suc n) now more) → Visits (limit - count) now more
visits_one limit count now more less are =
    let one : limit - count ≡ suc (limit - (count + 1)) = omega (arith, less) in
    subst (λ n. Visits n now more) (sym one) (are (limit - (count + 1)) one refl)

goes_on : (limit most count : ℕ) (first now after : Machine) (last : List Visit) → Begins limit first now most count last → count < limit
    → Steps now Done after → Begins limit first after most (count + 1) (keep_last most (last ++ visit now ∷ []))
unfolding Visits
goes_on limit most count first now after last so_far less step =
    let longer = length_one so_far.visits (visit now) in
    let counted = so_far.counted in
    record {
      visits = so_far.visits ++ visit now ∷ [];
      goes_on = λ more are.
          subst (Visits limit first) (sym (append_assoc so_far.visits (visit now ∷ []) more))
          (so_far.goes_on (visit now ∷ more)
          (visits_one limit count now (visit now ∷ more) less
          (λ n e f. (Done, after, step, (more, refl, subst (λ k. Visits k after more) (sym f) are)))));
      counted = omega (arith, longer, counted);
      kept = kept_from most last so_far.visits (visit now) so_far.kept;
    }

ends_at_entry : (limit most count : ℕ) (first now after : Machine) (last : List Visit) → Begins limit first now most count last → count < limit
    → Steps now AtEntry after → IsTrace limit first most count last
unfolding Visits
ends_at_entry limit most count first now after last so_far less step =
    record {
      visits = so_far.visits;
      are =
          subst (Visits limit first) (append-nil so_far.visits)
          (so_far.goes_on [] (visits_one limit count now [] less (λ n e f. (AtEntry, after, step, refl))));
      counted = so_far.counted;
      kept = so_far.kept;
    }

ends_interrupted : (limit most count : ℕ) (first now after : Machine) (last : List Visit) (cause : Interruption) → Begins limit first now most count last
    → count < limit → Steps now (Interrupt cause) after → IsTrace limit first most (count + 1) (keep_last most (last ++ visit now ∷ []))
unfolding Visits
ends_interrupted limit most count first now after last cause so_far less step =
    let longer = length_one so_far.visits (visit now) in
    let counted = so_far.counted in
    record {
      visits = so_far.visits ++ visit now ∷ [];
      are = so_far.goes_on (visit now ∷ []) (visits_one limit count now (visit now ∷ []) less (λ n e f. (Interrupt cause, after, step, refl)));
      counted = omega (arith, longer, counted);
      kept = kept_from most last so_far.visits (visit now) so_far.kept;
    }

ends_at_limit : (limit most count : ℕ) (first now : Machine) (last : List Visit) → Begins limit first now most count last → limit ≤ count
    → IsTrace limit first most count last
unfolding Visits
ends_at_limit limit most count first now last so_far all =
    let none : limit - count ≡ 0 = omega (arith, all) in
    record {
      visits = so_far.visits;
      are =
          subst (Visits limit first) (append-nil so_far.visits)
          (so_far.goes_on [] (subst (λ n. Visits n now []) (sym none) refl));
      counted = so_far.counted;
      kept = so_far.kept;
    }

-- ---- with what is kept
abbrev pub IsSoFar : ℕ → ℕ → Machine → Machine → ℕ → Buffer Visit → Type 0
IsSoFar limit most first now count last =
    (count ≤ limit) × (last.capacity ≡ most) × Passes count first now × Begins limit first now most count last.items

abbrev IsPushed : Buffer Visit → Machine → Buffer Visit → Type 0
IsPushed last now newer = newer ≡ buffer (keep_last last.capacity (last.items ++ visit now ∷ [])) last.capacity

pub one_more : (limit most count new : ℕ) (first now after : Machine) (last newer : Buffer Visit) → IsSoFar limit most first now count last → count < limit
    → Steps now Done after → new ≡ count + 1 → IsPushed last now newer → IsSoFar limit most first after new newer
one_more limit most count new first now after last newer so_far less step counted pushed =
    rw (counted, pushed, so_far.1) (
      omega (arith, less),
      refl,
      passes_more count first now after so_far.2 step,
      goes_on limit most count first now after last.items so_far.3 less step,
    )

pub at_entry : (limit most count new : ℕ) (first now after : Machine) (last newer : Buffer Visit) → IsSoFar limit most first now count last → count < limit
    → Steps now AtEntry after → new ≡ count → newer ≡ last → IsTrace limit first most new newer.items
at_entry limit most count new first now after last newer so_far less step counted same =
    rw (counted, same) (ends_at_entry limit most count first now after last.items so_far.3 less step)

pub interrupted : (limit most count new : ℕ) (first now after : Machine) (last newer : Buffer Visit) (cause : Interruption)
    → IsSoFar limit most first now count last → count < limit → Steps now (Interrupt cause) after → new ≡ count + 1 → IsPushed last now newer
    → IsTrace limit first most new newer.items
interrupted limit most count new first now after last newer cause so_far less step counted pushed =
    rw (counted, pushed, so_far.1) (ends_interrupted limit most count first now after last.items cause so_far.3 less step)

pub at_limit : (limit most count : ℕ) (first now : Machine) (last : Buffer Visit) → IsSoFar limit most first now count last → limit ≤ count
    → IsTrace limit first most count last.items
at_limit limit most count first now last so_far all = ends_at_limit limit most count first now last.items so_far.3 all
