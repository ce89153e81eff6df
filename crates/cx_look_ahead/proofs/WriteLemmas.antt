-- The last instruction that changes a byte.
use Rattle.std.proofs.Common.{◌≡◌, ◌+◌, ◌<◌, ◌≤◌, ℕ, add-one, zero, suc, Bool, true, false, Option, Some, None, List, [], ◌∷◌, ◌++◌, length, map, take, drop, get_or, slice_set, inl, inr, refl, sym, subst, ap, ◌∙◌, arith}
use Rattle.std.proofs.lemmas.Slice.Eq.{bytes_eq-Decides}
use Rattle.std.specs.List.{AllByRecursion, fold}
use Rattle.std.specs.Prelude.{◌↔◌, if◌then◌else◌}
use Rattle.std.proofs.lemmas.Bool.{cases_lt}
use Rattle.cx_exec.specs.Advance.{Advances, Passes}
use Rattle.cx_exec.specs.Machine.{Machine}
use Rattle.cx_exec.specs.Passages.{FollowsPassage, Passage, Passages, passage}
use Rattle.cx_exec.specs.Step.{Steps}
use Rattle.cx_exec.specs.declared.machine.Halt.TheVariants as halt
use Rattle.cx_exec.specs.declared.machine.Interruption.{Interruption}
use Rattle.cx_exec.specs.declared.machine.Step.{Step}
use Rattle.cx_exec.specs.declared.machine.Step.TheVariants.{Done, AtEntry, Interrupt}
use Rattle.cx_exec.specs.Watches.{IsWatched, LeavesSound, after_passage}
use Rattle.cx_exec_laws.specs.Laws.Decide.{StepsDecide}
use Rattle.cx_look_ahead.specs.declared.rows.Row.{Row}
use Rattle.cx_look_ahead.specs.Laws.Watching.{WritersAreFound, WritersDecide}
use Rattle.std.specs.Str.{bytes_eq}
use Rattle.cx_storage.specs.Storage.{Storage, IsSoundStorage}
use Rattle.cx_look_ahead.specs.Facts.Seen.{all_stay}
use Rattle.cx_look_ahead.specs.Parts.Seen.{AreSeenIn, IsLastSeen, IsSeenIn, SeenRange, all_noted, noted, seen_in}
use Rattle.cx_look_ahead.specs.declared.watching.Kept.{Kept}
use Rattle.cx_look_ahead.proofs.ByteLemmas.{alike, written_alike}
use Rattle.cx_look_ahead.specs.Watching.{shown_in}
use Rattle.cx_look_turn.specs.Facts.Left.{passes_suc}
use Rattle.cx_look_turn.specs.Facts.Visits.{passes_decide}
use Rattle.cx_look_ahead.specs.Writers.{IsLastWriter, IsUnchanged, LastWriter, NoneWrites, PerformsAfter}

-- ---- the instructions of a run
-- after an instruction that isn't done there is none
pub none_after : StepsDecide Steps → (n k : ℕ) (m now after : Machine) (end : Step) (b : Machine) → Passes n m now → Steps now end after → (end ≡ Done → ⊥) → n < k
    → Passes k m b → ⊥
unfolding Passes
none_after decide n zero m now after end b p step apart l q = omega (arith, l)
none_after decide zero (suc k) m now after end b p step apart l (mid, first, more) =
    apart (sym (decide m Done end mid after first (subst (λ (x : Machine). Steps x end after) p step)).0)
none_after decide (suc n) (suc k) m now after end b (mid, one, more) step apart l (other, first, rest) =
    let same = decide m Done Done mid other one first in
    none_after decide n k other now after end b (subst (λ (x : Machine). Passes n x now) same.1 more) step apart (omega (arith, l)) rest

-- ---- one instruction more
unchanged_same : StepsDecide Steps → (n : ℕ) (m b a c d : Machine) (range : Row) → PerformsAfter n m b a → PerformsAfter n m c d → IsUnchanged b.storage a.storage range
    → IsUnchanged c.storage d.storage range
unchanged_same decide n m b a c d range p q same =
    let here = passes_decide decide n m b c p.passes q.passes in
    let there = decide c p.step q.step a d (subst (λ (x : Machine). Steps x p.step a) here p.steps) q.steps in
    subst (λ (x : Machine). IsUnchanged c.storage x.storage range) there.1 (subst (λ (x : Machine). IsUnchanged x.storage a.storage range) here same)

none_more : StepsDecide Steps → (from n : ℕ) (m now after : Machine) (range : Row) → NoneWrites from n m range → PerformsAfter n m now after
    → IsUnchanged now.storage after.storage range → NoneWrites from (suc n) m range
none_more decide from n m now after range none here same k b a low high p = elim (cases_lt k n) [
  | inl before ↦ none k b a low before p
  | inr not ↦
      let it : k ≡ n = omega (arith, high, not) in
      unchanged_same decide n m now after b a range here (subst (λ (i : ℕ). PerformsAfter i m b a) it p) same
]

pub one_more : StepsDecide Steps → (n : ℕ) (m now after : Machine) (range : Row) (last : Option ℕ) (same : Bool) (at : ℕ) → LastWriter n m range last → PerformsAfter n m now after
    → ((same ≡ true) ↔ IsUnchanged now.storage after.storage range) → at ≡ now.next → LastWriter (suc n) m range (if same then last else Some at)
unfolding LastWriter
one_more decide n m now after range None true at so_far here same is = none_more decide zero n m now after range so_far here (same.0 refl)
one_more decide n m now after range (Some last) true at so_far here same is =
    record {
      n = so_far.n;
      within = omega (arith, so_far.within);
      before = so_far.before;
      after = so_far.after;
      performs = so_far.performs;
      address = so_far.address;
      writes = so_far.writes;
      last = none_more decide (suc so_far.n) n m now after range so_far.last here (same.0 refl);
    }
one_more decide n m now after range last false at so_far here same is =
    record {
      n = n;
      within = omega arith;
      before = now;
      after = after;
      performs = here;
      address = is;
      writes = λ unchanged. let no : ◌≡◌ {A = Bool} false true = same.1 unchanged in cc;
      last = λ k b a low high p. absurd (omega (arith, low, high));
    }

-- ---- where the run ends
none_longer : (from n limit : ℕ) (m : Machine) (range : Row) → ((k : ℕ) (b : Machine) → n ≤ k → Passes k m b → ⊥) → NoneWrites from n m range → NoneWrites from limit m range
none_longer from n limit m range ends none k b a low high p = elim (cases_lt k n) [
  | inl before ↦ none k b a low before p
  | inr not ↦ absurd (ends k b not p.passes)
]

pub ended : (n limit : ℕ) (m : Machine) (range : Row) (last : Option ℕ) → n ≤ limit → ((k : ℕ) (b : Machine) → n ≤ k → Passes k m b → ⊥) → LastWriter n m range last
    → LastWriter limit m range last
unfolding LastWriter
ended n limit m range None small ends so_far = none_longer zero n limit m range ends so_far
ended n limit m range (Some last) small ends so_far =
    record {
      n = so_far.n;
      within = omega (arith, so_far.within, small);
      before = so_far.before;
      after = so_far.after;
      performs = so_far.performs;
      address = so_far.address;
      writes = so_far.writes;
      last = none_longer (suc so_far.n) n limit m range ends so_far.last;
    }

-- ---- with the bytes as they are shown
-- the last writer so far is known, and the bytes are those of now
abbrev pub IsSeen : ℕ → Machine → Machine → SeenRange → Type 0
IsSeen n m now seen = LastWriter n m seen.kept.range seen.last × (seen.shown ≡ shown_in now.storage seen.kept.range)

abbrev pub IsSoFar : ℕ → Machine → Machine → ℕ → List SeenRange → Type 0
IsSoFar limit m now done seen = (done ≤ limit) × Passes done m now × AllByRecursion (IsSeen done m now) seen

one_noted : StepsDecide Steps → (n : ℕ) (m now after : Machine) (end : Step) (seen : SeenRange) → IsSoundStorage now.storage → IsSoundStorage after.storage
    → Passes n m now → Steps now end after → IsSeen n m now seen → IsSeen (suc n) m after (noted after.storage now.next seen)
one_noted decide n m now after end seen sound stays passes step (last, shown) = by (bytes_eq seen.shown (shown_in after.storage seen.kept.range)) refl
  where
    unchanged : (same : Bool) → same ≡ bytes_eq seen.shown (shown_in after.storage seen.kept.range)
        → (same ≡ true) ↔ IsUnchanged now.storage after.storage seen.kept.range
    unchanged same is =
        let written : same ≡ bytes_eq (shown_in now.storage seen.kept.range) (shown_in after.storage seen.kept.range) =
        is ∙ ap (λ l. bytes_eq l (shown_in after.storage seen.kept.range)) shown in (
          λ e. alike now.storage after.storage seen.kept.range sound stays (sym written ∙ e),
          λ u. written ∙ written_alike now.storage after.storage seen.kept.range u,
        )

    more : (same : Bool) → same ≡ bytes_eq seen.shown (shown_in after.storage seen.kept.range)
        → LastWriter (suc n) m seen.kept.range (if same then seen.last else Some now.next)
    more same is =
        one_more decide n m now after seen.kept.range seen.last same now.next last (record { passes = passes; step = end; steps = step }) (unchanged same is) refl

    by : (same : Bool) → same ≡ bytes_eq seen.shown (shown_in after.storage seen.kept.range)
        → IsSeen (suc n) m after
        (if same then seen else record { kept = seen.kept; shown = shown_in after.storage seen.kept.range; last = Some now.next })
    by true is = (more true is, (bytes_eq-Decides seen.shown (shown_in after.storage seen.kept.range)).0 (sym is))
    by false is = (more false is, refl)

each_noted : StepsDecide Steps → (n : ℕ) (m now after : Machine) (end : Step) (seen : List SeenRange) → IsSoundStorage now.storage → IsSoundStorage after.storage
    → Passes n m now → Steps now end after → AllByRecursion (IsSeen n m now) seen
    → AllByRecursion (IsSeen (suc n) m after) (map (noted after.storage now.next) seen)
each_noted decide n m now after end [] sound stays passes step all = tt
each_noted decide n m now after end (it ∷ more) sound stays passes step (one, others) =
    (one_noted decide n m now after end it sound stays passes step one, each_noted decide n m now after end more sound stays passes step others)

each : {X : Type 0} (P Q : X → Type 0) → ((x : X) → P x → Q x) → (xs : List X) → AllByRecursion P xs → AllByRecursion Q xs
each P Q f [] all = tt
each P Q f (x ∷ xs) (one, others) = (f x one, each P Q f xs others)

pub one_done : StepsDecide Steps → (limit n : ℕ) (m now after : Machine) (end : Step) (seen newer : List SeenRange)
    → IsSoundStorage now.storage → IsSoundStorage after.storage → IsSoFar limit m now n seen → n < limit → Steps now end after → end ≡ Done
    → newer ≡ map (noted after.storage now.next) seen → IsSoFar limit m after (n + 1) newer
one_done decide limit n m now after end seen newer sound stays so_far less step e is =
    let done : Steps now Done after = subst (λ (s : Step). Steps now s after) e step in
    rw (add-one, is) (
      omega (arith, less),
      passes_suc n m now after so_far.1 done,
      each_noted decide n m now after end seen sound stays so_far.1 step so_far.2,
    )

ended_by : StepsDecide Steps → (limit n : ℕ) (m now after : Machine) (end : Step) (seen newer : List SeenRange)
    → IsSoundStorage now.storage → IsSoundStorage after.storage → IsSoFar limit m now n seen → n < limit → Steps now end after → (end ≡ Done → ⊥)
    → newer ≡ map (noted after.storage now.next) seen → AllByRecursion (IsLastSeen limit m) newer
ended_by decide limit n m now after end seen newer sound stays so_far less step apart is =
    rw is (each (IsSeen (suc n) m after) (IsLastSeen limit m)
    (λ it known. ended (suc n) limit m it.kept.range it.last less
    (λ k b above p. none_after decide n k m now after end b so_far.1 step apart (omega (arith, above)) p) known.0)
    (map (noted after.storage now.next) seen) (each_noted decide n m now after end seen sound stays so_far.1 step so_far.2))

entry_apart : (end : Step) → end ≡ AtEntry → end ≡ Done → ⊥
entry_apart end e done = let same : ◌≡◌ {A = Step} AtEntry Done = sym e ∙ done in cc

interrupt_apart : (end : Step) (cause : Interruption) → end ≡ Interrupt cause → end ≡ Done → ⊥
interrupt_apart end cause e done = let same : ◌≡◌ {A = Step} (Interrupt cause) Done = sym e ∙ done in cc

pub at_entry : StepsDecide Steps → (limit n : ℕ) (m now after : Machine) (end : Step) (seen newer : List SeenRange) → IsSoundStorage now.storage
    → IsSoundStorage after.storage → IsSoFar limit m now n seen → n < limit → Steps now end after → end ≡ AtEntry
    → newer ≡ map (noted after.storage now.next) seen → AllByRecursion (IsLastSeen limit m) newer
at_entry decide limit n m now after end seen newer sound stays so_far less step e is =
    ended_by decide limit n m now after end seen newer sound stays so_far less step (entry_apart end e) is

pub interrupted : StepsDecide Steps → (limit n : ℕ) (m now after : Machine) (end : Step) (cause : Interruption) (seen newer : List SeenRange)
    → IsSoundStorage now.storage → IsSoundStorage after.storage → IsSoFar limit m now n seen → n < limit → Steps now end after → end ≡ Interrupt cause
    → newer ≡ map (noted after.storage now.next) seen → AllByRecursion (IsLastSeen limit m) newer
interrupted decide limit n m now after end cause seen newer sound stays so_far less step e is =
    ended_by decide limit n m now after end seen newer sound stays so_far less step (interrupt_apart end cause e) is

pub at_limit : (limit n : ℕ) (m now : Machine) (seen : List SeenRange) → IsSoFar limit m now n seen → limit ≤ n → AllByRecursion (IsLastSeen limit m) seen
at_limit limit n m now seen so_far all =
    let same : n ≡ limit = omega (arith, all, so_far.0) in
    each (IsSeen n m now) (IsLastSeen limit m) (λ it known. subst (λ k. LastWriter k m it.kept.range it.last) same known.0) seen so_far.2

-- it is noted at one range more
mixed : {X : Type 0} (f : X → X) (xs : List X) (k : ℕ) (old : X) → k < length xs
    → slice_set (map f (take k xs) ++ drop k xs) k (f (get_or (map f (take k xs) ++ drop k xs) k old)) ≡ map f (take (suc k) xs) ++ drop (suc k) xs
mixed f [] k old l = absurd (omega (arith, l))
mixed f (x ∷ xs) zero old l = refl
mixed f (x ∷ xs) (suc k) old l = ap (λ l. f x ∷ l) (mixed f xs k old (omega (arith, l)))

pub noted_next : {X : Type 0} (f : X → X) (xs now : List X) (k : ℕ) (old new : X) → now ≡ map f (take k xs) ++ drop k xs → k < length xs
    → new ≡ f (get_or now k old) → slice_set now k new ≡ map f (take (k + 1) xs) ++ drop (k + 1) xs
noted_next f xs now k old new is l noted_is = rw (noted_is, is, add-one) (mixed f xs k old l)

-- the ranges stay
kept_noted : (s : Storage) (at : ℕ) (it : SeenRange) → (noted s at it).kept ≡ it.kept
kept_noted s at it = by (bytes_eq it.shown (shown_in s it.kept.range))
  where
    by : (same : Bool) → (if same then it else record { kept = it.kept; shown = shown_in s it.kept.range; last = Some at }).kept ≡ it.kept
    by true = refl
    by false = refl

pub kept_stay : (s : Storage) (at : ℕ) (seen newer : List SeenRange) (kept : List Kept) → newer ≡ map (noted s at) seen → map (λ it. it.kept) seen ≡ kept
    → map (λ it. it.kept) newer ≡ kept
kept_stay s at seen newer kept is before = ap (map (λ (it : SeenRange). it.kept)) is ∙ all seen ∙ before
  where
    all : (l : List SeenRange) → map (λ it. it.kept) (map (noted s at) l) ≡ map (λ it. it.kept) l
    all [] = refl
    all (it ∷ more) = rw (kept_noted s at it, all more) refl

-- as they are first
pub at_first : (limit : ℕ) (m : Machine) (kept : List Kept) (seen : List SeenRange) → seen ≡ map (seen_in m.storage) kept
    → IsSoFar limit m m 0 seen × (map (λ it. it.kept) seen ≡ kept)
unfolding LastWriter Passes
at_first limit m kept seen is = rw is ((omega arith, refl, all kept), same kept)
  where
    all : (l : List Kept) → AllByRecursion (IsSeen 0 m m) (map (seen_in m.storage) l)
    all [] = tt
    all (it ∷ more) = ((λ k before after low high p. absurd (omega (arith, high)), refl), all more)

    same : (l : List Kept) → map (λ it. it.kept) (map (seen_in m.storage) l) ≡ l
    same [] = refl
    same (it ∷ more) = ap (λ l. it ∷ l) (same more)

-- ---- through a run
pub all_first : (s : Storage) (kept : List Kept) (seen : List SeenRange) → seen ≡ map (seen_in s) kept → AreSeenIn s seen
all_first s kept seen is = rw is (all kept)
  where
    all : (l : List Kept) → AreSeenIn s (map (seen_in s) l)
    all [] = tt
    all (it ∷ more) = (refl, all more)

-- from one instruction on, after n that are done
step_seen : StepsDecide Steps → (limit k n : ℕ) (m now after : Machine) (end : Step) (passages : List Passage) (seen : List SeenRange) → n < limit
    → IsSoundStorage now.storage → Steps now end after → FollowsPassage (passage now end after) end (Passages k after) passages
    → AllByRecursion LeavesSound passages → IsSoFar limit m now n seen
    → ((more : List Passage) → IsSoundStorage after.storage → Passages k after more → AllByRecursion LeavesSound more
    → IsSoFar limit m after (n + 1) (all_noted after.storage now.next seen)
    → AllByRecursion (IsLastSeen limit m) (fold (after_passage all_noted) (all_noted after.storage now.next seen) more))
    → AllByRecursion (IsLastSeen limit m) (fold (after_passage all_noted) seen passages)
unfolding Steps
step_seen decide limit k n m now after Done passages seen less sound step (more, is, are) stay so_far go =
    let leaves : AllByRecursion LeavesSound (passage now Done after ∷ more) = subst (AllByRecursion LeavesSound) is stay in
    rw is (go more leaves.0 are leaves.1
    (one_done decide limit n m now after Done seen (all_noted after.storage now.next seen) sound leaves.0 so_far less step refl refl))
step_seen decide limit k n m now after (Interrupt cause) passages seen less sound step is stay so_far go =
    let leaves : AllByRecursion LeavesSound (passage now (Interrupt cause) after ∷ []) = subst (AllByRecursion LeavesSound) is stay in
    rw is (interrupted decide limit n m now after (Interrupt cause) cause seen (all_noted after.storage now.next seen) sound leaves.0 so_far less step
    refl refl)
step_seen decide limit k n m now after AtEntry passages seen less sound step is stay so_far go =
    let same : now ≡ after = sym step.1 in
    let ok : IsSoundStorage after.storage = subst (λ (s : Machine). IsSoundStorage s.storage) same sound in
    let still : seen ≡ all_noted after.storage now.next seen =
    subst (λ (s : Machine). seen ≡ all_noted s.storage now.next seen) same
    (all_stay now.storage now.next seen (each (IsSeen n m now) (IsSeenIn now.storage) (λ it known. known.1) seen so_far.2)) in
    rw is (at_entry decide limit n m now after AtEntry seen seen sound ok so_far less step refl still)

passes_seen : StepsDecide Steps → (limit k n : ℕ) (m now : Machine) (passages : List Passage) (seen : List SeenRange) → n + k ≡ limit
    → IsSoundStorage now.storage → Passages k now passages → AllByRecursion LeavesSound passages → IsSoFar limit m now n seen
    → AllByRecursion (IsLastSeen limit m) (fold (after_passage all_noted) seen passages)
unfolding Passages
passes_seen decide limit zero n m now passages seen all sound are stay so_far =
    rw are (at_limit limit n m now seen so_far (omega (arith, all)))
passes_seen decide limit (suc k) n m now passages seen all sound (end, after, step, follows) stay so_far =
    step_seen decide limit k n m now after end passages seen (omega (arith, all)) sound step follows stay so_far
    (λ more ok are leaves next.
    passes_seen decide limit k (n + 1) m after more (all_noted after.storage now.next seen) (omega (arith, all)) ok are leaves next)

kept_through : (passages : List Passage) (seen : List SeenRange) (kept : List Kept) → map (λ it. it.kept) seen ≡ kept
    → map (λ it. it.kept) (fold (after_passage all_noted) seen passages) ≡ kept
kept_through [] seen kept is = is
kept_through (p ∷ more) seen kept is =
    kept_through more (all_noted p.after.storage p.before.next seen) kept
    (kept_stay p.after.storage p.before.next seen (all_noted p.after.storage p.before.next seen) kept refl is)

pub writers_seen : StepsDecide Steps → (limit : ℕ) (m : Machine) (kept : List Kept) (seen newer : List SeenRange) → IsSoundStorage m.storage
    → seen ≡ map (seen_in m.storage) kept → IsWatched all_noted limit m seen newer → AllByRecursion (IsLastSeen limit m) newer
writers_seen decide limit m kept seen newer sound first w =
    rw w.is (passes_seen decide limit limit 0 m m w.passages seen (omega arith) sound w.are w.sound (at_first limit m kept seen first).0)

pub kept_seen : (limit : ℕ) (m : Machine) (kept : List Kept) (seen newer : List SeenRange) → seen ≡ map (seen_in m.storage) kept
    → IsWatched all_noted limit m seen newer → map (λ it. it.kept) newer ≡ kept
kept_seen limit m kept seen newer first w = rw w.is (kept_through w.passages seen kept (at_first limit m kept seen first).1)

-- ---- decided
apart : (limit : ℕ) (m : Machine) (range : Row) (one other : ℕ) (p : IsLastWriter limit m range one) (q : IsLastWriter limit m range other) → p.n < q.n → ⊥
apart limit m range one other p q l = q.writes (p.last q.n q.before q.after l q.within q.performs)

same_writer : StepsDecide Steps → (limit : ℕ) (m : Machine) (range : Row) (one other : ℕ) → IsLastWriter limit m range one → IsLastWriter limit m range other → one ≡ other
same_writer decide limit m range one other p q = elim (cases_lt p.n q.n) [
  | inl low ↦ absurd (apart limit m range one other p q low)
  | inr not ↦ elim (cases_lt q.n p.n) [
    | inl low ↦ absurd (apart limit m range other one q p low)
    | inr neither ↦
        let it : p.n ≡ q.n = omega (arith, not, neither) in
        let here = passes_decide decide q.n m p.before q.before (subst (λ (i : ℕ). Passes i m p.before) it p.performs.passes) q.performs.passes in
        p.address ∙ ap (λ (x : Machine). x.next) here ∙ sym q.address
  ]
]

pub writers_decide : StepsDecide Steps → WritersDecide
unfolding LastWriter
writers_decide decide limit m range None None p q = refl
writers_decide decide limit m range None (Some other) p q = absurd (q.writes (p q.n q.before q.after (omega arith) q.within q.performs))
writers_decide decide limit m range (Some one) None p q = absurd (p.writes (q p.n p.before p.after (omega arith) p.within p.performs))
writers_decide decide limit m range (Some one) (Some other) p q = ap (λ (a : ℕ). Some a) (same_writer decide limit m range one other p q)

-- ---- found
one_before : (k n : ℕ) (m mid before after : Machine) → Steps m Done mid → PerformsAfter k mid before after → PerformsAfter (suc k) m before after
unfolding Passes
one_before k n m mid before after first p = record { passes = (mid, first, p.passes); step = p.step; steps = p.steps }

passed : (n limit : ℕ) (m after : Machine) (range : Row) → n ≤ limit → Passes n m after → NoneWrites zero limit m range → IsUnchanged m.storage after.storage range
unfolding Passes
passed zero limit m after range small is none k l = subst (λ (x : Machine). IsUnchanged m.storage x.storage range) (sym is) (λ i h. refl) k l
passed (suc n) zero m after range small p none k l = absurd (omega (arith, small))
passed (suc n) (suc limit) m after range small (mid, first, more) none k l =
    let here = none zero m mid (omega arith) (omega arith) (record { passes = refl; step = Done; steps = first }) k l in
    let later = passed n limit mid after range (omega (arith, small)) more (λ i b a low high p. none (suc i) b a (omega arith) (omega (arith, high)) (one_before i n m mid b a first p)) k l in
    here ∙ later

pub writers_are_found : WritersAreFound
unfolding Advances LastWriter
writers_are_found limit m after halt.AtEntry range (n, small, run, e) none = passed n limit m after range small run none
writers_are_found limit m after (halt.Interrupt cause place) range (n, small, before, run, last, e) none =
    λ k l. passed n limit m before range (omega (arith, small)) run none k l
    ∙ none n before after (omega arith) small (record { passes = run; step = Interrupt cause; steps = last }) k l
writers_are_found limit m after halt.Limit range (run, apart) none = passed limit limit m after range (omega arith) run none
