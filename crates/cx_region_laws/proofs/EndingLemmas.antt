-- Places and exits are found, or there are none; and what follows has an end.
use Rattle.std.proofs.Common.{◌≡◌, ℕ, zero, suc, ◌+◌, ◌%◌, ◌<◌, ◌≤◌, Bool, true, false, Option, Some, None, List, [], ◌∷◌, length, refl, sym, ◌∙◌, ap, subst, inl, inr, arith, ne_eqb, ◌==◌}
use Rattle.std.specs.Prelude.{◌⊎◌}
use Rattle.std.specs.List.{AllByRecursion}
use Rattle.std.proofs.lemmas.Bool.{cases_Bool, true≢false}
use Rattle.std.proofs.lemmas.Bool.Decides.{leb_tells}
use Rattle.std.proofs.lemmas.Option.{none-some, same_Some, slice_get_past}
use Rattle.cx_base.specs.declared.conditions.Condition.{Condition}
use Rattle.cx_base.specs.Eib.{eib_len}
use Rattle.cx_storage.specs.declared.areas.Owner.{Owner}
use Rattle.cx_storage.specs.Storage.{Held, Storage, end_of}
use Rattle.cx_storage.specs.Place.{CanPlace, IsLeastPlace, Misses}
use Rattle.cx_load.specs.declared.program.Loaded.{Loaded}
use Rattle.cx_program.specs.declared.level.Level.{Level}
use Rattle.cx_program.specs.Levels.{IsNearestExit, Levels, all_levels, has_exit_at}
use Rattle.cx_region_state.specs.Areas.{IsTaskPlace, first_of_tasks, last_of_tasks, system_owner}
use Rattle.cx_region_state.specs.State.{Input, TaskContext}
use Rattle.cx_region_state.specs.declared.replies.TurnReply.{TurnReply}
use Rattle.cx_region_state.specs.declared.replies.TurnReply.TheVariants as turn
use Rattle.cx_region_task.specs.declared.continuation.Continuation.{Continuation}
use Rattle.cx_region_task.specs.declared.continuation.Continuation.TheVariants.{GoesOn, TakesLabel, Waits, Abends, Enters as WayEnters, Replaces as WayReplaces, LevelEnds as WayLevelEnds, TaskEnds as WayTaskEnds}
use Rattle.cx_region_task.specs.Abends.{Abends as AbendsWithCode, AbendsAt, IsExit, end_without_next, exit_taken, task_ended}
use Rattle.cx_region_task.specs.Continuations.{Goes, at_label, enter_level, on_its_way, replace_level, return_to_caller}
use Rattle.cx_region.specs.declared.replies.KeyReply.{KeyReply}
use Rattle.cx_region.specs.declared.replies.KeyReply.TheVariants as key
use Rattle.cx_region.specs.State.{RegionState, TerminalState}
use Rattle.cx_region.specs.Attach.{ArePlaced, Attaches, HasNoPlaces, IsCopyPlace, with_task_attached, commarea_kept, with_eib_area, with_kept_area}
use Rattle.cx_region.specs.declared.asking.Places.{Places}
use Rattle.cx_exec_laws.specs.Facts.Tests.{Least, both_or_not, le_or_not, least, zero_or_not}
use Rattle.cx_region_laws.proofs.DecideLemmas.{copy_place_once, task_place_once}

-- ---- the least place, or none
misses_or_not : (len b : ℕ) (h : Held) → Misses len b h ⊎ (Misses len b h → ⊥)
misses_or_not len b h = elim (leb_tells (end_of h.area) b) [
  | inl t ↦ inl (inl (omega (arith, t.1)))
  | inr f ↦ elim (leb_tells (b + len) h.area.start) [
    | inl t ↦ inl (inr (omega (arith, t.1)))
    | inr g ↦ inr (λ m. elim m [
      | inl le ↦ omega (arith, le, f.1)
      | inr le ↦ omega (arith, le, g.1)
    ])
  ]
]

all_or_not : (len b : ℕ) (s : Storage) → AllByRecursion (Misses len b) s ⊎ (AllByRecursion (Misses len b) s → ⊥)
all_or_not len b [] = inl tt
all_or_not len b (h ∷ hs) = both_or_not (misses_or_not len b h) (all_or_not len b hs)

can_or_not : (s : Storage) (first last len b : ℕ) → CanPlace s first last len b ⊎ (CanPlace s first last len b → ⊥)
unfolding CanPlace
can_or_not s first last len b =
    go (both_or_not (both_or_not (zero_or_not (b % 16)) (le_or_not first b)) (both_or_not (le_or_not (b + len) (last + 1)) (all_or_not len b s)))
  where
    Nested : Type 0
    Nested = ((b % 16 ≡ 0) × (first ≤ b)) × ((b + len ≤ last + 1) × AllByRecursion (Misses len b) s)

    go : Nested ⊎ (Nested → ⊥) → CanPlace s first last len b ⊎ (CanPlace s first last len b → ⊥)
    go (inl can) = inl (can.0.0, can.0.1, can.1.0, can.1.1)
    go (inr never) = inr (λ can. never ((can.0, can.1), (can.2, can.3)))

pub found_place : (s : Storage) (first last len : ℕ) → (place : Option ℕ) × IsLeastPlace s first last len place
unfolding IsLeastPlace CanPlace
found_place s first last len = go (least (λ b. CanPlace s first last len b) (λ b. can_or_not s first last len b) (last + 2))
  where
    bounded : (b : ℕ) → CanPlace s first last len b → b < last + 2
    bounded b can = omega (arith, can.2)

    go : Least (λ b. CanPlace s first last len b) (last + 2) → (place : Option ℕ) × IsLeastPlace s first last len place
    go (inl found) = (Some found.0, (found.1, found.2))
    go (inr none) = (None, λ b can. none b (bounded b can) can)

-- ---- the nearest exit, or none
-- the greatest number below a limit at which a test is true, or none
abbrev Greatest : (ℕ → Bool) → ℕ → Option ℕ → Type 0
Greatest p n None = (i : ℕ) → i < n → p i ≡ false
Greatest p n (Some i) = (p i ≡ true) × ((j : ℕ) → i < j → j < n → p j ≡ false)

kept_false : (p : ℕ → Bool) (n j : ℕ) → p n ≡ false → j < suc n → (j < n → p j ≡ false) → p j ≡ false
kept_false p n j here below less = elim (leb_tells n j) [
  | inl t ↦ (let same : j ≡ n = omega (arith, t.1, below) in ap p same ∙ here)
  | inr f ↦ less (omega (arith, f.1))
]

greatest_after : (p : ℕ → Bool) (n : ℕ) → p n ≡ false → (i : Option ℕ) × Greatest p n i → (i : Option ℕ) × Greatest p (suc n) i
greatest_after p n here (None, none) = (None, λ j below. kept_false p n j here below (λ less. none j less))
greatest_after p n here (Some i, found) = (Some i, (found.0, λ j above below. kept_false p n j here below (λ less. found.1 j above less)))

greatest : (p : ℕ → Bool) (n : ℕ) → (i : Option ℕ) × Greatest p n i
greatest p zero = (None, λ i below. absurd (omega (arith, below)))
greatest p (suc n) = elim (cases_Bool (p n)) [
  | inl t ↦ (Some n, (t, λ j above below. absurd (omega (arith, above, below))))
  | inr f ↦ greatest_after p n f (greatest p n)
]

no_level : (levels : List Level) (j : ℕ) → length levels ≤ j → has_exit_at levels j ≡ false
no_level levels j past = rw (slice_get_past levels j past) refl

nearest : (levels : List Level) → (exit : Option ℕ) × IsNearestExit levels exit
unfolding IsNearestExit
nearest levels = go (greatest (has_exit_at levels) (length levels))
  where
    at : (j : ℕ) → (j < length levels → has_exit_at levels j ≡ false) → has_exit_at levels j ≡ false
    at j below = elim (leb_tells (length levels) j) [
      | inl t ↦ no_level levels j (omega (arith, t.1))
      | inr f ↦ below (omega (arith, f.1))
    ]

    go : (i : Option ℕ) × Greatest (has_exit_at levels) (length levels) i → (exit : Option ℕ) × IsNearestExit levels exit
    go (None, none) = (None, λ j. at j (λ below. none j below))
    go (Some i, found) = (Some i, (found.0, λ j above. at j (λ below. found.1 j above below)))

-- ---- the end of a half-turn
abbrev pub Ended : (TurnReply → TaskContext → Type 0) → Type 0
Ended P = (reply : TurnReply) × (after : TaskContext) × P reply after

abends_at : (exit : Option ℕ) (code : List ℕ) (before : TaskContext) → Ended (AbendsAt exit code before)
unfolding AbendsAt
abends_at None code before = (turn.Abended code, end_without_next before, (refl, refl))
abends_at (Some index) code before = (turn.TookExit code, exit_taken index before, (refl, refl))

exit_for : (cancel : Bool) (levels : Levels) → (exit : Option ℕ) × IsExit cancel levels exit
exit_for true levels = (None, refl)
exit_for false levels = nearest (all_levels levels)

pub abends_somehow : (code : List ℕ) (cancel : Bool) (before : TaskContext) → Ended (AbendsWithCode code cancel before)
abends_somehow code cancel before =
    let exit = exit_for cancel before.task.levels in
    let end = abends_at exit.0 code before in
    (end.0, end.1, record { exit = exit.0; takes = exit.1; ends = end.2 })

pub goes_somehow : (continuation : Continuation) (condition : Condition) (committed : TaskContext) → Ended (Goes continuation condition committed)
unfolding Goes
goes_somehow GoesOn condition committed = (turn.Performed condition, on_its_way committed, (refl, refl))
goes_somehow (TakesLabel label) condition committed = (turn.TookLabel condition, at_label label committed, (refl, refl))
goes_somehow Waits condition committed = (turn.Waiting, committed, (refl, refl))
goes_somehow (Abends code cancel) condition committed = abends_somehow code cancel committed
goes_somehow (WayEnters level) condition committed = (turn.Entered, enter_level level committed, (refl, refl))
goes_somehow (WayReplaces level) condition committed = (turn.Entered, replace_level level committed, (refl, refl))
goes_somehow WayLevelEnds condition committed = (turn.Returned, return_to_caller committed, (refl, refl))
goes_somehow WayTaskEnds condition committed = (turn.Ended, task_ended committed, (refl, refl))

-- ---- an event's
abbrev pub Answered : (KeyReply → RegionState → Type 0) → Type 0
Answered P = (answer : KeyReply) × (new : RegionState) × P answer new

module _ (storage : Storage) (owner : Owner) (len stg_len : ℕ) where
  -- what holds of the first place alone, and of the first two
  no_eib : IsTaskPlace storage eib_len None → HasNoPlaces storage owner len stg_len
  no_eib none = record { none = λ areas placed. none-some areas.eib (task_place_once storage eib_len None (Some areas.eib) none placed.eib) }

  same_eib : (eib : ℕ) (areas : Places) → IsTaskPlace storage eib_len (Some eib) → ArePlaced storage owner len stg_len areas → areas.eib ≡ eib
  same_eib eib areas first placed = same_Some _ _ (task_place_once storage eib_len (Some areas.eib) (Some eib) placed.eib first)

  copy_of : (eib : ℕ) (areas : Places) → IsTaskPlace storage eib_len (Some eib) → ArePlaced storage owner len stg_len areas
      → IsCopyPlace (with_eib_area storage owner eib) len areas.commarea
  copy_of eib areas first placed = subst (λ (a : ℕ). IsCopyPlace (with_eib_area storage owner a) len areas.commarea) (same_eib eib areas first placed) placed.commarea

  no_copy : (eib : ℕ) → IsTaskPlace storage eib_len (Some eib) → (len == 0) ≡ false → IsTaskPlace (with_eib_area storage owner eib) len None
      → HasNoPlaces storage owner len stg_len
  no_copy eib first some none = record { none = λ areas placed. go areas.commarea (copy_of eib areas first placed) }
    where
      go : (place : Option ℕ) → IsCopyPlace (with_eib_area storage owner eib) len place → ⊥
      go None zero_long = true≢false (sym (ap (λ (n : ℕ). n == 0) zero_long) ∙ some)
      go (Some at) there = none-some at (task_place_once (with_eib_area storage owner eib) len None (Some at) none there.1)

  no_stg : (eib : ℕ) (copy : Option ℕ) → IsTaskPlace storage eib_len (Some eib) → IsCopyPlace (with_eib_area storage owner eib) len copy
      → IsTaskPlace (with_kept_area storage owner len eib copy) stg_len None → HasNoPlaces storage owner len stg_len
  no_stg eib copy first second none =
      record {
        none = λ areas placed.
            let stood : IsTaskPlace (with_kept_area storage owner len eib areas.commarea) stg_len (Some areas.stg) =
            subst (λ (a : ℕ). IsTaskPlace (with_kept_area storage owner len a areas.commarea) stg_len (Some areas.stg)) (same_eib eib areas first placed) placed.stg in
            let stands : IsTaskPlace (with_kept_area storage owner len eib copy) stg_len (Some areas.stg) =
            subst (λ (o : Option ℕ). IsTaskPlace (with_kept_area storage owner len eib o) stg_len (Some areas.stg))
            (copy_place_once (with_eib_area storage owner eib) len areas.commarea copy (copy_of eib areas first placed) second) stood in
            none-some areas.stg (task_place_once (with_kept_area storage owner len eib copy) stg_len None (Some areas.stg) none stands);
      }

  -- three places, or none
  abbrev PlacesOrNone : Type 0
  PlacesOrNone = ((areas : Places) × ArePlaced storage owner len stg_len areas) ⊎ HasNoPlaces storage owner len stg_len

  with_stg : (eib : ℕ) (copy : Option ℕ) → IsTaskPlace storage eib_len (Some eib) → IsCopyPlace (with_eib_area storage owner eib) len copy → PlacesOrNone
  with_stg eib copy first second = go (found_place (with_kept_area storage owner len eib copy) first_of_tasks last_of_tasks stg_len)
    where
      go : (place : Option ℕ) × IsTaskPlace (with_kept_area storage owner len eib copy) stg_len place → PlacesOrNone
      go (None, none) = inr (no_stg eib copy first second none)
      go (Some stg, third) = inl (record { eib = eib; commarea = copy; stg = stg }, record { eib = first; commarea = second; stg = third })

  with_copy : (eib : ℕ) → IsTaskPlace storage eib_len (Some eib) → PlacesOrNone
  with_copy eib first = elim (zero_or_not len) [
    | inl none ↦ with_stg eib None first none
    | inr some ↦ go (ne_eqb len 0 some) (found_place (with_eib_area storage owner eib) first_of_tasks last_of_tasks len)
  ]
    where
      go : (len == 0) ≡ false → (place : Option ℕ) × IsTaskPlace (with_eib_area storage owner eib) len place → PlacesOrNone
      go some (None, none) = inr (no_copy eib first some none)
      go some (Some at, there) = with_stg eib (Some at) first (some, there)

  places : PlacesOrNone
  places = go (found_place storage first_of_tasks last_of_tasks eib_len)
    where
      go : (place : Option ℕ) × IsTaskPlace storage eib_len place → PlacesOrNone
      go (None, none) = inr (no_eib none)
      go (Some eib, first) = with_copy eib first

pub attaches_somehow : (old : RegionState) (name : List ℕ) (terminal : TerminalState) (input : Input) (tran program : List ℕ) (loaded : Loaded)
    → Answered (Attaches old name terminal input tran program loaded)
attaches_somehow old name terminal input tran program loaded =
    go (places old.shared.storage (system_owner terminal.entry.slot) (length (commarea_kept terminal.entry.following)) loaded.stg_len)
  where
    go : PlacesOrNone old.shared.storage (system_owner terminal.entry.slot) (length (commarea_kept terminal.entry.following)) loaded.stg_len
        → Answered (Attaches old name terminal input tran program loaded)
    go (inl found) = (key.Attached, with_task_attached old name terminal input tran program loaded found.0, record { areas = found.0; placed = found.1; after = refl })
    go (inr none) = (key.NoStorage, old, (none, refl))
