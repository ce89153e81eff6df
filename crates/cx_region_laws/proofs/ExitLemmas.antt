-- Which exit takes an abend, and what it leaves.
use Rattle.std.proofs.Common.{◌≡◌, ℕ, zero, suc, ◌+◌, ◌<◌, ◌≤◌, Bool, true, false, is_some, Option, Some, None, List, [], ◌∷◌, ◌++◌, length, reverse, refl, sym, ◌∙◌, ap, subst, arith, inl, inr, slice_get, ◌-◌}
use Rattle.std.specs.Prelude.{◌&&◌, unwrap_or}
use Rattle.std.specs.Option.{option_map_or}
use Rattle.std.proofs.lemmas.Bool.{cases_Bool, cases_eq, cases_lt, eq-eqb, ne_eqb}
use Rattle.std.proofs.lemmas.List.{append_assoc, length-append, length-reverse}
use Rattle.std.proofs.lemmas.Grind.{reverse_onto}
use Rattle.cx_storage.specs.declared.areas.Area.{Area}
use Rattle.cx_storage.specs.Address.{address_in, address_after}
use Rattle.cx_storage.specs.Storage.{Storage, area_at, starts_elsewhere, with_areas_kept}
use Rattle.cx_program.specs.declared.entries.Exit.{Exit}
use Rattle.cx_program.specs.declared.entries.Exit.TheVariants.{NoExit, Off, On}
use Rattle.cx_program.specs.declared.level.Level.{Level}
use Rattle.cx_program.specs.Entries.{label_on, turned_off}
use Rattle.cx_program.specs.Levels.{IsNearestExit, all_levels, has_exit, has_exit_at}
use Rattle.cx_region_state.specs.Eib.{with_calen, with_field}
use Rattle.cx_region_state.specs.declared.replies.TurnReply.TheVariants as turn
use Rattle.cx_region_state.specs.Facts.Areas.{area_written}
use Rattle.cx_region_task.specs.Abends.{AbendsAt, IsExit, Unwound, exit_storage, exit_taken, exit_task, unwound, with_exit_off, without_stg}
use Rattle.cx_region_laws.specs.Laws.Exits.{AreFreed, CancelTakesNoExit, ExitsAreNearest, ExitsTakeAbends, TakesExit, is_no_stg_of}

-- ---- areas freed
freed_none : (s : Storage) (x : ℕ) → area_at (with_areas_kept (starts_elsewhere x) s) x ≡ None
unfolding area_at with_areas_kept
freed_none [] x = refl
freed_none (h ∷ hs) x = elim (cases_eq h.area.start x) [
  | inl e ↦ rw (eq-eqb h.area.start x e) (freed_none hs x)
  | inr ne ↦ rw (ne_eqb h.area.start x ne) (rw (ne_eqb h.area.start x ne) (freed_none hs x))
]

none_kept : (s : Storage) (keeps : Area → Bool) (x : ℕ) → area_at s x ≡ None → area_at (with_areas_kept keeps s) x ≡ None
unfolding area_at with_areas_kept
none_kept [] keeps x none = refl
none_kept (h ∷ hs) keeps x none = elim (cases_eq h.area.start x) [
  | inl e ↦ let never = rw (eq-eqb h.area.start x e) at none in cc
  | inr ne ↦
      let rest = none_kept hs keeps x (rw (ne_eqb h.area.start x ne) at none) in
      elim (cases_Bool (keeps h.area)) [
        | inl k ↦ rw (k, ne_eqb h.area.start x ne) rest
        | inr k ↦ rw k rest
      ]
]

none_unwound : (n : ℕ) (callers : List Level) (current : Level) (s : Storage) (x : ℕ) → area_at s x ≡ None → area_at (unwound n callers current s).storage x ≡ None
unfolding unwound
none_unwound zero callers current s x none = none
none_unwound (suc n) [] current s x none = none
none_unwound (suc n) (caller ∷ callers) current s x none = none_unwound n callers caller (without_stg current s) x (none_kept s (starts_elsewhere (address_in current.stg)) x none)

no_stg_append : (xs : List Level) (last : Level) (area : Area) → is_no_stg_of (xs ++ last ∷ []) area ≡ (is_no_stg_of xs area && starts_elsewhere (address_in last.stg) area)
no_stg_append [] last area = elim (cases_Bool (starts_elsewhere (address_in last.stg) area)) [
  | inl t ↦ rw t refl
  | inr f ↦ rw f refl
]
no_stg_append (x ∷ xs) last area = elim (cases_Bool (starts_elsewhere (address_in x.stg) area)) [
  | inl t ↦ rw t (no_stg_append xs last area)
  | inr f ↦ rw f refl
]

kept_twice : (s : Storage) (xs : List Level) (last : Level) → with_areas_kept (is_no_stg_of xs) (without_stg last s) ≡ with_areas_kept (is_no_stg_of (xs ++ last ∷ [])) s
unfolding with_areas_kept
kept_twice [] xs last = refl
kept_twice (h ∷ hs) xs last =
    let both = no_stg_append xs last h.area in
    let rest = kept_twice hs xs last in
    elim (cases_Bool (starts_elsewhere (address_in last.stg) h.area)) [
      | inl t ↦ elim (cases_Bool (is_no_stg_of xs h.area)) [
        | inl y ↦ rw (both, t, y) (ap (λ (l : Storage). h ∷ l) rest)
        | inr n ↦ rw (both, t, n) rest
      ]
      | inr f ↦ elim (cases_Bool (is_no_stg_of xs h.area)) [
        | inl y ↦ rw (both, f, y) rest
        | inr n ↦ rw (both, f, n) rest
      ]
    ]

all_kept : (s : Storage) → s ≡ with_areas_kept (is_no_stg_of []) s
unfolding with_areas_kept
all_kept [] = refl
all_kept (h ∷ hs) = ap (λ (l : Storage). h ∷ l) (all_kept hs)

-- ---- levels that end
all_append : (s : Storage) (xs : List Level) (last : Level) → AreFreed s xs → area_at s (address_in last.stg) ≡ None → AreFreed s (xs ++ last ∷ [])
all_append s [] last all none = (none, tt)
all_append s (x ∷ xs) last all none = (all.0, all_append s xs last all.1 none)

record Split (n : ℕ) (callers : List Level) (current : Level) (before : Storage) (left : Unwound) : Type 0 where
  ended : List Level
  split : reverse callers ++ current ∷ [] ≡ reverse left.levels.callers ++ left.levels.current ∷ ended
  size : length left.levels.callers + n ≡ length callers
  freed : AreFreed left.storage ended
  storage : left.storage ≡ with_areas_kept (is_no_stg_of ended) before

below_split : (callers above : List Level) (caller current level : Level) (ended : List Level) → reverse callers ++ caller ∷ [] ≡ reverse above ++ level ∷ ended
    → reverse (caller ∷ callers) ++ current ∷ [] ≡ reverse above ++ level ∷ (ended ++ current ∷ [])
below_split callers above caller current level ended e =
    ap (λ (l : List Level). l ++ current ∷ []) (reverse_onto callers caller [] ∙ e) ∙ append_assoc (reverse above) (level ∷ ended) (current ∷ [])

unwound_split : (n : ℕ) (callers : List Level) (current : Level) (s : Storage) → n ≤ length callers → Split n callers current s (unwound n callers current s)
unfolding unwound
unwound_split zero callers current s few = record { ended = []; split = refl; size = omega arith; freed = tt; storage = all_kept s }
unwound_split (suc n) [] current s few = absurd (omega (arith, few))
unwound_split (suc n) (caller ∷ callers) current s few =
    let rest = unwound_split n callers caller (without_stg current s) (omega (arith, few)) in
    let left = unwound n callers caller (without_stg current s) in
    let size = rest.size in
    record {
      ended = rest.ended ++ current ∷ [];
      split = below_split callers left.levels.callers caller current left.levels.current rest.ended rest.split;
      size = omega (arith, size);
      freed = all_append left.storage rest.ended current rest.freed (none_unwound n callers caller (without_stg current s) (address_in current.stg) (freed_none s (address_in current.stg)));
      storage = rest.storage ∙ kept_twice s rest.ended current;
    }

-- ---- the exit's place
has_exit_in : (levels : List Level) (i : ℕ) → has_exit_at levels i ≡ true → i < length levels
has_exit_in [] i e = cc
has_exit_in (l ∷ ls) zero e = omega arith
has_exit_in (l ∷ ls) (suc i) e = let less = has_exit_in ls i e in omega (arith, less)

all_length : (callers : List Level) (current : Level) → length (reverse callers ++ current ∷ []) ≡ suc (length callers)
all_length callers current =
    let long = length-append (reverse callers) (current ∷ []) in
    let same = length-reverse callers in
    omega (arith, long, same)

last_there : (xs : List Level) (y : Level) → slice_get (xs ++ y ∷ []) (length xs) ≡ Some y
last_there [] y = refl
last_there (x ∷ xs) y = last_there xs y

last_exit : (callers : List Level) (current : Level) → has_exit_at (reverse callers ++ current ∷ []) (length callers) ≡ has_exit current
last_exit callers current =
    let at : slice_get (reverse callers ++ current ∷ []) (length callers) ≡ Some current = subst (λ (n : ℕ). slice_get (reverse callers ++ current ∷ []) n ≡ Some current) (length-reverse callers) (last_there (reverse callers) current) in
    ap (λ (o : Option Level). option_map_or has_exit o false) at

exit_off : (exit : Exit) → is_some (label_on (turned_off exit)) ≡ false
exit_off NoExit = refl
exit_off (Off label) = refl
exit_off (On label) = refl

-- a level whose exit is on has the exit's label
exit_labelled : (level : Level) → has_exit level ≡ true → label_on level.handles.active.exit ≡ Some (unwrap_or (label_on level.handles.active.exit) 0)
exit_labelled level on = go (label_on level.handles.active.exit) on
  where
    go : (o : Option ℕ) → is_some o ≡ true → o ≡ Some (unwrap_or o 0)
    go None e = cc
    go (Some label) e = refl

-- the level at the place after some levels
at_place : (above : List Level) (level : Level) (ended : List Level) → slice_get (reverse above ++ level ∷ ended) (length above) ≡ Some level
at_place above level ended = subst (λ (n : ℕ). slice_get (reverse above ++ level ∷ ended) n ≡ Some level) (length-reverse above) (here (reverse above))
  where
    here : (xs : List Level) → slice_get (xs ++ level ∷ ended) (length xs) ≡ Some level
    here [] = refl
    here (x ∷ xs) = here xs

later_above : (callers : List Level) (current : Level) → has_exit current ≡ false → (i : ℕ) → IsNearestExit (reverse callers ++ current ∷ []) (Some i) → i < length callers
unfolding IsNearestExit
later_above callers current off i nearest = elim (cases_lt i (length callers)) [
  | inl less ↦ less
  | inr not_less ↦
      let inside = has_exit_in (reverse callers ++ current ∷ []) i nearest.0 in
      let long = all_length callers current in
      let last : i ≡ length callers = omega (arith, not_less, inside, long) in
      let on : has_exit_at (reverse callers ++ current ∷ []) (length callers) ≡ true = subst (λ (n : ℕ). has_exit_at (reverse callers ++ current ∷ []) n ≡ true) last nearest.0 in
      absurd (let never : true ≡ false = sym on ∙ last_exit callers current ∙ off in cc)
]

-- ---- abends
calen_area : (s : Storage) (eib : ℕ) (calen : Option ℕ) (x : ℕ) → area_at (with_calen s eib calen) x ≡ area_at s x
unfolding with_calen with_field
calen_area s eib None x = refl
calen_area s eib (Some calen) x = area_written s (address_after eib 24) _ x

freed_calen : (s : Storage) (eib : ℕ) (calen : Option ℕ) (levels : List Level) → AreFreed s levels → AreFreed (with_calen s eib calen) levels
freed_calen s eib calen [] all = tt
freed_calen s eib calen (l ∷ ls) all = (calen_area s eib calen (address_in l.stg) ∙ all.0, freed_calen s eib calen ls all.1)

pub exits_are_nearest : ExitsAreNearest
unfolding AbendsAt exit_storage exit_task IsNearestExit
exits_are_nearest code cancel before after it = go cancel it.exit it.takes it.ends
  where
    callers : List Level
    callers = before.task.levels.callers

    current : Level
    current = before.task.levels.current

    taken : (index : ℕ) → IsNearestExit (all_levels before.task.levels) (Some index) → after ≡ exit_taken index before → TakesExit before after
    taken index nearest is =
        let n = length before.task.levels.callers - index in
        let left = unwound n callers current before.shared.storage in
        let inside = has_exit_in (reverse callers ++ current ∷ []) index nearest.0 in
        let long = all_length callers current in
        let split = unwound_split n callers current before.shared.storage (omega arith) in
        let size = split.size in
        let place : length left.levels.callers ≡ index = omega (arith, size, inside, long) in
        let off = exit_off left.levels.current.handles.active.exit in
        let at : slice_get (all_levels before.task.levels) index ≡ Some left.levels.current =
        ap (λ (l : List Level). slice_get l index) split.split ∙ subst (λ (k : ℕ). slice_get (reverse left.levels.callers ++ left.levels.current ∷ split.ended) k ≡ Some left.levels.current) place (at_place left.levels.callers left.levels.current split.ended) in
        let on : has_exit left.levels.current ≡ true = sym (ap (λ (o : Option Level). option_map_or has_exit o false) at) ∙ nearest.0 in
        rw is (record {
          callers = left.levels.callers;
          level = left.levels.current;
          ended = split.ended;
          split = split.split;
          nearest = subst (λ (k : ℕ). IsNearestExit (all_levels before.task.levels) (Some k)) (sym place) nearest;
          levels = refl;
          off = off;
          freed = freed_calen left.storage before.task.eib (Some left.levels.current.calen) split.ended split.freed;
          label = unwrap_or (label_on left.levels.current.handles.active.exit) 0;
          labelled = exit_labelled left.levels.current on;
          next = refl;
          regs = refl;
          cc = refl;
          due = refl;
          storage = ap (λ (s : Storage). with_calen s before.task.eib (Some left.levels.current.calen)) split.storage;
          others = refl;
          later = later_above left.levels.callers (with_exit_off left.levels.current) off;
        })

    go : (b : Bool) (o : Option ℕ) → IsExit b before.task.levels o → AbendsAt o code before (turn.TookExit code) after → TakesExit before after
    go b None takes over = absurd (let never : turn.TookExit code ≡ turn.Abended code = over.0 in cc)
    go true (Some index) takes over = cc
    go false (Some index) takes over = taken index takes over.1

pub exits_take_abends : ExitsTakeAbends
unfolding AbendsAt IsNearestExit
exits_take_abends code before after reply i it on = go it.exit it.takes it.ends
  where
    go : (o : Option ℕ) → IsNearestExit (all_levels before.task.levels) o → AbendsAt o code before reply after → reply ≡ turn.TookExit code
    go None takes over = absurd (let never : true ≡ false = sym on ∙ takes i in cc)
    go (Some index) takes over = over.0

pub cancel_takes_none : CancelTakesNoExit
unfolding AbendsAt
cancel_takes_none code before after reply it = go it.exit it.takes it.ends
  where
    go : (o : Option ℕ) → o ≡ None → AbendsAt o code before reply after → reply ≡ turn.Abended code
    go None takes over = over.0
    go (Some index) takes over = cc
