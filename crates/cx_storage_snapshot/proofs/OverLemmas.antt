-- Storage whose areas are those of copies, and what it is when the copies' bytes are written over its own.
use Rattle.std.proofs.Common.{◌≡◌, ℕ, zero, suc, ◌+◌, ◌<◌, ◌≤◌, ◌^◌, sym, ap, ◌∙◌, arith, List, [], ◌∷◌, ◌++◌, map, length, take, drop, get_or, Option, Some, None, refl, append_assoc}
use Rattle.std.specs.Prelude.{IsTrue, is_none}
use Rattle.std.specs.Global.{Global}
use Rattle.std.specs.declared.rc.Rc.{Rc}
use Rattle.std.proofs.lemmas.List.{append-nil, append_cancel_left, drop_all, drop_more, get_or-map, length-map, map-append, take-append-drop, take_all}
use Rattle.cx_storage.specs.Storage.{Held, Storage, areas_of, end_of, next_area, IsSoundStorage}
use Rattle.cx_storage.specs.Facts.Sound.{IsSoundStorage-head, IsSoundStorage-tail, IsSoundStorage-apart, sound_nil}
use Rattle.cx_storage.specs.declared.areas.Area.{Area}
use Rattle.cx_base.specs.Shared.{values}
use Rattle.cx_storage_snapshot.specs.Parts.Copies.{areas_from, EndBefore, StartAfter, partly}
use Rattle.cx_storage_snapshot.proofs.CopyLemmas.{areas_from_none, areas_from_zero, areas_more}
use Rattle.cx_storage_snapshot.proofs.WriteLemmas.{ends_before, front_more, last_whole, partly_all, partly_none, sound_take}

-- ---- the same areas
pub no_areas : (s : Storage) → areas_of [] ++ areas_of (areas_from 0 s) ≡ areas_of s
unfolding areas_of
no_areas s = ap (λ (t : Storage). map (λ h. h.area) t) (areas_from_zero s)

with_last : (t : Storage) (h : Held) → areas_of (t ++ h ∷ []) ≡ areas_of t ++ h.area ∷ []
unfolding areas_of
with_last t h = map-append (λ (g : Held). g.area) t (h ∷ [])

none_there : areas_of [] ≡ []
unfolding areas_of
none_there = refl

pub more_areas : (s : Storage) (from i : ℕ) (area : Area) (copies : List (Rc Held Global)) (x : Rc Held Global) → IsSoundStorage s → next_area s from ≡ Some area → i < length copies
    → x ≡ get_or copies i x → area ≡ x.value.area → areas_of (take i (values copies)) ++ areas_of (areas_from from s) ≡ areas_of s
    → areas_of (take (i + 1) (values copies)) ++ areas_of (areas_from (area.start + area.len) s) ≡ areas_of s
more_areas s from i area copies x ok e lx is same so =
    let before = areas_of (take i (values copies)) in
    let later = areas_of (areas_from (area.start + area.len) s) in
    let joined : areas_of (take (i + 1) (values copies)) ≡ before ++ x.value.area ∷ [] = ap areas_of (front_more copies i x lx is) ∙ with_last (take i (values copies)) x.value in
    rw joined (append_assoc before (x.value.area ∷ []) later ∙ ap (λ (a : Area). before ++ a ∷ later) (sym same) ∙ ap (λ (areas : List Area). before ++ areas) (sym (areas_more s from area ok e)) ∙ so)

none_of : (o : Option Area) → IsTrue (is_none o) → o ≡ None
none_of None t = refl
none_of (Some area) t = cc

pub all_areas : (s : Storage) (from i : ℕ) (copies : List (Rc Held Global)) → length copies ≤ i → IsTrue (is_none (next_area s from))
    → areas_of (take i (values copies)) ++ areas_of (areas_from from s) ≡ areas_of s → areas_of s ≡ areas_of (values copies)
all_areas s from i copies all none so =
    let rest : areas_of (areas_from from s) ≡ [] = ap areas_of (areas_from_none s from (none_of (next_area s from) none)) ∙ none_there in
    let front : take i (values copies) ≡ values copies = take_all i (values copies) (rw length-map all) in
    sym so ∙ ap (λ (areas : List Area). areas_of (take i (values copies)) ++ areas) rest ∙ append-nil (areas_of (take i (values copies))) ∙ ap areas_of front

-- ---- other areas
areas_append : (s t : Storage) → areas_of (s ++ t) ≡ areas_of s ++ areas_of t
unfolding areas_of
areas_append s t = map-append (λ (h : Held). h.area) s t

-- where all areas are those of copies, those that are left are those of the copies that are left
areas_left : (s : Storage) (from i : ℕ) (held : List Held) → areas_of (take i held) ++ areas_of (areas_from from s) ≡ areas_of s → areas_of s ≡ areas_of held
    → areas_of (areas_from from s) ≡ areas_of (drop i held)
areas_left s from i held so same =
    append_cancel_left (areas_of (take i held)) (areas_of (areas_from from s)) (areas_of (drop i held))
    (so ∙ same ∙ ap areas_of (sym (take-append-drop i held)) ∙ areas_append (take i held) (drop i held))

first_left : (held : List Held) (i : ℕ) (d : Held) → i < length held → areas_of (drop i held) ≡ (get_or held i d).area ∷ areas_of (drop (i + 1) held)
unfolding areas_of
first_left held i d l = ap (λ (t : Storage). map (λ h. h.area) t) (drop_more held i d l)

copy_there : (copies : List (Rc Held Global)) (i : ℕ) (x : Rc Held Global) → i < length copies → x ≡ get_or copies i x → get_or (values copies) i x.value ≡ x.value
copy_there copies i x lx is = get_or-map (λ (c : Rc Held Global). c.value) copies i x x.value lx ∙ sym (ap (λ (c : Rc Held Global). c.value) is)

-- the first of those that are left is that of the next copy
next_left : (s : Storage) (from i : ℕ) (copies : List (Rc Held Global)) (x : Rc Held Global) → i < length copies → x ≡ get_or copies i x
    → areas_of (take i (values copies)) ++ areas_of (areas_from from s) ≡ areas_of s → areas_of s ≡ areas_of (values copies)
    → areas_of (areas_from from s) ≡ x.value.area ∷ areas_of (drop (i + 1) (values copies))
next_left s from i copies x lx is so same =
    areas_left s from i (values copies) so same ∙ first_left (values copies) i x.value (rw length-map lx)
    ∙ ap (λ (h : Held). h.area ∷ areas_of (drop (i + 1) (values copies))) (copy_there copies i x lx is)

pub area_missing : (s : Storage) (from i : ℕ) (copies : List (Rc Held Global)) (x : Rc Held Global) → i < length copies → x ≡ get_or copies i x → next_area s from ≡ None
    → areas_of (take i (values copies)) ++ areas_of (areas_from from s) ≡ areas_of s → areas_of s ≡ areas_of (values copies) → ⊥
area_missing s from i copies x lx is e so same =
    let none : areas_of (areas_from from s) ≡ [] = ap areas_of (areas_from_none s from e) ∙ none_there in
    let next = next_left s from i copies x lx is so same in
    let empty : [] ≡ x.value.area ∷ areas_of (drop (i + 1) (values copies)) = sym none ∙ next in
    cc

pub area_same : (s : Storage) (from i : ℕ) (area : Area) (copies : List (Rc Held Global)) (x : Rc Held Global) → IsSoundStorage s → i < length copies → x ≡ get_or copies i x
    → next_area s from ≡ Some area → areas_of (take i (values copies)) ++ areas_of (areas_from from s) ≡ areas_of s → areas_of s ≡ areas_of (values copies) → x.value.area ≡ area
area_same s from i area copies x ok lx is e so same =
    let both : area ∷ areas_of (areas_from (area.start + area.len) s) ≡ x.value.area ∷ areas_of (drop (i + 1) (values copies)) =
    sym (areas_more s from area ok e) ∙ next_left s from i copies x lx is so same in
    cc

pub area_over : (s : Storage) (from i : ℕ) (copies : List (Rc Held Global)) → IsSoundStorage s → length copies ≤ i → areas_of (take i (values copies)) ++ areas_of (areas_from from s) ≡ areas_of s
    → areas_of s ≡ areas_of (values copies) → IsTrue (is_none (next_area s from))
area_over s from i copies ok all so same = by_next (next_area s from) refl
  where
    left : areas_of (areas_from from s) ≡ []
    left = areas_left s from i (values copies) so same ∙ ap areas_of (drop_all i (values copies) (rw length-map all)) ∙ none_there

    by_next : (o : Option Area) → next_area s from ≡ o → IsTrue (is_none o)
    by_next None e = refl
    by_next (Some area) e = let some : area ∷ areas_of (areas_from (area.start + area.len) s) ≡ [] = sym (areas_more s from area ok e) ∙ left in cc

-- ---- written over
sound_drop : (n : ℕ) (s : Storage) → IsSoundStorage s → IsSoundStorage (drop n s)
sound_drop zero s ok = ok
sound_drop (suc n) [] ok = sound_nil
sound_drop (suc n) (h ∷ hs) ok = sound_drop n hs (IsSoundStorage-tail h hs ok)

as_many : (s t : Storage) → areas_of s ≡ areas_of t → length s ≡ length t
unfolding areas_of
as_many s t e = sym (length-map s (λ (h : Held). h.area)) ∙ ap length e ∙ length-map t (λ (h : Held). h.area)

same_area : (s t : Storage) (i : ℕ) (d : Held) → areas_of s ≡ areas_of t → i < length s → i < length t → (get_or s i d).area ≡ (get_or t i d).area
unfolding areas_of
same_area s t i d e ls lt = sym (get_or-map (λ (h : Held). h.area) s i d d.area ls) ∙ ap (λ (areas : List Area). get_or areas i d.area) e ∙ get_or-map (λ (h : Held). h.area) t i d d.area lt

-- a copy is as long as its area, which ends below 2^24
pub copy_bounds : (copies : List (Rc Held Global)) (i : ℕ) (x : Rc Held Global) → IsSoundStorage (values copies) → i < length copies → x ≡ get_or copies i x
    → (length x.value.bytes ≡ x.value.area.len) × (end_of x.value.area ≤ 2 ^ 24)
copy_bounds copies i x ok lx is =
    let front = front_more copies i x lx is in
    let whole = last_whole (take i (values copies)) x.value (rw front at (sound_take (i + 1) (values copies) ok)) in
    (whole.full, whole.below)

-- one area more has the bytes of its copy
pub area_written : (old now new : Storage) (copies : List (Rc Held Global)) (i : ℕ) (x : Rc Held Global) (area : Area) (bytes : List ℕ) → IsSoundStorage old → IsSoundStorage (values copies)
    → areas_of old ≡ areas_of (values copies) → i < length copies → x ≡ get_or copies i x → area ≡ x.value.area → bytes ≡ x.value.bytes → now ≡ take i (values copies) ++ drop i old
    → ((others later : Storage) (was : List ℕ) → EndBefore area.start others → StartAfter (end_of area) later → length was ≡ area.len → now ≡ others ++ partly area bytes was 0 ∷ later
    → new ≡ others ++ partly area bytes was area.len ∷ later)
    → new ≡ take (i + 1) (values copies) ++ drop (i + 1) old
area_written old now new copies i x area bytes sound ok same lx is e f so filled =
    let vs = values copies in
    let lv : i < length vs = rw length-map lx in
    let lo : i < length old = rw (as_many old vs same) lv in
    let h = get_or old i x.value in
    let split : drop i old ≡ h ∷ drop (i + 1) old = drop_more old i x.value lo in
    let there : h.area ≡ area = same_area old vs i x.value same lo lv ∙ ap (λ (g : Held). g.area) (copy_there copies i x lx is) ∙ sym e in
    let front = front_more copies i x lx is in
    let before : EndBefore area.start (take i vs) = rw e (ends_before (take i vs) x.value (rw front at (sound_take (i + 1) vs ok))) in
    let rest_ok : IsSoundStorage (h ∷ drop (i + 1) old) = rw split at (sound_drop i old sound) in
    let after : StartAfter (end_of area) (drop (i + 1) old) = rw there at (IsSoundStorage-apart h (drop (i + 1) old) rest_ok) in
    let full : length h.bytes ≡ area.len = rw there at (IsSoundStorage-head h (drop (i + 1) old) rest_ok).full in
    let begun : now ≡ take i vs ++ partly area bytes h.bytes 0 ∷ drop (i + 1) old =
    so ∙ ap (λ (t : Storage). take i vs ++ t) split ∙ ap (λ (g : Held). take i vs ++ g ∷ drop (i + 1) old) (ap (λ (a : Area). record { area = a; bytes = h.bytes }) there ∙ sym (partly_none area bytes h.bytes)) in
    let bounds = copy_bounds copies i x ok lx is in
    let long : length bytes ≤ area.len = rw (f, e) (at_most (length x.value.bytes) x.value.area.len bounds.0) in
    let whole : partly area bytes h.bytes area.len ≡ x.value =
    partly_all area bytes h.bytes area.len long (at_most (length h.bytes) area.len full) ∙ ap (λ (a : Area). record { area = a; bytes = bytes }) e ∙ ap (λ (bs : List ℕ). record { area = x.value.area; bytes = bs }) f in
    filled (take i vs) (drop (i + 1) old) h.bytes before after full begun ∙ ap (λ (g : Held). take i vs ++ g ∷ drop (i + 1) old) whole
    ∙ sym (append_assoc (take i vs) (x.value ∷ []) (drop (i + 1) old)) ∙ ap (λ (t : Storage). t ++ drop (i + 1) old) (sym front)
  where
    at_most : (n m : ℕ) → n ≡ m → n ≤ m
    at_most n m e = omega (arith, e)

pub all_written : (old now : Storage) (copies : List (Rc Held Global)) (i : ℕ) → areas_of old ≡ areas_of (values copies) → length copies ≤ i → now ≡ take i (values copies) ++ drop i old → now ≡ values copies
all_written old now copies i same all so =
    let few : length (values copies) ≤ i = rw length-map all in
    let gone : drop i old ≡ [] = drop_all i old (rw (as_many old (values copies) same) few) in
    so ∙ ap (λ (t : Storage). take i (values copies) ++ t) gone ∙ append-nil (take i (values copies)) ∙ take_all i (values copies) few
