-- What copies of areas have, one after the other.
use Rattle.std.proofs.Common.{◌≡◌, ℕ, zero, suc, ◌+◌, ◌-◌, ◌<◌, ◌≤◌, ◌^◌, refl, sym, ap, ◌∙◌, arith, inl, inr, List, [], ◌∷◌, ◌++◌, length, map, take, drop, get_or, slice_get, Option, Some, None, nat_le, fold, false}
use Rattle.std.specs.Prelude.{slice_index, slice_range, IfSome}
use Rattle.std.specs.Global.{Global}
use Rattle.std.specs.declared.rc.Rc.{Rc}
use Rattle.std.specs.List.{AllByRecursion}
use Rattle.std.specs.Option.{option_and_then, option_map}
use Rattle.std.proofs.lemmas.Bool.{cases_Bool, le-leb, lt-leb, leb-true}
use Rattle.std.proofs.lemmas.List.{drop_more, take-take, length-take-le, length-drop, get_or-take, get_or-drop, take-append-drop, drop-take}
use Rattle.std.proofs.lemmas.Option.{slice_get-get_or, same_Some}
use Rattle.cx_storage.specs.Address.{address_after}
use Rattle.cx_storage.specs.Storage.{Held, Storage, areas_of, end_of, byte_at, span, next_area, IsSoundStorage}
use Rattle.cx_storage.specs.Facts.Sound.{IsSoundStorage-head, IsSoundStorage-tail, IsSoundStorage-apart, covers_cases, covers_from}
use Rattle.cx_storage.specs.Facts.Spans.{span_from, span_at, span_length}
use Rattle.cx_storage.specs.declared.areas.Area.{Area}
use Rattle.cx_storage_snapshot.specs.Hash.{hash_with_area}
use Rattle.cx_base.specs.Shared.{values}
use Rattle.cx_storage_snapshot.specs.Parts.Copies.{areas_from, IsCopyOf}

-- two spans, one after the other
pub span_join : (s : Storage) (a n m : ℕ) (xs ys : List ℕ) → a < 2 ^ 24 → span s a n ≡ Some xs → span s (address_after a n) m ≡ Some ys → span s a (n + m) ≡ Some (xs ++ ys)
unfolding span
span_join s a zero m xs ys la e f =
    let nil : [] ≡ xs = cc in
    let here : address_after a 0 ≡ a = omega arith in
    let none : zero + m ≡ m = omega arith in
    let whole : span s a m ≡ Some ys = rw here at f in
    rw (← nil, none) whole
span_join s a (suc n) m xs ys la e f =
    let more : suc n + m ≡ suc (n + m) = omega arith in
    let next : address_after a (suc n) ≡ address_after (address_after a 1) n = omega arith in
    let after : span s (address_after (address_after a 1) n) m ≡ Some ys = rw next at f in
    rw more (go (byte_at s a) (span s (address_after a 1) n) (λ bs g. span_join s (address_after a 1) n m bs ys (omega arith) g after) e)
  where
    go : (o : Option ℕ) (r : Option (List ℕ)) → ((bs : List ℕ) → r ≡ Some bs → span s (address_after a 1) (n + m) ≡ Some (bs ++ ys))
        → option_and_then (λ b. option_map (λ bs. b ∷ bs) r) o ≡ Some xs
        → option_and_then (λ b. option_map (λ bs. b ∷ bs) (span s (address_after a 1) (n + m))) o ≡ Some (xs ++ ys)
    go None r rest g = cc
    go (Some b) None rest g = cc
    go (Some b) (Some bs) rest g = let shape : b ∷ bs ≡ xs = cc in rw (← shape, rest bs refl) refl

pub some_gives : {X : Type 0} (o : Option X) (x : X) (P : X → Type 0) → o ≡ Some x → IfSome o P → P x
some_gives None x P e h = cc
some_gives (Some y) x P e h = let same : y ≡ x = cc in rw same at h

pub no_span : (s : Storage) (a n : ℕ) → n ≡ 0 → span s a n ≡ Some []
unfolding span
no_span s a n e = rw e refl

-- the span of an area, one piece more
pub span_piece : (s : Storage) (start at : ℕ) (xs ys : List ℕ) → start ≤ at → at < 2 ^ 24 → span s start (at - start) ≡ Some xs → span s at (length ys) ≡ Some ys
    → span s start (at + length ys - start) ≡ Some (xs ++ ys)
span_piece s start at xs ys low high e f =
    let here : address_after start (at - start) ≡ at = omega (arith, low, high) in
    let all : at + length ys - start ≡ (at - start) + length ys = omega (arith, low) in
    rw all (span_join s start (at - start) (length ys) xs ys (omega (arith, low, high)) e (rw here f))

pub take_piece : (xs : List ℕ) (n m : ℕ) → take n xs ++ slice_range xs n (n + m) ≡ take (n + m) xs
take_piece xs n m =
    let len : n + m - n ≡ m = omega arith in
    let front : take n (take (n + m) xs) ≡ take n xs = take-take n (n + m) xs (omega arith) in
    let back : drop n (take (n + m) xs) ≡ take m (drop n xs) = drop-take n m xs in
    rw len (ap (λ a. a ++ take m (drop n xs)) (sym front) ∙ ap (λ b. take n (take (n + m) xs) ++ b) (sym back) ∙ take-append-drop n (take (n + m) xs))

-- a span inside another has those of its bytes
pub span_part : (s : Storage) (start at len : ℕ) (bytes part : List ℕ) → start ≤ at → at < 2 ^ 24 → at + length part ≤ start + len → span s start len ≡ Some bytes
    → span s at (length part) ≡ Some part → part ≡ slice_range bytes (at - start) (at - start + length part)
span_part s start at len bytes part low high within whole e =
    let i = at - start in
    let n = length part in
    let all : length bytes ≡ len = span_length s start len bytes whole in
    let few : i + n - i ≡ n = omega arith in
    let size : length (take n (drop i bytes)) ≡ n = length-take-le n (drop i bytes) (rw (length-drop i bytes, all) (omega (arith, low, within))) in
    let each : (k : ℕ) → k < n → byte_at s (address_after at k) ≡ Some (slice_index (take n (drop i bytes)) k) = λ k less.
    let there : address_after start (i + k) ≡ address_after at k = omega (arith, low) in
    rw (get_or-take n (drop i bytes) k 0 less, get_or-drop i bytes k 0) (rw there at (span_at s start len bytes (i + k) (omega (arith, low, high)) whole (omega (arith, low, within, less)))) in
    let so : span s at n ≡ Some (take n (drop i bytes)) = span_from s at n _ high size each in
    rw few (same_Some _ _ (sym e ∙ so))

-- a copy of an area is as long as it
pub copy_length : (s : Storage) (area : Area) (copy : Held) → IsCopyOf s area copy → length copy.bytes ≡ area.len
copy_length s area copy is = span_length s area.start area.len copy.bytes is.bytes

-- the areas from an address on
pub areas_from_zero : (s : Storage) → areas_from 0 s ≡ s
unfolding areas_from
areas_from_zero [] = refl
areas_from_zero (h ∷ hs) = rw (le-leb 0 h.area.start (omega arith)) refl

areas_from_all : (s : Storage) (e : ℕ) → AllByRecursion (λ later. e ≤ later.area.start) s → areas_from e s ≡ s
unfolding areas_from
areas_from_all [] e all = refl
areas_from_all (h ∷ hs) e all = rw (le-leb e h.area.start all.0) refl

pub areas_from_none : (s : Storage) (from : ℕ) → next_area s from ≡ None → areas_from from s ≡ []
unfolding areas_from next_area
areas_from_none [] from e = refl
areas_from_none (h ∷ hs) from e = elim (cases_Bool (nat_le from h.area.start)) [
  | inl c ↦ let found = rw c at e in cc
  | inr c ↦ rw c (areas_from_none hs from (rw c at e))
]

-- the bytes of an area
record IsNextHeld (s : Storage) (from : ℕ) (area : Area) : Type 0 where
  held : Held
  same : held.area ≡ area
  low : from ≤ area.start
  full : length held.bytes ≡ area.len
  below : end_of area ≤ 2 ^ 24
  some : 0 < area.len
  bytes : (k : ℕ) → k < area.len → byte_at s (area.start + k) ≡ slice_get held.bytes k
  rest : areas_from from s ≡ held ∷ areas_from (end_of area) s

next_held : (s : Storage) (from : ℕ) (area : Area) → IsSoundStorage s → next_area s from ≡ Some area → IsNextHeld s from area
unfolding areas_from next_area byte_at
next_held [] from area ok e = cc
next_held (h ∷ hs) from area ok e = elim (cases_Bool (nat_le from h.area.start)) [
  | inl c ↦
      let found = rw c at e in
      let same : h.area ≡ area = cc in
      let whole = IsSoundStorage-head h hs ok in
      let past : nat_le (end_of area) h.area.start ≡ false = lt-leb (end_of area) h.area.start (rw (← same) (omega (arith, whole.nonempty))) in
      let apart : AllByRecursion (λ later. end_of area ≤ later.area.start) hs = rw same at (IsSoundStorage-apart h hs ok) in
      record {
        held = h;
        same = same;
        low = rw (← same) (leb-true _ _ c);
        full = rw (← same) whole.full;
        below = rw (← same) whole.below;
        some = rw (← same) whole.nonempty;
        bytes = rw (← same) (λ k few.
            let back : h.area.start + k - h.area.start ≡ k = omega arith in
            rw (covers_from h.area (h.area.start + k) (omega arith) (omega (arith, few)), back) refl);
        rest = rw (c, past, areas_from_all hs (end_of area) apart) refl;
      }
  | inr c ↦
      let next = next_held hs from area (IsSoundStorage-tail h hs ok) (rw c at e) in
      let apart = IsSoundStorage-apart h hs ok in
      let after = first_after hs from area (end_of h.area) apart (rw c at e) in
      let past : nat_le (end_of area) h.area.start ≡ false = lt-leb (end_of area) h.area.start (omega (arith, after, next.some)) in
      record {
        held = next.held;
        same = next.same;
        low = next.low;
        full = next.full;
        below = next.below;
        some = next.some;
        bytes = λ k few. elim (covers_cases h.area (area.start + k)) [
          | inl d ↦ absurd (omega (arith, d.2, after))
          | inr d ↦ rw d.0 (next.bytes k few)
        ];
        rest = rw (c, past) next.rest;
      }
]
  where
    first_after : (gs : Storage) (low : ℕ) (found : Area) (end : ℕ) → AllByRecursion (λ later. end ≤ later.area.start) gs → next_area gs low ≡ Some found → end ≤ found.start
    first_after [] low found end all f = cc
    first_after (g ∷ gs) low found end all f = elim (cases_Bool (nat_le low g.area.start)) [
      | inl d ↦ let here = rw d at f in let same : g.area ≡ found = cc in rw (← same) all.0
      | inr d ↦ first_after gs low found end all.1 (rw d at f)
    ]

copy_is : (s : Storage) (from : ℕ) (area : Area) (copy : Held) (next : IsNextHeld s from area) → IsCopyOf s area copy → copy ≡ next.held
copy_is s from area copy next is =
    let la : area.start < 2 ^ 24 = omega (arith, next.below, next.some) in
    let whole : span s area.start area.len ≡ Some next.held.bytes = span_from s area.start area.len next.held.bytes la next.full (λ k few.
    let here : address_after area.start k ≡ area.start + k = omega (arith, next.below, few) in
    rw here (next.bytes k few ∙ slice_get-get_or next.held.bytes k 0 (omega (arith, next.full, few)))) in
    let bytes : copy.bytes ≡ next.held.bytes = same_Some _ _ (sym is.bytes ∙ whole) in
    ap (λ area. record { area = area; bytes = copy.bytes }) (is.same ∙ sym next.same) ∙ ap (λ bytes. record { area = next.held.area; bytes = bytes }) bytes

-- one area more is copied
pub copied_more : (s : Storage) (from : ℕ) (area : Area) (copies : List (Rc Held Global)) (copy : Rc Held Global) → IsSoundStorage s → next_area s from ≡ Some area
    → IsCopyOf s area copy.value → values copies ++ areas_from from s ≡ s → values (copies ++ copy ∷ []) ++ areas_from (area.start + area.len) s ≡ s
copied_more s from area copies copy ok e is so =
    let next = next_held s from area ok e in
    let value : copy.value ≡ next.held = copy_is s from area copy.value next is in
    let all : values copies ++ copy.value ∷ areas_from (end_of area) s ≡ s = rw (value, ← next.rest) so in
    moved copies (areas_from (end_of area) s) ∙ all
  where
    moved : (cs : List (Rc Held Global)) (rest : Storage) → values (cs ++ copy ∷ []) ++ rest ≡ values cs ++ copy.value ∷ rest
    moved [] rest = refl
    moved (c ∷ cs) rest = ap (λ r. c.value ∷ r) (moved cs rest)

pub next_bounds : (s : Storage) (from : ℕ) (area : Area) → IsSoundStorage s → next_area s from ≡ Some area → (from ≤ area.start) × (0 < area.len) × (end_of area ≤ 2 ^ 24)
next_bounds s from area ok e = let next = next_held s from area ok e in (next.low, next.some, next.below)

-- the areas from an address on, by the next one
pub areas_more : (s : Storage) (from : ℕ) (area : Area) → IsSoundStorage s → next_area s from ≡ Some area → areas_of (areas_from from s) ≡ area ∷ areas_of (areas_from (area.start + area.len) s)
unfolding areas_of
areas_more s from area ok e =
    let next = next_held s from area ok e in
    rw next.rest (ap (λ (a : Area). a ∷ map (λ h. h.area) (areas_from (area.start + area.len) s)) next.same)

-- the hash, one copy more
pub hash_more : (xs : List (Rc Held Global)) (i hash : ℕ) (x : Rc Held Global) → i < length xs → x ≡ get_or xs i x
    → fold hash_with_area hash (values (drop i xs)) ≡ fold hash_with_area (hash_with_area hash x.value) (values (drop (i + 1) xs))
hash_more xs i hash x lx e = rw (drop_more xs i x lx, ← e) refl
