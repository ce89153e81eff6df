-- What writing the last area of a storage leaves.
use Rattle.std.proofs.Common.{◌≡◌, ℕ, zero, suc, ◌+◌, ◌-◌, ◌<◌, ◌≤◌, ◌^◌, ◌%◌, refl, sym, ap, ◌∙◌, arith, inl, inr, true, List, [], ◌∷◌, ◌++◌, map, length, take, drop, replicate, get_or, slice_get, Option, Some, None, is_some, append_assoc, length-append, length-drop}
use Rattle.std.specs.Prelude.{slice_range}
use Rattle.std.specs.Global.{Global}
use Rattle.std.specs.declared.rc.Rc.{Rc}
use Rattle.std.specs.List.{AllByRecursion}
use Rattle.std.proofs.lemmas.Bool.{le-ltb}
use Rattle.std.proofs.lemmas.List.{append-nil, set_at, take_all, drop_all, drop-drop, map-append, take_more, get_or-map, length-map, length-replicate, length-take-le, take-append-drop}
use Rattle.std.proofs.lemmas.Option.{slice_get-get_or}
use Rattle.cx_storage.specs.Address.{address_after}
use Rattle.cx_storage.specs.Aligned.{AreAligned}
use Rattle.cx_storage.specs.Place.{Misses, CanPlace, IsLeastPlace}
use Rattle.cx_storage.specs.Storage.{Held, Storage, end_of, byte_at, span, put_byte, with_byte, with_bytes, after_write, zeros, put_held, with_area, IsWhole, IsSoundStorage}
use Rattle.cx_storage.specs.Facts.Sound.{sound_nil, IsSoundStorage-head, IsSoundStorage-tail, IsSoundStorage-apart, IsSoundStorage-cons, covers_cases, covers_from}
use Rattle.cx_storage.specs.Facts.Spans.{span_inside}
use Rattle.cx_storage.specs.Facts.Writes.{written_whole}
use Rattle.cx_storage.specs.declared.areas.Area.{Area}
use Rattle.cx_storage.specs.declared.areas.Owner.{Owner}
use Rattle.cx_base.specs.Shared.{values}
use Rattle.cx_storage_snapshot.specs.Parts.Copies.{EndBefore, StartAfter, partly}
use Rattle.cx_storage_snapshot.proofs.CopyLemmas.{take_piece}

held : Area → List ℕ → Held
held area bytes = record { area = area; bytes = bytes }

-- a byte of the last area
put_before : (others : Storage) (start a v : ℕ) → EndBefore start others → start ≤ a → map (put_byte a v) others ≡ others
put_before [] start a v before le = refl
put_before (h ∷ hs) start a v before le = elim (covers_cases h.area a) [
  | inl c ↦ absurd (omega (arith, c.2, before.0, le))
  | inr c ↦ rw (c.0, put_before hs start a v before.1 le) refl
]

pub put_after : (later : Storage) (end a v : ℕ) → StartAfter end later → a < end → map (put_byte a v) later ≡ later
put_after [] end a v after less = refl
put_after (h ∷ hs) end a v after less = elim (covers_cases h.area a) [
  | inl c ↦ absurd (omega (arith, c.1, after.0, less))
  | inr c ↦ rw (c.0, put_after hs end a v after.1 less) refl
]

-- a byte of an area, between others
put_between : (others later : Storage) (h : Held) (a v : ℕ) → EndBefore h.area.start others → StartAfter (end_of h.area) later → h.area.start ≤ a → a < end_of h.area
    → with_byte (others ++ h ∷ later) a v ≡ others ++ put_byte a v h ∷ later
unfolding with_byte
put_between others later h a v before after low high =
    map-append (put_byte a v) others (h ∷ later) ∙ ap (λ front. front ++ put_byte a v h ∷ map (put_byte a v) later) (put_before others h.area.start a v before low)
    ∙ ap (λ back. others ++ put_byte a v h ∷ back) (put_after later (end_of h.area) a v after high)

byte_between : (others later : Storage) (h : Held) (x : ℕ) → EndBefore h.area.start others → h.area.start ≤ x → x < end_of h.area
    → byte_at (others ++ h ∷ later) x ≡ slice_get h.bytes (x - h.area.start)
unfolding byte_at
byte_between [] later h x before low high = rw (covers_from h.area x low high) refl
byte_between (g ∷ gs) later h x before low high = elim (covers_cases g.area x) [
  | inl c ↦ absurd (omega (arith, c.2, before.0, low))
  | inr c ↦ rw c.0 (byte_between gs later h x before.1 low high)
]

present_between : (others later : Storage) (h : Held) (a n : ℕ) → EndBefore h.area.start others → length h.bytes ≡ h.area.len → end_of h.area ≤ 2 ^ 24 → h.area.start ≤ a → a + n ≤ end_of h.area
    → is_some (span (others ++ h ∷ later) a n) ≡ true
present_between others later h a n before full below low high = span_inside (others ++ h ∷ later) a n (omega (arith, below, high)) (λ x from to.
    rw (byte_between others later h x before (omega (arith, low, from)) (omega (arith, high, to)), slice_get-get_or h.bytes (x - h.area.start) 0 (omega (arith, full, low, from, high, to))) refl)

-- bytes written one after the other into an area, in the place of as many
write_at : (others later : Storage) (area : Area) (done piece old rest : List ℕ) → EndBefore area.start others → StartAfter (end_of area) later → length old ≡ length piece
    → length done + length piece + length rest ≡ area.len → end_of area ≤ 2 ^ 24
    → with_bytes (others ++ held area (done ++ (old ++ rest)) ∷ later) (address_after area.start (length done)) piece ≡ others ++ held area (done ++ (piece ++ rest)) ∷ later
unfolding with_bytes held
write_at others later area done [] [] rest before after many len below = refl
write_at others later area done [] (o ∷ os) rest before after many len below = absurd (omega (arith, many))
write_at others later area done (b ∷ bs) [] rest before after many len below = absurd (omega (arith, many))
write_at others later area done (b ∷ bs) (o ∷ os) rest before after many len below =
    let at : address_after area.start (length done) ≡ area.start + length done = omega (arith, len, below) in
    let next : address_after (area.start + length done) 1 ≡ address_after area.start (length (done ++ b ∷ [])) = rw (length-append done (b ∷ [])) (omega arith) in
    let last = held area (done ++ o ∷ (os ++ rest)) in
    let inside = covers_from area (area.start + length done) (omega arith) (omega (arith, len)) in
    let back : area.start + length done - area.start ≡ length done = omega arith in
    let put : put_byte (area.start + length done) b last ≡ held area ((done ++ b ∷ []) ++ (os ++ rest)) =
    rw (inside, back, set_at done o (os ++ rest) b (length done) refl, append_assoc) refl in
    let written : with_byte (others ++ last ∷ later) (area.start + length done) b ≡ others ++ held area ((done ++ b ∷ []) ++ (os ++ rest)) ∷ later =
    put_between others later last (area.start + length done) b before after (omega arith) (omega (arith, len)) ∙ ap (λ h. others ++ h ∷ later) put in
    let more = write_at others later area (done ++ b ∷ []) bs os rest before after (omega (arith, many)) (rw (length-append done (b ∷ [])) (omega (arith, len))) below in
    let all : (done ++ b ∷ []) ++ (bs ++ rest) ≡ done ++ ((b ∷ bs) ++ rest) = append_assoc done (b ∷ []) (bs ++ rest) in
    rw (at, written, next) (more ∙ ap (λ bytes. others ++ held area bytes ∷ later) all)

-- a piece written in the place of as many bytes
piece_at : (others later : Storage) (area : Area) (done piece old rest : List ℕ) → EndBefore area.start others → StartAfter (end_of area) later → length old ≡ length piece
    → length done + length piece + length rest ≡ area.len → end_of area ≤ 2 ^ 24 → 0 < length piece
    → after_write (others ++ held area (done ++ (old ++ rest)) ∷ later) (area.start + length done) piece ≡ others ++ held area (done ++ (piece ++ rest)) ∷ later
unfolding held
piece_at others later area done piece old rest before after many len below some =
    let last = held area (done ++ (old ++ rest)) in
    let full : length (done ++ (old ++ rest)) ≡ area.len =
    length-append done (old ++ rest) ∙ ap (λ m. length done + m) (length-append old rest) ∙ sum_is (length done) (length piece) (length old) (length rest) area.len many len in
    let present = present_between others later last (area.start + length done) (length piece) before full below (omega arith) (within area.start (length done) (length piece) (length rest) area.len len) in
    let at : address_after area.start (length done) ≡ area.start + length done = low area.start (length done) (length piece) (length rest) area.len len below some in
    written_whole (others ++ last ∷ later) (area.start + length done) piece present ∙ (rw at at (write_at others later area done piece old rest before after many len below))
  where
    sum_is : (d p o m l : ℕ) → o ≡ p → d + p + m ≡ l → d + (o + m) ≡ l
    sum_is d p o m l f e = omega arith

    within : (a d p m l : ℕ) → d + p + m ≡ l → a + d + p ≤ a + l
    within a d p m l e = omega arith

    low : (a d p m l : ℕ) → d + p + m ≡ l → a + l ≤ 2 ^ 24 → 0 < p → address_after a d ≡ a + d
    low a d p m l e b s = omega arith

range_length : (xs : List ℕ) (i m : ℕ) → i + m ≤ length xs → length (slice_range xs i (i + m)) ≡ m
range_length xs i m h =
    let few : i + m - i ≡ m = omega arith in
    let left : m ≤ length (drop i xs) = rw length-drop (omega arith) in
    rw few (length-take-le m (drop i xs) left)

-- one piece more
pub piece_written : (others later : Storage) (area : Area) (bytes old : List ℕ) (k n : ℕ) → EndBefore area.start others → StartAfter (end_of area) later → length bytes ≡ area.len → length old ≡ area.len
    → end_of area ≤ 2 ^ 24 → k + n ≤ length bytes → 0 < n
    → after_write (others ++ partly area bytes old k ∷ later) (area.start + k) (slice_range bytes k (k + n)) ≡ others ++ partly area bytes old (k + n) ∷ later
unfolding partly held
piece_written others later area bytes old k n before after full same below fits some =
    piece_of (slice_range bytes k (k + n)) (take k bytes) (length-take-le k bytes (under k n (length bytes) fits)) (range_length bytes k n fits) (take_piece bytes k n)
  where
    under : (i m l : ℕ) → i + m ≤ l → i ≤ l
    under i m l h = omega arith

    rest : List ℕ
    rest = drop (k + n) old

    gone : List ℕ
    gone = slice_range old k (k + n)

    in_old : k + n ≤ length old
    in_old = omega (arith, full, same, fits)

    split : drop k old ≡ gone ++ rest
    split =
        let few : k + n - k ≡ n = omega arith in
        let twice : drop n (drop k old) ≡ drop (k + n) old = drop-drop n k old in
        rw (few, ← twice) (sym (take-append-drop n (drop k old)))

    sums : (d p m l b : ℕ) → d ≡ k → p ≡ n → m ≡ l - (k + n) → l ≡ b → k + n ≤ l → d + p + m ≡ b
    sums d p m l b e f g h le = omega arith

    piece_of : (piece done : List ℕ) → length done ≡ k → length piece ≡ n → done ++ piece ≡ take (k + n) bytes
        → after_write (others ++ held area (done ++ drop k old) ∷ later) (area.start + k) piece ≡ others ++ held area (take (k + n) bytes ++ rest) ∷ later
    piece_of piece done at len joined =
        let many : length gone ≡ length piece = range_length old k n in_old ∙ sym len in
        let whole = piece_at others later area done piece gone rest before after many (sums (length done) (length piece) (length rest) (length old) area.len at len (length-drop (k + n) old) same in_old) below (rw len some) in
        let whole' = rw (← split, at) at whole in
        whole' ∙ ap (λ (bs : List ℕ). others ++ held area bs ∷ later) (sym (append_assoc done piece rest) ∙ ap (λ front. front ++ rest) joined)

-- nothing of the bytes is written, and all are
pub partly_none : (area : Area) (bytes old : List ℕ) → partly area bytes old 0 ≡ record { area = area; bytes = old }
unfolding partly
partly_none area bytes old = refl

pub partly_all : (area : Area) (bytes old : List ℕ) (k : ℕ) → length bytes ≤ k → length old ≤ k → partly area bytes old k ≡ record { area = area; bytes = bytes }
unfolding partly
partly_all area bytes old k le few =
    rw (take_all k bytes le, drop_all k old few) (ap (λ (bs : List ℕ). record { area = area; bytes = bs }) (append-nil bytes))

-- the last of the areas of a sound storage: those before it end before it
pub ends_before : (s : Storage) (h : Held) → IsSoundStorage (s ++ h ∷ []) → EndBefore h.area.start s
ends_before [] h ok = tt
ends_before (g ∷ gs) h ok = (at_last gs (IsSoundStorage-apart g (gs ++ h ∷ []) ok), ends_before gs h (IsSoundStorage-tail g (gs ++ h ∷ []) ok))
  where
    at_last : (hs : Storage) → AllByRecursion (λ later. end_of g.area ≤ later.area.start) (hs ++ h ∷ []) → end_of g.area ≤ h.area.start
    at_last [] all = all.0
    at_last (x ∷ xs) all = at_last xs all.1

pub last_whole : (s : Storage) (h : Held) → IsSoundStorage (s ++ h ∷ []) → IsWhole h
last_whole [] h ok = IsSoundStorage-head h [] ok
last_whole (g ∷ gs) h ok = last_whole gs h (IsSoundStorage-tail g (gs ++ h ∷ []) ok)

-- its place is found, and it is put last
misses : (s : Storage) (len start : ℕ) → EndBefore start s → AllByRecursion (Misses len start) s
misses [] len start before = tt
misses (h ∷ hs) len start before = (inl before.0, misses hs len start before.1)

pub place_found : (s : Storage) (start len : ℕ) (place : Option ℕ) → EndBefore start s → start % 16 ≡ 0 → 0 < len → IsLeastPlace s start (start + len - 1) len place → place ≡ Some start
unfolding IsLeastPlace CanPlace
place_found s start len None before aligned some none = absurd (none start (aligned, omega arith, omega arith, misses s len start before))
place_found s start len (Some a) before aligned some least =
    let low = least.0.1 in
    let high = least.1 start (aligned, omega arith, omega arith, misses s len start before) in
    ap Some (omega arith)

pub put_held_last : (s : Storage) (h : Held) → EndBefore h.area.start s → put_held h s ≡ s ++ h ∷ []
unfolding put_held
put_held_last [] h before = refl
put_held_last (g ∷ gs) h before = rw (le-ltb h.area.start g.area.start (omega (arith, before.0)), put_held_last gs h before.1) refl

pub area_put_last : (s : Storage) (start len : ℕ) (owner : Owner) (place : Option ℕ) → EndBefore start s → place ≡ Some start → with_area s place len owner ≡ s ++ zeros start len owner ∷ []
unfolding with_area
area_put_last s start len owner place before e = rw e (put_held_last s (zeros start len owner) before)

-- the bounds of the last area
pub last_bounds : (s : Storage) (copy : Held) (area : Area) → IsSoundStorage (s ++ copy ∷ []) → area ≡ copy.area → (0 < area.len) × (area.start + area.len ≤ 2 ^ 24) × (length copy.bytes ≡ area.len)
last_bounds s copy area ok e = let whole = last_whole s copy ok in rw e (whole.nonempty, whole.below, whole.full)

-- an area made and filled is put after the others
pub area_put : (old got new : Storage) (copy : Held) (area : Area) (bytes : List ℕ) (place : Option ℕ) → IsSoundStorage (old ++ copy ∷ []) → area ≡ copy.area → bytes ≡ copy.bytes → copy.area.start % 16 ≡ 0
    → IsLeastPlace old area.start (area.start + area.len - 1) area.len place → got ≡ with_area old place area.len area.owner
    → ((others later : Storage) (was : List ℕ) → EndBefore area.start others → StartAfter (end_of area) later → length was ≡ area.len → got ≡ others ++ partly area bytes was 0 ∷ later
    → new ≡ others ++ partly area bytes was area.len ∷ later)
    → new ≡ old ++ copy ∷ []
area_put old got new copy area bytes place ok e f aligned least is filled =
    let bounds = last_bounds old copy area ok e in
    let before : EndBefore area.start old = rw e (ends_before old copy ok) in
    let start : area.start % 16 ≡ 0 = rw e aligned in
    let full : length bytes ≡ area.len = ap length f ∙ bounds.2 in
    let at : place ≡ Some area.start = place_found old area.start area.len place before start bounds.0 least in
    let was = replicate area.len 0 in
    let made : got ≡ old ++ partly area bytes was 0 ∷ [] =
    is ∙ area_put_last old area.start area.len area.owner place before at ∙ ap (λ (h : Held). old ++ h ∷ []) (sym (partly_none area bytes was)) in
    filled old [] was before tt (length-replicate area.len 0) made
    ∙ ap (λ (h : Held). old ++ h ∷ []) (partly_all area bytes was area.len (all_of (length bytes) area.len full) (all_of (length was) area.len (length-replicate area.len 0)) ∙ ap (λ (a : Area). record { area = a; bytes = bytes }) e ∙ ap (λ (bs : List ℕ). record { area = copy.area; bytes = bs }) f)
  where
    all_of : (n m : ℕ) → n ≡ m → n ≤ m
    all_of n m e = omega arith

-- the first areas of a sound storage are sound
all_take : (P : Held → Type 0) (n : ℕ) (s : Storage) → AllByRecursion P s → AllByRecursion P (take n s)
all_take P zero s all = tt
all_take P (suc n) [] all = tt
all_take P (suc n) (h ∷ hs) all = (all.0, all_take P n hs all.1)

pub sound_take : (n : ℕ) (s : Storage) → IsSoundStorage s → IsSoundStorage (take n s)
sound_take zero s ok = sound_nil
sound_take (suc n) [] ok = sound_nil
sound_take (suc n) (h ∷ hs) ok =
    IsSoundStorage-cons h (take n hs) (IsSoundStorage-head h hs ok) (all_take (λ later. end_of h.area ≤ later.area.start) n hs (IsSoundStorage-apart h hs ok)) (sound_take n hs (IsSoundStorage-tail h hs ok))

-- the copies that come next
pub front_more : (xs : List (Rc Held Global)) (i : ℕ) (x : Rc Held Global) → i < length xs → x ≡ get_or xs i x → take (i + 1) (values xs) ≡ take i (values xs) ++ x.value ∷ []
front_more xs i x lx e =
    take_more (values xs) i x.value (rw length-map lx) ∙ ap (λ (h : Held). take i (values xs) ++ h ∷ []) (get_or-map (λ c. c.value) xs i x x.value lx ∙ sym (ap (λ (c : Rc Held Global). c.value) e))

pub aligned_at : (s : Storage) (i : ℕ) (d : Held) → AreAligned s → i < length s → (get_or s i d).area.start % 16 ≡ 0
unfolding AreAligned
aligned_at [] i d all h = absurd (omega arith)
aligned_at (h ∷ hs) zero d all l = all.0
aligned_at (h ∷ hs) (suc i) d all l = aligned_at hs i d all.1 (omega arith)

pub copy_aligned : (xs : List (Rc Held Global)) (i : ℕ) (x : Rc Held Global) → AreAligned (values xs) → i < length xs → x ≡ get_or xs i x → x.value.area.start % 16 ≡ 0
copy_aligned xs i x all lx e =
    let there = aligned_at (values xs) i x.value all (rw length-map lx) in
    let same : get_or (values xs) i x.value ≡ x.value = get_or-map (λ c. c.value) xs i x x.value lx ∙ sym (ap (λ (c : Rc Held Global). c.value) e) in
    rw same at there
