-- What a directory has after one of its pages changed.
use Rattle.std.proofs.Common.{◌≡◌, ◌≢◌, ℕ, zero, suc, ◌+◌, ◌-◌, ◌*◌, ◌/◌, ◌%◌, ◌<◌, ◌≤◌, ◌==◌, true, false, refl, sym, ap, ◌∙◌, arith, inl, inr, replicate, List, [], ◌∷◌, ◌++◌, length, slice_set, slice_get, Option, Some, None, nat_lt, if◌then◌else◌, get_or, min, ◌⊎◌, Bool}
use Rattle.std.specs.Prelude.{IfSome, OnSome}
use Rattle.std.proofs.lemmas.Option.{slice_get_read}
use Rattle.std.proofs.lemmas.List.{length-replicate}
use Rattle.std.proofs.lemmas.Bool.{cases_Bool, cases_eq, eq-eqb, ne_eqb, le-ltb, lt-ltb, le-leb, lt-leb, cases_lt}
use Rattle.cx_storage_pages.specs.declared.page.Page.{Page}
use Rattle.cx_storage_pages.specs.Parts.Change.{is_within, Changes, Writes, Fills, zero_to, HoldsBytes}
use Rattle.cx_storage_pages.specs.Parts.Frame.{HasAll, Skips}
use Rattle.cx_storage_pages.specs.Parts.Page.{is_made}
use Rattle.cx_storage_pages.specs.Pages.{page_byte, byte_in_pages}
use Rattle.cx_storage_pages.specs.Parts.Directory.{has_page}

get_set_same : (ps : List Page) (i : ℕ) (p : Page) → i < length ps → slice_get (slice_set ps i p) i ≡ Some p
get_set_same [] i p h = absurd (omega arith)
get_set_same (q ∷ qs) zero p h = refl
get_set_same (q ∷ qs) (suc i) p h = get_set_same qs i p (omega arith)

get_set_other : (ps : List Page) (i j : ℕ) (p : Page) → j ≢ i → slice_get (slice_set ps i p) j ≡ slice_get ps j
get_set_other [] i j p ne = refl
get_set_other (q ∷ qs) zero zero p ne = absurd (ne refl)
get_set_other (q ∷ qs) zero (suc j) p ne = refl
get_set_other (q ∷ qs) (suc i) zero p ne = refl
get_set_other (q ∷ qs) (suc i) (suc j) p ne = get_set_other qs i j p (λ e. ne (ap suc e))

get_past : (ps : List Page) (j : ℕ) → length ps ≤ j → slice_get ps j ≡ None
get_past [] j h = refl
get_past (q ∷ qs) zero h = absurd (omega arith)
get_past (q ∷ qs) (suc j) h = get_past qs j (omega arith)

get_push_before : (ps : List Page) (p : Page) (j : ℕ) → j < length ps → slice_get (ps ++ p ∷ []) j ≡ slice_get ps j
get_push_before [] p j h = absurd (omega arith)
get_push_before (q ∷ qs) p zero h = refl
get_push_before (q ∷ qs) p (suc j) h = get_push_before qs p j (omega arith)

get_push_last : (ps : List Page) (p : Page) → slice_get (ps ++ p ∷ []) (length ps) ≡ Some p
get_push_last [] p = refl
get_push_last (q ∷ qs) p = get_push_last qs p

-- a page set
pub there_set : (ps : List Page) (i : ℕ) (p : Page) (x : ℕ) → i < length ps → byte_in_pages (slice_set ps i p) x ≡ (if x / 4096 == i then page_byte p (x % 4096) else byte_in_pages ps x)
unfolding byte_in_pages
there_set ps i p x h = elim (cases_eq (x / 4096) i) [
  | inl e ↦ rw (e, eq-eqb i i refl, get_set_same ps i p h) refl
  | inr ne ↦ rw (ne_eqb (x / 4096) i ne, get_set_other ps i (x / 4096) p ne) refl
]

pub has_set : (ps : List Page) (i : ℕ) (p : Page) (j : ℕ) → i < length ps → has_page (slice_set ps i p) j ≡ (if j == i then is_made p else has_page ps j)
unfolding has_page
has_set ps i p j h = elim (cases_eq j i) [
  | inl e ↦ rw (e, eq-eqb i i refl, get_set_same ps i p h) refl
  | inr ne ↦ rw (ne_eqb j i ne, get_set_other ps i j p ne) refl
]

pub there_at : (ps : List Page) (i : ℕ) (p : Page) (x : ℕ) → slice_get ps i ≡ Some p → x / 4096 ≡ i → byte_in_pages ps x ≡ page_byte p (x % 4096)
unfolding byte_in_pages
there_at ps i p x e same = rw (same, e) refl

pub there_past : (ps : List Page) (x : ℕ) → length ps ≤ x / 4096 → byte_in_pages ps x ≡ None
unfolding byte_in_pages
there_past ps x h = rw (get_past ps (x / 4096) h) refl

pub has_at : (ps : List Page) (i : ℕ) (p : Page) → slice_get ps i ≡ Some p → has_page ps i ≡ is_made p
unfolding has_page
has_at ps i p e = rw e refl

pub has_past : (ps : List Page) (i : ℕ) → length ps ≤ i → has_page ps i ≡ false
unfolding has_page
has_past ps i h = rw (get_past ps i h) refl

-- a page pushed that has no byte
pub there_push : (ps : List Page) (p : Page) (x : ℕ) → ((k : ℕ) → page_byte p k ≡ None) → byte_in_pages (ps ++ p ∷ []) x ≡ byte_in_pages ps x
unfolding byte_in_pages
there_push ps p x none = elim (cases_lt (x / 4096) (length ps)) [
  | inl lt ↦ rw (get_push_before ps p (x / 4096) lt) refl
  | inr ge ↦ elim (cases_eq (x / 4096) (length ps)) [
    | inl e ↦ rw (e, get_push_last ps p, get_past ps (length ps) (omega arith)) (none (x % 4096))
    | inr ne ↦ rw (get_past (ps ++ p ∷ []) (x / 4096) (pushed ps p (x / 4096) (omega arith)), get_past ps (x / 4096) ge) refl
  ]
]
  where
    pushed : (qs : List Page) (q : Page) (j : ℕ) → length qs + 1 ≤ j → length (qs ++ q ∷ []) ≤ j
    pushed [] q j h = omega arith
    pushed (r ∷ rs) q zero h = absurd (omega arith)
    pushed (r ∷ rs) q (suc j) h = let rest = pushed rs q j (omega arith) in omega (arith, rest)

pub has_push : (ps : List Page) (p : Page) (j : ℕ) → is_made p ≡ false → has_page (ps ++ p ∷ []) j ≡ has_page ps j
unfolding has_page
has_push [] p zero un = un
has_push [] p (suc j) un = refl
has_push (q ∷ qs) p zero un = refl
has_push (q ∷ qs) p (suc j) un = has_push qs p j un

-- a page of the directory
at_index : (ps : List Page) (i : ℕ) (p : Page) → i < length ps → p ≡ get_or ps i p → slice_get ps i ≡ Some p
at_index ps i p h e = slice_get_read ps (length ps) i p refl h e

-- a number and its bounds, moved together
within_moved : (from end x a b y s : ℕ) → from ≡ a + s → end ≡ b + s → x ≡ y + s → is_within from end x ≡ is_within a b y
within_moved from end x a b y s e f g = elim (cases_lt x from) [
  | inl before ↦ rw (lt-leb from x before, lt-leb a y (omega (arith, before))) refl
  | inr low ↦ elim (cases_lt x end) [
    | inl inside ↦ rw (le-leb from x low, le-leb a y (omega (arith, low)), lt-ltb x end inside, lt-ltb y b (omega (arith, inside))) refl
    | inr past ↦ rw (le-leb from x low, le-leb a y (omega (arith, low)), le-ltb x end past, le-ltb y b (omega (arith, past))) refl
  ]
]

within_none : (from end x : ℕ) → (x < from) ⊎ (end ≤ x) → is_within from end x ≡ false
within_none from end x out = elim (cases_lt x from) [
  | inl before ↦ rw (lt-leb from x before) refl
  | inr low ↦ elim out [ inl before ↦ absurd (omega (arith, before, low)) | inr past ↦ rw (le-leb from x low, le-ltb x end past) refl ]
]

-- the granules of one page are those of no other
outside : (g end x : ℕ) → g < end → (end - 1) / 256 ≡ g / 256 → x / 4096 ≢ g / 256 → is_within g end (x / 16) ≡ false
outside g end x some together ne = within_none g end (x / 16) (elim (cases_lt (x / 16) g) [ inl before ↦ inl before | inr from ↦ inr (omega (arith, from, some, together, ne)) ])

-- a change of one page, by places of the page and by addresses
page_changed : (ps : List Page) (i : ℕ) (p q : Page) (test here : ℕ → Bool) (rule gives : ℕ → Option ℕ) → i < length ps → p ≡ get_or ps i p
    → ((x : ℕ) → x / 4096 ≡ i → (test x ≡ here (x % 4096)) × (rule x ≡ gives (x % 4096))) → ((x : ℕ) → x / 4096 ≢ i → test x ≡ false)
    → Changes here gives (page_byte p) (page_byte q) → Changes test rule (byte_in_pages ps) (byte_in_pages (slice_set ps i q))
page_changed ps i p q test here rule gives h e inside beside each = λ x. there_set ps i q x h ∙ elim (cases_eq (x / 4096) i) [
  | inl same ↦
      let both = inside x same in
      rw (eq-eqb (x / 4096) i same, each (x % 4096), both.0, both.1, there_at ps i p x (at_index ps i p h e) same) refl
  | inr ne ↦ rw (ne_eqb (x / 4096) i ne, beside x ne) refl
]

-- a place before another is at an address before another
pub place_before : (x to i limit : ℕ) → x / 4096 ≡ i → limit ≡ to - i * 4096 → nat_lt (x % 4096) limit ≡ nat_lt x to
place_before x to i limit page e = elim (cases_lt x to) [
  | inl lt ↦ rw (lt-ltb x to lt) (lt-ltb (x % 4096) limit (omega (arith, lt, page, e)))
  | inr ge ↦ rw (le-ltb x to ge) (le-ltb (x % 4096) limit (omega (arith, ge, page, e)))
]

-- granules of one page marked
pub page_marked : (ps : List Page) (g end to limit : ℕ) (p q : Page) → g < end → (end - 1) / 256 ≡ g / 256 → g / 256 < length ps → p ≡ get_or ps (g / 256) p → limit ≡ to - g / 256 * 4096
    → Fills (g % 256) (g % 256 + (end - g)) (zero_to limit) (page_byte p) (page_byte q) → Fills g end (zero_to to) (byte_in_pages ps) (byte_in_pages (slice_set ps (g / 256) q))
page_marked ps g end to limit p q some together h e is each =
    page_changed ps (g / 256) p q (λ x. is_within g end (x / 16)) (λ k. is_within (g % 256) (g % 256 + (end - g)) (k / 16)) (zero_to to) (zero_to limit) h e (λ x same. (
      within_moved g end (x / 16) (g % 256) (g % 256 + (end - g)) (x % 4096 / 16) (g / 256 * 256) (omega arith) (omega arith) (omega (arith, same)),
      rw (place_before x to (g / 256) limit same is) refl,
    )) (λ x ne. outside g end x some together ne) each

-- those beyond the pages, none of which has a byte
pub past_marked : (ps : List Page) (g end to : ℕ) → g < end → (end - 1) / 256 ≡ g / 256 → length ps ≤ g / 256 → to ≡ 0 → Fills g end (zero_to to) (byte_in_pages ps) (byte_in_pages ps)
past_marked ps g end to some together h none = λ x. elim (cases_eq (x / 4096) (g / 256)) [
  | inl same ↦
      let gone = there_past ps x (omega (arith, same, h)) in
      rw (gone, le-ltb x to (omega (arith, none))) (elim (cases_Bool (is_within g end (x / 16))) [ inl e ↦ rw e refl | inr e ↦ rw e refl ])
  | inr ne ↦ rw (outside g end x some together ne) refl
]

pub has_set_same : (ps : List Page) (i : ℕ) (p q : Page) → i < length ps → p ≡ get_or ps i p → is_made q ≡ is_made p → (j : ℕ) → has_page (slice_set ps i q) j ≡ has_page ps j
has_set_same ps i p q h e same j = has_set ps i q j h ∙ elim (cases_eq j i) [
  | inl here ↦ rw (here, eq-eqb i i refl, has_at ps i p (at_index ps i p h e)) same
  | inr ne ↦ rw (ne_eqb j i ne) refl
]

pub made_at : (ps : List Page) (i : ℕ) (p : Page) → i < length ps → p ≡ get_or ps i p → has_page ps i ≡ is_made p
made_at ps i p h e = has_at ps i p (at_index ps i p h e)

-- a page set that has the bytes of the one before
pub there_set_same : (ps : List Page) (i : ℕ) (p q : Page) → i < length ps → p ≡ get_or ps i p → ((k : ℕ) → page_byte q k ≡ page_byte p k) → (x : ℕ) → byte_in_pages (slice_set ps i q) x ≡ byte_in_pages ps x
there_set_same ps i p q h e same x = there_set ps i q x h ∙ elim (cases_eq (x / 4096) i) [
  | inl here ↦ rw (eq-eqb (x / 4096) i here, same (x % 4096)) (sym (there_at ps i p x (at_index ps i p h e) here))
  | inr ne ↦ rw (ne_eqb (x / 4096) i ne) refl
]

-- a span of one page, in the page and in the directory
pub has_all_in : (ps : List Page) (a end : ℕ) (p : Page) → a < end → a % 4096 + (end - a) ≤ 4096 → a / 4096 < length ps → p ≡ get_or ps (a / 4096) p
    → HasAll (byte_in_pages ps) a end → HasAll (page_byte p) (a % 4096) (a % 4096 + (end - a))
has_all_in ps a end p order fits h e all = λ k low high.
    let x : ℕ = a / 4096 * 4096 + k in
    let page : x / 4096 ≡ a / 4096 = omega arith in
    let place : x % 4096 ≡ k = omega arith in
    let here = all x (omega arith) (omega arith) in
    rw (there_at ps (a / 4096) p x (at_index ps (a / 4096) p h e) page, place) at here

pub has_all_out : (ps : List Page) (a end : ℕ) (p : Page) → a < end → a % 4096 + (end - a) ≤ 4096 → a / 4096 < length ps → p ≡ get_or ps (a / 4096) p
    → HasAll (page_byte p) (a % 4096) (a % 4096 + (end - a)) → HasAll (byte_in_pages ps) a end
has_all_out ps a end p order fits h e all = λ x low high.
    let page : x / 4096 ≡ a / 4096 = omega arith in
    let here = all (x % 4096) (omega arith) (omega arith) in
    rw (there_at ps (a / 4096) p x (at_index ps (a / 4096) p h e) page) here

pub has_none : (ps : List Page) (a end : ℕ) → a < end → length ps ≤ a / 4096 → HasAll (byte_in_pages ps) a end → false ≡ true
has_none ps a end order h all = let here = rw (there_past ps a h) at (all a (omega arith) order) in here

pub made_more : (ps : List Page) (first i : ℕ) (q : Page) → i < length ps → is_made q ≡ true → ((j : ℕ) → first ≤ j → j < i → has_page ps j ≡ true)
    → (j : ℕ) → first ≤ j → j < i + 1 → has_page (slice_set ps i q) j ≡ true
made_more ps first i q h made before j low high = has_set ps i q j h ∙ elim (cases_eq j i) [
  | inl here ↦ rw (eq-eqb j i here) made
  | inr ne ↦ rw (ne_eqb j i ne) (before j low (omega arith))
]

-- a page set elsewhere
pub has_set_elsewhere : (ps : List Page) (i : ℕ) (q : Page) (j : ℕ) → i < length ps → j < i → has_page (slice_set ps i q) j ≡ has_page ps j
has_set_elsewhere ps i q j h lt = let ne : j ≢ i = omega (arith, lt) in has_set ps i q j h ∙ rw (ne_eqb j i ne) refl

-- granules filled one after the other
pub fills_none : (g : ℕ) (rule old : ℕ → Option ℕ) → Fills g g rule old old
fills_none g rule old = λ x. rw (within_none g g (x / 16) (cases_lt (x / 16) g)) refl

pub fills_more : (first g next : ℕ) (rule more old at new : ℕ → Option ℕ) → first ≤ g → g ≤ next → ((x : ℕ) → x / 16 < next → more x ≡ rule x)
    → Fills first g rule old at → Fills g next more at new → Fills first next rule old new
fills_more first g next rule more old at new low high same before step = λ x. step x ∙ elim (cases_lt (x / 16) g) [
  | inl lt ↦ rw (lt-leb g (x / 16) lt, before x, lt-ltb (x / 16) g lt, lt-ltb (x / 16) next (omega (arith, lt, high))) refl
  | inr ge ↦
      let from = le-leb first (x / 16) (omega (arith, low, ge)) in
      elim (cases_lt (x / 16) next) [
        | inl inside ↦ rw (le-leb g (x / 16) ge, lt-ltb (x / 16) next inside, from) (same x inside)
        | inr past ↦ rw (le-leb g (x / 16) ge, le-ltb (x / 16) next past, before x, from, le-ltb (x / 16) g ge) refl
      ]
]

-- in those before `next` nothing is beyond the last of them
pub zero_near : (next end to x : ℕ) → to ≡ min end (16 * next) → x / 16 < next → zero_to to x ≡ zero_to end x
zero_near next end to x e lt = elim (cases_lt x end) [
  | inl before ↦ rw (lt-ltb x end before, lt-ltb x to (omega (arith, e, before, lt))) refl
  | inr past ↦ rw (le-ltb x end past, le-ltb x to (omega (arith, e, past))) refl
]

pub zero_none : (x : ℕ) → zero_to 0 x ≡ None
zero_none x = rw (le-ltb x 0 (omega arith)) refl

-- what one fact of a value gives
pub some_gives : {X : Type 0} (r : Option X) (P Q : X → Type 0) → ((x : X) → P x → Q x) → IfSome r P → IfSome r Q
some_gives None P Q step h = tt
some_gives (Some x) P Q step h = step x h

-- what it gives with one of it that is no fact of the value
pub some_gives_where : {X : Type 0} (r : Option X) (P Q : X → Type 0) (F : Type 0) → (F → (x : X) → P x → Q x) → IfSome r P → OnSome r F → IfSome r Q
some_gives_where None P Q F step h f = tt
some_gives_where (Some x) P Q F step h f = step f x h

-- a span of one page that is lent
pub has_all_part : (ps : List Page) (a n : ℕ) (p : Page) → 0 < n → a % 4096 + n ≤ 4096 → a / 4096 < length ps → p ≡ get_or ps (a / 4096) p
    → HasAll (byte_in_pages ps) a (a + n) → HasAll (page_byte p) (a % 4096) (a % 4096 + n)
has_all_part ps a n p some fits h e all =
    let same : a + n - a ≡ n = omega arith in
    rw same at (has_all_in ps a (a + n) p (omega arith) (omega arith) h e all)

pub has_all_whole : (ps : List Page) (a n : ℕ) (p : Page) → a % 4096 + n ≤ 4096 → a / 4096 < length ps → p ≡ get_or ps (a / 4096) p
    → HasAll (page_byte p) (a % 4096) (a % 4096 + n) → HasAll (byte_in_pages ps) a (a + n)
has_all_whole ps a n p fits h e all = λ x low high.
    let page : x / 4096 ≡ a / 4096 = omega arith in
    let here = all (x % 4096) (omega arith) (omega arith) in
    rw (there_at ps (a / 4096) p x (at_index ps (a / 4096) p h e) page) here

pub part_there : (ps : List Page) (a n : ℕ) (p : Page) (bytes : List ℕ) → a % 4096 + n ≤ 4096 → a / 4096 < length ps → p ≡ get_or ps (a / 4096) p
    → HoldsBytes (page_byte p) (a % 4096) n bytes → HoldsBytes (byte_in_pages ps) a n bytes
part_there ps a n p bytes fits h e each = λ x low high.
    let page : x / 4096 ≡ a / 4096 = omega arith in
    let place : x % 4096 - a % 4096 ≡ x - a = omega arith in
    let here = each (x % 4096) (omega arith) (omega arith) in
    there_at ps (a / 4096) p x (at_index ps (a / 4096) p h e) page ∙ rw place at here

pub part_none : (ps : List Page) (a n : ℕ) → 0 < n → length ps ≤ a / 4096 → HasAll (byte_in_pages ps) a (a + n) → false ≡ true
part_none ps a n some h all = let here = rw (there_past ps a h) at (all a (omega arith) (omega arith)) in here

-- a page that was written to
pub page_written : (ps : List Page) (a : ℕ) (p q : Page) (bytes : List ℕ) → a % 4096 + length bytes ≤ 4096 → a / 4096 < length ps → p ≡ get_or ps (a / 4096) p
    → Writes (a % 4096) bytes (page_byte p) (page_byte q) → Writes a bytes (byte_in_pages ps) (byte_in_pages (slice_set ps (a / 4096) q))
page_written ps a p q bytes fits h e each =
    page_changed ps (a / 4096) p q (is_within a (a + length bytes)) (is_within (a % 4096) (a % 4096 + length bytes)) (λ x. slice_get bytes (x - a)) (λ k. slice_get bytes (k - a % 4096)) h e (λ x same. (
      within_moved a (a + length bytes) x (a % 4096) (a % 4096 + length bytes) (x % 4096) (a / 4096 * 4096) (omega arith) (omega arith) (omega (arith, same)),
      let place : x - a ≡ x % 4096 - a % 4096 = omega (arith, same) in rw place refl,
    )) (λ x ne. within_none a (a + length bytes) x (elim (cases_lt x a) [ inl before ↦ inl before | inr from ↦ inr (omega (arith, from, ne, fits)) ])) each

-- a page that was filled
pub page_filled : (ps : List Page) (a n value : ℕ) (p q : Page) → a % 4096 + n ≤ 4096 → a / 4096 < length ps → p ≡ get_or ps (a / 4096) p
    → Writes (a % 4096) (replicate n value) (page_byte p) (page_byte q) → Writes a (replicate n value) (byte_in_pages ps) (byte_in_pages (slice_set ps (a / 4096) q))
page_filled ps a n value p q fits h e each =
    let long : length (replicate n value) ≡ n = length-replicate n value in
    page_written ps a p q (replicate n value) (omega (arith, fits, long)) h e each

-- what is known of a page's free granules, by addresses
pub skips_in : (ps : List Page) (i need tail : ℕ) (p : Page) → i < length ps → p ≡ get_or ps i p → Skips (page_byte p) need tail → Skips (λ k. byte_in_pages ps (i * 4096 + k)) need tail
skips_in ps i need tail p h e skips = record {
  within = skips.within;
  small = skips.small;
  free = λ k after high.
      let place : (i * 4096 + k) % 4096 ≡ k = omega (arith, high) in
      let page : (i * 4096 + k) / 4096 ≡ i = omega (arith, high) in
      there_at ps i p (i * 4096 + k) (at_index ps i p h e) page ∙ rw place (skips.free k after high);
  none = λ c within all. skips.none c within (λ j low near high.
      let place : (i * 4096 + j * 16) % 4096 ≡ j * 16 = omega (arith, high) in
      let page : (i * 4096 + j * 16) / 4096 ≡ i = omega (arith, high) in
      let here = there_at ps i p (i * 4096 + j * 16) (at_index ps i p h e) page in
      let same = rw place at here in
      sym same ∙ all j low near high);
}

-- a granule of a page, by its address
pub granule_at : (ps : List Page) (g j k : ℕ) (p : Page) → g / 256 < length ps → p ≡ get_or ps (g / 256) p → j ≡ g - g % 256 + k → k < 256 → byte_in_pages ps (j * 16) ≡ page_byte p (k * 16)
granule_at ps g j k p h e at small =
    let page : j * 16 / 4096 ≡ g / 256 = omega (arith, at, small) in
    let place : j * 16 % 4096 ≡ k * 16 = omega (arith, at, small) in
    there_at ps (g / 256) p (j * 16) (at_index ps (g / 256) p h e) page ∙ rw place refl

pub granule_past : (ps : List Page) (g j : ℕ) → length ps ≤ g / 256 → g ≤ j → byte_in_pages ps (j * 16) ≡ None
granule_past ps g j h low = there_past ps (j * 16) (omega (arith, h, low))
