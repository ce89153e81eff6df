-- How many texts a text with sets stands for, and which of them has a number.
use Rattle.std.proofs.Common.{◌≡◌, ◌⊎◌, inl, inr, ℕ, zero, suc, ◌+◌, ◌-◌, ◌*◌, ◌/◌, ◌%◌, ◌<◌, ◌≤◌, ◌==◌, Bool, true, false, Option, Some, None, List, [], ◌∷◌, ◌++◌, append_assoc, append-nil, ap, arith, codes, cond, drop, drop-cons, fold, get_or, le-leb, length, length-append, length-drop, map, nat_lt, not, position, refl, subst, sym, take, true≢false, ◌∙◌}
use Rattle.std.specs.List.{flat_map, position_or_len, slice_split, onto_first}
use Rattle.std.proofs.lemmas.List.{drop_all, get_or_append_left, get_or-append-add, get_or-append_right, get_or-map, length-map}
use Rattle.std.proofs.lemmas.Bool.{cases_lt, eqb-true}
use Rattle.std.proofs.lemmas.List.Splits.{slice_split_first}
use Rattle.std.proofs.lemmas.List.Sums.{position_or_len_is}
use Rattle.std.proofs.lemmas.List.Quantifiers.{position-Some}
use Rattle.std.proofs.Math.Nat.{mul_assoc, mul_comm, mul_left_comm, mod-lt, mod-add-div', mul-div_cancel, div-lt_iff_lt-mul}
use Rattle.std.specs.Option.{option_map_or}
use Rattle.cx_look.specs.Parts.{IsPut, few, texts_behind}
use Rattle.cx_look.specs.Sets.{all_texts, pieces_texts, alternative_texts, character_texts, one_of_each, piece_texts, set_texts, texts_meant}

abbrev Texts : Type 0
Texts = List (List ℕ)

-- ---- numbers up to 10,001
pub few_low : (n : ℕ) → n ≤ 10000 → few n ≡ n
unfolding few
few_low n h = omega arith

few_high : (n : ℕ) → 10000 < n → few n ≡ 10001
unfolding few
few_high n h = omega arith

few_over : (n : ℕ) → 10000 < few n → 10000 < n
unfolding few
few_over n h = omega arith

few_under : (n : ℕ) → few n ≤ 10000 → n ≤ 10000
unfolding few
few_under n h = omega arith

few_add : (a b : ℕ) → few (few a + b) ≡ few (a + b)
unfolding few
few_add a b = omega arith

le_mul : (a b : ℕ) → 1 ≤ b → a ≤ a * b
le_mul a b h = grind arith

few_zero : (a : ℕ) → few (few a * zero) ≡ few (a * zero)
unfolding few
few_zero a = omega arith

le_or : (a b : ℕ) → (a ≤ b) ⊎ (b < a)
le_or a b = grind arith

few_mul : (a b : ℕ) → few (few a * b) ≡ few (a * b)
few_mul a zero = rw (few_zero a) refl
few_mul a (suc b) = elim (le_or a 10000) [ inl low ↦ rw (few_low a low) refl | inr high ↦ both a b high ]
  where
    both : (a b : ℕ) → 10000 < a → few (few a * suc b) ≡ few (a * suc b)
    both a b high =
        let one = le_mul a (suc b) (omega arith) in
        let other = le_mul (few a) (suc b) (omega arith) in
        let is = few_high a high in
        few_high (few a * suc b) (omega (arith, other, is)) ∙ sym (few_high (a * suc b) (omega (arith, one, high)))

index : (q n m r : ℕ) → m ≡ n → suc q * n + r ≡ m + (q * n + r)
index q n m r e = rw e (grind arith)

-- ---- one of each
module _ (rest : Texts) where
  product_length : (texts : Texts) → length (flat_map (λ text. map (λ more. text ++ more) rest) texts) ≡ length texts * length rest
  product_length [] = omega arith
  product_length (text ∷ texts) = grind (arith, length-append, length-map, product_length texts)

  product_at : (texts : Texts) (q r : ℕ) → q < length texts → r < length rest
      → get_or (flat_map (λ text. map (λ more. text ++ more) rest) texts) (q * length rest + r) [] ≡ get_or texts q [] ++ get_or rest r []
  product_at [] q r h k = grind (arith, h)
  product_at (text ∷ texts) zero r h k =
      let here : Texts = map (λ more. text ++ more) rest in
      let more : Texts = flat_map (λ text. map (λ more. text ++ more) rest) texts in
      ap (λ n. get_or (here ++ more) n []) (omega arith)
      ∙ get_or_append_left here more [] r (subst (λ n. r < n) (sym (length-map rest (λ more. text ++ more))) k)
      ∙ get_or-map (λ more. text ++ more) rest r [] [] k
  product_at (text ∷ texts) (suc q) r h k =
      let here : Texts = map (λ more. text ++ more) rest in
      let more : Texts = flat_map (λ text. map (λ more. text ++ more) rest) texts in
      let long : length here ≡ length rest = length-map rest (λ more. text ++ more) in
      ap (λ n. get_or (here ++ more) n []) (index q (length rest) (length here) r long)
      ∙ get_or-append-add here more (q * length rest + r) [] ∙ product_at texts q r (omega (arith, h)) k

-- the number that is left and the number of the first list's text, by how many texts the others stand for
pub record Chosen (first : Texts) (more : List Texts) (count k m : ℕ) : Type 0 where
  pub rest : m ≡ length (one_of_each more)
  pub left : k % m < m
  pub number : k / m < length first
  pub text : get_or (one_of_each (first ∷ more)) k [] ≡ get_or first (k / m) [] ++ get_or (one_of_each more) (k % m) []

divided : (a b m : ℕ) → 1 ≤ a → a * b / a ≡ m → m ≡ b
divided a b m h e = sym e ∙ ap (λ n. n / a) (mul_comm a b) ∙ mul-div_cancel b h

pub positive_of : (a b k : ℕ) → k < a * b → (1 ≤ a) × (1 ≤ b)
positive_of zero b k h = grind (arith, h)
positive_of (suc a) zero k h = grind (arith, h)
positive_of (suc a) (suc b) k h = (omega arith, omega arith)

pub chosen : (first : Texts) (more : List Texts) (count k m : ℕ) → count ≡ length (one_of_each (first ∷ more)) → k < count → count / length first ≡ m
    → Chosen first more count k m
unfolding one_of_each
chosen first more count k m is less divides =
    let b : ℕ = length (one_of_each more) in
    let product : count ≡ length first * b = is ∙ product_length (one_of_each more) first in
    let some : (1 ≤ length first) × (1 ≤ b) = positive_of (length first) b k (subst (λ n. k < n) product less) in
    let same : m ≡ b = divided (length first) b m some.0 (sym (ap (λ n. n / length first) product) ∙ divides) in
    let high : k / b < length first = (div-lt_iff_lt-mul some.1).1 (subst (λ n. k < n) product less) in
    let at = product_at (one_of_each more) first (k / b) (k % b) high (mod-lt k some.1) in
    subst (λ n. Chosen first more count k n) (sym same) (record {
      rest = refl;
      left = mod-lt k some.1;
      number = high;
      text = ap (λ n. get_or (one_of_each (first ∷ more)) n []) (sym (mod-add-div' k b) ∙ omega arith) ∙ at;
    })

-- ---- how many
-- the counts of lists, one after another, count what they stand for together
pub products : {X : Type 0} (h : X → Texts) (g : X → ℕ) → ((x : X) → few (g x) ≡ few (length (h x))) → (xs : List X) (a : ℕ)
    → fold (λ n x. few (n * g x)) (few a) xs ≡ few (a * length (one_of_each (map h xs)))
unfolding one_of_each
products h g same [] a = ap few (omega arith)
products h g same (x ∷ xs) a =
    let L : ℕ = length (one_of_each (map h xs)) in
    products h g same xs (few a * g x)
    ∙ ap few (mul_assoc (few a) (g x) L) ∙ few_mul a (g x * L) ∙ ap few (mul_left_comm a (g x) L)
    ∙ sym (few_mul (g x) (a * L)) ∙ ap (λ n. few (n * (a * L))) (same x) ∙ few_mul (length (h x)) (a * L)
    ∙ ap few (mul_left_comm (length (h x)) a L) ∙ ap (λ n. few (a * n)) (sym (product_length (one_of_each (map h xs)) (h x)))

pub sums : {X : Type 0} (h : X → Texts) (g : X → ℕ) → ((x : X) → few (g x) ≡ few (length (h x))) → (xs : List X) (a : ℕ)
    → fold (λ n x. few (n + g x)) (few a) xs ≡ few (a + length (flat_map h xs))
unfolding few
sums h g same [] a = omega arith
sums h g same (x ∷ xs) a =
    let one = same x in
    let long = length-append (h x) (flat_map h xs) in
    sums h g same xs (few a + g x) ∙ omega (arith, one, long)

pub few_few : (n : ℕ) → few (few n) ≡ few n
unfolding few
few_few n = omega arith

-- ---- a list that is cut at the first element that passes
pub cut_at : (p : ℕ → Bool) (xs : List ℕ) (place : ℕ) → position p xs ≡ Some place
    → slice_split p xs ≡ take place xs ∷ slice_split p (drop (place + 1) xs)
cut_at p xs place is =
    let some = position-Some p xs place 0 is in
    let same : position_or_len p xs ≡ place = position_or_len_is p xs place 0 (omega (arith, some.0)) some.2 (λ _. some.1) in
    subst (λ n. slice_split p xs ≡ take n xs ∷ slice_split p (drop (n + 1) xs)) same
    (slice_split_first p xs 0 (subst (λ n. n < length xs) (sym same) some.0))

beyond : (a b : ℕ) → cond (nat_lt a b) (Some a) None ≡ None → b ≤ a
beyond a b e = grind (arith, e)

whole : (p : ℕ → Bool) (xs : List ℕ) → length xs ≤ position_or_len p xs → slice_split p xs ≡ xs ∷ []
whole p [] h = refl
whole p (x ∷ xs) h = by (p x) (whole p xs) h
  where
    by : (b : Bool) → (length xs ≤ position_or_len p xs → slice_split p xs ≡ xs ∷ []) → suc (length xs) ≤ cond (not b) (1 + position_or_len p xs) 0
        → cond b ([] ∷ slice_split p xs) (onto_first x (slice_split p xs)) ≡ (x ∷ xs) ∷ []
    by true more h = absurd (omega (arith, h))
    by false more h = ap (onto_first x) (more (omega (arith, h)))

pub uncut : (p : ℕ → Bool) (xs : List ℕ) → position p xs ≡ None → slice_split p xs ≡ xs ∷ []
uncut p xs is = whole p xs (beyond (position_or_len p xs) (length xs) is)

pub shorter_behind : (p : ℕ → Bool) (xs : List ℕ) (place : ℕ) → position p xs ≡ Some place → length (drop (place + 1) xs) < length xs
shorter_behind p xs place is =
    let within = (position-Some p xs place 0 is).0 in
    let long = length-drop (place + 1) xs in
    omega (arith, within, long)

drop_past : (xs : List ℕ) (i : ℕ) → length xs ≤ i → drop i xs ≡ []
drop_past xs i h = drop_all i xs h

drop_next : (xs : List ℕ) (i : ℕ) → i < length xs → drop i xs ≡ get_or xs i 0 ∷ drop (i + 1) xs
drop_next xs i h = drop-cons xs i 0 h ∙ ap (λ n. get_or xs i 0 ∷ drop n xs) (let e : suc i ≡ i + 1 = omega arith in e)

factor_low : (a b : ℕ) → 1 ≤ b → a * b ≤ 10000 → a ≤ 10000
factor_low a b some low = let more = le_mul a b some in omega (arith, more, low)

-- ---- counted
pub count_one : (L : ℕ) → few (1 * L) ≡ few L
count_one L = ap few (omega arith)

pub alternative_counted : (text : List ℕ) → fold (λ n c. few (n * length (character_texts c))) 1 text ≡ few (length (alternative_texts text))
unfolding alternative_texts
alternative_counted text =
    subst (λ a. fold (λ n c. few (n * length (character_texts c))) a text ≡ few (length (one_of_each (map character_texts text)))) (few_low 1 (omega arith))
    (products character_texts (λ c. length (character_texts c)) (λ c. refl) text 1 ∙ count_one (length (one_of_each (map character_texts text))))

pub set_counted : (inside : List ℕ)
    → fold (λ n a. few (n + few (length (alternative_texts a)))) 0 (slice_split (λ c. c == 124) inside) ≡ few (length (set_texts inside))
unfolding set_texts
set_counted inside =
    subst (λ a. fold (λ n x. few (n + few (length (alternative_texts x)))) a (slice_split (λ c. c == 124) inside) ≡ few (length (flat_map alternative_texts (slice_split (λ c. c == 124) inside))))
    (few_low 0 (omega arith))
    (sums alternative_texts (λ x. few (length (alternative_texts x))) (λ x. few_few (length (alternative_texts x))) (slice_split (λ c. c == 124) inside) 0
    ∙ ap few (omega arith))

pub behind_counted : (text : List ℕ)
    → fold (λ n p. few (n * few (length (piece_texts p)))) 1 (slice_split (λ c. c == 123) text) ≡ few (length (texts_behind text))
unfolding texts_behind
behind_counted text =
    let pieces : List (List ℕ) = slice_split (λ c. c == 123) text in
    subst (λ a. fold (λ n p. few (n * few (length (piece_texts p)))) a pieces ≡ few (length (one_of_each (map piece_texts pieces)))) (few_low 1 (omega arith))
    (products piece_texts (λ p. few (length (piece_texts p))) (λ p. few_few (length (piece_texts p))) pieces 1 ∙ count_one (length (one_of_each (map piece_texts pieces))))

pub piece_is : (piece : List ℕ) (o : Option ℕ) → position (λ c. c == 125) piece ≡ o
    → piece_texts piece ≡ option_map_or (λ place. map (λ text. text ++ drop (place + 1) piece) (set_texts (take place piece))) o []
unfolding piece_texts
piece_is piece o is = ap (λ n. option_map_or (λ place. map (λ text. text ++ drop (place + 1) piece) (set_texts (take place piece))) n []) is

pub piece_some : (piece : List ℕ) (place : ℕ) → position (λ c. c == 125) piece ≡ Some place
    → few (length (set_texts (take place piece))) ≡ few (length (piece_texts piece))
piece_some piece place is =
    ap few (sym (ap length (piece_is piece (Some place) is) ∙ length-map (set_texts (take place piece)) (λ text. text ++ drop (place + 1) piece)))

pub piece_none : (piece : List ℕ) → position (λ c. c == 125) piece ≡ None → 0 ≡ few (length (piece_texts piece))
piece_none piece is = sym (ap (λ texts. few (length texts)) (piece_is piece None is) ∙ few_low 0 (omega arith))

-- ---- a text by what stands behind its first `{`
all_none : (text : List ℕ) → position (λ c. c == 123) text ≡ None → all_texts text ≡ text ∷ []
unfolding one_of_each
all_none text is =
    ap (λ pieces. one_of_each (pieces_texts pieces)) (uncut (λ c. c == 123) text is) ∙ ap (λ t. t ∷ []) (append-nil text)

all_some : (text : List ℕ) (place : ℕ) → position (λ c. c == 123) text ≡ Some place
    → all_texts text ≡ map (λ rest. take place text ++ rest) (texts_behind (drop (place + 1) text))
unfolding one_of_each texts_behind
all_some text place is =
    ap (λ pieces. one_of_each (pieces_texts pieces)) (cut_at (λ c. c == 123) text place is) ∙ append-nil _

meant_within : (text : List ℕ) → length (all_texts text) ≤ 10000 → texts_meant text ≡ all_texts text
unfolding texts_meant
meant_within text h = rw (le-leb (length (all_texts text)) 10000 h) refl

meant_over : (text : List ℕ) → 10000 < length (all_texts text) → texts_meant text ≡ []
unfolding texts_meant
meant_over text h = grind (arith, h)

pub meant_none : (text : List ℕ) → position (λ c. c == 123) text ≡ None → texts_meant text ≡ text ∷ []
meant_none text is =
    let all = all_none text is in meant_within text (subst (λ texts. length texts ≤ 10000) (sym all) (omega arith)) ∙ all

length_some : (text : List ℕ) (place : ℕ) → position (λ c. c == 123) text ≡ Some place
    → length (all_texts text) ≡ length (texts_behind (drop (place + 1) text))
length_some text place is =
    ap length (all_some text place is) ∙ length-map (texts_behind (drop (place + 1) text)) (λ rest. take place text ++ rest)

pub meant_many : (text : List ℕ) (place : ℕ) → position (λ c. c == 123) text ≡ Some place
    → 10000 < few (length (texts_behind (drop (place + 1) text))) → 0 ≡ length (texts_meant text)
meant_many text place is many =
    sym (ap length (meant_over text (subst (λ n. 10000 < n) (sym (length_some text place is)) (few_over (length (texts_behind (drop (place + 1) text))) many))))

pub meant_few : (text : List ℕ) (place : ℕ) → position (λ c. c == 123) text ≡ Some place
    → few (length (texts_behind (drop (place + 1) text))) ≤ 10000
    → (texts_meant text ≡ map (λ rest. take place text ++ rest) (texts_behind (drop (place + 1) text)))
    × (few (length (texts_behind (drop (place + 1) text))) ≡ length (texts_meant text))
meant_few text place is is_few =
    let n : ℕ = length (texts_behind (drop (place + 1) text)) in
    let low : n ≤ 10000 = few_under n is_few in
    let all = meant_within text (subst (λ m. m ≤ 10000) (sym (length_some text place is)) low) in
    (all ∙ all_some text place is, few_low n low ∙ sym (length_some text place is) ∙ ap length (sym all))

-- ---- the text with a number
-- of an alternative whose characters before a place are put
pub record AtCharacter (text : List ℕ) (i number m : ℕ) : Type 0 where
  pub rest : m ≡ length (alternative_texts (drop (i + 1) text))
  pub left : number % m < m
  pub positive : 0 < m
  pub within : number / m < length (character_texts (get_or text i 0))
  pub text_is : get_or (alternative_texts (drop i text)) number []
      ≡ get_or (character_texts (get_or text i 0)) (number / m) [] ++ get_or (alternative_texts (drop (i + 1) text)) (number % m) []

pub at_character : (text : List ℕ) (i count number n : ℕ) → i < length text → count ≡ length (alternative_texts (drop i text)) → number < count
    → n ≡ length (character_texts (get_or text i 0)) → AtCharacter text i number (count / n)
unfolding alternative_texts
at_character text i count number n here is less one =
    let cut = ap (map character_texts) (drop_next text i here) in
    let first : Texts = character_texts (get_or text i 0) in
    let more : List Texts = map character_texts (drop (i + 1) text) in
    let chosen_here = chosen first more count number (count / n) (is ∙ ap (λ lists. length (one_of_each lists)) cut) less (ap (λ k. count / k) (sym one)) in
    record {
      rest = chosen_here.rest;
      left = chosen_here.left;
      positive = omega (arith, chosen_here.left);
      within = chosen_here.number;
      text_is = ap (λ lists. get_or (one_of_each lists) number []) cut ∙ chosen_here.text;
    }

-- one more character is put
pub put_more : (line after whole_line text : List ℕ) (i number m c : ℕ) → AtCharacter text i number m
    → line ++ get_or (alternative_texts (drop i text)) number [] ≡ whole_line
    → get_or (character_texts (get_or text i 0)) (number / m) [] ≡ c ∷ [] → after ≡ line ++ c ∷ []
    → after ++ get_or (alternative_texts (drop (i + 1) text)) (number % m) [] ≡ whole_line
put_more line after whole_line text i number m c at put one more =
    let rest : List ℕ = get_or (alternative_texts (drop (i + 1) text)) (number % m) [] in
    ap (λ l. l ++ rest) more ∙ append_assoc line (c ∷ []) rest ∙ ap (λ l. line ++ (l ++ rest)) (sym one) ∙ ap (λ l. line ++ l) (sym at.text_is) ∙ put

pub full_at : (n : ℕ) (b : Bool) → b ≡ (n == 4096) → b ≡ true → n ≡ 4096
full_at n b is e = eqb-true n 4096 (sym is ∙ e)

one_character : (c k : ℕ) → k < length (character_texts c) → length (get_or (character_texts c) k []) ≡ 1
one_character c k = by (c == 35)
  where
    by : (b : Bool) → k < length (cond b (map (λ digit. digit ∷ []) (codes "0123456789")) ((c ∷ []) ∷ []))
        → length (get_or (cond b (map (λ digit. digit ∷ []) (codes "0123456789")) ((c ∷ []) ∷ [])) k []) ≡ 1
    by true h = ap length (get_or-map (λ digit. digit ∷ []) (codes "0123456789") k 0 [] h)
    by false h = let zeroth : k ≡ 0 = omega (arith, h) in ap (λ n. length (get_or ((c ∷ []) ∷ []) n [])) zeroth

-- which has no room
pub no_room : (line before way text : List ℕ) (i number m : ℕ) → AtCharacter text i number m → line ++ get_or (alternative_texts (drop i text)) number [] ≡ before ++ way
    → length line ≡ 4096 → 4096 < length before + length way
no_room line before way text i number m at put full =
    let first : List ℕ = get_or (character_texts (get_or text i 0)) (number / m) [] in
    let rest : List ℕ = get_or (alternative_texts (drop (i + 1) text)) (number % m) [] in
    let whole_text : List ℕ = get_or (alternative_texts (drop i text)) number [] in
    let a = length-append line whole_text in
    let b = length-append before way in
    let d = length-append first rest in
    let e : length line + length whole_text ≡ length before + length way = sym a ∙ ap length put ∙ b in
    let f : length whole_text ≡ length first + length rest = ap length at.text_is ∙ d in
    let g : length first ≡ 1 = one_character (get_or text i 0) (number / m) at.within in
    omega (arith, e, f, g, full)

-- no character is left
pub all_put : (line text : List ℕ) (whole_line : List ℕ) (i count number : ℕ) → length text ≤ i → count ≡ length (alternative_texts (drop i text)) → number < count
    → line ++ get_or (alternative_texts (drop i text)) number [] ≡ whole_line → line ≡ whole_line
unfolding alternative_texts one_of_each
all_put line text whole_line i count number past is less put =
    let none : drop i text ≡ [] = drop_past text i past in
    let one : count ≡ 1 = is ∙ ap (λ rest. length (one_of_each (map character_texts rest))) none in
    let zeroth : number ≡ 0 = omega (arith, less, one) in
    let empty : get_or (one_of_each (map character_texts (drop i text))) number [] ≡ [] =
    ap (λ rest. get_or (one_of_each (map character_texts rest)) number []) none ∙ ap (λ n. get_or ([] ∷ []) n []) zeroth in
    sym (append-nil line) ∙ ap (λ l. line ++ l) (sym empty) ∙ put

-- of a set: its first alternative, or those behind
pub set_none : (inside : List ℕ) → position (λ c. c == 124) inside ≡ None → set_texts inside ≡ alternative_texts inside
unfolding set_texts
set_none inside is = ap (flat_map alternative_texts) (uncut (λ c. c == 124) inside is) ∙ append-nil (alternative_texts inside)

pub set_some : (inside : List ℕ) (place : ℕ) → position (λ c. c == 124) inside ≡ Some place
    → set_texts inside ≡ alternative_texts (take place inside) ++ set_texts (drop (place + 1) inside)
unfolding set_texts
set_some inside place is = ap (flat_map alternative_texts) (cut_at (λ c. c == 124) inside place is)

set_cut : (inside first rest : List ℕ) (place : ℕ) → position (λ c. c == 124) inside ≡ Some place → first ≡ take place inside → rest ≡ drop (place + 1) inside
    → set_texts inside ≡ alternative_texts first ++ set_texts rest
set_cut inside first rest place is one other =
    set_some inside place is ∙ ap (λ a. alternative_texts a ++ set_texts (drop (place + 1) inside)) (sym one) ∙ ap (λ b. alternative_texts first ++ set_texts b) (sym other)

pub record AtAlternative (inside first rest : List ℕ) (number count : ℕ) : Type 0 where
  pub count_is : count ≡ length (alternative_texts first)
  pub long : length (set_texts inside) ≡ count + length (set_texts rest)
  pub here : number < count → get_or (set_texts inside) number [] ≡ get_or (alternative_texts first) number []
  pub behind : count ≤ number → get_or (set_texts inside) number [] ≡ get_or (set_texts rest) (number - count) []
  pub shorter : length rest < length inside

pub at_alternative : (inside first rest : List ℕ) (place number count : ℕ) → position (λ c. c == 124) inside ≡ Some place → first ≡ take place inside
    → rest ≡ drop (place + 1) inside → length (set_texts inside) ≤ 10000 → count ≡ few (length (alternative_texts first)) → AtAlternative inside first rest number count
at_alternative inside first rest place number count is one other limit counted =
    let A : Texts = alternative_texts first in
    let B : Texts = set_texts rest in
    let both : set_texts inside ≡ A ++ B = set_cut inside first rest place is one other in
    let long : length (set_texts inside) ≡ length A + length B = ap length both ∙ length-append A B in
    let same : count ≡ length A = counted ∙ few_low (length A) (omega (arith, long, limit)) in
    record {
      count_is = same;
      long = long ∙ ap (λ n. n + length B) (sym same);
      here = λ less. ap (λ texts. get_or texts number []) both ∙ get_or_append_left A B [] number (subst (λ n. number < n) same less);
      behind = λ over. ap (λ texts. get_or texts number []) both ∙ get_or-append_right A B count number [] (sym same) over;
      shorter = subst (λ l. length l < length inside) (sym other) (shorter_behind (λ c. c == 124) inside place is);
    }

pub only_alternative : (inside : List ℕ) (number n : ℕ) → position (λ c. c == 124) inside ≡ None → length (set_texts inside) ≤ 10000
    → number < length (set_texts inside) → n ≡ few (length (alternative_texts inside)) → (n ≡ length (alternative_texts inside)) × (number < n)
only_alternative inside number n is limit less counted =
    let long : length (set_texts inside) ≡ length (alternative_texts inside) = ap length (set_none inside is) in
    let same : n ≡ length (alternative_texts inside) = counted ∙ few_low (length (alternative_texts inside)) (subst (λ k. k ≤ 10000) long limit) in
    (same, subst (λ k. number < k) (long ∙ sym same) less)

-- of a piece
pub piece_at : (piece inside tail : List ℕ) (place number : ℕ) → position (λ c. c == 125) piece ≡ Some place → inside ≡ take place piece → tail ≡ drop (place + 1) piece
    → number < length (piece_texts piece)
    → (length (piece_texts piece) ≡ length (set_texts inside)) × (get_or (piece_texts piece) number [] ≡ get_or (set_texts inside) number [] ++ tail)
piece_at piece inside tail place number is one other less =
    let S : Texts = set_texts inside in
    let all : piece_texts piece ≡ map (λ text. text ++ tail) S =
    piece_is piece (Some place) is ∙ ap (λ i. map (λ text. text ++ drop (place + 1) piece) (set_texts i)) (sym one)
    ∙ ap (λ e. map (λ text. text ++ e) S) (sym other) in
    let long : length (piece_texts piece) ≡ length S = ap length all ∙ length-map S (λ text. text ++ tail) in
    (long, ap (λ texts. get_or texts number []) all ∙ get_or-map (λ text. text ++ tail) S number [] [] (subst (λ n. number < n) long less))

pub piece_empty : (piece : List ℕ) (number : ℕ) → position (λ c. c == 125) piece ≡ None → number < length (piece_texts piece) → ⊥
piece_empty piece number is less =
    let none : length (piece_texts piece) ≡ 0 = ap length (piece_is piece None is) in omega (arith, less, none)

-- of what stands behind a text's first `{`
same_texts : (texts : Texts) → one_of_each (texts ∷ []) ≡ texts
unfolding one_of_each
same_texts [] = refl
same_texts (text ∷ texts) = ap (λ t. t ∷ flat_map (λ text. map (λ rest. text ++ rest) ([] ∷ [])) texts) (append-nil text) ∙ ap (λ more. text ∷ more) (same_texts texts)

pub behind_none : (text : List ℕ) → position (λ c. c == 123) text ≡ None → texts_behind text ≡ piece_texts text
unfolding texts_behind
behind_none text is = ap (λ pieces. one_of_each (map piece_texts pieces)) (uncut (λ c. c == 123) text is) ∙ same_texts (piece_texts text)

pub record AtPiece (text piece rest : List ℕ) (number m : ℕ) : Type 0 where
  pub piece_few : length (piece_texts piece) ≤ 10000
  pub some : 0 < few (length (piece_texts piece))
  pub piece_number : number / m < length (piece_texts piece)
  pub rest_is : m ≡ length (texts_behind rest)
  pub rest_few : m ≤ 10000
  pub left : number % m < m
  pub positive : 0 < m
  pub text_is : get_or (texts_behind text) number [] ≡ get_or (piece_texts piece) (number / m) [] ++ get_or (texts_behind rest) (number % m) []
  pub shorter : length rest < length text

behind_some : (text piece rest : List ℕ) (place : ℕ) → position (λ c. c == 123) text ≡ Some place → piece ≡ take place text → rest ≡ drop (place + 1) text
    → texts_behind text ≡ one_of_each (piece_texts piece ∷ map piece_texts (slice_split (λ c. c == 123) rest))
unfolding texts_behind
behind_some text piece rest place is one other =
    ap (λ pieces. one_of_each (map piece_texts pieces)) (cut_at (λ c. c == 123) text place is)
    ∙ ap (λ p. one_of_each (piece_texts p ∷ map piece_texts (slice_split (λ c. c == 123) (drop (place + 1) text)))) (sym one)
    ∙ ap (λ r. one_of_each (piece_texts piece ∷ map piece_texts (slice_split (λ c. c == 123) r))) (sym other)

pub at_piece : (text piece rest : List ℕ) (place number count n : ℕ) → position (λ c. c == 123) text ≡ Some place → piece ≡ take place text
    → rest ≡ drop (place + 1) text → count ≡ length (texts_behind text) → count ≤ 10000 → number < count → n ≡ few (length (piece_texts piece))
    → AtPiece text piece rest number (count / n)
unfolding texts_behind one_of_each
at_piece text piece rest place number count n is front back counted limit less one =
    let P : Texts = piece_texts piece in
    let more : List Texts = map piece_texts (slice_split (λ c. c == 123) rest) in
    let R : Texts = one_of_each more in
    let all = behind_some text piece rest place is front back in
    let product : count ≡ length P * length R = counted ∙ ap length all ∙ product_length R P in
    let some : (1 ≤ length P) × (1 ≤ length R) = positive_of (length P) (length R) number (subst (λ k. number < k) product less) in
    let low : length P ≤ 10000 = factor_low (length P) (length R) some.1 (subst (λ k. k ≤ 10000) product limit) in
    let low_rest : length R ≤ 10000 = factor_low (length R) (length P) some.0 (subst (λ k. k ≤ 10000) (product ∙ mul_comm (length P) (length R)) limit) in
    let exact : few (length P) ≡ length P = few_low (length P) low in
    let chosen_here = chosen P more count number (count / n) (counted ∙ ap length all) less (ap (λ k. count / k) (sym (one ∙ exact))) in
    record {
      piece_few = low;
      some = subst (λ k. 0 < k) (sym exact) (omega (arith, some.0));
      piece_number = chosen_here.number;
      rest_is = chosen_here.rest;
      rest_few = subst (λ k. k ≤ 10000) (sym chosen_here.rest) low_rest;
      left = chosen_here.left;
      positive = omega (arith, chosen_here.left);
      text_is = ap (λ texts. get_or texts number []) all ∙ chosen_here.text;
      shorter = subst (λ l. length l < length text) (sym back) (shorter_behind (λ c. c == 123) text place is);
    }

-- two texts, one put behind the other
pub put_after : (line one other text between after : List ℕ) (r : Bool) → text ≡ one ++ other → between ≡ line ++ one → IsPut between other r after → IsPut line text r after
put_after line one other text between after true is put more =
    more ∙ ap (λ l. l ++ other) put ∙ append_assoc line one other ∙ ap (λ l. line ++ l) (sym is)
put_after line one other text between after false is put full =
    let long : length text ≡ length one + length other = ap length is ∙ length-append one other in
    let put_long : length between ≡ length line + length one = ap length put ∙ length-append line one in
    omega (arith, long, put_long, full)

pub first_put : (line one after : List ℕ) (r : Bool) → r ≡ true → IsPut line one r after → after ≡ line ++ one
first_put line one after true e put = put
first_put line one after false e put = absurd (true≢false (sym e))

pub first_full : (line one other text after : List ℕ) (r : Bool) → r ≡ false → text ≡ one ++ other → IsPut line one r after → 4096 < length line + length text
first_full line one other text after true e is put = absurd (true≢false e)
first_full line one other text after false e is full =
    let long : length text ≡ length one + length other = ap length is ∙ length-append one other in omega (arith, long, full)

pub put_as : (line one text after : List ℕ) (r : Bool) → text ≡ one → IsPut line one r after → IsPut line text r after
put_as line one text after r is put = subst (λ l. IsPut line l r after) (sym is) put

-- of a text
pub only_text : (text : List ℕ) (number : ℕ) → position (λ c. c == 123) text ≡ None → number < length (texts_meant text)
    → get_or (texts_meant text) number [] ≡ text
only_text text number is less =
    let all = meant_none text is in
    let one : length (texts_meant text) ≡ 1 = ap length all in
    let zeroth : number ≡ 0 = omega (arith, less, one) in
    ap (λ texts. get_or texts number []) all ∙ ap (λ n. get_or (text ∷ []) n []) zeroth

pub record AtFirst (text first rest : List ℕ) (number : ℕ) : Type 0 where
  pub count : few (length (texts_behind rest)) ≡ length (texts_behind rest)
  pub limit : length (texts_behind rest) ≤ 10000
  pub within : number < length (texts_behind rest)
  pub text_is : get_or (texts_meant text) number [] ≡ first ++ get_or (texts_behind rest) number []

pub at_first : (text first rest : List ℕ) (place number : ℕ) → position (λ c. c == 123) text ≡ Some place → first ≡ take place text → rest ≡ drop (place + 1) text
    → number < length (texts_meant text) → AtFirst text first rest number
at_first text first rest place number is front back less = by (cases_lt 10000 (few (length (texts_behind (drop (place + 1) text)))))
  where
    by : ((10000 < few (length (texts_behind (drop (place + 1) text)))) ⊎ (few (length (texts_behind (drop (place + 1) text))) ≤ 10000)) → AtFirst text first rest number
    by (inl many) = let none = meant_many text place is many in absurd (omega (arith, less, none))
    by (inr is_few) =
        let both = meant_few text place is is_few in
        let limit : length (texts_behind rest) ≤ 10000 =
        subst (λ r. length (texts_behind r) ≤ 10000) (sym back) (few_under (length (texts_behind (drop (place + 1) text))) is_few) in
        let exact = few_low (length (texts_behind rest)) limit in
        let same : few (length (texts_behind rest)) ≡ length (texts_meant text) = ap (λ r. few (length (texts_behind r))) back ∙ both.1 in
        let low : number < length (texts_behind rest) = subst (λ k. number < k) (sym same ∙ exact) less in
        let all : texts_meant text ≡ map (λ t. first ++ t) (texts_behind rest) =
        both.0 ∙ ap (λ f. map (λ t. f ++ t) (texts_behind (drop (place + 1) text))) (sym front) ∙ ap (λ r. map (λ t. first ++ t) (texts_behind r)) (sym back) in
        record {
          count = exact;
          limit = limit;
          within = low;
          text_is = ap (λ texts. get_or texts number []) all ∙ get_or-map (λ t. first ++ t) (texts_behind rest) number [] [] low;
        }
