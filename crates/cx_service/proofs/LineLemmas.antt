-- A text's first line and the lines after it; that each text has lines, and no two lists of them.
use Rattle.std.proofs.Common.{◌≡◌, ℕ, zero, suc, ◌+◌, ◌<◌, ◌≤◌, ◌⊎◌, Bool, true, false, cond, Option, Some, None, List, [], ◌∷◌, ◌++◌, length, take, drop, get_or, refl, sym, ◌∙◌, ap, subst, inl, inr, ⊎_elim, arith, add-one, nat_le, length-drop, length-take}
use Rattle.std.specs.Prelude.{position, ◌==◌, not}
use Rattle.std.specs.List.{slice_split, onto_first, position_or_len, AllByRecursion}
use Rattle.std.proofs.lemmas.Bool.{cases_Bool, cases_lt, cases_eq, le-leb, lt-leb, leb-true, ltb-true, ltb-false, cond-true, cond-false, MatchBool-at_true, MatchBool-at_false}
use Rattle.std.proofs.lemmas.Option.{cond_some, slice_get-get_or, slice_get_past, none-some, same_Some}
use Rattle.std.proofs.lemmas.List.Splits.{slice_split_first, slice_split-cons_yes, slice_split-cons_no}
use Rattle.cx_service.specs.Lines.{blank, columns, new_line, parts_of, IsBreak, IsLastBreak, line_before, left_after, Breaks, ArePartLines, AreLines, AreLinesOf}
use Rattle.cx_service.specs.Parts.LineSteps.{IsFirstPart, AreLinesLeft, IsLastBreakBelow}

-- ---- the last break, searched upward
pub last_break_yes : (part : List ℕ) (k : ℕ) → IsBreak part k → IsLastBreakBelow (k + 1) part (Some k)
last_break_yes part k here = (here, λ j below is. omega arith)

pub last_break_no : (part : List ℕ) (k : ℕ) (last : Option ℕ) → (IsBreak part k → ⊥) → IsLastBreakBelow k part last → IsLastBreakBelow (k + 1) part last
last_break_no part k None not_here so_far = λ j below is. ⊎_elim (λ e. not_here (subst (λ i. IsBreak part i) e is)) (λ ne. so_far j (omega arith) is) (cases_eq j k)
last_break_no part k (Some b) not_here so_far =
    (so_far.0, λ j below is. ⊎_elim (λ e. absurd (not_here (subst (λ i. IsBreak part i) e is))) (λ ne. so_far.1 j (omega arith) is) (cases_eq j k))

pub last_break_all : (part : List ℕ) (last : Option ℕ) → IsLastBreakBelow 81 part last → IsLastBreak part last
last_break_all part None so_far = λ k is. so_far k (let to : k ≤ 80 = is.to in omega arith) is
last_break_all part (Some b) so_far = (so_far.0, λ k is. so_far.1 k (let to : k ≤ 80 = is.to in omega arith) is)

pub break_here : (part : List ℕ) (k : ℕ) → 1 ≤ k → k < 81 → k < length part → get_or part k 0 ≡ 64 → IsBreak part k
break_here part k from to within at = record { from = from; to = omega arith; at_blank = slice_get-get_or part k 0 within ∙ ap Some at }

pub no_break_here : (part : List ℕ) (k : ℕ) → k < length part → (get_or part k 0 ≡ 64 → ⊥) → IsBreak part k → ⊥
no_break_here part k within other is = other (same_Some _ _ (sym (slice_get-get_or part k 0 within) ∙ is.at_blank))

-- whether there is a break
break_or_not : (part : List ℕ) (k : ℕ) → IsBreak part k ⊎ (IsBreak part k → ⊥)
break_or_not part k = ⊎_elim
    (λ from. ⊎_elim
    (λ to. ⊎_elim
    (λ within. ⊎_elim
    (λ e. inl (break_here part k from to within e))
    (λ ne. inr (no_break_here part k within ne))
    (cases_eq (get_or part k 0) 64))
    (λ past. inr (λ is. none-some blank (sym (slice_get_past part k past) ∙ is.at_blank)))
    (cases_lt k (length part)))
    (λ far. inr (λ is. let to : k ≤ 80 = is.to in absurd (omega arith)))
    (cases_lt k 81))
    (λ near. inr (λ is. let from : 1 ≤ k = is.from in absurd (omega arith)))
    (cases_lt 0 k)

some_last_below : (n : ℕ) (part : List ℕ) → (last : Option ℕ) × IsLastBreakBelow n part last
some_last_below zero part = (None, λ k below is. absurd (omega arith))
some_last_below (suc n) part =
    let before : (last : Option ℕ) × IsLastBreakBelow n part last = some_last_below n part in
    ⊎_elim
    (λ yes. (Some n, subst (λ m. IsLastBreakBelow m part (Some n)) (add-one n) (last_break_yes part n yes)))
    (λ no. (before.0, subst (λ m. IsLastBreakBelow m part before.0) (add-one n) (last_break_no part n before.0 no before.1)))
    (break_or_not part n)

some_last : (part : List ℕ) → (last : Option ℕ) × IsLastBreak part last
some_last part = let below = some_last_below 81 part in (below.0, last_break_all part below.0 below.1)

one_last : (part : List ℕ) (a b : Option ℕ) → IsLastBreak part a → IsLastBreak part b → a ≡ b
one_last part None None p q = refl
one_last part None (Some b) p q = absurd (p b q.0)
one_last part (Some a) None p q = absurd (q a p.0)
one_last part (Some a) (Some b) p q = ap Some (let low = q.1 a p.0 in let high = p.1 b q.0 in omega arith)

-- ---- the parts
-- the first part of a text, and the parts after it
split_some : (p : ℕ → Bool) (xs : List ℕ) → (part : List ℕ) × (rest : List (List ℕ)) × (slice_split p xs ≡ part ∷ rest)
split_some p [] = ([], [], refl)
split_some p (x ∷ xs) = ⊎_elim
    (λ yes. ([], slice_split p xs, slice_split-cons_yes p x xs yes))
    (λ no. let after = split_some p xs in (x ∷ after.0, after.1, slice_split-cons_no p x xs no ∙ ap (onto_first x) after.2))
    (cases_Bool (p x))

same_cons : {A : Type 0} (x y : A) (xs ys : List A) → x ∷ xs ≡ y ∷ ys → (x ≡ y) × (xs ≡ ys)
same_cons x y xs ys e = (cc, cc)

-- dropping bytes of the first part drops them of the text
split_drop : (p : ℕ → Bool) (m : ℕ) (text part : List ℕ) (rest : List (List ℕ)) → slice_split p text ≡ part ∷ rest → m ≤ length part → slice_split p (drop m text) ≡ drop m part ∷ rest
split_drop p zero text part rest h within = h
split_drop p (suc m) [] [] rest h within = absurd (omega arith)
split_drop p (suc m) [] (y ∷ part) rest h within = absurd (let e = (same_cons _ _ _ _ h).0 in cc)
split_drop p (suc m) (x ∷ xs) [] rest h within = absurd (omega arith)
split_drop p (suc m) (x ∷ xs) (y ∷ part) rest h within = ⊎_elim
    (λ yes. absurd (let e : [] ≡ y ∷ part = (same_cons _ _ _ _ (sym (slice_split-cons_yes p x xs yes) ∙ h)).0 in cc))
    (λ no.
    let after = split_some p xs in
    let e : (x ∷ after.0) ∷ after.1 ≡ (y ∷ part) ∷ rest = ap (onto_first x) (sym after.2) ∙ sym (slice_split-cons_no p x xs no) ∙ h in
    let first = same_cons _ _ _ _ e in
    let tail : after.0 ≡ part = (same_cons _ _ _ _ first.0).1 in
    split_drop p m xs part rest (after.2 ∙ ap (λ q. q ∷ after.1) tail ∙ ap (λ r. part ∷ r) first.1) (omega arith))
    (cases_Bool (p x))

-- where no byte passes, the text is its one part
split_whole : (p : ℕ → Bool) (xs : List ℕ) → length xs ≤ position_or_len p xs → slice_split p xs ≡ xs ∷ []
split_whole p [] h = refl
split_whole p (x ∷ xs) h = ⊎_elim
    (λ yes. absurd (let e : position_or_len p (x ∷ xs) ≡ 0 = cond-false _ _ _ (ap not yes) in omega arith))
    (λ no.
    let e : position_or_len p (x ∷ xs) ≡ 1 + position_or_len p xs = cond-true _ _ _ (ap not no) in
    slice_split-cons_no p x xs no ∙ ap (onto_first x) (split_whole p xs (omega arith)))
    (cases_Bool (p x))

none_passes : (b : Bool) (k : ℕ) → cond b (Some k) None ≡ None → b ≡ false
none_passes true k e = absurd (none-some k (sym e))
none_passes false k e = refl

pub parts_whole : (text : List ℕ) → position (λ byte. byte == new_line) text ≡ None → parts_of text ≡ text ∷ []
parts_whole text none = split_whole (λ byte. byte == new_line) text (ltb-false _ _ (none_passes _ _ none))

pub parts_first : (text : List ℕ) (end : ℕ) → position (λ byte. byte == new_line) text ≡ Some end → (end < length text) × (parts_of text ≡ take end text ∷ parts_of (drop (end + 1) text))
parts_first text end some =
    let found = cond_some _ _ _ some in
    let within : position_or_len (λ byte. byte == new_line) text < length text = ltb-true _ _ found.0 in
    let split = slice_split_first (λ byte. byte == new_line) text 0 within in
    (subst (λ n. n < length text) found.1 within, split ∙ ap (λ n. take n text ∷ parts_of (drop (n + 1) text)) found.1)

-- ---- the lines
pub short_part : (part : List ℕ) → length part ≤ 80 → ArePartLines part (part ∷ [])
unfolding ArePartLines
short_part part short = rw (le-leb _ _ short) (refl, refl)

pub long_part : (part : List ℕ) (place : Option ℕ) (lines : List (List ℕ)) → 80 < length part → IsLastBreak part place → ArePartLines (left_after part place) lines → ArePartLines part (line_before part place ∷ lines)
unfolding ArePartLines
long_part part place lines long last more =
    rw (lt-leb _ _ long) (left_after part place, record { place = place; last = last; before = refl; after = refl }, more)

-- a first part that fits is a line before the lines after it
pub short_first : (text part : List ℕ) (after : Option (List ℕ)) (lines : List (List ℕ)) → IsFirstPart text part after → length part ≤ 80 → AreLinesLeft after lines → AreLinesOf text (part ∷ lines)
unfolding AreLines
short_first text part None lines first short more = rw first (part ∷ [], [], ap (λ ls. part ∷ ls) more, short_part part short, refl)
short_first text part (Some after) lines first short more = rw first (part ∷ [], lines, refl, short_part part short, more)

-- how many bytes go with a line that is broken off
abbrev taken : Option ℕ → ℕ
taken None = 80
taken (Some k) = k + 1

left_is_drop : (text : List ℕ) (place : Option ℕ) → left_after text place ≡ drop (taken place) text
left_is_drop text None = refl
left_is_drop text (Some k) = refl

taken_within : (part : List ℕ) (place : Option ℕ) → IsLastBreak part place → 80 < length part → taken place ≤ length part
taken_within part None last long = omega arith
taken_within part (Some k) last long = let to : k ≤ 80 = last.0.to in omega arith

broken_parts : (text part : List ℕ) (place : Option ℕ) (rest : List (List ℕ)) → parts_of text ≡ part ∷ rest → 80 < length part → IsLastBreak part place → parts_of (left_after text place) ≡ left_after part place ∷ rest
broken_parts text part place rest first long last =
    ap parts_of (left_is_drop text place)
    ∙ split_drop (λ byte. byte == new_line) (taken place) text part rest first (taken_within part place last long)
    ∙ ap (λ left. left ∷ rest) (sym (left_is_drop part place))

-- a line broken off a first part is a line before the lines of what is left
pub break_then : (text part : List ℕ) (place : Option ℕ) (rest lines : List (List ℕ)) → parts_of text ≡ part ∷ rest → 80 < length part → IsLastBreak part place → AreLinesOf (left_after text place) lines → AreLinesOf text (line_before part place ∷ lines)
unfolding AreLines
break_then text part place rest lines first long last more =
    let left : AreLines (left_after part place ∷ rest) lines = subst (λ ps. AreLines ps lines) (broken_parts text part place rest first long last) more in
    rw first (line_before part place ∷ left.0, left.1, ap (λ ls. line_before part place ∷ ls) left.2, long_part part place left.0 long last left.3, left.4)

pub broken_first : (text part : List ℕ) (after : Option (List ℕ)) (place : Option ℕ) → IsFirstPart text part after → 80 < length part → IsLastBreak part place → (lines : List (List ℕ)) → AreLinesOf (left_after text place) lines → AreLinesOf text (line_before part place ∷ lines)
broken_first text part None place first long last lines more = break_then text part place [] lines first long last more
broken_first text part (Some after) place first long last lines more = break_then text part place (parts_of after) lines first long last more

-- ---- every text has lines
left_is_shorter : (part : List ℕ) (place : Option ℕ) (n : ℕ) → 80 < length part → length part ≤ suc n → length (left_after part place) ≤ n
left_is_shorter part place n long within = rw (left_is_drop part place) (by_length place)
  where
    by_length : (q : Option ℕ) → length (drop (taken q) part) ≤ n
    by_length None = rw length-drop (omega arith)
    by_length (Some k) = rw length-drop (omega arith)

part_lines : (n : ℕ) (part : List ℕ) → length part ≤ n → (lines : List (List ℕ)) × ArePartLines part lines
part_lines zero part within = (part ∷ [], short_part part (omega arith))
part_lines (suc n) part within = ⊎_elim
    (λ long.
    let last = some_last part in
    let more = part_lines n (left_after part last.0) (left_is_shorter part last.0 n long within) in
    (line_before part last.0 ∷ more.0, long_part part last.0 more.0 long last.1 more.1))
    (λ short. (part ∷ [], short_part part short))
    (cases_lt 80 (length part))

pub lines_exist : (parts : List (List ℕ)) → (lines : List (List ℕ)) × AreLines parts lines
unfolding AreLines
lines_exist [] = ([], refl)
lines_exist (part ∷ parts) =
    let own = part_lines (length part) part (omega arith) in
    let others = lines_exist parts in
    (own.0 ++ others.0, (own.0, others.0, refl, own.1, others.1))

pub left_lines_exist : (left : Option (List ℕ)) → (lines : List (List ℕ)) × AreLinesLeft left lines
left_lines_exist None = ([], refl)
left_lines_exist (Some text) = lines_exist (parts_of text)

-- ---- and no two lists of them
one_break : (part line left line' left' : List ℕ) → Breaks part line left → Breaks part line' left' → (line ≡ line') × (left ≡ left')
one_break part line left line' left' p q =
    let same : p.place ≡ q.place = one_last part p.place q.place p.last q.last in
    (p.before ∙ ap (line_before part) same ∙ sym q.before, p.after ∙ ap (left_after part) same ∙ sym q.after)

one_part_lines : (part : List ℕ) (a b : List (List ℕ)) → ArePartLines part a → ArePartLines part b → a ≡ b
unfolding ArePartLines
one_part_lines part [] b p q = absurd p
one_part_lines part (x ∷ a) [] p q = absurd q
one_part_lines part (x ∷ a) (y ∷ b) p q = ⊎_elim
    (λ short.
    let p' = MatchBool-at_true _ _ short p in
    let q' = MatchBool-at_true _ _ short q in
    let head : x ≡ y = p'.0 ∙ sym q'.0 in
    let tail : a ≡ b = p'.1 ∙ sym q'.1 in cc)
    (λ long.
    let p' = MatchBool-at_false _ _ long p in
    let q' = MatchBool-at_false _ _ long q in
    let same = one_break part x p'.0 y q'.0 p'.1 q'.1 in
    let tail : a ≡ b = one_part_lines p'.0 a b p'.2 (subst (λ left. ArePartLines left b) (sym same.1) q'.2) in
    let head : x ≡ y = same.0 in cc)
    (cases_Bool (nat_le (length part) columns))

pub one_lines : (parts a b : List (List ℕ)) → AreLines parts a → AreLines parts b → a ≡ b
unfolding AreLines
one_lines [] a b p q = p ∙ sym q
one_lines (part ∷ parts) a b p q =
    let own : p.0 ≡ q.0 = one_part_lines part p.0 q.0 p.3 q.3 in
    let others : p.1 ≡ q.1 = one_lines parts p.1 q.1 p.4 q.4 in
    p.2 ∙ ap (λ ls. ls ++ p.1) own ∙ ap (λ ls. q.0 ++ ls) others ∙ sym q.2

-- ---- no line is longer than 80 bytes
line_fits : (part : List ℕ) (place : Option ℕ) → IsLastBreak part place → length (line_before part place) ≤ 80
line_fits part None last = rw length-take (omega arith)
line_fits part (Some k) last = let to : k ≤ 80 = last.0.to in rw length-take (omega arith)

part_lines_fit : (part : List ℕ) (lines : List (List ℕ)) → ArePartLines part lines → AllByRecursion (λ line. length line ≤ 80) lines
unfolding ArePartLines
part_lines_fit part [] p = absurd p
part_lines_fit part (line ∷ lines) p = ⊎_elim
    (λ short.
    let p' = MatchBool-at_true _ _ short p in
    (subst (λ l. length l ≤ 80) (sym p'.0) (leb-true _ _ short), subst (AllByRecursion (λ line. length line ≤ 80)) (sym p'.1) tt))
    (λ long.
    let p' = MatchBool-at_false _ _ long p in
    (subst (λ l. length l ≤ 80) (sym p'.1.before) (line_fits part p'.1.place p'.1.last), part_lines_fit p'.0 lines p'.2))
    (cases_Bool (nat_le (length part) columns))

fit_append : (own others : List (List ℕ)) → AllByRecursion (λ line. length line ≤ 80) own → AllByRecursion (λ line. length line ≤ 80) others → AllByRecursion (λ line. length line ≤ 80) (own ++ others)
fit_append [] others p q = q
fit_append (line ∷ own) others p q = (p.0, fit_append own others p.1 q)

pub lines_fit : (parts lines : List (List ℕ)) → AreLines parts lines → AllByRecursion (λ line. length line ≤ 80) lines
unfolding AreLines
lines_fit [] lines p = subst (AllByRecursion (λ line. length line ≤ 80)) (sym p) tt
lines_fit (part ∷ parts) lines p =
    subst (AllByRecursion (λ line. length line ≤ 80)) (sym p.2) (fit_append p.0 p.1 (part_lines_fit part p.0 p.3) (lines_fit parts p.1 p.4))
