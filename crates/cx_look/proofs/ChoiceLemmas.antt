-- The lines that the lines of a block of CHOICES stand for.
use Rattle.std.proofs.Common.{◌≡◌, ℕ, suc, ◌+◌, ◌<◌, ◌≤◌, ◌==◌, ◌&&◌, Bool, Bor, true, false, Option, Some, None, is_some, List, [], ◌∷◌, ◌++◌, append_assoc, append-nil, ap, arith, codes, cond, drop, drop-cons, fold, get_or, length, length-append, map, nat_le, nat_lt, not, refl, subst, sym, take, unwrap_or, ◌∙◌}
use Rattle.std.specs.List.{AllByRecursion, cons_option, filter_map, flat_map, list_all}
use Rattle.std.specs.Option.{option_map}
use Rattle.std.specs.Str.{bytes_eq}
use Rattle.std.proofs.lemmas.Bool.{lt-ltb}
use Rattle.std.proofs.lemmas.Grind.{flat_map-append}
use Rattle.std.proofs.lemmas.List.{drop_all, get_or-map, length-map}
use Rattle.cx_orders.specs.Moves.{IsFew}
use Rattle.cx_orders.specs.declared.states.KeyLine.{KeyLine}
use Rattle.cx_script_actions.specs.Actions.{is_blank_or_comment}
use Rattle.cx_script_actions.specs.Words.{after_first_blank, word}
use Rattle.cx_look.specs.Choices.{asks_keys, choice_of, lines_after_key, lines_meant}
use Rattle.cx_look.specs.Orders.{is_key, key_line_of}
use Rattle.cx_look.specs.Parts.{few}
use Rattle.cx_look.specs.Sets.{texts_meant}
use Rattle.cx_look.proofs.SetLemmas.{few_low, sums}

-- ---- what follows the first word
pub after_some : (o : Option (Bor (List ℕ))) (r : Bor (List ℕ)) (text : List ℕ) → option_map (λ x. x.now) o ≡ after_first_blank text → o ≡ Some r
    → after_first_blank text ≡ Some r.now
after_some o r text e is = sym e ∙ ap (option_map (λ (x : Bor (List ℕ)). x.now)) is

pub after_none : (o : Option (Bor (List ℕ))) (text : List ℕ) → option_map (λ x. x.now) o ≡ after_first_blank text → o ≡ None
    → after_first_blank text ≡ None
after_none o text e is = sym e ∙ ap (option_map (λ (x : Bor (List ℕ)). x.now)) is

-- ---- a line of those that a line stands for
pub record AtMeant (text rest : List ℕ) (number : ℕ) : Type 0 where
  pub within : number < length (texts_meant rest)
  pub line : get_or (lines_meant text) number [] ≡ codes "KEY " ++ get_or (texts_meant rest) number []

meant_by : (key : Bool) (o : Option (List ℕ)) (rest : List ℕ) (number : ℕ) → o ≡ Some rest → number < length (cond key (lines_after_key o) [])
    → (number < length (texts_meant rest)) × (get_or (cond key (lines_after_key o) []) number [] ≡ codes "KEY " ++ get_or (texts_meant rest) number [])
meant_by false o rest number is less = absurd (omega (arith, less))
meant_by true o rest number is less =
    let all : lines_after_key o ≡ map (λ text. codes "KEY " ++ text) (texts_meant rest) = ap lines_after_key is in
    let within : number < length (texts_meant rest) =
    subst (λ n. number < n) (ap length all ∙ length-map (texts_meant rest) (λ text. codes "KEY " ++ text)) less in
    (within, ap (λ lines. get_or lines number []) all ∙ get_or-map (λ text. codes "KEY " ++ text) (texts_meant rest) number [] [] within)

pub at_meant : (text rest : List ℕ) (number : ℕ) → after_first_blank text ≡ Some rest → number < length (lines_meant text) → AtMeant text rest number
unfolding lines_meant
at_meant text rest number is less =
    let both = meant_by (is_key text) (after_first_blank text) rest number is less in record { within = both.0; line = both.1 }

none_by : (key : Bool) (o : Option (List ℕ)) (number : ℕ) → o ≡ None → number < length (cond key (lines_after_key o) []) → ⊥
none_by false o number is less = omega (arith, less)
none_by true o number is less = let none : length (lines_after_key o) ≡ 0 = ap (λ a. length (lines_after_key a)) is in omega (arith, less, none)

pub none_meant : (text : List ℕ) (number : ℕ) → after_first_blank text ≡ None → number < length (lines_meant text) → ⊥
unfolding lines_meant
none_meant text number is less = none_by (is_key text) (after_first_blank text) number is less

-- it begins with KEY
pub word_begins : (t : List ℕ) → word (codes "KEY " ++ t) ≡ codes "KEY"
word_begins t =
    let here : nat_lt 3 (length (codes "KEY " ++ t)) ≡ true = lt-ltb 3 (length (codes "KEY " ++ t)) (omega arith) in
    ap (λ b. take (unwrap_or (cond b (Some 3) None) (length (codes "KEY " ++ t))) (codes "KEY " ++ t)) here

pub key_begins : (line t : List ℕ) → line ≡ codes "KEY " ++ t → is_key line ≡ true
key_begins line t is = ap is_key is ∙ ap (λ w. bytes_eq w (codes "KEY")) (word_begins t)

pub more_begins : (line t : List ℕ) → line ≡ codes "KEY " ++ t → is_blank_or_comment line ≡ false
more_begins line t is = ap is_blank_or_comment is

some_meant : (text : List ℕ) (number : ℕ) (o : Option (List ℕ)) → after_first_blank text ≡ o → number < length (lines_meant text)
    → (t : List ℕ) × (get_or (lines_meant text) number [] ≡ codes "KEY " ++ t)
some_meant text number None is less = absurd (none_meant text number is less)
some_meant text number (Some rest) is less = (get_or (texts_meant rest) number [], (at_meant text rest number is less).line)

pub begins : (text : List ℕ) (number : ℕ) → number < length (lines_meant text) → (t : List ℕ) × (get_or (lines_meant text) number [] ≡ codes "KEY " ++ t)
begins text number less = some_meant text number (after_first_blank text) refl less

pub none_long : (line : List ℕ) → 4096 < length line → choice_of line ≡ None
none_long line h = grind (arith, h)

pub some_short : (line : List ℕ) → length line ≤ 4096 → choice_of line ≡ key_line_of line
some_short line h = grind (arith, h)

-- ---- how many
pub none_counted : (text : List ℕ) → after_first_blank text ≡ None → 0 ≡ length (lines_meant text)
unfolding lines_meant
none_counted text is = by (is_key text)
  where
    by : (key : Bool) → 0 ≡ length (cond key (lines_after_key (after_first_blank text)) [])
    by true = sym (ap (λ o. length (lines_after_key o)) is)
    by false = refl

pub rest_counted : (text rest : List ℕ) → is_key text ≡ true → after_first_blank text ≡ Some rest → length (texts_meant rest) ≡ length (lines_meant text)
unfolding lines_meant
rest_counted text rest key is =
    sym (ap (λ b. length (cond b (lines_after_key (after_first_blank text)) [])) key ∙ ap (λ o. length (lines_after_key o)) is
    ∙ length-map (texts_meant rest) (λ text. codes "KEY " ++ text))

pub among_counted : (lines : List (List ℕ)) → fold (λ n l. few (n + length (lines_meant l))) 0 lines ≡ few (length (flat_map lines_meant lines))
among_counted lines =
    subst (λ a. fold (λ n l. few (n + length (lines_meant l))) a lines ≡ few (length (flat_map lines_meant lines))) (few_low 0 (omega arith))
    (sums lines_meant (λ l. length (lines_meant l)) (λ l. refl) lines 0 ∙ ap few (omega arith))

room : (a b : ℕ) → nat_le (few (few a + b)) 10000 ≡ nat_le (a + b) 10000
unfolding few
room a b = grind arith

pub room_is : (lines : List (List ℕ)) (text : List ℕ) (n m k : ℕ) → n ≡ few (length (flat_map lines_meant lines)) → m ≡ length (lines_meant text)
    → k ≡ few (n + m) → nat_le k 10000 ≡ nat_le (length (flat_map lines_meant (lines ++ text ∷ []))) 10000
room_is lines text n m k first second sum =
    let a : ℕ = length (flat_map lines_meant lines) in
    let b : ℕ = length (lines_meant text) in
    let long : length (flat_map lines_meant (lines ++ text ∷ [])) ≡ a + b =
    ap length (flat_map-append lines_meant lines (text ∷ [])) ∙ length-append (flat_map lines_meant lines) (lines_meant text ++ [])
    ∙ ap (λ l. a + length l) (append-nil (lines_meant text)) in
    ap (λ x. nat_le x 10000) (sum ∙ ap (λ x. few (x + m)) first ∙ ap (λ x. few (few a + x)) second) ∙ room a b ∙ ap (λ x. nat_le x 10000) (sym long)

-- ---- one after another
next : (lines : List (List ℕ)) (number : ℕ) → number < length lines → drop number lines ≡ get_or lines number [] ∷ drop (number + 1) lines
next lines number h =
    drop-cons lines number [] h ∙ ap (λ n. get_or lines number [] ∷ drop n lines) (let e : suc number ≡ number + 1 = omega arith in e)

abbrev pub are_asked : List (List ℕ) → Bool
are_asked lines = list_all (λ line. is_some (choice_of line)) lines

pub more_asked : (lines : List (List ℕ)) (number : ℕ) (all : Bool) → number < length lines → is_some (choice_of (get_or lines number [])) ≡ true
    → are_asked (drop number lines) ≡ all → are_asked (drop (number + 1) lines) ≡ all
more_asked lines number all h asked is =
    sym (ap are_asked (next lines number h) ∙ ap (λ b. b && are_asked (drop (number + 1) lines)) asked) ∙ is

pub one_unasked : (lines : List (List ℕ)) (number : ℕ) (all : Bool) → number < length lines → is_some (choice_of (get_or lines number [])) ≡ false
    → are_asked (drop number lines) ≡ all → all ≡ false
one_unasked lines number all h asked is =
    sym is ∙ ap are_asked (next lines number h) ∙ ap (λ b. b && are_asked (drop (number + 1) lines)) asked

pub all_asked : (lines : List (List ℕ)) (number : ℕ) (all : Bool) → length lines ≤ number → are_asked (drop number lines) ≡ all → all ≡ true
all_asked lines number all past is = sym is ∙ ap are_asked (drop_all number lines past)

pub unasked : (text : List ℕ) → are_asked (lines_meant text) ≡ false → false ≡ asks_keys text
unfolding asks_keys
unasked text is = by (not (length (lines_meant text) == 0)) (are_asked (lines_meant text)) is
  where
    by : (some all : Bool) → all ≡ false → false ≡ (some && all)
    by true all is = sym is
    by false all is = refl

pub asked : (text : List ℕ) (n : ℕ) → n ≡ length (lines_meant text) → are_asked (lines_meant text) ≡ true → nat_lt 0 n ≡ asks_keys text
unfolding asks_keys
asked text n counted is = by n (length (lines_meant text)) counted (are_asked (lines_meant text)) is
  where
    by : (a b : ℕ) → a ≡ b → (all : Bool) → all ≡ true → nat_lt 0 a ≡ (not (b == 0) && all)
    by a b same all is = grind (arith, same, is)

-- ---- the keys
pub record Added (keys : List KeyLine) (lines : List (List ℕ)) (number : ℕ) (before : List KeyLine) (all : List (List ℕ)) : Type 0 where
  pub are : keys ++ filter_map choice_of (drop number lines) ≡ before ++ filter_map choice_of all
  pub in_range : AllByRecursion IsFew keys

pub added_none : (keys before : List KeyLine) (lines : List (List ℕ)) (number : ℕ) → number < length lines → choice_of (get_or lines number []) ≡ None
    → keys ++ filter_map choice_of (drop number lines) ≡ before
    → keys ++ filter_map choice_of (drop (number + 1) lines) ≡ before
added_none keys before lines number h none are =
    ap (λ more. keys ++ more) (sym (ap (filter_map choice_of) (next lines number h) ∙ ap (λ o. cons_option o (filter_map choice_of (drop (number + 1) lines))) none)) ∙ are

pub added_one : (keys before after : List KeyLine) (key : KeyLine) (lines : List (List ℕ)) (number : ℕ) → number < length lines
    → Some key ≡ choice_of (get_or lines number []) → after ≡ keys ++ key ∷ [] → keys ++ filter_map choice_of (drop number lines) ≡ before
    → after ++ filter_map choice_of (drop (number + 1) lines) ≡ before
added_one keys before after key lines number h one put are =
    let rest : List KeyLine = filter_map choice_of (drop (number + 1) lines) in
    ap (λ l. l ++ rest) put ∙ append_assoc keys (key ∷ []) rest
    ∙ ap (λ more. keys ++ more) (sym (ap (filter_map choice_of) (next lines number h) ∙ ap (λ o. cons_option o rest) (sym one))) ∙ are

pub added_all : (keys before : List KeyLine) (lines : List (List ℕ)) (number : ℕ) → length lines ≤ number
    → keys ++ filter_map choice_of (drop number lines) ≡ before → keys ≡ before
added_all keys before lines number past are =
    sym (append-nil keys) ∙ ap (λ l. keys ++ filter_map choice_of l) (sym (drop_all number lines past)) ∙ are

few_more : (keys : List KeyLine) (key : KeyLine) → AllByRecursion IsFew keys → IsFew key → AllByRecursion IsFew (keys ++ key ∷ [])
few_more [] key all one = (one, tt)
few_more (k ∷ keys) key all one = (all.0, few_more keys key all.1 one)

pub few_after : (keys after : List KeyLine) (key : KeyLine) → after ≡ keys ++ key ∷ [] → AllByRecursion IsFew keys → IsFew key → AllByRecursion IsFew after
few_after keys after key put all one = subst (λ l. AllByRecursion IsFew l) (sym put) (few_more keys key all one)
