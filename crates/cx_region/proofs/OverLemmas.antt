-- Terminals that are given the states of others, one after the other.
use Rattle.std.proofs.Common.{◌≡◌, ℕ, zero, suc, ◌+◌, ◌<◌, ◌≤◌, refl, sym, subst, ap, ◌∙◌, arith, List, [], ◌∷◌, ◌++◌, length, take, drop, map, slice_get, get_or, Option, None, Some}
use Rattle.std.specs.Prelude.{option_map, unwrap_or}
use Rattle.std.proofs.lemmas.List.{append-nil, drop_all, drop_more, length-take-le, take_all, take_more}
use Rattle.std.proofs.lemmas.Option.{get_or_from_slice_get, none-some, slice_get-map, slice_get_cases, slice_get_within}
use Rattle.std.proofs.Math.Logic.{⊎_elim}
use Rattle.indexmap.specs.IndexMap.{set_value_at}
use Rattle.indexmap.proofs.EntryLemmas.{set_middle}
use Rattle.cx_region.specs.Changes.{HasRoomFor, HaveRoomFor}
use Rattle.cx_region.specs.State.{TerminalState}

abbrev Terminals : Type 0
Terminals = List (List ℕ × TerminalState)

entry_more : (ts : Terminals) (i : ℕ) (t : List ℕ × TerminalState) → slice_get ts i ≡ Some t → take (i + 1) ts ≡ take i ts ++ t ∷ []
entry_more ts i t e = take_more ts i t (slice_get_within ts i t e) ∙ ap (λ (y : List ℕ × TerminalState). take i ts ++ y ∷ []) (get_or_from_slice_get ts i t t e)

drop_at : (ts : Terminals) (i : ℕ) (t : List ℕ × TerminalState) → slice_get ts i ≡ Some t → drop i ts ≡ t ∷ drop (i + 1) ts
drop_at ts i t e = drop_more ts i t (slice_get_within ts i t e) ∙ ap (λ (x : List ℕ × TerminalState). x ∷ drop (i + 1) ts) (get_or_from_slice_get ts i t t e)

append_last : (xs : Terminals) (x : List ℕ × TerminalState) (ys : Terminals) → (xs ++ x ∷ []) ++ ys ≡ xs ++ x ∷ ys
append_last [] x ys = refl
append_last (z ∷ zs) x ys = ap (λ (ts : Terminals). z ∷ ts) (append_last zs x ys)

some_same : (x y : List ℕ × TerminalState) → Some x ≡ Some y → x ≡ y
some_same x y e = ap (λ (o : Option (List ℕ × TerminalState)). unwrap_or o x) e

get_after : (xs ys : Terminals) → slice_get (xs ++ ys) (length xs) ≡ slice_get ys 0
get_after [] ys = refl
get_after (x ∷ xs) ys = get_after xs ys

get_value : (ts : Terminals) (i : ℕ) (one : List ℕ × TerminalState) → slice_get ts i ≡ Some one → slice_get (map (λ (t : List ℕ × TerminalState). t.1) ts) i ≡ Some one.1
get_value [] i one e = absurd (none-some one e)
get_value (t ∷ ts) zero one e = ap (λ (o : Option (List ℕ × TerminalState)). Some (unwrap_or o t).1) e
get_value (t ∷ ts) (suc i) one e = get_value ts i one e

same_value : (x y : TerminalState) → Some x ≡ Some y → x ≡ y
same_value x y e = ap (λ (o : Option TerminalState). unwrap_or o x) e

-- a terminal by its place among the terminals alone
pub room_by_value : (ts : Terminals) (i : ℕ) (there kept : TerminalState) → i < length ts → ((one : List ℕ × TerminalState) → slice_get ts i ≡ Some one → HasRoomFor one.1 kept)
    → slice_get (map (λ (t : List ℕ × TerminalState). t.1) ts) i ≡ Some there → HasRoomFor there kept
room_by_value ts i there kept less room at =
    ⊎_elim
    (λ (found : (x : List ℕ × TerminalState) × (i < length ts) × (slice_get ts i ≡ Some x) × (get_or ts i x ≡ x)).
    let same : found.0.1 ≡ there = same_value found.0.1 there (sym (get_value ts i found.0 found.2) ∙ at) in
    subst (λ (t : TerminalState). HasRoomFor t kept) same (room found.0 found.2))
    (λ (past : (length ts ≤ i) × (slice_get ts i ≡ None)). absurd (omega (arith, less, past.0)))
    (slice_get_cases ts i).1

-- the first terminals are given; the next one is as it was
next_is : (there kept : Terminals) (i : ℕ) (one : List ℕ × TerminalState) → slice_get there i ≡ Some one → i < length kept → slice_get (take i kept ++ drop i there) i ≡ Some one
next_is there kept i one at less =
    let long : length (take i kept) ≡ i = length-take-le i kept (omega (arith, less)) in
    let got : slice_get (take i kept ++ drop i there) (length (take i kept)) ≡ slice_get (drop i there) 0 = get_after (take i kept) (drop i there) in
    let first : slice_get (drop i there) 0 ≡ Some one = ap (λ (ts : Terminals). slice_get ts 0) (drop_at there i one at) in
    rw long at got ∙ first

some_there : (there kept : Terminals) (i : ℕ) → HaveRoomFor there kept → i < length kept → (one : List ℕ × TerminalState) × (slice_get there i ≡ Some one)
some_there there kept i room less =
    ⊎_elim
    (λ (found : (x : List ℕ × TerminalState) × (i < length there) × (slice_get there i ≡ Some x) × (get_or there i x ≡ x)). (found.0, found.2))
    (λ (past : (length there ≤ i) × (slice_get there i ≡ None)). absurd (omega (arith, less, room.long, past.0)))
    (slice_get_cases there i).1

-- the next one is there
pub within_is : (there kept : Terminals) (i : ℕ) → HaveRoomFor there kept → i < length kept → i < length (take i kept ++ drop i there)
within_is there kept i room less = let one = some_there there kept i room less in slice_get_within (take i kept ++ drop i there) i one.0 (next_is there kept i one.0 one.1 less)

-- and has room
pub room_is : (there kept : Terminals) (i : ℕ) (other : List ℕ × TerminalState) → HaveRoomFor there kept → slice_get kept i ≡ Some other → i < length kept
    → (found : List ℕ × TerminalState) → slice_get (take i kept ++ drop i there) i ≡ Some found → HasRoomFor found.1 other.1
room_is there kept i other room is less found at =
    let one = some_there there kept i room less in
    let same : one.0 ≡ found = some_same one.0 found (sym (next_is there kept i one.0 one.1 less) ∙ at) in
    subst (λ (t : List ℕ × TerminalState). HasRoomFor t.1 other.1) same (room.each i one.0 other one.1 is).1

-- one more is given the state of the one that is kept, of its name
one_given : (there kept : Terminals) (i : ℕ) (one other : List ℕ × TerminalState) → slice_get there i ≡ Some one → slice_get kept i ≡ Some other → i < length kept
    → one.0 ≡ other.0 → set_value_at (take i kept ++ drop i there) i other.1 ≡ take (i + 1) kept ++ drop (i + 1) there
one_given there kept i one other at is less name =
    let long : length (take i kept) ≡ i = length-take-le i kept (omega (arith, less)) in
    let left : drop i there ≡ one ∷ drop (i + 1) there = drop_at there i one at in
    let set : set_value_at (take i kept ++ one ∷ drop (i + 1) there) (length (take i kept)) other.1 ≡ take i kept ++ (one.0, other.1) ∷ drop (i + 1) there =
    set_middle (take i kept) (drop (i + 1) there) one.0 one.1 other.1 in
    let set' = rw (long, sym left) at set in
    let named : take i kept ++ (one.0, other.1) ∷ drop (i + 1) there ≡ take i kept ++ other ∷ drop (i + 1) there = ap (λ (n : List ℕ). take i kept ++ (n, other.1) ∷ drop (i + 1) there) name in
    set' ∙ named ∙ sym (append_last (take i kept) other (drop (i + 1) there)) ∙ ap (λ (ts : Terminals). ts ++ drop (i + 1) there) (sym (entry_more kept i other is))

pub given_is : (there kept : Terminals) (i : ℕ) (other : List ℕ × TerminalState) → HaveRoomFor there kept → slice_get kept i ≡ Some other → i < length kept
    → set_value_at (take i kept ++ drop i there) i other.1 ≡ take (i + 1) kept ++ drop (i + 1) there
given_is there kept i other room is less =
    let one = some_there there kept i room less in
    one_given there kept i one.0 other one.1 is less (room.each i one.0 other one.1 is).0

-- all are given
pub all_given : (there kept : Terminals) (i : ℕ) → HaveRoomFor there kept → length kept ≤ i → take i kept ++ drop i there ≡ kept
all_given there kept i room past = rw (take_all i kept past, drop_all i there (omega (arith, past, room.long))) (append-nil kept)

-- what is made of the item at a place
pub kept_at : {T : Type 0} (kept : T → List ℕ × TerminalState) (ts : List T) (i : ℕ) (t : T) → slice_get ts i ≡ Some t → slice_get (map kept ts) i ≡ Some (kept t)
kept_at kept ts i t e = slice_get-map kept ts i ∙ ap (option_map kept) e

pub kept_within : {T : Type 0} (kept : T → List ℕ × TerminalState) (ts : List T) (i : ℕ) (t : T) → slice_get ts i ≡ Some t → i < length (map kept ts)
kept_within kept ts i t e = slice_get_within (map kept ts) i (kept t) (kept_at kept ts i t e)
