-- Terminals put in the places of others, one after the other, so that all have room for those that are kept.
use Rattle.std.proofs.Common.{◌≡◌, ℕ, zero, suc, ◌+◌, ◌<◌, ◌≤◌, refl, sym, subst, ap, ◌∙◌, arith, List, [], ◌∷◌, ◌++◌, length, fold, slice_get, Option, Some, None}
use Rattle.std.specs.Prelude.{unwrap_or}
use Rattle.std.specs.List.{AllByRecursion}
use Rattle.std.proofs.lemmas.Bool.{cases_lt}
use Rattle.std.proofs.lemmas.List.{append-nil}
use Rattle.std.proofs.Math.Logic.{⊎_elim}
use Rattle.std.proofs.lemmas.Option.{none-some, slice_get_within}
use Rattle.indexmap.specs.IndexMap.{set_value_at}
use Rattle.cx_region.specs.Changes.{HasRoomFor, IsNumberIn, IsPlaceFor, with_terminal}
use Rattle.cx_region.specs.State.{TerminalState}
use Rattle.cx_region.specs.declared.parts.ChangedTerminal.{ChangedTerminal}
use Rattle.cx_region_snapshot.specs.Parts.Changes.{ArePut, HaveRoomTo, MakeRoom, changed_at}

abbrev Terminals : Type 0
Terminals = List (List ℕ × TerminalState)

-- a list of terminals, one of them put in the place of another

same_length : (ts : Terminals) (i : ℕ) (t : TerminalState) → length (set_value_at ts i t) ≡ length ts
same_length [] i t = refl
same_length (x ∷ xs) zero t = refl
same_length (x ∷ xs) (suc i) t = ap suc (same_length xs i t)

get_put : (ts : Terminals) (i : ℕ) (t : TerminalState) (was : List ℕ × TerminalState) → slice_get ts i ≡ Some was → slice_get (set_value_at ts i t) i ≡ Some (was.0, t)
get_put [] i t was e = absurd (none-some was e)
get_put (x ∷ xs) zero t was e = ap (λ (o : Option (List ℕ × TerminalState)). Some ((unwrap_or o x).0, t)) e
get_put (x ∷ xs) (suc i) t was e = get_put xs i t was e

get_other : (ts : Terminals) (i j : ℕ) (t : TerminalState) → (i ≡ j → ⊥) → slice_get (set_value_at ts i t) j ≡ slice_get ts j
get_other [] i j t apart = refl
get_other (x ∷ xs) zero zero t apart = absurd (apart refl)
get_other (x ∷ xs) zero (suc j) t apart = refl
get_other (x ∷ xs) (suc i) zero t apart = refl
get_other (x ∷ xs) (suc i) (suc j) t apart = get_other xs i j t (λ e. apart (ap suc e))

fold_more : (ts : Terminals) (changes : List ChangedTerminal) (change : ChangedTerminal) → fold with_terminal ts (changes ++ change ∷ []) ≡ with_terminal (fold with_terminal ts changes) change
fold_more ts [] change = refl
fold_more ts (c ∷ cs) change = fold_more (with_terminal ts c) cs change

all_more : (ts : Terminals) (changes : List ChangedTerminal) (change : ChangedTerminal) → AllByRecursion (IsNumberIn ts) changes → change.number < length ts → AllByRecursion (IsNumberIn ts) (changes ++ change ∷ [])
all_more ts [] change all less = (less, tt)
all_more ts (c ∷ cs) change all less = (all.0, all_more ts cs change all.1 less)

some_same : (x y : List ℕ × TerminalState) → Some x ≡ Some y → x ≡ y
some_same x y e = ap (λ (o : Option (List ℕ × TerminalState)). unwrap_or o x) e

-- nothing is put yet
pub none_put : (there kept : Terminals) → ArePut there kept [] 0
none_put there kept = record {
  numbers = tt;
  room = record {
    long = refl;
    each = λ i one other less. absurd (omega (arith, less));
    others = λ i less. refl;
  };
}

-- one more is a place, where it and those before it are
one_to : (there made kept : Terminals) (i : ℕ) (one other : List ℕ × TerminalState) → slice_get made i ≡ Some one → slice_get kept i ≡ Some other → IsPlaceFor one other → length made ≡ length there
    → ((j : ℕ) (a b : List ℕ × TerminalState) → j < i → slice_get made j ≡ Some a → slice_get kept j ≡ Some b → IsPlaceFor a b) → ((j : ℕ) → i + 1 ≤ j → slice_get made j ≡ slice_get there j)
    → HaveRoomTo there made kept (i + 1)
one_to there made kept i one other at is place long before others =
    record {
      long = long;
      each = λ j a b less made_at kept_at. ⊎_elim
          (λ (low : j < i). before j a b low made_at kept_at)
          (λ (high : i ≤ j).
          let same : j ≡ i = omega (arith, less, high) in
          let a_is : Some a ≡ Some one = sym made_at ∙ ap (slice_get made) same ∙ at in
          let b_is : Some b ≡ Some other = sym kept_at ∙ ap (slice_get kept) same ∙ is in
          let first : IsPlaceFor a other = subst (λ (t : List ℕ × TerminalState). IsPlaceFor t other) (sym (some_same a one a_is)) place in
          subst (λ (t : List ℕ × TerminalState). IsPlaceFor a t) (sym (some_same b other b_is)) first)
          (cases_lt j i);
      others = others;
    }

-- the terminal at a place is left there, since it has room
one_left : (there kept : Terminals) (i : ℕ) (changes : List ChangedTerminal) (here one : List ℕ × TerminalState) → slice_get there i ≡ Some here → slice_get kept i ≡ Some one
    → IsPlaceFor here one → ArePut there kept changes i → ArePut there kept changes (i + 1)
one_left there kept i changes here one at is place put =
    let room = put.room in
    record {
      numbers = put.numbers;
      room = one_to there (fold with_terminal there changes) kept i here one (room.others i (omega arith) ∙ at) is place room.long room.each (λ j less. room.others j (omega (arith, less)));
    }

-- the one that is kept is put in the place of another of its name
one_changed : (there kept : Terminals) (i : ℕ) (changes : List ChangedTerminal) (change : ChangedTerminal) (here one : List ℕ × TerminalState) → slice_get there i ≡ Some here
    → slice_get kept i ≡ Some one → i < length there → here.0 ≡ one.0 → change.number ≡ i → HasRoomFor change.terminal one.1
    → ArePut there kept changes i → ArePut there kept (changes ++ change ∷ []) (i + 1)
one_changed there kept i changes change here one at is less name number has put =
    let room = put.room in
    let made : Terminals = fold with_terminal there changes in
    let more : fold with_terminal there (changes ++ change ∷ []) ≡ set_value_at made i change.terminal = fold_more there changes change ∙ ap (λ (n : ℕ). set_value_at made n change.terminal) number in
    let here_made : slice_get made i ≡ Some here = room.others i (omega arith) ∙ at in
    let set : HaveRoomTo there (set_value_at made i change.terminal) kept (i + 1) = one_to there (set_value_at made i change.terminal) kept i (here.0, change.terminal) one
    (get_put made i change.terminal here here_made) is (name, has) (same_length made i change.terminal ∙ room.long)
    (λ j a b low made_at kept_at. room.each j a b low (sym (get_other made i j change.terminal (λ e. omega (arith, e, low))) ∙ made_at) kept_at)
    (λ j high. get_other made i j change.terminal (λ e. omega (arith, e, high)) ∙ room.others j (omega (arith, high))) in
    record {
      numbers = all_more there changes change put.numbers (rw number less);
      room = rw more set;
    }

-- one terminal more is a place for the one that is kept
pub one_more : (there kept : Terminals) (i : ℕ) (changes : List ChangedTerminal) (given : Option TerminalState) (here one : List ℕ × TerminalState) → slice_get there i ≡ Some here → slice_get kept i ≡ Some one
    → i < length there → here.0 ≡ one.0 → HasRoomFor (unwrap_or given here.1) one.1 → ArePut there kept changes i → ArePut there kept (changes ++ changed_at i given) (i + 1)
one_more there kept i changes None here one at is less name has put = rw (append-nil changes) (one_left there kept i changes here one at is (name, has) put)
one_more there kept i changes (Some terminal) here one at is less name has put =
    one_changed there kept i changes (record { number = i; terminal = terminal }) here one at is less name refl has put

-- all are places
pub all_put : (there kept : Terminals) (i : ℕ) (changes : List ChangedTerminal) → length kept ≤ i → length there ≡ length kept → ArePut there kept changes i → MakeRoom there kept changes
all_put there kept i changes all many put =
    record {
      numbers = put.numbers;
      room = record {
        long = put.room.long ∙ many;
        each = λ j one other at is. put.room.each j one other (omega (arith, all, slice_get_within kept j other is)) at is;
      };
    }
