-- Words and lines of a list, one after the other.
use Rattle.std.proofs.Common.{◌≡◌, ℕ, zero, suc, ◌+◌, ◌≤◌, Bool, true, false, List, [], ◌∷◌, ◌++◌, length, drop, slice_get, Some, refl, sym, ap, ◌∙◌, arith, append_assoc, append-nil}
use Rattle.cx_base.specs.Arguments.{arguments_in, is_argument}
use Rattle.cx_base.specs.Legal.{has_bit}
use Rattle.cx_base.specs.declared.options.CommandOption.{CommandOption}
use Rattle.cx_storage.specs.Storage.{Storage}
use Rattle.cx_region_state.specs.Call.{Call}
use Rattle.cx_look_tasks.specs.Commands.{input_line, input_lines, is_input, option_word, option_words}
use Rattle.cx_look_lines.specs.Words.{with_blanks}

-- what is written of a list, an item at a time
pub each_step : {A B : Type 0} (f : List A → List B) → ((x : A) (xs : List A) → f (x ∷ xs) ≡ f (x ∷ []) ++ f xs)
    → (all : List A) (k : ℕ) (x : A) → slice_get all k ≡ Some x → f (x ∷ []) ++ f (drop (suc k) all) ≡ f (drop k all)
each_step f splits [] k x e = cc
each_step f splits (first ∷ rest) zero x e = let same : first ≡ x = cc in rw same (sym (splits x rest))
each_step f splits (first ∷ rest) (suc k) x e = each_step f splits rest k x e

pub each_goes_on : {A B : Type 0} (f : List A → List B) → ((x : A) (xs : List A) → f (x ∷ xs) ≡ f (x ∷ []) ++ f xs)
    → (all : List A) (k : ℕ) (x : A) (before after initial : List B) → slice_get all k ≡ Some x → after ≡ before ++ f (x ∷ [])
    → before ++ f (drop k all) ≡ initial ++ f all → after ++ f (drop (k + 1) all) ≡ initial ++ f all
each_goes_on f splits all k x before after initial e written so_far =
    let one : k + 1 ≡ suc k = omega arith in
    rw (one, written) (append_assoc before (f (x ∷ [])) (f (drop (suc k) all)) ∙ ap (λ t. before ++ t) (each_step f splits all k x e) ∙ so_far)

pub each_ends : {A B : Type 0} (f : List A → List B) → f [] ≡ [] → (all : List A) (k : ℕ) → length all ≤ k → f (drop k all) ≡ []
each_ends f empty [] zero l = empty
each_ends f empty [] (suc k) l = empty
each_ends f empty (first ∷ rest) zero l = absurd (omega arith)
each_ends f empty (first ∷ rest) (suc k) l = each_ends f empty rest k (omega arith)

pub each_done : {A B : Type 0} (f : List A → List B) → f [] ≡ [] → (all : List A) (k : ℕ) (before initial : List B) → length all ≤ k
    → before ++ f (drop k all) ≡ initial ++ f all → before ≡ initial ++ f all
each_done f empty all k before initial l so_far = sym (append-nil before) ∙ ap (λ t. before ++ t) (sym (each_ends f empty all k l)) ∙ so_far

pub no_options : (s : Storage) (call : Call) → with_blanks (option_words s call []) ≡ []
unfolding option_words
no_options s call = refl

one_of : (s : Storage) (call : Call) (option : CommandOption) (options : List CommandOption) (there : Bool) → has_bit call.first option.bit ≡ there
    → with_blanks (option_words s call (option ∷ options)) ≡ with_blanks (option_words s call (option ∷ [])) ++ with_blanks (option_words s call options)
unfolding option_words
one_of s call option options true e = rw e (rw (append-nil (option_word s call option)) refl)
one_of s call option options false e = rw e refl

pub one_more_option : (s : Storage) (call : Call) (option : CommandOption) (options : List CommandOption)
    → with_blanks (option_words s call (option ∷ options)) ≡ with_blanks (option_words s call (option ∷ [])) ++ with_blanks (option_words s call options)
one_more_option s call option options = one_of s call option options (has_bit call.first option.bit) refl

pub no_inputs : (s : Storage) (call : Call) → input_lines s call [] ≡ []
unfolding input_lines arguments_in
no_inputs s call = refl

lines_of : (s : Storage) (call : Call) (option : CommandOption) (options : List CommandOption) (one two : Bool)
    → is_argument call.first option ≡ one → is_input s call option ≡ two
    → input_lines s call (option ∷ options) ≡ input_lines s call (option ∷ []) ++ input_lines s call options
unfolding input_lines arguments_in
lines_of s call option options true true e f = rw e (rw f (rw (append-nil (input_line s call option)) refl))
lines_of s call option options true false e f = rw e (rw f refl)
lines_of s call option options false two e f = rw e refl

pub one_more_input : (s : Storage) (call : Call) (option : CommandOption) (options : List CommandOption)
    → input_lines s call (option ∷ options) ≡ input_lines s call (option ∷ []) ++ input_lines s call options
one_more_input s call option options = lines_of s call option options (is_argument call.first option) (is_input s call option) refl refl
