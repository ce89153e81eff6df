-- What a command reads for an option is the argument that was handed over for it.
use Rattle.std.proofs.Common.{◌≡◌, ℕ, Bool, true, false, cond, not, ◌&&◌, ◌||◌, List, [], ◌∷◌, ◌++◌, length, Option, Some, None, refl, sym, subst, ◌∙◌, ap, bit_or}
use Rattle.std.specs.Prelude.{fold, is_some, slice_get}
use Rattle.std.specs.List.{AllByRecursion, filter, list_all}
use Rattle.std.proofs.lemmas.Bool.{and_parts}
use Rattle.cx_base.specs.declared.commands.Command.{Command}
use Rattle.cx_base.specs.declared.options.CommandOption.{CommandOption}
use Rattle.cx_base.specs.Arguments.{arguments_in, is_argument, takes_argument}
use Rattle.cx_base.specs.Commands.{row_of}
use Rattle.cx_base.specs.Facts.Commands.{each_command}
use Rattle.cx_base.specs.Legal.{has_bit, lists_conditions}
use Rattle.cx_base.specs.Options.{option_name}
use Rattle.cx_translate.specs.declared.words.Word.{Word}
use Rattle.cx_translate.specs.Facts.Arguments.{argued, fits, right}
use Rattle.cx_translate.specs.Facts.Found.{operand_by, with_option}
use Rattle.cx_translate.specs.Call.{argument_of, operands_of}
use Rattle.cx_translate.specs.DueArguments.{common_due, condition_due, due_of, option_called}
use Rattle.cx_translate.specs.Refusals.{conditions_in, fault_in, first_byte, has_wrong, is_given}

-- ---- the bits of an option byte
abbrev agree : Bool → Bool → Bool
agree a b = cond a b (not b)

agree_is : (a b : Bool) → agree a b ≡ true → a ≡ b
agree_is true true e = refl
agree_is true false e = absurd (cc)
agree_is false true e = absurd (cc)
agree_is false false e = refl

-- the byte with the bits of these options, whichever of them are given, says which are given of all that were seen
abbrev tells : List CommandOption → ℕ → List (CommandOption × Bool) → Bool
tells [] byte seen = list_all (λ (p : CommandOption × Bool). agree (has_bit byte (p.0).bit) p.1) seen
tells (o ∷ rest) byte seen = tells rest (bit_or byte o.bit) ((o, true) ∷ seen) && tells rest byte ((o, false) ∷ seen)

all_tell : (c : Command) → tells (row_of c).options 0 [] ≡ true
unfolding has_bit
all_tell = each_command (λ c. tells (row_of c).options 0 []) refl

abbrev HasIts : List Word → ℕ → CommandOption → Type 0
HasIts words byte o = has_bit byte o.bit ≡ is_given words (option_name o.name)

record Reported (words : List Word) (byte : ℕ) (options : List CommandOption) (seen : List (CommandOption × Bool)) : Type 0 where
  own : AllByRecursion (HasIts words byte) options
  others : list_all (λ (p : CommandOption × Bool). agree (has_bit byte (p.0).bit) p.1) seen ≡ true

reported : (words : List Word) (options : List CommandOption) (byte : ℕ) (seen : List (CommandOption × Bool)) → tells options byte seen ≡ true
    → Reported words (fold (with_option words) byte options) options seen
reported words [] byte seen h = record { own = tt; others = h }
reported words (o ∷ rest) byte seen h =
    let p = and_parts (tells rest (bit_or byte o.bit) ((o, true) ∷ seen)) (tells rest byte ((o, false) ∷ seen)) h in
    by_given (is_given words (option_name o.name)) refl (reported words rest (bit_or byte o.bit) ((o, true) ∷ seen) p.0) (reported words rest byte ((o, false) ∷ seen) p.1)
  where
    more : (g : Bool) (now : ℕ) → is_given words (option_name o.name) ≡ g → Reported words now rest ((o, g) ∷ seen) → Reported words now (o ∷ rest) seen
    more g now e t =
        let p = and_parts (agree (has_bit now o.bit) g) (list_all (λ (p : CommandOption × Bool). agree (has_bit now (p.0).bit) p.1) seen) t.others in
        record { own = (agree_is (has_bit now o.bit) g p.0 ∙ sym e, t.own); others = p.1 }

    by_given : (g : Bool) → is_given words (option_name o.name) ≡ g → Reported words (fold (with_option words) (bit_or byte o.bit) rest) rest ((o, true) ∷ seen)
        → Reported words (fold (with_option words) byte rest) rest ((o, false) ∷ seen) → Reported words (fold (with_option words) (with_option words byte o) rest) (o ∷ rest) seen
    by_given true e given other = rw e (more true _ e given)
    by_given false e given other = rw e (more false _ e other)

-- ---- an option's argument
all_fit : (c : Command) → list_all (λ o. fits (due_of c (option_name o.name)) o.kind) (row_of c).options ≡ true
unfolding due_of option_called common_due condition_due
all_fit = each_command (λ c. list_all (λ o. fits (due_of c (option_name o.name)) o.kind) (row_of c).options) refl

-- a command reads an argument for an option where one was handed over
abbrev IsRead : List Word → ℕ → CommandOption → Type 0
IsRead words first o = is_argument first o ≡ is_some (argument_of words (option_name o.name))

are_read : (c : Command) (words : List Word) (first : ℕ) (options : List CommandOption) → has_wrong c words ≡ false
    → list_all (λ o. fits (due_of c (option_name o.name)) o.kind) options ≡ true → AllByRecursion (HasIts words first) options → AllByRecursion (IsRead words first) options
are_read c words first [] right fit own = tt
are_read c words first (o ∷ rest) right fit own =
    let p = and_parts (fits (due_of c (option_name o.name)) o.kind) (list_all (λ o. fits (due_of c (option_name o.name)) o.kind) rest) fit in
    (ap (λ b. b && takes_argument o.kind) own.0 ∙ sym (argued c words (option_name o.name) o.kind p.0 right), are_read c words first rest right p.1 own.1)

-- at the place of the argument that was handed over
at_its_place : (words : List Word) (first : ℕ) (before : List CommandOption) (option : CommandOption) (after : List CommandOption) (text : List ℕ)
    → AllByRecursion (IsRead words first) (before ++ option ∷ after) → argument_of words (option_name option.name) ≡ Some text
    → slice_get (filter (is_argument first) (before ++ option ∷ after)) (length (operands_of before words)) ≡ Some option
at_its_place words first [] option after text read given =
    let there : is_argument first option ≡ true = read.0 ∙ ap is_some given in
    rw there refl
at_its_place words first (o ∷ before) option after text read given =
    by_argument (argument_of words (option_name o.name)) (is_argument first o) read.0 (at_its_place words first before option after text read.1 given)
  where
    rest : List CommandOption
    rest = filter (is_argument first) (before ++ option ∷ after)

    by_argument : (a : Option (List ℕ)) (b : Bool) → b ≡ is_some a → slice_get rest (length (operands_of before words)) ≡ Some option
        → slice_get (cond b (o ∷ rest) rest) (length (operand_by o.kind a ++ operands_of before words)) ≡ Some option
    by_argument None b e more = rw e more
    by_argument (Some t) b e more = rw e more

-- a command that lists conditions has no options
abbrev has_none : List CommandOption → Bool
has_none [] = true
has_none (o ∷ rest) = false

all_without : (c : Command) → (not (lists_conditions c) || has_none (row_of c).options) ≡ true
all_without = each_command (λ c. not (lists_conditions c) || has_none (row_of c).options) refl

-- Of an accepted statement an option's argument is, among those that the command reads, where it is among those handed over.
pub option_is_read : (line : ℕ) (c : Command) (cics named words : List Word) (before : List CommandOption) (option : CommandOption) (after : List CommandOption) (text : List ℕ)
    → fault_in line c cics named words ≡ None → (row_of c).options ≡ before ++ option ∷ after → argument_of words (option_name option.name) ≡ Some text
    → slice_get (arguments_in (row_of c).options (first_byte c words)) (length (operands_of before words)) ≡ Some option
unfolding first_byte arguments_in
option_is_read line c cics named words before option after text none split given = by_list (lists_conditions c) refl (all_without c)
  where
    byte : ℕ
    byte = fold (with_option words) 0 (row_of c).options

    empty : {P : Type 0} (k b : List CommandOption) → k ≡ b ++ option ∷ after → has_none k ≡ true → P
    empty [] [] e z = cc
    empty [] (x ∷ b) e z = cc
    empty (x ∷ k) b e z = absurd (cc)

    by_list : (b : Bool) → lists_conditions c ≡ b → (not b || has_none (row_of c).options) ≡ true
        → slice_get (filter (is_argument (cond (lists_conditions c) (conditions_in words) byte)) (row_of c).options) (length (operands_of before words)) ≡ Some option
    by_list true e z = empty (row_of c).options before split z
    by_list false e z =
        let its = are_read c words byte (row_of c).options (right line c cics named words none) (all_fit c) (reported words (row_of c).options 0 [] (all_tell c)).own in
        let there = at_its_place words byte before option after text (subst (AllByRecursion (IsRead words byte)) split its) given in
        rw e (subst (λ (k : List CommandOption). slice_get (filter (is_argument byte) k) (length (operands_of before words)) ≡ Some option) (sym split) there)
