-- How many words the argument list of an accepted statement has.
use Rattle.std.proofs.Common.{◌≡◌, ◌≤◌, ℕ, ◌+◌, Bool, true, false, cond, ◌&&◌, ◌||◌, List, [], ◌∷◌, ◌++◌, length, Option, Some, None, refl, sym, ◌∙◌, arith, nat_lt, nat_le, nat_eq, length-append}
use Rattle.std.specs.Prelude.{is_none, is_some, option_map}
use Rattle.std.specs.List.{find, list_all, list_any, sum_by}
use Rattle.std.specs.Option.{option_or, option_to_list, option_and}
use Rattle.std.specs.Str.{bytes_eq}
use Rattle.std.proofs.lemmas.Bool.{eqb-true, ltb-false, leb-true}
use Rattle.std.proofs.lemmas.List.Sums.{sum_by-cons}
use Rattle.std.proofs.lemmas.Slice.Eq.{bytes_eq-Decides}
use Rattle.cx_base.specs.declared.commands.Command.{Command}
use Rattle.cx_base.specs.declared.conditions.Condition.{Condition}
use Rattle.cx_base.specs.declared.options.CommandOption.{CommandOption}
use Rattle.cx_base.specs.Commands.{row_of}
use Rattle.cx_base.specs.Facts.Commands.{each_command}
use Rattle.cx_base.specs.Conditions.{entry_of, handled_conditions}
use Rattle.cx_base.specs.Options.{common_of, option_name}
use Rattle.cx_base.specs.Legal.{lists_conditions}
use Rattle.cx_translate.specs.declared.due_arguments.DueArgument.{DueArgument}
use Rattle.cx_translate.specs.declared.words.Word.{Word}
use Rattle.cx_translate.specs.DueArguments.{common_due, condition_called, condition_due, due_of, due_by_kind, option_called}
use Rattle.cx_translate.specs.Refusals.{conditions_in, fault_in, first_byte, has_too_many, has_unknown}
use Rattle.cx_translate.proofs.RefusalLemmas.{few_conditions, known}
use Rattle.cx_base.specs.declared.options.CommonOption.TheVariants.{Resp}
use Rattle.cx_translate.specs.Facts.Found.{listed_by, operand_by}
use Rattle.cx_translate.specs.Call.{argument_of, labels_of, list_of, listed_of, operands_of, text_in}

-- what a look-up finds passes its test, and every test that all pass
pub found : (q p : Condition → Bool) (xs : List Condition) (x : Condition) → find p xs ≡ Some x → list_all q xs ≡ true → (p x ≡ true) × (q x ≡ true)
found q p [] x e h = absurd (cc)
found q p (y ∷ ys) x e h = go (p y) (q y) refl refl (λ f g. found q p ys x f g) e h
  where
    go : (a b : Bool) → p y ≡ a → q y ≡ b → (find p ys ≡ Some x → list_all q ys ≡ true → (p x ≡ true) × (q x ≡ true))
        → cond a (Some y) (find p ys) ≡ Some x → (b && list_all q ys) ≡ true → (p x ≡ true) × (q x ≡ true)
    go true true d e rest f g = let same : y ≡ x = cc in rw (← same) (d, e)
    go true false d e rest f g = absurd (cc)
    go false true d e rest f g = rest f g
    go false false d e rest f g = absurd (cc)

-- no condition has the name of an option
abbrev pub clear : Command → Condition → Bool
clear command condition =
    is_none (option_called (row_of command).options (entry_of condition).name) && is_none (common_due (entry_of condition).name)

pub all_clear : (c : Command) → list_all (clear c) handled_conditions ≡ true
unfolding option_called common_due
all_clear = each_command (λ c. list_all (clear c) handled_conditions) refl

-- how many arguments a command's options have at most; one that lists conditions has none
abbrev within : Command → Bool
within c = cond (lists_conditions c) (nat_eq (length (row_of c).options) 0) (nat_le (length (row_of c).options) 8)

all_within : (c : Command) → within c ≡ true
all_within = each_command within refl

gone : (a : Option CommandOption) (b : Option DueArgument) (l some : Bool) (d : DueArgument) → (is_none a && is_none b) ≡ true → l ≡ false
    → is_none (option_or (option_map (λ option. due_by_kind option.kind) a) (option_or b (cond (l && some) (Some d) None))) ≡ true
gone None None l some d h e = rw e refl
gone None (Some y) l some d h e = absurd (cc)
gone (Some x) b l some d h e = absurd (cc)

-- where conditions aren't listed, the name of one is unknown
unlisted : (c : Command) (name : List ℕ) → lists_conditions c ≡ false → is_some (condition_called name) ≡ true → is_none (due_of c name) ≡ true
unfolding due_of condition_due condition_called
unlisted c name l s = go (find (λ condition. bytes_eq (entry_of condition).name name) handled_conditions) refl s
  where
    go : (o : Option Condition) → find (λ condition. bytes_eq (entry_of condition).name name) handled_conditions ≡ o → is_some o ≡ true → is_none (due_of c name) ≡ true
    go None e h = absurd (cc)
    go (Some x) e h =
        let both = found (clear c) (λ condition. bytes_eq (entry_of condition).name name) handled_conditions x e (all_clear c) in
        let same : (entry_of x).name ≡ name = (bytes_eq-Decides (entry_of x).name name).0 both.0 in
        let free : clear c x ≡ true = both.1 in
        gone (option_called (row_of c).options name) (common_due name) (lists_conditions c) _ _ (rw same at free) l

-- so none is listed
pub none_listed : (c : Command) (words : List Word) → lists_conditions c ≡ false → has_unknown c words ≡ false → conditions_in words ≡ 0
unfolding has_unknown conditions_in
none_listed c [] l u = refl
none_listed c (word ∷ rest) l u =
    sum_by-cons (λ w. cond (is_some (condition_called w.name)) 1 0) word rest
    ∙ go (is_some (condition_called word.name)) (is_none (due_of c word.name)) refl refl u (λ f. none_listed c rest l f)
  where
    go : (a b : Bool) → is_some (condition_called word.name) ≡ a → is_none (due_of c word.name) ≡ b
        → (b || list_any (λ w. is_none (due_of c w.name)) rest) ≡ false
        → (list_any (λ w. is_none (due_of c w.name)) rest ≡ false → sum_by (λ w. cond (is_some (condition_called w.name)) 1 0) rest ≡ 0)
        → cond a 1 0 + sum_by (λ w. cond (is_some (condition_called w.name)) 1 0) rest ≡ 0
    go a true s d f more = absurd (cc)
    go true false s d f more = let e = unlisted c word.name l s in absurd (cc)
    go false false s d f more = rw (more f) refl

few_by : (o : Option Condition) (t : Option (List ℕ)) → length (option_to_list (option_and o t)) ≤ cond (is_some o) 1 0
few_by None None = omega arith
few_by None (Some t) = omega arith
few_by (Some x) None = omega arith
few_by (Some x) (Some t) = omega arith

-- at most one label for each condition
few_labels : (words : List Word) → length (labels_of words) ≤ conditions_in words
unfolding conditions_in
few_labels [] = omega arith
few_labels (word ∷ rest) =
    let a = few_by (condition_called word.name) (text_in word.argument) in
    let b = few_labels rest in
    let s = sum_by-cons (λ w. cond (is_some (condition_called w.name)) 1 0) word rest in
    let l = length-append (option_to_list (option_and (condition_called word.name) (text_in word.argument))) (labels_of rest) in
    omega (arith, a, b, s, l)

one_by : (o : CommandOption) (t : Option (List ℕ)) → length (operand_by o.kind t) ≤ 1
one_by o None = omega arith
one_by o (Some t) = omega arith

-- at most one argument for each option
few_operands : (options : List CommandOption) (words : List Word) → length (operands_of options words) ≤ length options
few_operands [] words = omega arith
few_operands (option ∷ rest) words =
    let a = one_by option (argument_of words (option_name option.name)) in
    let b = few_operands rest words in
    let l = length-append (operand_by option.kind (argument_of words (option_name option.name))) (operands_of rest words) in
    omega (arith, a, b, l)

one_response : (o : Option (List ℕ)) → length (option_to_list o) ≤ 1
one_response None = omega arith
one_response (Some t) = omega arith

sixteen : (l : Bool) (n : ℕ) → (l && nat_lt 16 n) ≡ false → l ≡ true → n ≤ 16
sixteen true n h e = ltb-false 16 n h
sixteen false n h e = absurd (cc)

in_row : (l : Bool) (n : ℕ) → cond l (nat_eq n 0) (nat_le n 8) ≡ true → (l ≡ true → n ≡ 0) × (n ≤ 8)
in_row true n h = let z : n ≡ 0 = eqb-true n 0 h in (λ e. z, omega arith)
in_row false n h = (λ e. absurd (cc), leb-true n 8 h)

listed_or_not : (c : Command) (words : List Word) → has_unknown c words ≡ false → has_too_many c words ≡ false
    → length (operands_of (row_of c).options words) + length (labels_of words) ≤ 16
unfolding has_too_many
listed_or_not c words u m = go (lists_conditions c) refl
  where
    go : (l : Bool) → lists_conditions c ≡ l → length (operands_of (row_of c).options words) + length (labels_of words) ≤ 16
    go true e =
        let n = sixteen (lists_conditions c) (conditions_in words) m e in
        let r = (in_row (lists_conditions c) (length (row_of c).options) (all_within c)).0 e in
        let a = few_operands (row_of c).options words in
        let b = few_labels words in
        omega (arith, n, r, a, b)
    go false e =
        let n = none_listed c words e u in
        let r = (in_row (lists_conditions c) (length (row_of c).options) (all_within c)).1 in
        let a = few_operands (row_of c).options words in
        let b = few_labels words in
        omega (arith, n, r, a, b)

-- the block, at most sixteen arguments and labels, and RESP's
pub at_most_18 : (line : ℕ) (c : Command) (cics named words : List Word) → fault_in line c cics named words ≡ None → length (list_of c words) ≤ 18
unfolding list_of
at_most_18 line c cics named words none =
    let k = listed_or_not c words (known line c cics named words none) (few_conditions line c cics named words none) in
    let r = one_response (argument_of words (common_of Resp).name) in
    let l = length-append (operands_of (row_of c).options words ++ labels_of words) (option_to_list (argument_of words (common_of Resp).name)) in
    let m = length-append (operands_of (row_of c).options words) (labels_of words) in
    omega (arith, k, r, l, m)

-- as many conditions are listed as are counted
listed_number : (words : List Word) → length (listed_of words) ≡ conditions_in words
unfolding conditions_in
listed_number [] = refl
listed_number (word ∷ rest) =
    sym (sum_by-cons (λ w. cond (is_some (condition_called w.name)) 1 0) word rest ∙ go (condition_called word.name) (listed_number rest))
  where
    go : (o : Option Condition) → length (listed_of rest) ≡ sum_by (λ w. cond (is_some (condition_called w.name)) 1 0) rest
        → cond (is_some o) 1 0 + sum_by (λ w. cond (is_some (condition_called w.name)) 1 0) rest ≡ length (listed_by o word.argument ++ listed_of rest)
    go None e = omega (arith, e)
    go (Some x) e = omega (arith, e)

-- option byte 1 is their number, where they are listed
pub counted : (c : Command) (words : List Word) → lists_conditions c ≡ true → first_byte c words ≡ length (listed_of words)
unfolding first_byte
counted c words l = rw l (sym (listed_number words))

-- where they aren't, there is none
pub none_there : (line : ℕ) (c : Command) (cics named words : List Word) → lists_conditions c ≡ false → fault_in line c cics named words ≡ None
    → length (listed_of words) ≡ 0
none_there line c cics named words l none = listed_number words ∙ none_listed c words l (known line c cics named words none)
