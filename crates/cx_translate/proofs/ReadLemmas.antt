-- The argument list of an accepted statement has the words that its command reads.
use Rattle.std.proofs.Common.{◌≡◌, ℕ, ◌+◌, Bool, true, false, cond, not, ◌&&◌, ◌||◌, nat_eq, List, [], ◌∷◌, ◌++◌, length, Option, Some, None, refl, sym, ap, ◌∙◌, arith, bit_and, bit_or, length-append}
use Rattle.std.specs.Prelude.{is_some, fold}
use Rattle.std.specs.List.{filter, list_all, list_any, sum_by}
use Rattle.std.specs.Option.{option_to_list, option_and}
use Rattle.std.specs.Str.{bytes_eq}
use Rattle.std.specs.Int.{bit_at}
use Rattle.std.proofs.lemmas.Bool.{and_parts, eqb-true}
use Rattle.std.proofs.lemmas.List.Sums.{sum_by-cons}
use Rattle.std.proofs.lemmas.Nat.Bits.{bit_at_and, bit_at_or, bit_at-zero, same_from_bits}
use Rattle.std.proofs.lemmas.Slice.Eq.{bytes_eq-Decides}
use Rattle.cx_base.specs.declared.commands.Command.{Command}
use Rattle.cx_base.specs.declared.commands.Command.TheVariants as command
use Rattle.cx_base.specs.declared.conditions.Condition.{Condition}
use Rattle.cx_base.specs.declared.options.CommandOption.{CommandOption}
use Rattle.cx_base.specs.declared.options.CommonOption.TheVariants.{Nohandle, Resp}
use Rattle.cx_base.specs.declared.options.ArgumentKind.TheVariants as kind
use Rattle.cx_base.specs.Arguments.{arguments_in, is_argument}
use Rattle.cx_base.specs.Commands.{row_of}
use Rattle.cx_base.specs.Facts.Commands.{each_command}
use Rattle.cx_base.specs.Options.{common_of, option_name}
use Rattle.cx_base.specs.Legal.{has_bit}
use Rattle.cx_translate.specs.declared.words.Argument.{Argument}
use Rattle.cx_translate.specs.declared.words.Argument.TheVariants.{Absent, Given, Bad}
use Rattle.cx_translate.specs.declared.words.Word.{Word}
use Rattle.cx_translate.specs.DueArguments.{common_due, condition_called, condition_due, due_of, option_called}
use Rattle.cx_translate.specs.Refusals.{fault_in, first_byte, has_wrong, is_given, second_byte}
use Rattle.cx_translate.specs.Facts.Found.{listed_by, operand_by, with_option}
use Rattle.cx_translate.specs.Call.{argument_of, labels_of, list_of, listed_condition, listed_of, operands_of, text_in}
use Rattle.cx_translate.specs.Laws.Read.{has_label, words_read}
use Rattle.cx_translate.specs.Facts.Arguments.{argued, fits, right}

-- ---- the bits of an option byte

and_or : (a b m : ℕ) → bit_and (bit_or a b) m ≡ bit_or (bit_and a m) (bit_and b m)
and_or a b m = same_from_bits (bit_and (bit_or a b) m) (bit_or (bit_and a m) (bit_and b m))
    (λ i. omega (arith, bit_at_and (bit_or a b) m i, bit_at_or a b i, bit_at_or (bit_and a m) (bit_and b m) i, bit_at_and a m i, bit_at_and b m i))

left_zero : (x y : ℕ) → bit_or x y ≡ 0 → x ≡ 0
left_zero x y e = same_from_bits x 0 (λ i. let s : bit_at (bit_or x y) i ≡ bit_at 0 i = ap (λ n. bit_at n i) e in omega (arith, bit_at_or x y i, s, bit_at-zero i))

right_zero : (x y : ℕ) → bit_or x y ≡ 0 → y ≡ 0
right_zero x y e = same_from_bits y 0 (λ i. let s : bit_at (bit_or x y) i ≡ bit_at 0 i = ap (λ n. bit_at n i) e in omega (arith, bit_at_or x y i, s, bit_at-zero i))

or_zero : (x y : ℕ) → not (nat_eq (bit_or x y) 0) ≡ (not (nat_eq x 0) || not (nat_eq y 0))
or_zero x y = go (nat_eq (bit_or x y) 0) (nat_eq x 0) (nat_eq y 0) refl refl refl
  where
    go : (c a b : Bool) → nat_eq (bit_or x y) 0 ≡ c → nat_eq x 0 ≡ a → nat_eq y 0 ≡ b → not c ≡ (not a || not b)
    go true true true c a b = refl
    go true false d c a b = let z = left_zero x y (eqb-true (bit_or x y) 0 c) in absurd (cc)
    go true true false c a b = let z = right_zero x y (eqb-true (bit_or x y) 0 c) in absurd (cc)
    go false false d c a b = refl
    go false true false c a b = refl
    go false true true c a b = let p : x ≡ 0 = eqb-true x 0 a in let q : y ≡ 0 = eqb-true y 0 b in
        let z : bit_or x y ≡ 0 = rw (p, q) refl in absurd (cc)

has_or : (a b m : ℕ) → has_bit (bit_or a b) m ≡ (has_bit a m || has_bit b m)
unfolding has_bit
has_or a b m = rw (and_or a b m) (or_zero (bit_and a m) (bit_and b m))

or_swap : (a b c : Bool) → ((a || b) || c) ≡ (a || (b || c))
or_swap true b c = refl
or_swap false b c = refl

has_by : (g : Bool) (b x m : ℕ) → has_bit (cond g (bit_or b x) b) m ≡ (has_bit b m || (g && has_bit x m))
has_by true b x m = has_or b x m
has_by false b x m = or_false (has_bit b m)
  where
    or_false : (a : Bool) → a ≡ (a || false)
    or_false true = refl
    or_false false = refl

-- a bit is set where an option that is given has it
has_fold : (words : List Word) (b m : ℕ) (options : List CommandOption)
    → has_bit (fold (with_option words) b options) m
    ≡ (has_bit b m || list_any (λ o. is_given words (option_name o.name) && has_bit o.bit m) options)
has_fold words b m [] = or_false (has_bit b m)
  where
    or_false : (a : Bool) → a ≡ (a || false)
    or_false true = refl
    or_false false = refl
has_fold words b m (o ∷ rest) =
    has_fold words (with_option words b o) m rest
    ∙ ap (λ x. x || list_any (λ o. is_given words (option_name o.name) && has_bit o.bit m) rest) (has_by (is_given words (option_name o.name)) b o.bit m)
    ∙ or_swap (has_bit b m) (is_given words (option_name o.name) && has_bit o.bit m) (list_any (λ o. is_given words (option_name o.name) && has_bit o.bit m) rest)

-- an option that has a second one's bit has its name
abbrev alike : ℕ → List ℕ → CommandOption → Bool
alike m name p = not (has_bit p.bit m) || bytes_eq (option_name p.name) name

given_by : (words : List Word) (m : ℕ) (name : List ℕ) (options : List CommandOption) → list_all (alike m name) options ≡ true
    → list_any (λ p. is_given words (option_name p.name) && has_bit p.bit m) options ≡ (is_given words name && list_any (λ p. has_bit p.bit m) options)
given_by words m name [] h = and_false (is_given words name)
  where
    and_false : (a : Bool) → false ≡ (a && false)
    and_false true = refl
    and_false false = refl
given_by words m name (p ∷ rest) h =
    go (has_bit p.bit m) (bytes_eq (option_name p.name) name) refl refl h (λ f. given_by words m name rest f)
  where
    front : (a r s : Bool) → r ≡ (a && s) → ((a && true) || r) ≡ (a && (true || s))
    front true r s e = refl
    front false r s e = e

    skipped : (a g r s : Bool) → r ≡ (g && s) → ((a && false) || r) ≡ (g && (false || s))
    skipped true g r s e = e
    skipped false g r s e = e

    go : (a b : Bool) → has_bit p.bit m ≡ a → bytes_eq (option_name p.name) name ≡ b → ((not a || b) && list_all (alike m name) rest) ≡ true
        → (list_all (alike m name) rest ≡ true → list_any (λ p. is_given words (option_name p.name) && has_bit p.bit m) rest ≡ (is_given words name && list_any (λ p. has_bit p.bit m) rest))
        → ((is_given words (option_name p.name) && a) || list_any (λ p. is_given words (option_name p.name) && has_bit p.bit m) rest)
        ≡ (is_given words name && (a || list_any (λ p. has_bit p.bit m) rest))
    go true true d e f more =
        let same : option_name p.name ≡ name = (bytes_eq-Decides (option_name p.name) name).0 e in
        rw same (front (is_given words name) _ _ (more f))
    go true false d e f more = absurd (cc)
    go false b d e f more = skipped (is_given words (option_name p.name)) (is_given words name) _ _ (more f)

-- the option's bit is its own, and what is due with its name is its own
abbrev own : Command → List CommandOption → CommandOption → Bool
own c options o = fits (due_of c (option_name o.name)) o.kind && (list_all (alike o.bit (option_name o.name)) options && list_any (λ p. has_bit p.bit o.bit) options)

all_own : (c : Command) → list_all (own c (row_of c).options) (row_of c).options ≡ true
unfolding due_of option_called common_due condition_due has_bit
all_own = each_command (λ c. list_all (own c (row_of c).options) (row_of c).options) refl

-- ---- the arguments given
one_operand : (o : CommandOption) (t : Option (List ℕ)) → length (operand_by o.kind t) ≡ cond (is_some t) 1 0
one_operand o None = refl
one_operand o (Some t) = refl

one_option : (first : ℕ) (o : CommandOption) (rest : List CommandOption)
    → length (filter (is_argument first) (o ∷ rest)) ≡ cond (is_argument first o) 1 0 + length (filter (is_argument first) rest)
one_option first o rest = go (is_argument first o)
  where
    go : (b : Bool) → length (cond b (o ∷ filter (is_argument first) rest) (filter (is_argument first) rest)) ≡ cond b 1 0 + length (filter (is_argument first) rest)
    go true = omega arith
    go false = omega arith

zero_has : (n : ℕ) → n ≡ 0 → not (nat_eq n 0) ≡ false
zero_has n e = rw e refl

nothing : (m : ℕ) → has_bit 0 m ≡ false
unfolding has_bit
nothing m = zero_has (bit_and 0 m) (same_from_bits (bit_and 0 m) 0 (λ i. omega (arith, bit_at_and 0 m i, bit_at-zero i)))

-- the bit of an option says whether it is given
own_bit : (words : List Word) (o : CommandOption) (options : List CommandOption)
    → list_all (alike o.bit (option_name o.name)) options ≡ true → list_any (λ p. has_bit p.bit o.bit) options ≡ true
    → has_bit (fold (with_option words) 0 options) o.bit ≡ is_given words (option_name o.name)
own_bit words o options a b =
    has_fold words 0 o.bit options ∙ clear_first (given_by words o.bit (option_name o.name) options a ∙ rw b (and_true (is_given words (option_name o.name))))
  where
    and_true : (x : Bool) → (x && true) ≡ x
    and_true true = refl
    and_true false = refl

    clear_first : {x y : Bool} → x ≡ y → (has_bit 0 o.bit || x) ≡ y
    clear_first e = rw (nothing o.bit) e

-- as many arguments as option byte 1 has options with one
operands_read : (c : Command) (words : List Word) (options rest : List CommandOption) → list_all (own c options) rest ≡ true → has_wrong c words ≡ false
    → length (operands_of rest words) ≡ length (filter (is_argument (fold (with_option words) 0 options)) rest)
operands_read c words options [] h w = refl
operands_read c words options (o ∷ rest) h w =
    let p = and_parts (own c options o) (list_all (own c options) rest) h in
    let q = and_parts (fits (due_of c (option_name o.name)) o.kind) (list_all (alike o.bit (option_name o.name)) options && list_any (λ p. has_bit p.bit o.bit) options) p.0 in
    let r = and_parts (list_all (alike o.bit (option_name o.name)) options) (list_any (λ p. has_bit p.bit o.bit) options) q.1 in
    let bit = own_bit words o options r.0 r.1 in
    let text = argued c words (option_name o.name) o.kind q.0 w in
    let more = operands_read c words options rest p.1 w in
    length-append (operand_by o.kind (argument_of words (option_name o.name))) (operands_of rest words)
    ∙ rw (one_operand o (argument_of words (option_name o.name)), text, more, ← bit) refl
    ∙ sym (one_option (fold (with_option words) 0 options) o rest)

in_options : (c : Command) (words : List Word) → has_wrong c words ≡ false
    → length (operands_of (row_of c).options words) ≡ length (arguments_in (row_of c).options (first_byte c words))
unfolding first_byte arguments_in
in_options command.HandleCondition words w = refl
in_options command.IgnoreCondition words w = refl
in_options c words w = operands_read c words (row_of c).options (row_of c).options (all_own c) w

-- ---- the labels, and RESP's argument

labels_read : (words : List Word) → length (labels_of words) ≡ sum_by (λ l. cond (has_label l) 1 0) (listed_of words)
labels_read [] = refl
labels_read (word ∷ rest) =
    length-append (option_to_list (option_and (condition_called word.name) (text_in word.argument))) (labels_of rest)
    ∙ go (condition_called word.name) word.argument (labels_read rest)
  where
    go : (o : Option Condition) (a : Argument) → length (labels_of rest) ≡ sum_by (λ l. cond (has_label l) 1 0) (listed_of rest)
        → length (option_to_list (option_and o (text_in a))) + length (labels_of rest) ≡ sum_by (λ l. cond (has_label l) 1 0) (listed_by o a ++ listed_of rest)
    go None a e = omega (arith, e)
    go (Some x) Absent e = omega (arith, e, sum_by-cons (λ l. cond (has_label l) 1 0) (listed_condition x Absent) (listed_of rest))
    go (Some x) (Given text) e = omega (arith, e, sum_by-cons (λ l. cond (has_label l) 1 0) (listed_condition x (Given text)) (listed_of rest))
    go (Some x) Bad e = omega (arith, e, sum_by-cons (λ l. cond (has_label l) 1 0) (listed_condition x Bad) (listed_of rest))

response_due : (c : Command) → fits (due_of c (common_of Resp).name) kind.Halfword ≡ true
unfolding due_of option_called common_due condition_due
response_due = each_command (λ c. fits (due_of c (common_of Resp).name) kind.Halfword) refl

response_bit : (words : List Word) → has_bit (second_byte words) (common_of Resp).bit ≡ is_given words (common_of Resp).name
unfolding second_byte has_bit
response_bit words = go (is_given words (common_of Nohandle).name) (is_given words (common_of Resp).name)
  where
    go : (a b : Bool) → not (nat_eq (bit_and (bit_or (cond a 0x80 0) (cond b 0x40 0)) 0x40) 0) ≡ b
    go true true = refl
    go true false = refl
    go false true = refl
    go false false = refl

one_text : (t : Option (List ℕ)) → length (option_to_list t) ≡ cond (is_some t) 1 0
one_text None = refl
one_text (Some t) = refl

and_true : (a : Bool) → (a && true) ≡ a
and_true true = refl
and_true false = refl

response_read : (c : Command) (words : List Word) → has_wrong c words ≡ false
    → length (option_to_list (argument_of words (common_of Resp).name)) ≡ cond (has_bit (second_byte words) (common_of Resp).bit) 1 0
response_read c words w =
    one_text (argument_of words (common_of Resp).name)
    ∙ ap (λ b. cond b 1 0) (argued c words (common_of Resp).name kind.Halfword (response_due c) w ∙ and_true (is_given words (common_of Resp).name) ∙ sym (response_bit words))

-- the block, the options' arguments, the labels and RESP's argument
pub all_read : (line : ℕ) (c : Command) (cics named words : List Word) → fault_in line c cics named words ≡ None
    → length (list_of c words) ≡ words_read c (first_byte c words) (second_byte words) (listed_of words)
unfolding list_of words_read
all_read line c cics named words none =
    let w = right line c cics named words none in
    let a = in_options c words w in
    let b = labels_read words in
    let r = response_read c words w in
    let l = length-append (operands_of (row_of c).options words ++ labels_of words) (option_to_list (argument_of words (common_of Resp).name)) in
    let m = length-append (operands_of (row_of c).options words) (labels_of words) in
    omega (arith, a, b, r, l, m)
