-- Lemmas on statements without a fault.
use Rattle.std.proofs.Common.{◌≡◌, ℕ, Bool, true, false, cond, List, Option, Some, None, Ok, refl, ◌||◌}
use Rattle.cx_source.specs.declared.source.Source.{Source}
use Rattle.cx_base.specs.declared.commands.Command.{Command}
use Rattle.cx_base.specs.Commands.{row_of}
use Rattle.cx_base.specs.Legal.{is_legal}
use Rattle.cx_translate.specs.declared.words.Word.{Word}
use Rattle.cx_translate.specs.declared.faults.TransFault.{TransFault}
use Rattle.cx_translate.specs.declared.faults.TransFault.TheVariants.{UnknownOption, BadArgument, TooManyConditions, Conflict, MissingOption}
use Rattle.cx_translate.specs.Refusals.{fault_in, first_byte, has_argument, has_excluded, has_too_many, has_twice, has_unknown, has_wrong, second_byte}
use Rattle.cx_translate.specs.Translation.{made_source, translation_of}
use Rattle.cx_translate.specs.Sections.{begins_exec}
use Rattle.std.specs.List.{list_any}
use Rattle.cx_translate.specs.Facts.AllFaults.{no_exec_no_fault}

chain : (a b c d e : Bool) (f g h i j : TransFault) → cond a (Some f) (cond b (Some g) (cond c (Some h) (cond d (Some i) (cond e None (Some j))))) ≡ None → c ≡ false
chain false false false d e f g h i j p = refl
chain true b c d e f g h i j p = absurd (cc)
chain false true c d e f g h i j p = absurd (cc)
chain false false true d e f g h i j p = absurd (cc)

last : (a b c d e : Bool) (f g h i j : TransFault) → cond a (Some f) (cond b (Some g) (cond c (Some h) (cond d (Some i) (cond e None (Some j))))) ≡ None → e ≡ true
last false false false false true f g h i j p = refl
last false false false false false f g h i j p = absurd (cc)
last true b c d e f g h i j p = absurd (cc)
last false true c d e f g h i j p = absurd (cc)
last false false true d e f g h i j p = absurd (cc)
last false false false true e f g h i j p = absurd (cc)

head : (a : Bool) (f : TransFault) (o : Option TransFault) → cond a (Some f) o ≡ None → a ≡ false
head false f o p = refl
head true f o p = absurd (cc)

-- a statement without a fault has no unknown word
pub known : (line : ℕ) (command : Command) (cics named words : List Word) → fault_in line command cics named words ≡ None → has_unknown command words ≡ false
unfolding fault_in
known line command cics named words none = head (has_unknown command words) (UnknownOption line) _ none

fourth : (a b c d e : Bool) (f g h i : TransFault) (o : Option TransFault) → cond a (Some f) (cond b (Some g) (cond c (Some h) (cond (d || e) (Some i) o))) ≡ None → d ≡ false
fourth false false false false e f g h i o p = refl
fourth false false false true e f g h i o p = absurd (cc)
fourth false false true d e f g h i o p = absurd (cc)
fourth false true c d e f g h i o p = absurd (cc)
fourth true b c d e f g h i o p = absurd (cc)

-- nor a word twice
pub once : (line : ℕ) (command : Command) (cics named words : List Word) → fault_in line command cics named words ≡ None → has_twice words ≡ false
unfolding fault_in
once line command cics named words none =
    fourth (has_unknown command words) (has_argument cics || has_argument named || has_wrong command words) (has_too_many command words)
    (has_twice words) (has_excluded (row_of command).rules (first_byte command words))
    (UnknownOption line) (BadArgument line) (TooManyConditions line) (Conflict line) _ none

-- the option bytes of a statement without a fault are legal
pub legal_bytes : (line : ℕ) (command : Command) (cics named words : List Word) → fault_in line command cics named words ≡ None
    → is_legal command (first_byte command words) (second_byte words) ≡ true
unfolding fault_in
legal_bytes line command cics named words none =
    last (has_unknown command words) (has_argument cics || has_argument named || has_wrong command words) (has_too_many command words)
    (has_twice words || has_excluded (row_of command).rules (first_byte command words)) (is_legal command (first_byte command words) (second_byte words))
    (UnknownOption line) (BadArgument line) (TooManyConditions line) (Conflict line) (MissingOption line) none

-- a source without EXEC stays
pub no_exec : (source : Source) → list_any begins_exec source.items ≡ false → translation_of source ≡ Ok source
unfolding translation_of made_source
no_exec source e = rw (no_exec_no_fault source.items e, e) refl

-- a statement without a fault lists no more conditions than it may
pub few_conditions : (line : ℕ) (command : Command) (cics named words : List Word) → fault_in line command cics named words ≡ None
    → has_too_many command words ≡ false
unfolding fault_in
few_conditions line command cics named words none =
    chain (has_unknown command words) (has_argument cics || has_argument named || has_wrong command words) (has_too_many command words)
    (has_twice words || has_excluded (row_of command).rules (first_byte command words)) (is_legal command (first_byte command words) (second_byte words))
    (UnknownOption line) (BadArgument line) (TooManyConditions line) (Conflict line) (MissingOption line) none
