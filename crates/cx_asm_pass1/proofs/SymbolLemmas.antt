-- Symbols that keep their first values.
use Rattle.std.proofs.Common.{◌≡◌, ℕ, Bool, true, false, cond, Option, Some, None, Ok, Err, List, [], ◌∷◌, refl, sym, ◌∙◌, ap, subst}
use Rattle.std.specs.Prelude.{is_some, IsErrOf, IsOkUnless, IsTrue, MatchOption, Result}
use Rattle.std.specs.Option.{option_or}
use Rattle.cx_ebcdic.specs.Facts.Names.{is_name-decides, is_name-laws}
use Rattle.cx_asm_expressions.specs.Names.{is_same}
use Rattle.cx_asm_expressions.specs.Symbols.{Symbols, Defines, find_in}
use Rattle.cx_asm_expressions.specs.declared.faults.FaultKind.{FaultKind}
use Rattle.cx_asm_expressions.specs.declared.faults.FaultKind.TheVariants.{DuplicateSymbol}
use Rattle.cx_asm_expressions.specs.declared.faults.TermFault.{TermFault}
use Rattle.cx_asm_expressions.specs.declared.faults.TermFault.TheVariants.{Refused, Memory}
use Rattle.cx_asm_expressions.specs.declared.values.Value.{Value}

absent : (a : Option Value) → is_some a ≡ false → a ≡ None
absent None e = refl
absent (Some x) e = let f : true ≡ false = e in cc

or_none : (a : Option Value) → a ≡ option_or a None
or_none None = refl
or_none (Some x) = refl

or_other : (b : Bool) (a : Option Value) (v : Value) → (b ≡ true → a ≡ None) → cond b (Some v) a ≡ option_or a (cond b (Some v) None)
or_other true a v none = rw (none refl) refl
or_other false a v none = or_none a

or_same : (b : Bool) (a : Option Value) (v : Value) → (b ≡ true → is_some a ≡ true) → a ≡ option_or a (cond b (Some v) None)
or_same false a v some = or_none a
or_same true None v some = let e : false ≡ true = some refl in cc
or_same true (Some x) v some = refl

-- what a table answers to a definition of a name that has this value, if any
abbrev Defined : Option Value → Result (Unit {0}) TermFault → Type 0
Defined found answer = MatchOption found (IsOkUnless answer Memory) (λ _. IsErrOf answer (Refused DuplicateSymbol))

some_refused : (found : Option Value) (fault : FaultKind) → Defined found (Err (Refused fault)) → is_some found ≡ true
some_refused None fault h = absurd (cc)
some_refused (Some value) fault h = refl

none_defined : (found : Option Value) (answer : Unit {0}) → Defined found (Ok answer) → is_some found ≡ false
none_defined None answer h = refl
none_defined (Some value) answer h = absurd (cc)

-- Memory is answered for a name that has none
pub unknown_memory : (found : Option Value) → IsTrue (is_some found) → Defined found (Err Memory) → ⊥
unknown_memory None e h = cc
unknown_memory (Some value) e h = cc

-- a name that has a value keeps it
kept : (old : Symbols) (name : List ℕ) (value : Value) (other : List ℕ) → is_some (find_in old name) ≡ true
    → find_in old other ≡ option_or (find_in old other) (find_in ((name, value) ∷ []) other)
kept old name value other some =
    or_same (is_same other name) (find_in old other) value (λ e. ap (λ n. is_some (find_in old n)) ((is_name-decides other name).0 e) ∙ some)

pub kept_refused : (old new : Symbols) (name : List ℕ) (value : Value) (other : List ℕ) (fault : FaultKind) → new ≡ old
    → Defined (find_in old name) (Err (Refused fault)) → find_in new other ≡ option_or (find_in old other) (find_in ((name, value) ∷ []) other)
kept_refused old new name value other fault e h =
    subst (λ k. find_in k other ≡ option_or (find_in old other) (find_in ((name, value) ∷ []) other)) (sym e)
    (kept old name value other (some_refused (find_in old name) fault h))

-- one that has none gets it
defined : (old new : Symbols) (name : List ℕ) (value : Value) (other : List ℕ) → is_some (find_in old name) ≡ false → Defines old name value new
    → find_in new other ≡ option_or (find_in old other) (find_in ((name, value) ∷ []) other)
defined old new name value other none defines =
    defines other ∙ ap (λ b. cond b (Some value) (find_in old other)) (is_name-laws.symm name other)
    ∙ or_other (is_same other name) (find_in old other) value (λ e. absent (find_in old other) (ap (λ n. is_some (find_in old n)) ((is_name-decides other name).0 e) ∙ none))

pub defined_new : (old new : Symbols) (name : List ℕ) (value : Value) (other : List ℕ) (answer : Unit {0}) → Defined (find_in old name) (Ok answer)
    → Defines old name value new → find_in new other ≡ option_or (find_in old other) (find_in ((name, value) ∷ []) other)
defined_new old new name value other answer h defines = defined old new name value other (none_defined (find_in old name) answer h) defines
