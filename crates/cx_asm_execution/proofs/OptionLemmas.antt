-- At most one option of a command has a pointer.
use Rattle.std.proofs.Common.{◌≡◌, ℕ, Bool, true, false, cond, not, List, [], ◌∷◌, ◌++◌, Option, refl, sym, subst, ap}
use Rattle.std.specs.List.{list_all}
use Rattle.std.proofs.lemmas.Bool.{and_parts}
use Rattle.cx_base.specs.declared.commands.Command.{Command}
use Rattle.cx_base.specs.declared.options.CommandOption.{CommandOption}
use Rattle.cx_base.specs.declared.options.ArgumentKind.{ArgumentKind}
use Rattle.cx_base.specs.declared.options.ArgumentKind.TheVariants as kind
use Rattle.cx_base.specs.Commands.{row_of}
use Rattle.cx_base.specs.Facts.Commands.{each_command}
use Rattle.cx_base.specs.Options.{option_name}
use Rattle.cx_translate.specs.declared.words.Word.{Word}
use Rattle.cx_translate.specs.Call.{argument_of, pointer_by, pointers_of}

not_true : (b : Bool) → not b ≡ true → false ≡ b
not_true true e = absurd (cc)
not_true false e = refl

abbrev is_pointer : ArgumentKind → Bool
is_pointer kind.Pointer = true
is_pointer _ = false

-- none after the first
abbrev is_one : List CommandOption → Bool
is_one [] = true
is_one (o ∷ rest) = cond (is_pointer o.kind) (list_all (λ p. not (is_pointer p.kind)) rest) (is_one rest)

all_one : (c : Command) → is_one (row_of c).options ≡ true
all_one = each_command (λ c. is_one (row_of c).options) refl

no_pointer : (m : ArgumentKind) (a : Option (List ℕ)) → is_pointer m ≡ false → pointer_by m a ≡ []
no_pointer kind.Pointer a e = absurd (cc)
no_pointer kind.Flag a e = refl
no_pointer kind.Address a e = refl
no_pointer kind.BytesRead a e = refl
no_pointer kind.BytesWritten a e = refl
no_pointer kind.BytesOrAddress a e = refl
no_pointer kind.Byte a e = refl
no_pointer kind.Name4 a e = refl
no_pointer kind.Name8 a e = refl
no_pointer kind.Halfword a e = refl
no_pointer kind.HalfwordBothWays a e = refl
no_pointer kind.HalfwordBothWaysWithoutSet a e = refl
no_pointer kind.HalfwordOut a e = refl
no_pointer kind.HalfwordOutWithoutRewrite a e = refl

all_of : (before : List CommandOption) (option : CommandOption) (after : List CommandOption)
    → list_all (λ p. not (is_pointer p.kind)) (before ++ option ∷ after) ≡ true → is_pointer option.kind ≡ false
all_of [] option after h = sym (not_true (is_pointer option.kind) (and_parts (not (is_pointer option.kind)) (list_all (λ p. not (is_pointer p.kind)) after) h).0)
all_of (o ∷ before) option after h = all_of before option after (and_parts (not (is_pointer o.kind)) (list_all (λ p. not (is_pointer p.kind)) (before ++ option ∷ after)) h).1

none_before : (words : List Word) (before : List CommandOption) (option : CommandOption) (after : List CommandOption) → is_one (before ++ option ∷ after) ≡ true
    → is_pointer option.kind ≡ true → pointers_of before words ≡ []
none_before words [] option after one is = refl
none_before words (o ∷ before) option after one is = by_kind (is_pointer o.kind) refl one (λ h. none_before words before option after h is)
  where
    by_kind : (b : Bool) → is_pointer o.kind ≡ b
        → cond b (list_all (λ p. not (is_pointer p.kind)) (before ++ option ∷ after)) (is_one (before ++ option ∷ after)) ≡ true
        → (is_one (before ++ option ∷ after) ≡ true → pointers_of before words ≡ [])
        → pointer_by o.kind (argument_of words (option_name o.name)) ++ pointers_of before words ≡ []
    by_kind true e h more = let no = all_of before option after h in absurd (cc)
    by_kind false e h more = rw (no_pointer o.kind (argument_of words (option_name o.name)) e) (more h)

-- Before a command's pointer there is no other one.
pub no_pointer_before : (c : Command) (words : List Word) (before : List CommandOption) (option : CommandOption) (after : List CommandOption)
    → (row_of c).options ≡ before ++ option ∷ after → option.kind ≡ kind.Pointer → pointers_of before words ≡ []
no_pointer_before c words before option after split marked =
    none_before words before option after (subst (λ (k : List CommandOption). is_one k ≡ true) split (all_one c)) (ap is_pointer marked)
