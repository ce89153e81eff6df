-- The arguments of a statement's options, where each is as is due with its option.
use Rattle.std.proofs.Common.{◌≡◌, ℕ, Bool, true, false, cond, not, ◌&&◌, ◌||◌, List, [], ◌∷◌, Option, Some, None, refl, sym}
use Rattle.std.specs.Prelude.{is_some}
use Rattle.std.specs.List.{list_any}
use Rattle.std.specs.Str.{bytes_eq}
use Rattle.std.proofs.lemmas.Slice.Eq.{bytes_eq-Decides}
use Rattle.cx_base.specs.declared.commands.Command.{Command}
use Rattle.cx_base.specs.declared.options.ArgumentKind.{ArgumentKind}
use Rattle.cx_base.specs.Arguments.{takes_argument}
use Rattle.cx_translate.specs.declared.due_arguments.DueArgument.{DueArgument}
use Rattle.cx_translate.specs.declared.due_arguments.DueArgument.TheVariants.{Nothing, Name, Value, Label}
use Rattle.cx_translate.specs.declared.faults.TransFault.{TransFault}
use Rattle.cx_translate.specs.declared.faults.TransFault.TheVariants.{BadArgument, UnknownOption}
use Rattle.cx_translate.specs.declared.words.Argument.{Argument}
use Rattle.cx_translate.specs.declared.words.Argument.TheVariants.{Absent, Given, Bad}
use Rattle.cx_translate.specs.declared.words.Word.{Word}
use Rattle.cx_translate.specs.Call.{argument_of, text_in}
use Rattle.cx_translate.specs.DueArguments.{due_of, suits}
use Rattle.cx_translate.specs.Facts.Found.{is_wrong}
use Rattle.cx_translate.specs.Refusals.{fault_in, has_argument, has_unknown, has_wrong, is_given}

second : (a b c d : Bool) (f g : TransFault) (o : Option TransFault) → cond a (Some f) (cond (b || c || d) (Some g) o) ≡ None → d ≡ false
second false false false false f g o p = refl
second false false false true f g o p = absurd (cc)
second false false true d f g o p = absurd (cc)
second false true c d f g o p = absurd (cc)
second true b c d f g o p = absurd (cc)

-- a statement without a fault has no argument other than is due
pub right : (line : ℕ) (command : Command) (cics named words : List Word) → fault_in line command cics named words ≡ None → has_wrong command words ≡ false
unfolding fault_in
right line command cics named words none =
    second (has_unknown command words) (has_argument cics) (has_argument named) (has_wrong command words) (UnknownOption line) (BadArgument line) _ none

-- what is due with an option agrees with its kind
abbrev pub fits : Option DueArgument → ArgumentKind → Bool
fits (Some Nothing) kind = not (takes_argument kind)
fits (Some (Name n)) kind = takes_argument kind
fits (Some Value) kind = takes_argument kind
fits due kind = false

suited : (d : DueArgument) (a : Argument) (m : ArgumentKind) → fits (Some d) m ≡ true → suits d a ≡ true → is_some (text_in a) ≡ takes_argument m
unfolding suits
suited Nothing Absent m f s = not_so (takes_argument m) f
  where
    not_so : (b : Bool) → not b ≡ true → false ≡ b
    not_so true e = absurd (cc)
    not_so false e = refl
suited Nothing (Given text) m f s = absurd (cc)
suited Nothing Bad m f s = absurd (cc)
suited (Name n) Absent m f s = absurd (cc)
suited (Name n) (Given text) m f s = sym f
suited (Name n) Bad m f s = absurd (cc)
suited Value Absent m f s = absurd (cc)
suited Value (Given text) m f s = sym f
suited Value Bad m f s = absurd (cc)
suited Label a m f s = absurd (cc)

right_by : (d : Option DueArgument) (a : Argument) (m : ArgumentKind) → fits d m ≡ true → is_wrong d a ≡ false → is_some (text_in a) ≡ takes_argument m
right_by None a m f w = absurd (cc)
right_by (Some d) a m f w = suited d a m f (truth (suits d a) w)
  where
    truth : (b : Bool) → not b ≡ false → b ≡ true
    truth true e = refl
    truth false e = absurd (cc)

-- a name has an argument where it is given, and one is due
pub argued : (c : Command) (words : List Word) (name : List ℕ) (m : ArgumentKind) → fits (due_of c name) m ≡ true → has_wrong c words ≡ false
    → is_some (argument_of words name) ≡ (is_given words name && takes_argument m)
unfolding has_wrong is_given
argued c [] name m f w = refl
argued c (word ∷ rest) name m f w =
    go (bytes_eq word.name name) refl (is_wrong (due_of c word.name) word.argument) refl w (λ v. argued c rest name m f v)
  where
    go : (b : Bool) → bytes_eq word.name name ≡ b → (a : Bool) → is_wrong (due_of c word.name) word.argument ≡ a
        → (a || list_any (λ v. is_wrong (due_of c v.name) v.argument) rest) ≡ false
        → (list_any (λ v. is_wrong (due_of c v.name) v.argument) rest ≡ false → is_some (argument_of rest name) ≡ (list_any (λ v. bytes_eq v.name name) rest && takes_argument m))
        → is_some (cond b (text_in word.argument) (argument_of rest name)) ≡ ((b || list_any (λ v. bytes_eq v.name name) rest) && takes_argument m)
    go b e true d v more = absurd (cc)
    go true e false d v more =
        let same : word.name ≡ name = (bytes_eq-Decides word.name name).0 e in
        right_by (due_of c word.name) word.argument m (rw same f) d
    go false e false d v more = more v
