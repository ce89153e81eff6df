-- The conditions that an accepted statement lists are a legal list.
use Rattle.std.proofs.Common.{◌≡◌, ℕ, Bool, true, false, cond, ◌&&◌, ◌||◌, nat_eq, List, [], ◌∷◌, ◌++◌, Option, Some, None, refl, sym, ◌∙◌, ap}
use Rattle.std.specs.Prelude.{◌==◌, is_none, is_some, option_map}
use Rattle.std.specs.List.{find, list_all, list_any}
use Rattle.std.specs.Option.{option_or}
use Rattle.std.specs.Str.{bytes_eq}
use Rattle.std.proofs.lemmas.Bool.{eqb-true}
use Rattle.std.proofs.lemmas.Slice.Eq.{bytes_eq-Decides}
use Rattle.cx_base.specs.declared.commands.Command.{Command}
use Rattle.cx_base.specs.declared.conditions.Condition.{Condition}
use Rattle.cx_base.specs.declared.conditions.Condition.TheVariants.{Normal}
use Rattle.cx_base.specs.declared.options.CommandOption.{CommandOption}
use Rattle.cx_base.specs.Commands.{row_of}
use Rattle.cx_base.specs.Conditions.{entry_of, handled_conditions}
use Rattle.cx_base.specs.Facts.Conditions.{number_finds}
use Rattle.cx_base.specs.Legal.{is_handle, is_handled_number, is_legal_list, is_listed, lists_conditions, may_list}
use Rattle.cx_translate.specs.declared.due_arguments.DueArgument.{DueArgument}
use Rattle.cx_translate.specs.declared.due_arguments.DueArgument.TheVariants.{Nothing, Label}
use Rattle.cx_translate.specs.declared.words.Argument.{Argument}
use Rattle.cx_translate.specs.declared.words.Argument.TheVariants.{Absent, Given, Bad}
use Rattle.cx_translate.specs.declared.words.Word.{Word}
use Rattle.cx_translate.specs.DueArguments.{common_due, condition_called, condition_due, due_of, due_by_kind, option_called, suits}
use Rattle.cx_translate.specs.Refusals.{fault_in, has_twice, has_wrong, is_given}
use Rattle.cx_translate.specs.Facts.Found.{is_wrong, listed_by}
use Rattle.cx_translate.specs.Call.{listed_of, text_in}
use Rattle.cx_translate.proofs.CountLemmas.{all_clear, clear, found}
use Rattle.cx_translate.specs.Facts.Arguments.{right}
use Rattle.cx_translate.proofs.RefusalLemmas.{once}

-- conditions with one number have one name
one_name : (a b : Condition) → nat_eq (entry_of a).number (entry_of b).number ≡ true → (entry_of a).name ≡ (entry_of b).name
one_name a b e =
    let same : (entry_of a).number ≡ (entry_of b).number = eqb-true (entry_of a).number (entry_of b).number e in
    let found : Some a ≡ Some b = sym (number_finds a)
    ∙ ap (λ n. find (λ (c : Condition). (entry_of c).number == n) (Normal ∷ handled_conditions)) same ∙ number_finds b in
    let one : a ≡ b = cc in
    ap (λ c. (entry_of c).name) one

-- every condition that can be handled has such a number
all_handled : list_all (λ condition. is_handled_number (entry_of condition).number) handled_conditions ≡ true
unfolding is_handled_number
all_handled = refl

-- what is due with a condition where conditions are listed
with_label : (a : Option CommandOption) (b : Option DueArgument) (l some : Bool) (d : DueArgument) → (is_none a && is_none b) ≡ true → l ≡ true → some ≡ true
    → option_or (option_map (λ option. due_by_kind option.kind) a) (option_or b (cond (l && some) (Some d) None)) ≡ Some d
with_label None None l some d h e f = rw (e, f) refl
with_label None (Some y) l some d h e f = absurd (cc)
with_label (Some x) b l some d h e f = absurd (cc)

labelled : (h : Bool) (argument : Argument) → is_wrong (Some (cond h Label Nothing)) argument ≡ false
    → (nat_eq (cond (is_some (text_in argument)) 0x80 0) 0 || (nat_eq (cond (is_some (text_in argument)) 0x80 0) 0x80 && h)) ≡ true
unfolding suits
labelled true Absent e = refl
labelled true (Given text) e = refl
labelled true Bad e = refl
labelled false Absent e = refl
labelled false (Given text) e = absurd (cc)
labelled false Bad e = refl

apart_by : (b r : Bool) → (b ≡ true → ⊥) → r ≡ false → (b || r) ≡ false
apart_by true r n e = absurd (n refl)
apart_by false r n e = e

-- a word that isn't a condition's name isn't called by a different one of its number
other_name : (y x : Condition) (name : List ℕ) → find (λ condition. bytes_eq (entry_of condition).name name) handled_conditions ≡ Some y
    → nat_eq (entry_of y).number (entry_of x).number ≡ true → bytes_eq name (entry_of x).name ≡ false → ⊥
other_name y x name f n t =
    let called : (entry_of y).name ≡ name = (bytes_eq-Decides (entry_of y).name name).0 (found (λ condition. true) (λ condition. bytes_eq (entry_of condition).name name) handled_conditions y f refl).0 in
    let given : bytes_eq name (entry_of x).name ≡ true = (bytes_eq-Decides name (entry_of x).name).1 (sym called ∙ one_name y x n) in
    cc

-- a condition whose name isn't given isn't listed
not_listed : (x : Condition) (words : List Word) → is_given words (entry_of x).name ≡ false → is_listed (listed_of words) (entry_of x).number ≡ false
unfolding is_given is_listed condition_called
not_listed x [] e = refl
not_listed x (word ∷ rest) e =
    go (find (λ condition. bytes_eq (entry_of condition).name word.name) handled_conditions) refl (bytes_eq word.name (entry_of x).name) refl e (λ f. not_listed x rest f)
  where
    go : (o : Option Condition) → find (λ condition. bytes_eq (entry_of condition).name word.name) handled_conditions ≡ o
        → (b : Bool) → bytes_eq word.name (entry_of x).name ≡ b → (b || list_any (λ w. bytes_eq w.name (entry_of x).name) rest) ≡ false
        → (list_any (λ w. bytes_eq w.name (entry_of x).name) rest ≡ false → list_any (λ l. nat_eq l.number (entry_of x).number) (listed_of rest) ≡ false)
        → list_any (λ l. nat_eq l.number (entry_of x).number) (listed_by o word.argument ++ listed_of rest) ≡ false
    go o f true t e more = absurd (cc)
    go None f false t e more = more e
    go (Some y) f false t e more =
        apart_by (nat_eq (entry_of y).number (entry_of x).number) (list_any (λ l. nat_eq l.number (entry_of x).number) (listed_of rest))
        (λ n. other_name y x word.name f n t) (more e)

-- the conditions listed are a legal list
pub legal_list : (c : Command) (words : List Word) → lists_conditions c ≡ true → has_wrong c words ≡ false → has_twice words ≡ false
    → is_legal_list c (listed_of words) ≡ true
unfolding has_wrong condition_called may_list due_of condition_due
legal_list c [] l w t = refl
legal_list c (word ∷ rest) l w t =
    go (find (λ condition. bytes_eq (entry_of condition).name word.name) handled_conditions) refl (is_wrong (due_of c word.name) word.argument) refl w (is_given rest word.name) refl t (λ f g. legal_list c rest l f g)
  where
    go : (o : Option Condition) → find (λ condition. bytes_eq (entry_of condition).name word.name) handled_conditions ≡ o
        → (a : Bool) → is_wrong (due_of c word.name) word.argument ≡ a → (a || list_any (λ v. is_wrong (due_of c v.name) v.argument) rest) ≡ false
        → (b : Bool) → is_given rest word.name ≡ b → (b || has_twice rest) ≡ false
        → (list_any (λ v. is_wrong (due_of c v.name) v.argument) rest ≡ false → has_twice rest ≡ false → is_legal_list c (listed_of rest) ≡ true)
        → is_legal_list c (listed_by o word.argument ++ listed_of rest) ≡ true
    go o f true v w b g t more = absurd (cc)
    go o f false v w true g t more = absurd (cc)
    go None f false v w false g t more = more w t
    go (Some x) f false v w false g t more =
        let both = found (clear c) (λ condition. bytes_eq (entry_of condition).name word.name) handled_conditions x f (all_clear c) in
        let number = (found (λ condition. is_handled_number (entry_of condition).number) (λ condition. bytes_eq (entry_of condition).name word.name) handled_conditions x f all_handled).1 in
        let called : (entry_of x).name ≡ word.name = (bytes_eq-Decides (entry_of x).name word.name).0 both.0 in
        let due : due_of c word.name ≡ Some (cond (is_handle c) Label Nothing) = with_label (option_called (row_of c).options word.name) (common_due word.name) (lists_conditions c) _ _ (rw called at both.1) l (rw f refl) in
        let label = labelled (is_handle c) word.argument (rw due at v) in
        let apart = not_listed x rest (rw (← called) at g) in
        simp (number, label, apart, more w t)

pub accepted_list : (line : ℕ) (c : Command) (cics named words : List Word) → lists_conditions c ≡ true → fault_in line c cics named words ≡ None
    → is_legal_list c (listed_of words) ≡ true
accepted_list line c cics named words l none = legal_list c words l (right line c cics named words none) (once line c cics named words none)
