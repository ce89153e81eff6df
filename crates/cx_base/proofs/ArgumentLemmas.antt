-- Options and their arguments are found by their names.
use Rattle.std.proofs.Common.{◌≡◌, ℕ, zero, suc, ◌↔◌, Bool, not, true, false, List, [], ◌∷◌, slice_get, Some, refl, sym, ◌∙◌, ap, subst, inl, inr, arith, rules}
use Rattle.std.specs.List.{filter, find, list_all, list_any, position_or_len}
use Rattle.std.specs.Prelude.{◌&&◌, ◌||◌}
use Rattle.std.proofs.lemmas.Bool.{cases_Bool, lt-ltb, and_parts, and_from}
use Rattle.std.proofs.lemmas.Option.{slice_get_within}
use Rattle.cx_base.specs.declared.commands.Command.{Command}
use Rattle.cx_base.specs.declared.options.CommandOption.{CommandOption}
use Rattle.cx_base.specs.declared.options.OptionName.{OptionName}
use Rattle.cx_base.specs.Options.{is_option}
use Rattle.cx_base.specs.Commands.{row_of}
use Rattle.cx_base.specs.Legal.{has_bit}
use Rattle.cx_base.specs.Arguments.{argument_index, arguments_in, has_option, is_argument, option_of}
use Rattle.cx_base.specs.Laws.Rows.{have_own_names}
use Rattle.cx_base.proofs.RowLemmas.{own_names}

same_option : (one other : OptionName) → (is_option one other ≡ true) ↔ (one ≡ other)
same_option one other = search rules

flipped : (one other : OptionName) → is_option one other ≡ false → is_option other one ≡ false
flipped one other differ = elim (cases_Bool (is_option other one)) [
  | inl t ↦
      let yes : is_option one other ≡ true = (same_option one other).1 (sym ((same_option other one).0 t)) in
      absurd (cc)
  | inr f ↦ f
]

all_filter : {A : Type 0} (test keeps : A → Bool) (xs : List A) → list_all test xs ≡ true → list_all test (filter keeps xs) ≡ true
all_filter test keeps [] all = refl
all_filter test keeps (x ∷ xs) all =
    let parts = and_parts _ _ all in
    let rest = all_filter test keeps xs parts.1 in
    elim (cases_Bool (keeps x)) [ inl t ↦ rw t (and_from _ _ parts.0 rest) | inr f ↦ rw f rest ]

names_filter : (keeps : CommandOption → Bool) (options : List CommandOption) → have_own_names options ≡ true → have_own_names (filter keeps options) ≡ true
names_filter keeps [] own = refl
names_filter keeps (option ∷ rest) own =
    let parts = and_parts _ _ own in
    let more = names_filter keeps rest parts.1 in
    elim (cases_Bool (keeps option)) [
      | inl t ↦ rw t (and_from _ _ (all_filter (λ other. not (is_option other.name option.name)) keeps rest parts.0) more)
      | inr f ↦ rw f more
    ]

all_at : {A : Type 0} (test : A → Bool) (xs : List A) (k : ℕ) (x : A) → list_all test xs ≡ true → slice_get xs k ≡ Some x → test x ≡ true
all_at test [] k x all e = cc
all_at test (y ∷ ys) zero x all e = let same : y ≡ x = cc in ap test (sym same) ∙ (and_parts _ _ all).0
all_at test (y ∷ ys) (suc k) x all e = all_at test ys k x (and_parts _ _ all).1 e

not_true : (b : Bool) → not b ≡ true → b ≡ false
not_true false e = refl
not_true true e = cc

by_its_name : (options : List CommandOption) (k : ℕ) (option : CommandOption) → have_own_names options ≡ true → slice_get options k ≡ Some option
    → position_or_len (λ other. is_option other.name option.name) options ≡ k
by_its_name [] k option own e = cc
by_its_name (first ∷ rest) zero option own e =
    let same : first ≡ option = cc in
    rw ((same_option first.name option.name).1 (ap (λ o. o.name) same)) refl
by_its_name (first ∷ rest) (suc k) option own e =
    let parts = and_parts _ _ own in
    let differs : is_option option.name first.name ≡ false = not_true _ (all_at (λ other. not (is_option other.name first.name)) rest k option parts.0 e) in
    let more = by_its_name rest k option parts.1 e in
    rw (flipped option.name first.name differs, more) (omega arith)

pub found_argument : (command : Command) (first k : ℕ) (option : CommandOption) → slice_get (arguments_in (row_of command).options first) k ≡ Some option
    → argument_index command first option.name ≡ Some k
unfolding argument_index arguments_in
found_argument command first k option e =
    let within = slice_get_within (filter (is_argument first) (row_of command).options) k option e in
    let at : position_or_len (λ other. is_option other.name option.name) (filter (is_argument first) (row_of command).options) ≡ k =
    by_its_name (filter (is_argument first) (row_of command).options) k option (names_filter (is_argument first) (row_of command).options (own_names command)) e in
    rw (at, lt-ltb _ _ within) refl

-- ---- a row's options by their names
row_found : (options : List CommandOption) (k : ℕ) (option : CommandOption) → have_own_names options ≡ true → slice_get options k ≡ Some option
    → find (λ other. is_option other.name option.name) options ≡ Some option
row_found [] k option own e = cc
row_found (first ∷ rest) zero option own e =
    let same : first ≡ option = cc in
    rw ((same_option first.name option.name).1 (ap (λ o. o.name) same)) e
row_found (first ∷ rest) (suc k) option own e =
    let parts = and_parts _ _ own in
    let differs : is_option option.name first.name ≡ false = not_true _ (all_at (λ other. not (is_option other.name first.name)) rest k option parts.0 e) in
    rw (flipped option.name first.name differs) (row_found rest k option parts.1 e)

none_named : (name : OptionName) (byte : ℕ) (rest : List CommandOption) → list_all (λ other. not (is_option other.name name)) rest ≡ true
    → list_any (λ option. is_option option.name name && has_bit byte option.bit) rest ≡ false
none_named name byte [] all = refl
none_named name byte (option ∷ rest) all =
    let parts = and_parts _ _ all in
    rw (not_true (is_option option.name name) parts.0) (none_named name byte rest parts.1)

or_false : (b : Bool) → (b || false) ≡ b
or_false true = refl
or_false false = refl

bit_asked : (options : List CommandOption) (k byte : ℕ) (option : CommandOption) → have_own_names options ≡ true → slice_get options k ≡ Some option
    → list_any (λ other. is_option other.name option.name && has_bit byte other.bit) options ≡ has_bit byte option.bit
bit_asked [] k byte option own e = cc
bit_asked (first ∷ rest) zero byte option own e =
    let same : first ≡ option = cc in
    let parts = and_parts _ _ own in
    let own_bit : (is_option first.name first.name && has_bit byte first.bit || list_any (λ other. is_option other.name first.name && has_bit byte other.bit) rest) ≡ has_bit byte first.bit =
    rw ((same_option first.name first.name).1 refl, none_named first.name byte rest parts.0) (or_false (has_bit byte first.bit)) in
    subst (λ (x : CommandOption). list_any (λ other. is_option other.name x.name && has_bit byte other.bit) (first ∷ rest) ≡ has_bit byte x.bit) same own_bit
bit_asked (first ∷ rest) (suc k) byte option own e =
    let parts = and_parts _ _ own in
    let differs : is_option option.name first.name ≡ false = not_true _ (all_at (λ other. not (is_option other.name first.name)) rest k option parts.0 e) in
    rw (flipped option.name first.name differs) (bit_asked rest k byte option parts.1 e)

pub option_found : (command : Command) (k : ℕ) (option : CommandOption) → slice_get (row_of command).options k ≡ Some option → option_of command option.name ≡ Some option
unfolding option_of
option_found command k option e = row_found (row_of command).options k option (own_names command) e

pub option_asked : (command : Command) (k first : ℕ) (option : CommandOption) → slice_get (row_of command).options k ≡ Some option
    → has_option command first option.name ≡ has_bit first option.bit
unfolding has_option
option_asked command k first option e = bit_asked (row_of command).options k first option (own_names command) e
