-- Where the inputs of a call are in storage, the bytes that LENGTH measures are.
use Rattle.std.proofs.Common.{◌≡◌, ℕ, zero, suc, Bool, true, false, List, [], ◌∷◌, refl, ap, sym, ◌∙◌, slice_get, get_or, Option, Some, None, is_some, inl, inr, ◌<◌, ◌≤◌, ◌^◌, nat_lt, arith}
use Rattle.std.specs.Prelude.{◌&&◌}
use Rattle.std.specs.Option.{option_map, option_and_then}
use Rattle.std.specs.List.{AllByRecursion, filter, list_all, position}
use Rattle.std.proofs.lemmas.Bool.{cases_Bool, ltb-true}
use Rattle.std.proofs.lemmas.List.Quantifiers.{position-Some}
use Rattle.std.proofs.lemmas.Option.{slice_get-get_or}
use Rattle.cx_base.specs.declared.commands.Command.{Command}
use Rattle.cx_base.specs.declared.commands.Command.TheVariants as command
use Rattle.cx_base.specs.declared.options.CommandOption.{CommandOption}
use Rattle.cx_base.specs.declared.options.ArgumentKind.TheVariants.{BytesRead, Flag, Halfword, HalfwordOutWithoutRewrite, Name4, Name8}
use Rattle.cx_base.specs.declared.options.OptionName.{OptionName}
use Rattle.cx_base.specs.declared.options.OptionName.TheVariants.{Auxiliary, Commarea, Erase, Freekb, From, Item, Length, Main, Nosuspend, Program, Queue, Rewrite, Transid}
use Rattle.cx_base.specs.Options.{is_option}
use Rattle.cx_base.specs.Arguments.{bytes_of_length, argument_index, arguments_in, input_len, is_argument}
use Rattle.cx_base.specs.Commands.{optional_option, required_option, row_of}
use Rattle.cx_storage.specs.Storage.{Storage}
use Rattle.cx_region_state.specs.Call.{Call, place_of}
use Rattle.cx_region_state.specs.Inputs.{halfword_of, are_inputs_there, bytes_of, input_of, length_option, piece_bytes, piece_of}
use Rattle.cx_region_state.specs.declared.inputs.StorageSpan.{StorageSpan}

-- the options of this name have bytes that LENGTH measures
unfoldable pub IsMeasuredInput : Command → OptionName → Type 0
IsMeasuredInput command name = (j : ℕ) (option : CommandOption) → slice_get (row_of command).options j ≡ Some option
    → is_option option.name name ≡ true → (option.name ≡ name) × (option.kind ≡ BytesRead)

first_of : (a b : Bool) → (a && b) ≡ true → a ≡ true
first_of true b e = refl
first_of false b e = cc

-- an option of a row that passes a test
record Passing (options : List CommandOption) (name : OptionName) (test : CommandOption → Bool) : Type 0 where
  option : CommandOption
  at : ℕ
  is : slice_get options at ≡ Some option
  named : is_option option.name name ≡ true
  passes : test option ≡ true

all_at : (test : CommandOption → Bool) (xs : List CommandOption) (k : ℕ) (x : CommandOption) → list_all test xs ≡ true → slice_get xs k ≡ Some x → test x ≡ true
all_at test [] k x all e = cc
all_at test (y ∷ ys) zero x all e = elim (cases_Bool (test y)) [
  | inl t ↦ let same : y ≡ x = cc in ap test (sym same) ∙ t
  | inr f ↦ let never = rw f at all in cc
]
all_at test (y ∷ ys) (suc k) x all e = elim (cases_Bool (test y)) [
  | inl t ↦ all_at test ys k x (rw t at all) e
  | inr f ↦ let never = rw f at all in cc
]

-- an element of a filtered list is one of the list
in_filter : (test : CommandOption → Bool) (xs : List CommandOption) (k : ℕ) (x : CommandOption) → slice_get (filter test xs) k ≡ Some x
    → (j : ℕ) × (slice_get xs j ≡ Some x)
in_filter test [] k x e = cc
in_filter test (y ∷ ys) k x e = elim (cases_Bool (test y)) [
  | inl t ↦ go k (rw t at e) (λ k f. in_filter test ys k x f)
  | inr f ↦ let rest = in_filter test ys k x (rw f at e) in (suc rest.0, rest.1)
]
  where
    go : (k : ℕ) → slice_get (y ∷ filter test ys) k ≡ Some x → ((k : ℕ) → slice_get (filter test ys) k ≡ Some x → (j : ℕ) × (slice_get ys j ≡ Some x))
        → (j : ℕ) × (slice_get (y ∷ ys) j ≡ Some x)
    go zero e later = (zero, e)
    go (suc k) e later = let rest = later k e in (suc rest.0, rest.1)

there_at : {A : Type 0} (o : Option A) (f : A → Option ℕ) (x : ℕ) → option_and_then f o ≡ Some x → (y : A) × (o ≡ Some y)
there_at None f x e = cc
there_at (Some y) f x e = (y, refl)

-- an option whose argument has an address is one of its command's row, and what the command reads there is in storage
argument_found : (s : Storage) (call : Call) (name : OptionName) (place : ℕ) → are_inputs_there s call ≡ true → place_of call name ≡ Some place
    → Passing (row_of call.command).options name (λ option. is_some (input_of s call option))
unfolding are_inputs_there place_of argument_index arguments_in
argument_found s call name place all e =
    let index = there_at (position (λ option. is_option option.name name) (filter (is_argument call.first) (row_of call.command).options)) (slice_get call.places) place e in
    found (filter (is_argument call.first) (row_of call.command).options) index.0 refl index.1 (first_of _ _ all)
  where
    found : (args : List CommandOption) (k : ℕ) → filter (is_argument call.first) (row_of call.command).options ≡ args
        → position (λ option. is_option option.name name) (filter (is_argument call.first) (row_of call.command).options) ≡ Some k
        → list_all (λ option. is_some (input_of s call option)) (filter (is_argument call.first) (row_of call.command).options) ≡ true
        → Passing (row_of call.command).options name (λ option. is_some (input_of s call option))
    found [] k is first tests = let never = rw is at first in cc
    found (arg ∷ args) k is first tests =
        let here = position-Some (λ option. is_option option.name name) (arg ∷ args) k arg (rw is at first) in
        let at : slice_get (arg ∷ args) k ≡ Some (get_or (arg ∷ args) k arg) = slice_get-get_or (arg ∷ args) k arg here.0 in
        let row = in_filter (is_argument call.first) (row_of call.command).options k (get_or (arg ∷ args) k arg) (rw is at) in
        record {
          option = get_or (arg ∷ args) k arg;
          at = row.0;
          is = row.1;
          named = here.1;
          passes = all_at (λ option. is_some (input_of s call option)) (arg ∷ args) k (get_or (arg ∷ args) k arg) (rw is at tests) at;
        }

piece_place : (s : Storage) (call : Call) (name : OptionName) (piece : StorageSpan) → piece_of s call name ≡ Some piece
    → (place_of call name ≡ Some piece.place) × (piece.len ≡ length_option s call)
unfolding piece_of
piece_place s call name piece e = go (place_of call name) e
  where
    go : (o : Option ℕ) → option_map (λ place. record { place = place; len = length_option s call }) o ≡ Some piece → (o ≡ Some piece.place) × (piece.len ≡ length_option s call)
    go None e = cc
    go (Some place) e =
        let same : record { place = place; len = length_option s call } ≡ piece = cc in
        (ap (λ (p : StorageSpan). Some p.place) same, ap (λ (p : StorageSpan). p.len) (sym same))

few_bytes : (o : Option ℕ) → bytes_of_length o ≤ 32767
few_bytes None = omega arith
few_bytes (Some halfword) = elim (cases_Bool (nat_lt halfword (2 ^ 15))) [
  | inl t ↦ let less = ltb-true _ _ t in rw t (omega (arith, less))
  | inr f ↦ rw f (omega arith)
]

-- a piece that LENGTH measures has at most 32,767 bytes
pub piece_few : (s : Storage) (call : Call) (name : OptionName) (piece : StorageSpan) → piece_of s call name ≡ Some piece → piece.len ≤ 32767
unfolding length_option
piece_few s call name piece e =
    let parts = piece_place s call name piece e in
    let few = few_bytes (halfword_of s call Length) in
    rw (parts.1) few

-- the address of a call's argument is one of its addresses
pub place_below : (call : Call) (name : OptionName) (place : ℕ) → AllByRecursion (λ place. place < 2 ^ 24) call.places → place_of call name ≡ Some place
    → place < 2 ^ 24
unfolding place_of
place_below call name place all e = go (argument_index call.command call.first name) e
  where
    at : (places : List ℕ) (k : ℕ) → AllByRecursion (λ place. place < 2 ^ 24) places → slice_get places k ≡ Some place → place < 2 ^ 24
    at [] k all e = cc
    at (first ∷ rest) zero all e = let same : first ≡ place = cc in rw (← same) all.0
    at (first ∷ rest) (suc k) all e = at rest k all.1 e

    go : (o : Option ℕ) → option_and_then (slice_get call.places) o ≡ Some place → place < 2 ^ 24
    go None e = cc
    go (Some k) e = at call.places k all e

pub piece_below : (s : Storage) (call : Call) (name : OptionName) (piece : StorageSpan) → AllByRecursion (λ place. place < 2 ^ 24) call.places
    → piece_of s call name ≡ Some piece → piece.place < 2 ^ 24
piece_below s call name piece all e = place_below call name piece.place all (piece_place s call name piece e).0

pub measured_there : (s : Storage) (call : Call) (name : OptionName) (piece : StorageSpan) → are_inputs_there s call ≡ true
    → IsMeasuredInput call.command name → piece_of s call name ≡ Some piece → is_some (piece_bytes s piece) ≡ true
unfolding IsMeasuredInput input_of bytes_of length_option input_len
measured_there s call name piece all row e =
    let parts = piece_place s call name piece e in
    let passing = argument_found s call name piece.place all parts.0 in
    let same = row passing.at passing.option passing.is passing.named in
    let passes = rw (same.0, same.1, parts.0) at passing.passes in
    rw (parts.1) passes

-- ---- the rows with such an option

false_true : false ≡ true → ⊥
false_true e = cc

none_some : {X : Type 0} {x : X} → None ≡ Some x → ⊥
none_some e = cc

one_of : (o option : CommandOption) (name : OptionName) → Some o ≡ Some option → (o.name ≡ name) × (o.kind ≡ BytesRead) → (option.name ≡ name) × (option.kind ≡ BytesRead)
one_of o option name is e = let same : o ≡ option = cc in rw (← same) e

no_other : (o option : CommandOption) (name : OptionName) → Some o ≡ Some option → is_option o.name name ≡ false → is_option option.name name ≡ true
    → (option.name ≡ name) × (option.kind ≡ BytesRead)
no_other o option name is f named =
    let same : o ≡ option = cc in
    let true_there : is_option o.name name ≡ true = ap (λ (x : CommandOption). is_option x.name name) same ∙ named in
    let never : false ≡ true = sym f ∙ true_there in absurd (false_true never)

pub from_of_send_text : IsMeasuredInput command.SendText From
unfolding IsMeasuredInput
from_of_send_text zero option is named = one_of (required_option 0x80 From BytesRead) option From is (refl, refl)
from_of_send_text (suc zero) option is named = no_other (required_option 0x40 Length Halfword) option From is refl named
from_of_send_text (suc (suc zero)) option is named = no_other (optional_option 0x20 Erase Flag) option From is refl named
from_of_send_text (suc (suc (suc zero))) option is named = no_other (optional_option 0x10 Freekb Flag) option From is refl named
from_of_send_text (suc (suc (suc (suc j)))) option is named = absurd (none_some is)

pub from_of_writeq_ts : IsMeasuredInput command.WriteqTs From
unfolding IsMeasuredInput
from_of_writeq_ts zero option is named = no_other (required_option 0x80 Queue Name8) option From is refl named
from_of_writeq_ts (suc zero) option is named = one_of (required_option 0x40 From BytesRead) option From is (refl, refl)
from_of_writeq_ts (suc (suc zero)) option is named = no_other (required_option 0x20 Length Halfword) option From is refl named
from_of_writeq_ts (suc (suc (suc zero))) option is named = no_other (optional_option 0x10 Main Flag) option From is refl named
from_of_writeq_ts (suc (suc (suc (suc zero)))) option is named = no_other (optional_option 0x08 Auxiliary Flag) option From is refl named
from_of_writeq_ts (suc (suc (suc (suc (suc zero))))) option is named = no_other (optional_option 0x04 Nosuspend Flag) option From is refl named
from_of_writeq_ts (suc (suc (suc (suc (suc (suc zero)))))) option is named = no_other (optional_option 0x02 Item HalfwordOutWithoutRewrite) option From is refl named
from_of_writeq_ts (suc (suc (suc (suc (suc (suc (suc zero))))))) option is named = no_other (optional_option 0x01 Rewrite Flag) option From is refl named
from_of_writeq_ts (suc (suc (suc (suc (suc (suc (suc (suc j)))))))) option is named = absurd (none_some is)

pub commarea_of_xctl : IsMeasuredInput command.Xctl Commarea
unfolding IsMeasuredInput
commarea_of_xctl zero option is named = no_other (required_option 0x80 Program Name8) option Commarea is refl named
commarea_of_xctl (suc zero) option is named = one_of (optional_option 0x40 Commarea BytesRead) option Commarea is (refl, refl)
commarea_of_xctl (suc (suc zero)) option is named = no_other (optional_option 0x20 Length Halfword) option Commarea is refl named
commarea_of_xctl (suc (suc (suc j))) option is named = absurd (none_some is)

pub commarea_of_return : IsMeasuredInput command.Return Commarea
unfolding IsMeasuredInput
commarea_of_return zero option is named = no_other (optional_option 0x80 Transid Name4) option Commarea is refl named
commarea_of_return (suc zero) option is named = one_of (optional_option 0x40 Commarea BytesRead) option Commarea is (refl, refl)
commarea_of_return (suc (suc zero)) option is named = no_other (optional_option 0x20 Length Halfword) option Commarea is refl named
commarea_of_return (suc (suc (suc j))) option is named = absurd (none_some is)
