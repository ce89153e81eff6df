-- What an argument list in storage has where it is a call's, whatever the order of the tests.
use Rattle.std.specs.Prelude.{◌≡◌, ℕ, ◌+◌, ◌*◌, ◌/◌, ◌%◌, ◌^◌, ◌<◌, ◌≤◌, ◌↔◌, ◌==◌, List, [], ◌∷◌, length, count_by, slice_get, take, Option, Some, None, is_some, IsSomeAnd, Ok, MatchBool, IsTrue, if◌then◌else◌}
use Rattle.std.specs.Option.{option_map, option_and_then}
use Rattle.cx_base.specs.declared.options.CommandOption.{CommandOption}
use Rattle.cx_base.specs.declared.legal.ListedCondition.{ListedCondition}
use Rattle.cx_base.specs.Conditions.{entry_of}
use Rattle.cx_base.specs.Commands.{row_of}
use Rattle.cx_base.specs.Legal.{is_legal, is_legal_list, lists_conditions}
use Rattle.cx_storage.specs.Storage.{Storage, span, IsSoundStorage}
use Rattle.cx_storage.specs.Address.{address_after}
use Rattle.cx_storage.specs.Word.{word_at}
use Rattle.cx_region_state.specs.Call.{Call, call_of, has_high_bit, has_label, has_resp, listed_in, place_of, resp_place}
use Rattle.cx_region_state.specs.Listed.{listed_of}
use Rattle.cx_base.specs.Arguments.{arguments_in}
use Rattle.cx_storage.specs.Address.{address_in}

-- word k of the list
abbrev pub list_word : Storage → ℕ → ℕ → Option ℕ
list_word s list k = word_at s (address_after list (4 * k))

-- n bytes, of which the first is k bytes past the address in word 0
abbrev pub bytes_of_block : Storage → ℕ → ℕ → ℕ → Option (List ℕ)
bytes_of_block s list k n = option_and_then (λ word. span s (address_after (address_in word) k) n) (word_at s list)

-- the present options that have an argument
abbrev pub arguments_of : Call → List CommandOption
arguments_of call = arguments_in (row_of call.command).options call.first

-- The argument list at an address is that of this call.
pub record IsCallAt (s : Storage) (list : ℕ) (call : Call) : Type 0 where
  -- word 0 addresses the block: the function value in two bytes, and the two option bytes
  pub block : bytes_of_block s list 0 4
      ≡ Some ((row_of call.command).function / 256 ∷ (row_of call.command).function % 256 ∷ call.first ∷ call.second
      ∷ [])
  pub options : IsTrue (is_legal call.command call.first call.second)
  -- the conditions that HANDLE and IGNORE CONDITION list follow the block
  pub conditions : MatchBool (lists_conditions call.command)
      ((option_map listed_in (bytes_of_block s list 4 (2 * call.first)) ≡ Some call.conditions)
      × IsTrue (is_legal_list call.command call.conditions))
      (call.conditions ≡ [])
  -- there is an address for each present option with an argument, for each label, and for RESP
  pub count : length call.places
      ≡ length (arguments_of call) + count_by has_label call.conditions + (if has_resp call.second then 1 else 0)
  -- word 0 and a word for each address are in storage, and the last alone has its high bit set
  pub words : (k : ℕ) → k ≤ length call.places
      → IsSomeAnd (list_word s list k) (λ word. has_high_bit word ≡ (k == length call.places))
  -- the addresses are those in the words after word 0
  pub places : (k : ℕ) → k < length call.places
      → option_map address_in (list_word s list (k + 1)) ≡ slice_get call.places k

-- a call is read exactly where the list has all that
abbrev pub CallIsRead : Type 0
CallIsRead =
    (s : Storage) (list : ℕ) (call : Call) → IsSoundStorage s → list < 2 ^ 24
    → (call_of s list ≡ Ok call) ↔ IsCallAt s list call

-- The k-th present option with an argument has the k-th address: that in word k + 1.
abbrev pub ArgumentsHavePlaces : Type 0
ArgumentsHavePlaces = (s : Storage) (list : ℕ) (call : Call) (k : ℕ) (option : CommandOption) → IsCallAt s list call
    → slice_get (arguments_of call) k ≡ Some option
    → (k < length call.places) × (place_of call option.name ≡ slice_get call.places k)
    × (place_of call option.name ≡ option_map address_in (list_word s list (k + 1)))

-- how many of the conditions before one have a label
abbrev pub labels_before : Call → ℕ → ℕ
labels_before call k = count_by has_label (take k call.conditions)

-- The k-th listed condition is the one of its number, and has its label where it says so: in the word after those of
-- the labels before it.
abbrev pub LabelsHavePlaces : Type 0
LabelsHavePlaces = (s : Storage) (list : ℕ) (call : Call) (k : ℕ) (listed : ListedCondition) → IsCallAt s list call
    → slice_get call.conditions k ≡ Some listed
    → IsSomeAnd (slice_get (listed_of call) k) (λ found. ((entry_of found.condition).number ≡ listed.number)
    × (is_some found.label ≡ has_label listed)
    × (found.label
    ≡ (if has_label listed then option_map address_in (list_word s list (labels_before call k + 1)) else None)))

-- RESP has an address exactly where it is there: it is that in the word after those of the options and of the labels,
-- the last.
abbrev pub RespHasItsPlace : Type 0
RespHasItsPlace = (s : Storage) (list : ℕ) (call : Call) → IsCallAt s list call
    → (is_some (resp_place call) ≡ has_resp call.second)
    × (resp_place call ≡ (if has_resp call.second
    then option_map address_in (list_word s list (length (arguments_of call) + count_by has_label call.conditions + 1))
    else None))
