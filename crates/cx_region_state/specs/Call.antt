-- A command's argument list, read as a call (Application Programmer's Reference Manual, SC33-0077, the expansion of
-- a command; the list's layout and the order of the tests are this product's own).
use Rattle.std.specs.Prelude.{ℕ, ◌+◌, ◌-◌, ◌*◌, ◌^◌, zero, suc, Bool, true, false, nat_le, ◌==◌, List, [], ◌∷◌, length, map, drop, count_by, slice_get, slice_index, Option, Some, None, Result, Ok, Err, if◌then◌else◌}
use Rattle.std.specs.Option.{option_map, option_and_then, ok_or}
use Rattle.std.specs.List.{position_or_len}
use Rattle.cx_base.specs.declared.commands.Command.{Command}
use Rattle.cx_base.specs.declared.legal.ListedCondition.{ListedCondition}
use Rattle.cx_base.specs.declared.options.CommonOption.TheVariants.{Nohandle, Resp}
use Rattle.cx_base.specs.declared.options.OptionName.{OptionName}
use Rattle.cx_base.specs.Arguments.{argument_index, arguments_in}
use Rattle.cx_base.specs.Commands.{command_with, row_of}
use Rattle.cx_base.specs.Options.{common_of}
use Rattle.cx_base.specs.Legal.{has_bit, is_legal, is_legal_list, lists_conditions}
use Rattle.cx_storage.specs.Storage.{Storage, span}
use Rattle.cx_storage.specs.Address.{address_in, address_after}
use Rattle.cx_storage.specs.Word.{word_at}
use Rattle.cx_region_state.specs.declared.call.CallFault.{CallFault}
use Rattle.cx_region_state.specs.declared.call.CallFault.TheVariants.{Xarg, Xfun}

-- A command as its argument list gives it: option byte 1 (the options, or the number of listed conditions), option
-- byte 2, the conditions that HANDLE and IGNORE CONDITION list, and the addresses of the arguments, RESP's last.
pub record Call : Type 0 where
  pub command : Command
  pub first : ℕ
  pub second : ℕ
  pub conditions : List ListedCondition
  pub places : List ℕ

-- the address of an option's argument, where the call has the option and that an argument
unfoldable pub place_of : Call → OptionName → Option ℕ
place_of call name = option_and_then (slice_get call.places) (argument_index call.command call.first name)

-- the call has RESP, or NOHANDLE
abbrev pub has_resp : ℕ → Bool
has_resp second = has_bit second (common_of Resp).bit

abbrev pub has_nohandle : ℕ → Bool
has_nohandle second = has_bit second (common_of Nohandle).bit

-- the address of RESP's word, the last one, where RESP is there
unfoldable pub resp_place : Call → Option ℕ
resp_place call = if has_resp call.second then slice_get call.places (length call.places - 1) else None

-- ---- reading

-- bit 0 of a word
abbrev pub has_high_bit : ℕ → Bool
has_high_bit word = nat_le (2 ^ 31) word

abbrev pub then_result : {A B : Type 0} → Result A CallFault → (A → Result B CallFault) → Result B CallFault
then_result (Ok x) f = f x
then_result (Err fault) f = Err fault

-- the value, where it passes the test, else the fault
abbrev pub only_if : {A : Type 0} → Bool → A → CallFault → Result A CallFault
only_if true x fault = Ok x
only_if false x fault = Err fault

-- the block: its address, the function value in two bytes, and the two option bytes
pub record ArgumentBlock : Type 0 where
  pub place : ℕ
  pub function : ℕ
  pub first : ℕ
  pub second : ℕ

abbrev pub block_from : ℕ → List ℕ → ArgumentBlock
block_from place bytes =
    record {
      place = place;
      function = slice_index bytes 0 * 256 + slice_index bytes 1;
      first = slice_index bytes 2;
      second = slice_index bytes 3;
    }

-- the block at the address in word 0
unfoldable pub block_of : Storage → ℕ → Result ArgumentBlock CallFault
block_of s list =
    ok_or (option_and_then (λ word. option_map (block_from (address_in word)) (span s (address_in word) 4))
    (word_at s list)) Xarg

-- the block's command, with legal option bytes
unfoldable pub command_of : ArgumentBlock → Result Command CallFault
command_of block = then_result (ok_or (command_with block.function) Xfun) (λ command.
    only_if (is_legal command block.first block.second) command Xfun)

-- two bytes for each condition: its number, and 80 where it has a label
abbrev pub listed_in : List ℕ → List ListedCondition
listed_in (number ∷ label ∷ rest) = record { number = number; label = label } ∷ listed_in rest
listed_in _ = []

-- the conditions listed in the bytes after the block, as many as option byte 1 says; other commands list none
unfoldable pub conditions_of : Storage → Command → ArgumentBlock → Result (List ListedCondition) CallFault
conditions_of s command block =
    if lists_conditions command
    then then_result (ok_or (span s (address_after block.place 4) (2 * block.first)) Xarg) (λ bytes.
    only_if (is_legal_list command (listed_in bytes)) (listed_in bytes) Xfun)
    else Ok []

abbrev pub has_label : ListedCondition → Bool
has_label listed = listed.label == 0x80

-- how many arguments there are: one for each present option that has one, one for each label, and RESP's
unfoldable pub argument_count : Command → ArgumentBlock → List ListedCondition → ℕ
argument_count command block conditions =
    length (arguments_in (row_of command).options block.first) + count_by has_label conditions
    + (if has_resp block.second then 1 else 0)

-- the n words from a on, where all of them are in storage
unfoldable pub words_from : Storage → ℕ → ℕ → Option (List ℕ)
words_from s a zero = Some []
words_from s a (suc n) =
    option_and_then (λ word. option_map (λ words. word ∷ words) (words_from s (address_after a 4) n)) (word_at s a)

-- the first word that has its high bit set is the last one
unfoldable pub marks_last_alone : List ℕ → Bool
marks_last_alone words = position_or_len has_high_bit words + 1 == length words

-- the addresses of n arguments: in the words after word 0, the last of which alone has its high bit set
unfoldable pub places_of : Storage → ℕ → ℕ → Result (List ℕ) CallFault
places_of s list n = then_result (ok_or (words_from s list (1 + n)) Xarg) (λ words.
    only_if (marks_last_alone words) (map address_in (drop 1 words)) Xarg)

-- The call whose argument list is at an address. The tests come in this order: word 0 and the block are in storage,
-- else XARG; a command has the function value, and the options are a legal set, else XFUN; the conditions listed are
-- in storage, else XARG, and legal, else XFUN; as many words as there are arguments are in storage, and the last
-- alone has its high bit set, else XARG.
unfoldable pub call_of : Storage → ℕ → Result Call CallFault
call_of s list =
    then_result (block_of s list) (λ block.
    then_result (command_of block) (λ command.
    then_result (conditions_of s command block) (λ conditions.
    then_result (places_of s list (argument_count command block conditions)) (λ places.
    Ok (record {
      command = command;
      first = block.first;
      second = block.second;
      conditions = conditions;
      places = places;
    })))))
