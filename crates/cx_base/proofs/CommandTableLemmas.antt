-- Each command, condition and option is found by its number and by its name.
use Rattle.std.proofs.Common.{◌≡◌, ℕ, ◌==◌, ◌↔◌, Some, List, sym, ◌∙◌, ap, arith}
use Rattle.std.specs.List.{find}
use Rattle.std.specs.Str.{bytes_eq}
use Rattle.std.proofs.lemmas.Bool.{eqb-true}
use Rattle.std.proofs.lemmas.Slice.Eq.{bytes_eq-Decides}
use Rattle.cx_ebcdic.specs.Facts.Lookup.{find_passes}
use Rattle.cx_base.specs.Commands.{all_commands, command_called, command_with, row_of}
use Rattle.cx_base.specs.Conditions.{entry_of}
use Rattle.cx_base.specs.Options.{option_name}
use Rattle.cx_base.specs.Facts.Commands.{function_finds}
use Rattle.cx_base.specs.Facts.Conditions.{number_finds}
use Rattle.cx_base.specs.declared.commands.Command.{Command}
use Rattle.cx_base.specs.declared.commands.TheConstants as commands
use Rattle.cx_base.specs.declared.conditions.Condition.{Condition}
use Rattle.cx_base.specs.declared.conditions.TheConstants as conditions
use Rattle.cx_base.specs.declared.options.OptionName.{OptionName}
use Rattle.cx_base.specs.declared.options.TheConstants as options

pub found_by_function : (n : ℕ) (x : Command) → (find (λ y. (row_of y).function == n) commands.Command.ALL ≡ Some x) ↔ ((row_of x).function ≡ n)
found_by_function n x = (
  λ e. eqb-true _ _ (find_passes (λ y. (row_of y).function == n) commands.Command.ALL x e),
  λ e. ap (λ k. find (λ y. (row_of y).function == k) commands.Command.ALL) (sym e) ∙ function_finds x,
)

name_finds : (x : Command) → find (λ y. bytes_eq (row_of y).name (row_of x).name) all_commands ≡ Some x
name_finds x = grind arith

-- the two look-ups of the table of commands
pub command_by_function : (n : ℕ) (x : Command) → (command_with n ≡ Some x) ↔ ((row_of x).function ≡ n)
unfolding command_with
command_by_function = found_by_function

pub command_by_name : (t : List ℕ) (x : Command) → (command_called t ≡ Some x) ↔ ((row_of x).name ≡ t)
unfolding command_called
command_by_name t x = (
  λ e. (bytes_eq-Decides (row_of x).name t).0 (find_passes (λ y. bytes_eq (row_of y).name t) all_commands x e),
  λ e. ap (λ n. find (λ y. bytes_eq (row_of y).name n) all_commands) (sym e) ∙ name_finds x,
)

pub found_by_condition_number : (n : ℕ) (x : Condition) → (find (λ y. (entry_of y).number == n) conditions.Condition.ALL ≡ Some x) ↔ ((entry_of x).number ≡ n)
found_by_condition_number n x = (
  λ e. eqb-true _ _ (find_passes (λ y. (entry_of y).number == n) conditions.Condition.ALL x e),
  λ e. ap (λ k. find (λ y. (entry_of y).number == k) conditions.Condition.ALL) (sym e) ∙ number_finds x,
)

condition_name_finds : (x : Condition) → find (λ y. bytes_eq ((entry_of y).name) ((entry_of x).name)) conditions.Condition.ALL ≡ Some x
condition_name_finds x = grind arith

pub found_by_condition_name : (t : List ℕ) (x : Condition) → (find (λ y. bytes_eq ((entry_of y).name) t) conditions.Condition.ALL ≡ Some x) ↔ ((entry_of x).name ≡ t)
found_by_condition_name t x = (
  λ e. (bytes_eq-Decides ((entry_of x).name) t).0 (find_passes (λ y. bytes_eq ((entry_of y).name) t) conditions.Condition.ALL x e),
  λ e. ap (λ n. find (λ y. bytes_eq ((entry_of y).name) n) conditions.Condition.ALL) (sym e) ∙ condition_name_finds x,
)

option_name_finds : (x : OptionName) → find (λ y. bytes_eq (option_name y) (option_name x)) options.OptionName.ALL ≡ Some x
option_name_finds x = grind arith

pub found_by_option_name : (t : List ℕ) (x : OptionName) → (find (λ y. bytes_eq (option_name y) t) options.OptionName.ALL ≡ Some x) ↔ (option_name x ≡ t)
found_by_option_name t x = (
  λ e. (bytes_eq-Decides (option_name x) t).0 (find_passes (λ y. bytes_eq (option_name y) t) options.OptionName.ALL x e),
  λ e. ap (λ n. find (λ y. bytes_eq (option_name y) n) options.OptionName.ALL) (sym e) ∙ option_name_finds x,
)
