-- Each row of the table of commands is well formed, row by row by computation.
use Rattle.std.proofs.Common.{◌≡◌, ◌≤◌, Bool, length, nat_le, true, IsTrue, refl}
use Rattle.std.specs.Prelude.{◌&&◌}
use Rattle.std.proofs.lemmas.Bool.{leb-true}
use Rattle.cx_base.specs.Commands.{Row, row_of}
use Rattle.cx_base.specs.Facts.Commands.{each_command}
use Rattle.cx_base.specs.Laws.Rows.{have_own_bits, has_own_bits, have_own_names, measured_have_length, rules_name_options}
use Rattle.cx_base.specs.declared.commands.Command.{Command}

abbrev is_sound : Row → Bool
is_sound r =
    has_own_bits r.options && (have_own_bits r.options && (rules_name_options r.options r.rules
    && (have_own_names r.options && measured_have_length r.options r.rules)))

sound : (c : Command) → is_sound (row_of c) ≡ true
sound = each_command (λ c. is_sound (row_of c)) refl

each : (a b c d e : Bool) → (a && (b && (c && (d && e)))) ≡ true → (a ≡ true) × (b ≡ true) × (c ≡ true) × (d ≡ true) × (e ≡ true)
each true true true true true h = (refl, refl, refl, refl, refl)
each _ _ _ _ _ h = absurd (cc)

parts : (c : Command) → IsTrue (has_own_bits (row_of c).options) × IsTrue (have_own_bits (row_of c).options)
    × IsTrue (rules_name_options (row_of c).options (row_of c).rules) × IsTrue (have_own_names (row_of c).options)
    × IsTrue (measured_have_length (row_of c).options (row_of c).rules)
parts c =
    each (has_own_bits (row_of c).options) (have_own_bits (row_of c).options) (rules_name_options (row_of c).options (row_of c).rules)
    (have_own_names (row_of c).options) (measured_have_length (row_of c).options (row_of c).rules) (sound c)

pub own_bits : (c : Command) → IsTrue (has_own_bits (row_of c).options)
own_bits c = (parts c).0

pub apart : (c : Command) → IsTrue (have_own_bits (row_of c).options)
apart c = (parts c).1

pub rules_speak : (c : Command) → IsTrue (rules_name_options (row_of c).options (row_of c).rules)
rules_speak c = (parts c).2

pub own_names : (c : Command) → IsTrue (have_own_names (row_of c).options)
own_names c = (parts c).3

pub lengths : (c : Command) → IsTrue (measured_have_length (row_of c).options (row_of c).rules)
lengths c = (parts c).4

-- a command has at most as many options as a byte has bits
pub few : (c : Command) → length (row_of c).options ≤ 8
few c = leb-true _ _ (each_command (λ x. nat_le (length (row_of x).options) 8) refl c)
