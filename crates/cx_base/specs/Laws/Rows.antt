-- What holds of each row of the table of commands.
use Rattle.std.specs.Prelude.{ℕ, Bool, true, false, ◌&&◌, ◌||◌, not, ◌==◌, List, [], ◌∷◌}
use Rattle.std.specs.List.{list_all, list_any}
use Rattle.cx_base.specs.declared.options.CommandOption.{CommandOption}
use Rattle.cx_base.specs.declared.options.Rule.{Rule}
use Rattle.cx_base.specs.declared.options.Rule.TheVariants.{Together, NotBoth, Needs, OneOfTwo, OneOfThree}
use Rattle.cx_base.specs.declared.options.ArgumentKind.{ArgumentKind}
use Rattle.cx_base.specs.declared.options.ArgumentKind.TheVariants.{BytesRead, BytesWritten}
use Rattle.cx_base.specs.declared.options.OptionName.TheVariants.{Length}
use Rattle.cx_base.specs.Options.{is_option}
use Rattle.cx_base.specs.Legal.{bits_of_byte}

-- each option has one bit of a byte
abbrev pub has_own_bits : List CommandOption → Bool
has_own_bits options = list_all (λ option. list_any (λ bit. bit == option.bit) bits_of_byte) options

-- no two options have one bit
abbrev pub have_own_bits : List CommandOption → Bool
have_own_bits [] = true
have_own_bits (option ∷ rest) = list_all (λ other. not (other.bit == option.bit)) rest && have_own_bits rest

-- the bits that a rule speaks of
abbrev pub bits_of_rule : Rule → List ℕ
bits_of_rule (Together a b) = a ∷ b ∷ []
bits_of_rule (NotBoth a b) = a ∷ b ∷ []
bits_of_rule (Needs a b) = a ∷ b ∷ []
bits_of_rule (OneOfTwo a b) = a ∷ b ∷ []
bits_of_rule (OneOfThree a b c) = a ∷ b ∷ c ∷ []

-- each rule speaks of bits of these options
abbrev pub rules_name_options : List CommandOption → List Rule → Bool
rules_name_options options rules =
    list_all (λ rule. list_all (λ bit. list_any (λ option. option.bit == bit) options) (bits_of_rule rule)) rules

-- no two options have one name
abbrev pub have_own_names : List CommandOption → Bool
have_own_names [] = true
have_own_names (option ∷ rest) = list_all (λ other. not (is_option other.name option.name)) rest && have_own_names rest

-- bytes that a command reads or writes, as many as LENGTH says
abbrev pub is_measured : ArgumentKind → Bool
is_measured BytesRead = true
is_measured BytesWritten = true
is_measured _ = false

-- a rule says of two bits that both are there or neither
abbrev pub stands_together : ℕ → ℕ → Rule → Bool
stands_together one other (Together a b) = (a == one) && (b == other)
stands_together one other _ = false

-- LENGTH is required, or a rule has it given together with the option
abbrev pub has_length_beside : List CommandOption → List Rule → CommandOption → Bool
has_length_beside options rules option =
    list_any (λ other. is_option other.name Length
    && (other.required || list_any (stands_together option.bit other.bit) rules)) options

-- each option with bytes that LENGTH measures has LENGTH beside it
abbrev pub measured_have_length : List CommandOption → List Rule → Bool
measured_have_length options rules =
    list_all (λ option. not (is_measured option.kind) || has_length_beside options rules option) options
