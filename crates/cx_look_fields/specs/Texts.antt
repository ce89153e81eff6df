-- What is written of a field's number (own).
use Rattle.std.specs.Prelude.{ℕ, Option, List, [], ◌++◌, codes}
use Rattle.std.specs.Fmt.{signed_decimal}
use Rattle.std.specs.Option.{option_map_or}
use Rattle.cx_look_fields.specs.Numbers.{number_as_read}
use Rattle.cx_look_fields.specs.declared.readings.Reading.{Reading}
use Rattle.cx_look_fields.specs.declared.readings.Reading.TheVariants.{Zoned}

-- the words before it: the value of F, H and P, and what characters are as a zoned number
abbrev pub reading_word : Reading → List ℕ
reading_word Zoned = codes " ZONED "
reading_word _ = codes " VALUE "

-- nothing where the bytes are no number
abbrev pub number_text : List ℕ → Reading → List ℕ
number_text bytes reading =
    option_map_or (λ number. reading_word reading ++ signed_decimal number) (number_as_read reading bytes) []

unfoldable pub value_text : Option Reading → List ℕ → List ℕ
value_text reading bytes = option_map_or (number_text bytes) reading []
