-- Values with commas between, and signed decimals (GC33-4010, "Fixed-Point Constants -- F and H", "Decimal Constants --
-- P and Z").
use Rattle.std.specs.Prelude.{ℕ, Bool, ◌==◌, if◌then◌else◌, List, drop, slice_index}
use Rattle.std.specs.List.{slice_split}
use Rattle.std.specs.Str.{byte}
use Rattle.cx_asm_expressions.specs.Digits.{is_number}
use Rattle.cx_asm_expressions.specs.Terms.{is_sign}

-- the values between commas
abbrev pub fields : List ℕ → List (List ℕ)
fields body = slice_split (λ c. c == byte ",") body

-- a decimal without its sign
abbrev pub without_sign : List ℕ → List ℕ
without_sign field = if is_sign (slice_index field 0) then drop 1 field else field

-- a decimal, with a sign or without
abbrev pub is_decimal : List ℕ → Bool
is_decimal field = is_number 10 (without_sign field)
