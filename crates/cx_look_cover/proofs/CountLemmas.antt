-- Addresses by their lowest digits.
use Rattle.std.proofs.Common.{◌≡◌, ℕ, ◌+◌, arith}
use Rattle.std.specs.Prelude.{◌%◌}

pub address_low : (at offset : ℕ) → (at % 16777216 + offset % 16777216) % 16777216 ≡ (at + offset) % 16777216
address_low at offset = omega arith
