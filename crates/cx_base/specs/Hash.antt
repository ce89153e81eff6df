-- A hash of numbers (this product's own): the digits of a number to a fixed base, modulo 2^64.
use Rattle.std.specs.Prelude.{ℕ, ◌+◌, ◌*◌, ◌%◌, ◌^◌, List, fold}

-- the hash with one number more
unfoldable pub hash_with : ℕ → ℕ → ℕ
hash_with hash number = (hash * 0x9E3779B97F4A7C15 % 2 ^ 64 + number) % 2 ^ 64

-- the hash with the numbers of a list, one after the other
unfoldable pub hash_of : ℕ → List ℕ → ℕ
hash_of hash numbers = fold hash_with hash numbers
