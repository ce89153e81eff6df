-- Addresses (Principles of Operation, GA22-7000, "Storage Addressing" and "Address Generation"): numbers below 2^24,
-- which go on at 0 after the last.
use Rattle.std.specs.Prelude.{ℕ, ◌+◌, ◌-◌, ◌%◌, ◌^◌}

-- the address in a word: its bits 8 to 31
abbrev pub address_in : ℕ → ℕ
address_in word = word % 2 ^ 24

-- the address k bytes after a
abbrev pub address_after : ℕ → ℕ → ℕ
address_after a k = address_in (a + k)

-- how many bytes after a the address x comes
abbrev pub distance : ℕ → ℕ → ℕ
distance a x = address_in (x + (2 ^ 24 - a))
