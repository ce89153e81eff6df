-- Words and halfwords in storage (Principles of Operation, GA22-7000, "Information Formats" and "Integral Boundaries"):
-- the byte at the lowest address is the highest. Here they may be at any address, and go on at address 0 after the
-- last.
use Rattle.std.specs.Prelude.{ℕ, Option}
use Rattle.std.specs.Option.{option_map}
use Rattle.byteorder.specs.Endian.{big_number}
use Rattle.cx_storage.specs.Storage.{Storage, span}

-- the number in the 4 bytes from a on, and in the 2 bytes, where they are present
unfoldable pub word_at : Storage → ℕ → Option ℕ
word_at s a = option_map (big_number 4) (span s a 4)

unfoldable pub halfword_at : Storage → ℕ → Option ℕ
halfword_at s a = option_map (big_number 2) (span s a 2)
