-- Bytes of one line (own).
use Rattle.std.specs.Prelude.{◌≡◌, ◌==◌, ℕ, false, List}
use Rattle.std.specs.List.{All}

-- none of the bytes is an LF
unfoldable pub IsUnbroken : List ℕ → Type 0
IsUnbroken bytes = All (λ b. (b == 10) ≡ false) bytes
