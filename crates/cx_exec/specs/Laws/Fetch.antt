-- What is fetched of a spelled instruction: that instruction.
use Rattle.std.specs.Prelude.{◌≡◌, ℕ, ◌%◌, List, length, Some, Ok}
use Rattle.cx_storage.specs.Storage.{Storage, span}
use Rattle.cx_code.specs.Spelling.{Instruction, Spells}
use Rattle.cx_exec.specs.Fetch.{code_at, read_as}

-- at an even address, with all bytes present, an instruction that is spelled there is fetched, and read as itself
abbrev pub SpelledIsFetched : Type 0
SpelledIsFetched =
    (s : Storage) (a : ℕ) (i : Instruction) (bytes : List ℕ) → a % 2 ≡ 0 → Spells i bytes
    → span s a (length bytes) ≡ Some bytes
    → (code_at s a ≡ Ok bytes) × (read_as bytes ≡ Ok i)
