-- The instruction at an address, and what interrupts its fetch (GA22-7000, "Instruction Fetch", "Program
-- Interruption"). Of several causes the first in this order is taken (own): an odd address, a byte of its length
-- absent, a code that is in no row.
use Rattle.std.specs.Prelude.{ℕ, ◌%◌, List, ◌==◌, Option, Result, Err, if◌then◌else◌}
use Rattle.std.specs.Option.{option_and_then, ok_or}
use Rattle.cx_storage.specs.Storage.{Storage, byte_at, span}
use Rattle.cx_code.specs.Table.{length_of_code}
use Rattle.cx_code.specs.Spelling.{Instruction}
use Rattle.cx_code.specs.Reading.{reading}
use Rattle.cx_exec.specs.declared.machine.Interruption.{Interruption}
use Rattle.cx_exec.specs.declared.machine.Interruption.TheVariants as interruption

-- as many bytes as the first one says, where they are present
abbrev pub code_bytes : Storage → ℕ → Option (List ℕ)
code_bytes s a = option_and_then (λ first. span s a (length_of_code first)) (byte_at s a)

-- the bytes of the instruction at an address
unfoldable pub code_at : Storage → ℕ → Result (List ℕ) Interruption
code_at s a = if a % 2 == 1 then Err interruption.Specification else ok_or (code_bytes s a) interruption.Addressing

-- the instruction that bytes read as
unfoldable pub read_as : List ℕ → Result Instruction Interruption
read_as bytes = ok_or (reading bytes) interruption.Operation
