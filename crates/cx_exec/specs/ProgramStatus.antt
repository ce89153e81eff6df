-- What an instruction updates in the program-status word (GA22-7000, "Program-Status Word"): the instruction-length
-- code, and the address of the next instruction.
use Rattle.std.specs.Prelude.{ℕ}

pub record ProgramStatus : Type 0 where
  pub length_code : ℕ
  pub address : ℕ
