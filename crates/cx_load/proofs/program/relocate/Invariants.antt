use Rattle.std.proofs.Common.{◌≡◌, length, drop}
use Rattle.cx_load.specs.Relocation.{relocated_text}
use Rattle.cx_load.proofs.program.relocate.Given as goal

-- the words so far are raised, and the bytes are as many as before
abbrev pub invariant-loop-r : goal.invariant-loop-r
invariant-loop-r l =
    record {
      raised : relocated_text l.at (drop l.r-index l.relocs) l.bytes ≡ relocated_text l.at l.relocs l.fn.bytes;
      size : length l.bytes ≡ length l.fn.bytes;
    }
