-- The program's status (own).
use Rattle.std.specs.Prelude.{ℕ, Result, Ok, Err}
use Rattle.cx_script_blocks.specs.declared.faults.RunFault.{RunFault}
use Rattle.cx_script_blocks.specs.declared.faults.RunFault.TheVariants.{BadLine, BadLook, Source, Read, Write, Memory, ReadBound}
use Rattle.cx_script_blocks.specs.declared.faults.Summary.{Summary}

-- 0; a fault in the script; a device's, or too much input; memory
abbrev pub status_of : Result Summary RunFault → ℕ
status_of (Ok summary) = 0
status_of (Err (BadLine line)) = 1
status_of (Err (BadLook line)) = 1
status_of (Err (Source line kind)) = 1
status_of (Err Read) = 3
status_of (Err Write) = 3
status_of (Err ReadBound) = 3
status_of (Err Memory) = 4
