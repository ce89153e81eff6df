-- The line that reports a fault, and which fault an answer is (own).
use Rattle.std.specs.Prelude.{ℕ, Bool, true, false, List, ◌++◌, codes, decimal, Result, Err}
use Rattle.cx_asm_build.specs.Kinds.{kind_name}
use Rattle.cx_script_blocks.specs.declared.faults.RunFault.{RunFault}
use Rattle.cx_script_blocks.specs.declared.faults.RunFault.TheVariants.{BadLine, BadLook, Source, Read, Write, Memory, ReadBound}

-- the line on standard error that reports a fault
abbrev pub fault_line : RunFault → List ℕ
fault_line (BadLine line) = codes "cicsedf: line " ++ decimal line ++ codes ": BadLine"
fault_line (BadLook line) = codes "cicsedf: line " ++ decimal line ++ codes ": BadLook"
fault_line (Source line kind) = codes "cicsedf: line " ++ decimal line ++ codes ": " ++ kind_name kind
fault_line Read = codes "cicsedf: read"
fault_line Write = codes "cicsedf: write"
fault_line Memory = codes "cicsedf: memory"
fault_line ReadBound = codes "cicsedf: too much input"

-- whether a write failed
abbrev pub is_write : {A : Type 0} → Result A RunFault → Bool
is_write (Err Write) = true
is_write _ = false

-- whether a read failed
abbrev pub is_read : {A : Type 0} → Result A RunFault → Bool
is_read (Err Read) = true
is_read _ = false

-- whether memory was refused
abbrev pub is_memory : {A : Type 0} → Result A RunFault → Bool
is_memory (Err Memory) = true
is_memory _ = false
