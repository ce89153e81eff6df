-- The line of the script that a fault is of, as it is reported (own).
use Rattle.std.specs.Prelude.{ℕ, ◌-◌, List, Option, Some, None, encode_utf8_all, map, slice_get, take}
use Rattle.std.specs.Option.{option_and_then}
use Rattle.std.specs.Result.{result_err}
use Rattle.cx_script_blocks.specs.declared.faults.RunFault.{RunFault}
use Rattle.cx_script_blocks.specs.declared.faults.RunFault.TheVariants.{BadLine, BadLook, Source}
use Rattle.cx_script_blocks.specs.Shown.{printable_byte}
use Rattle.cx_script_io.specs.Lines.{lines_met}
use Rattle.cx_script_io.specs.declared.input.Ending.TheVariants.{AtEnd}
use Rattle.cx_script_main.specs.declared.program.Run.{Run}

-- the number of the line that a fault is of
abbrev pub line_of_fault : RunFault → Option ℕ
line_of_fault (BadLine line) = Some line
line_of_fault (BadLook line) = Some line
line_of_fault (Source line kind) = Some line
line_of_fault _ = None

-- that of a run's fault
abbrev pub faulty_number : Run → Option ℕ
faulty_number run = option_and_then line_of_fault (result_err run.answer)

-- the line with this number, counted from 1, of the bytes that were read
abbrev pub line_at : List ℕ → ℕ → Option (List ℕ)
line_at bytes number = slice_get (lines_met AtEnd bytes) (number - 1)

-- the line that a run's fault is of, where the bytes that were read are kept
abbrev pub faulty_line : Run → Option (List ℕ)
faulty_line run =
    option_and_then (λ number. option_and_then (λ bytes. line_at bytes number) run.read) (faulty_number run)

-- a line as it is shown: the characters of its first 4,096 bytes
abbrev pub shown_line : List ℕ → List ℕ
shown_line line = encode_utf8_all (map printable_byte (take 4096 line))
