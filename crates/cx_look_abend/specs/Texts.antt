-- ABEND: a terminal's last abend (own).
use Rattle.std.specs.Prelude.{ℕ, List, [], ◌∷◌, ◌++◌, take, codes, get_or, slice_index, Option, None, is_some, unwrap_or, if◌then◌else◌}
use Rattle.std.specs.List.{flat_map, list_all}
use Rattle.std.specs.Map.{lookup}
use Rattle.std.specs.Option.{option_and_then, option_map_or}
use Rattle.cx_code.specs.Table.{length_of_code}
use Rattle.cx_base.specs.Commands.{row_of}
use Rattle.cx_base.specs.Conditions.{entry_of}
use Rattle.cx_exec.specs.declared.machine.Interruption.TheVariants as interruption
use Rattle.cx_load.specs.declared.program.Loaded.{Loaded}
use Rattle.cx_storage.specs.Address.{address_in}
use Rattle.cx_region_task.specs.declared.cause.Cause.{Cause}
use Rattle.cx_region_task.specs.declared.cause.Cause.TheVariants as cause
use Rattle.cx_ebcdic.specs.Names.{is_name}
use Rattle.cx_base.specs.Digits.{digits}
use Rattle.cx_base.specs.Texts.{shown_text, shown_name}
use Rattle.cx_look_lines.specs.Registers.{register_lines}
use Rattle.cx_look_lines.specs.Words.{Lines, look_line}
use Rattle.cx_look_symbols.specs.Places.{address_word, place_at_address, place_word, spot_before}
use Rattle.cx_look_symbols.specs.Sources.{Sources, led_by, statement_at}
use Rattle.cx_look_abend.specs.Abends.{is_of_instruction}
use Rattle.cx_look_abend.specs.Noting.{KeptAbends}
use Rattle.cx_look_abend.specs.Dumps.{Dump, dump_lines, field_lines}
use Rattle.cx_look_abend.specs.declared.abends.Caller.{Caller}
use Rattle.cx_look_abend.specs.declared.abends.LastAbend.{LastAbend}
use Rattle.cx_look_abend.specs.declared.abends.Explanation.{Explanation}
use Rattle.cx_look_abend.specs.declared.abends.KeptTask.{KeptTask}

-- ---- why: of an interruption its code and its name
abbrev pub cause_word : Cause → List ℕ
cause_word (cause.Interrupted interruption.Operation) = codes "INTERRUPTION 1 OPERATION"
cause_word (cause.Interrupted interruption.Execute) = codes "INTERRUPTION 3 EXECUTE"
cause_word (cause.Interrupted interruption.Addressing) = codes "INTERRUPTION 5 ADDRESSING"
cause_word (cause.Interrupted interruption.Specification) = codes "INTERRUPTION 6 SPECIFICATION"
cause_word (cause.Interrupted interruption.Data) = codes "INTERRUPTION 7 DATA"
cause_word (cause.Interrupted interruption.FixedPointDivide) = codes "INTERRUPTION 9 FIXED-POINT DIVIDE"
cause_word cause.Limit = codes "LIMIT"
cause_word (cause.Refused abend) = codes "REFUSED"
cause_word (cause.Met condition) = codes "CONDITION " ++ (entry_of condition).name
cause_word cause.Asked = codes "ASKED BY PROGRAM"

-- ---- where
-- the bytes of the instruction there, as many as its first one says; hyphens where one of them isn't in storage
abbrev pub byte_digits : Option ℕ → List ℕ
byte_digits byte = digits 16 2 (unwrap_or byte 0)

unfoldable pub instruction_word : List (Option ℕ) → List ℕ
instruction_word bytes =
    option_map_or
    (λ code.
    let there = take (length_of_code code) bytes in
    if list_all is_some there then flat_map byte_digits there else codes "--")
    (get_or bytes 0 None) (codes "--")

-- ---- lines
-- of an interruption or the limit: the next address, and the instruction there
abbrev pub next_line : Sources → Explanation → Lines
next_line sources it =
    look_line
    (codes "NEXT" ∷ place_word sources.places it.place ∷ codes "INSTRUCTION"
    ∷ instruction_word it.abend_record.bytes ∷ [])

-- the arguments of a command that was refused
abbrev pub argument_lines : Cause → Lines → Lines
argument_lines (cause.Refused abend) arguments = arguments
argument_lines _ arguments = []

-- of a command: its name, the address of its argument list, and the line of its EXEC, which has the byte before R14's
-- address, with its text; and that address, where the program would go on after it
abbrev pub abend_command_lines : Sources → Explanation → Lines
abend_command_lines sources it =
    look_line
    (codes "COMMAND" ∷ option_map_or (λ command. (row_of command).name) it.abend_record.command (codes "?")
    ∷ codes "LIST" ∷ (digits 16 6 (address_in (slice_index it.abend_record.regs 1))
    ++ led_by (codes " LINE ") (statement_at sources it.before)) ∷ [])
    ++ argument_lines it.abend_record.cause it.arguments ++ look_line (codes "R14" ∷ address_word it.place ∷ [])

-- where the program was, its registers, and its condition code
unfoldable pub explanation_lines : Sources → Explanation → Lines
explanation_lines sources it =
    (if is_of_instruction it.abend_record.cause then next_line sources it else abend_command_lines sources it)
    ++ register_lines it.abend_record.regs ++ look_line (codes "CC" ∷ digits 10 1 it.abend_record.cc ∷ [])

-- a level that had called another: where it goes on, and the statement of the byte before that, the last of its
-- command's EXEC
abbrev pub caller_line : Sources → List (List ℕ × Loaded) → Caller → Lines
caller_line sources programs caller =
    look_line
    (codes "CALLER" ∷ shown_name caller.program ∷ codes "R14" ∷ (address_word (place_at_address programs caller.next)
    ++ led_by (codes " COMMAND LINE ") (statement_at sources (spot_before programs caller.next))) ∷ [])

-- ---- the look
-- the task that abended
abbrev pub task_word : Option KeptTask → List ℕ
task_word task =
    option_map_or (λ it. codes "TRAN " ++ shown_name it.tran ++ codes " TASK " ++ digits 10 7 it.number) task
    (codes "TASK --")

abbrev pub head_line : List ℕ → LastAbend → Lines
head_line name last =
    look_line
    (codes "ABEND" ∷ shown_name name ∷ shown_text last.code
    ∷ option_map_or (λ it. cause_word it.abend_record.cause) last.explanation (codes "ASKED BY OPERATOR")
    ∷ task_word last.task ∷ [])

-- where an exit took it, why it came, and the levels that had called the one that abended
unfoldable pub last_text : Sources → List (List ℕ × Loaded) → List ℕ → LastAbend → Lines
last_text sources programs name last =
    head_line name last
    ++ option_map_or (λ place. look_line (codes "EXIT" ∷ place_word sources.places place ∷ [])) last.exit []
    ++ option_map_or (explanation_lines sources) last.explanation []
    ++ option_map_or (λ it. flat_map (caller_line sources programs) it.callers) last.task []

-- what is written of a terminal's last abend, where it has had one
abbrev pub if_abended : KeptAbends → List ℕ → (LastAbend → Lines) → Lines
if_abended abends name lines =
    option_map_or lines (option_and_then (λ last. last) (lookup (is_name name) abends))
    (look_line (codes "ABEND" ∷ shown_name name ∷ codes "NONE" ∷ []))

-- its first line, and what is written of its DFHEISTG; hyphens where that wasn't kept, as of an operator's abend
abbrev pub with_dump : (Dump → Lines) → List ℕ → LastAbend → Lines
with_dump lines name last =
    head_line name last
    ++ option_map_or lines (option_and_then (λ it. it.dump) last.explanation)
    (look_line (codes "DFHEISTG" ∷ codes "--" ∷ []))

unfoldable pub abend_storage_text : KeptAbends → List ℕ → Lines
abend_storage_text abends name = if_abended abends name (with_dump dump_lines name)

unfoldable pub abend_fields_text : Sources → KeptAbends → List ℕ → Lines
abend_fields_text sources abends name = if_abended abends name (with_dump (field_lines sources name) name)

unfoldable pub abend_text : Sources → List (List ℕ × Loaded) → KeptAbends → List ℕ → Lines
abend_text sources programs abends name = if_abended abends name (last_text sources programs name)
