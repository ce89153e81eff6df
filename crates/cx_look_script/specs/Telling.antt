-- What ORDERS tells of a turn: the command that it performs, how that ends, and the line of its EXEC (own).
use Rattle.std.specs.Prelude.{ℕ, Bool, false, if◌then◌else◌, Option, None, option_and_then, option_map, List, [], ◌∷◌, ◌++◌, codes, slice_index}
use Rattle.std.specs.Fmt.{decimal}
use Rattle.std.specs.Option.{option_map_or, option_to_list}
use Rattle.cx_base.specs.Conditions.{entry_of}
use Rattle.cx_base.specs.Texts.{shown_name}
use Rattle.cx_storage.specs.Address.{address_in}
use Rattle.cx_storage.specs.Storage.{Storage}
use Rattle.cx_load.specs.declared.program.Loaded.{Loaded}
use Rattle.cx_region_state.specs.Call.{call_of}
use Rattle.cx_region_state.specs.Replies.{turn_reply_name}
use Rattle.cx_region_state.specs.State.{TaskState}
use Rattle.cx_region_state.specs.declared.replies.TurnReply.{TurnReply}
use Rattle.cx_region_state.specs.declared.replies.TurnReply.TheVariants as turn
use Rattle.cx_region_task.specs.Performing.{argument_list}
use Rattle.cx_region.specs.State.{RegionState}
use Rattle.cx_region.specs.Tables.{task_of}
use Rattle.cx_script_actions.specs.Texts.{turn_reply_detail}
use Rattle.cx_orders.specs.Moves.{is_move}
use Rattle.cx_look_lines.specs.Words.{joined_line}
use Rattle.cx_look_symbols.specs.Lines.{line_in}
use Rattle.cx_look_symbols.specs.Places.{spot_before}
use Rattle.cx_look_symbols.specs.Sources.{Sources}
use Rattle.cx_look_fields.specs.Tasks.{called_name}

-- what the turn of a task performs: the command that is due, or instructions of the program alone
abbrev pub work_word : Storage → TaskState → List ℕ
work_word s task = if task.due then called_name (call_of s (argument_list task)) else codes "PROGRAM"

-- the line of a due command's EXEC, which has the byte before the address in register 14
abbrev pub due_line : Sources → List (List ℕ × Loaded) → TaskState → Option ℕ
due_line sources programs task =
    if task.due
    then option_and_then (λ it. line_in sources.places it.program it.offset)
    (spot_before programs (address_in (slice_index task.regs 14)))
    else None

-- how it ends: with the condition of the command, with an abend of the task, or as it is answered
abbrev pub end_words : TurnReply → List (List ℕ)
end_words (turn.Performed condition) = (entry_of condition).name ∷ []
end_words (turn.Abended code) = codes "ABENDS" ∷ shown_name code ∷ []
end_words reply = turn_reply_name reply ∷ option_to_list (turn_reply_detail reply)

abbrev pub task_told : Sources → RegionState → TurnReply → TaskState → List ℕ
task_told sources region reply task =
    joined_line
    (work_word region.shared.storage task
    ∷ end_words reply ++ option_map_or (λ n. decimal n ∷ []) (due_line sources region.shared.programs task) [])

-- nothing of a turn that only comes to a command, or that is no move
abbrev pub is_told : TurnReply → Bool
is_told turn.AtCommand = false
is_told reply = is_move reply

unfoldable pub turn_told : Sources → RegionState → List ℕ → TurnReply → Option (List ℕ)
turn_told sources region name reply =
    if is_told reply then option_map (task_told sources region reply) (task_of region name) else None
