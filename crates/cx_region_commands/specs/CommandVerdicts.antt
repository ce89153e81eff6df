-- How a call is judged: by the row of its command, on the parts that the row names (this product's own).
use Rattle.std.specs.Prelude.{◌≡◌}
use Rattle.cx_base.specs.declared.commands.Command.{Command}
use Rattle.cx_base.specs.declared.commands.Command.TheVariants as command
use Rattle.cx_region_state.specs.Call.{Call}
use Rattle.cx_region_state.specs.State.{TaskContext}
use Rattle.cx_region_state.specs.declared.verdict.Verdict.{Verdict}
use Rattle.cx_region_commands.specs.Abend.{abend_row}
use Rattle.cx_region_commands.specs.Address.{address_row}
use Rattle.cx_region_commands.specs.DeleteqTs.{deleteq_row}
use Rattle.cx_region_commands.specs.Deq.{deq_row}
use Rattle.cx_region_commands.specs.Enq.{enq_row}
use Rattle.cx_region_commands.specs.Freemain.{freemain_row}
use Rattle.cx_region_commands.specs.Getmain.{GetmainRow}
use Rattle.cx_region_commands.specs.HandleAbend.{handle_abend_row}
use Rattle.cx_region_commands.specs.Handling.{handle_row, ignore_row, pop_row, push_row}
use Rattle.cx_region_commands.specs.Link.{LinkRow}
use Rattle.cx_region_commands.specs.ReadqTs.{ReadqRow}
use Rattle.cx_region_commands.specs.Receive.{receive_row}
use Rattle.cx_region_commands.specs.Return.{return_row}
use Rattle.cx_region_commands.specs.SendText.{send_text_row}
use Rattle.cx_region_commands.specs.Suspend.{suspend_row}
use Rattle.cx_region_commands.specs.WriteqTs.{writeq_row}
use Rattle.cx_region_commands.specs.Xctl.{XctlRow}
use Rattle.cx_region_state.specs.Inputs.{length_option}

abbrev pub JudgedBy : Command → Call → TaskContext → Verdict → Type 0
JudgedBy command.Address call r verdict = verdict ≡ address_row
JudgedBy command.HandleCondition call r verdict = verdict ≡ handle_row call
JudgedBy command.IgnoreCondition call r verdict = verdict ≡ ignore_row call
JudgedBy command.PushHandle call r verdict = verdict ≡ push_row r.task.levels.current.handles.kept
JudgedBy command.PopHandle call r verdict = verdict ≡ pop_row r.task.levels.current.handles.kept
JudgedBy command.Receive call r verdict =
    verdict ≡ receive_row r.terminal_entry.input (length_option r.shared.storage call)
JudgedBy command.WriteqTs call r verdict = verdict ≡ writeq_row r.shared.storage r.shared.queues call
JudgedBy command.ReadqTs call r verdict = ReadqRow r.shared.storage r.shared.queues call verdict
JudgedBy command.DeleteqTs call r verdict = verdict ≡ deleteq_row r.shared.storage r.shared.queues call
JudgedBy command.Getmain call r verdict = GetmainRow r.shared.storage call verdict
JudgedBy command.Freemain call r verdict = verdict ≡ freemain_row r.shared.storage r.terminal_entry.slot call
JudgedBy command.Link call r verdict = LinkRow r.shared.storage r.shared.programs r.task.levels call verdict
JudgedBy command.Xctl call r verdict = XctlRow r.shared.storage r.terminal_entry.slot r.shared.programs call verdict
JudgedBy command.Return call r verdict = verdict ≡ return_row r.shared.storage r.task.levels.callers call
JudgedBy command.Abend call r verdict = verdict ≡ abend_row r.shared.storage call
JudgedBy command.HandleAbend call r verdict = verdict ≡ handle_abend_row call
JudgedBy command.Enq call r verdict = verdict ≡ enq_row r.shared.storage r.shared.resources r.terminal_entry.slot call
JudgedBy command.Deq call r verdict = verdict ≡ deq_row r.shared.storage call
JudgedBy command.Suspend call r verdict = verdict ≡ suspend_row
JudgedBy command.SendText call r verdict = verdict ≡ send_text_row r.shared.storage call

unfoldable pub HasVerdict : Call → TaskContext → Verdict → Type 0
HasVerdict call r verdict = JudgedBy call.command call r verdict
