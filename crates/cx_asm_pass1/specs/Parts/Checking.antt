-- What is known of a statement before anything changes (own).
use Rattle.std.specs.Prelude.{Some, pos, unwrap_or}
use Rattle.std.specs.Result.{result_ok}
use Rattle.cx_source.specs.declared.source.Stmt.{Stmt}
use Rattle.cx_asm_expressions.specs.Symbols.{absolute}
use Rattle.cx_asm_pass1.specs.PassState.{PassState, given_in, extent_in, name_in, own_fault, role_in}
use Rattle.cx_asm_pass1.specs.declared.faults.Heading.{Heading}
use Rattle.cx_asm_pass1.specs.declared.checked.Checked.{Checked}

abbrev pub heading_in : Stmt → PassState → Heading
heading_in stmt state =
    record { role = role_in stmt; name = name_in stmt; section = state.section; control = state.control }

unfoldable pub checked_in : Stmt → PassState → Checked
checked_in stmt state =
    record {
      extent = extent_in stmt state;
      value = unwrap_or (result_ok (given_in stmt state)) (Some (absolute (pos 0)));
      fault = own_fault stmt state;
    }
