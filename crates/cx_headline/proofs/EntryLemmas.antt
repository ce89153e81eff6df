-- What the base registers hold where a program is entered.
use Rattle.std.proofs.Common.{refl, codes}
use Rattle.cx_source.specs.Lines.{is_letter, is_symbol_name}
use Rattle.cx_source.specs.Marks.{within_after}
use Rattle.cx_asm_expressions.specs.Digits.{digit}
use Rattle.cx_asm_expressions.specs.Expressions.{sum_of_values, value_of}
use Rattle.cx_asm_expressions.specs.Terms.{read_term, terms_of}
use Rattle.cx_asm_expressions.specs.Weights.{relocation}
use Rattle.cx_asm_expressions.specs.TermValues.{term_value}
use Rattle.cx_asm_operands.specs.Context.{operand_number}
use Rattle.cx_region_state.specs.Areas.{entry_level, entry_registers}
use Rattle.cx_region.specs.Attach.{fresh_task}
use Rattle.cx_headline.specs.Laws.Entries.{AreHeld, EntriesHoldTheirBases, TasksBeginSo}

pub entries_hold_their_bases : EntriesHoldTheirBases
unfolding AreHeld entry_registers operand_number value_of terms_of within_after read_term is_symbol_name is_letter digit term_value sum_of_values relocation
entries_hold_their_bases entry stg eib c name = (
  record { operation = refl; text = codes "3"; operand = refl; register = 3; named = refl; holds = refl },
  (
    record { operation = refl; text = codes "13"; operand = refl; register = 13; named = refl; holds = refl },
    (record { operation = refl; text = codes "11"; operand = refl; register = 11; named = refl; holds = refl }, tt),
  ),
)

pub tasks_begin_so : TasksBeginSo
unfolding fresh_task entry_level
tasks_begin_so tran number eib level = entries_hold_their_bases level.loaded.entry level.stg eib
