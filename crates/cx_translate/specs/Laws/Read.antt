-- How many words a command reads from its argument list (Application Programmer's Reference Manual, SC33-0077, the
-- expansion of a command; the list's layout is this product's own).
use Rattle.std.specs.Prelude.{ℕ, ◌+◌, Bool, ◌==◌, if◌then◌else◌, List, length, count_by}
use Rattle.cx_base.specs.declared.commands.Command.{Command}
use Rattle.cx_base.specs.declared.legal.ListedCondition.{ListedCondition}
use Rattle.cx_base.specs.declared.options.CommonOption.TheVariants.{Resp}
use Rattle.cx_base.specs.Arguments.{arguments_in}
use Rattle.cx_base.specs.Commands.{row_of}
use Rattle.cx_base.specs.Options.{common_of}
use Rattle.cx_base.specs.Legal.{has_bit}

abbrev pub has_label : ListedCondition → Bool
has_label listed = listed.label == 0x80

-- The words that a command with these option bytes and listed conditions reads: the block, one for each option with an
-- argument that option byte 1 has, one for each label, and RESP's where option byte 2 has it.
unfoldable pub words_read : Command → ℕ → ℕ → List ListedCondition → ℕ
words_read command first second conditions =
    1 + length (arguments_in (row_of command).options first) + count_by has_label conditions
    + (if has_bit second (common_of Resp).bit then 1 else 0)
