-- How a pointer is taken after a call, as the module `laws` promises it.
use Rattle.std.specs.Prelude.{◌≡◌, ◌≢◌, ℕ, ◌%◌, [], ◌∷◌, Some, slice_set}
use Rattle.cx_storage.specs.Address.{address_after}
use Rattle.cx_storage.specs.Word.{word_at}
use Rattle.cx_code.specs.declared.table.Op.TheVariants as op
use Rattle.cx_code.specs.declared.instruction.Fields.TheVariants.{Rx}
use Rattle.cx_code.specs.Spelling.{instruction}
use Rattle.cx_exec.specs.declared.machine.Step.TheVariants.{Done}
use Rattle.cx_exec.specs.Machine.{Machine, effective}
use Rattle.cx_exec.specs.Step.{Steps, entry}
use Rattle.cx_asm_execution.specs.Stands.{AreAt, IsMachine}

-- L at the next address gives its register the word that its operand addresses, and changes nothing else.
abbrev pub LoadsGiveWords : Type 0
LoadsGiveWords = (m : Machine) (r b d w : ℕ) → IsMachine m → m.next % 2 ≡ 0 → m.next ≢ entry
    → AreAt m.storage m.next (instruction op.L (Rx r 0 b d) ∷ []) → word_at m.storage (effective m.regs 0 b d) ≡ Some w
    → Steps m Done (record m { regs = slice_set m.regs r w; next = address_after m.next 4 })
