-- A word is loaded by an instruction by itself.
use Rattle.std.proofs.Common.{◌≡◌, ◌≢◌, ◌%◌, [], ◌∷◌, length, false, Some, Ok, refl}
use Rattle.cx_storage.specs.Storage.{span}
use Rattle.cx_code.specs.declared.table.Op.TheVariants as op
use Rattle.cx_code.specs.declared.instruction.Fields.TheVariants.{Rx}
use Rattle.cx_code.specs.Table.{length_of, operation_row}
use Rattle.cx_code.specs.Spelling.{Instruction, IsWellFormed, Spells, instruction, spelling}
use Rattle.cx_exec.specs.declared.machine.Step.TheVariants.{Done}
use Rattle.cx_exec.specs.Machine.{Machine}
use Rattle.cx_exec.specs.Rows.{Effect, RxEffect}
use Rattle.cx_exec.specs.Step.{Runs, Steps, entry, is_execute, instruction_to_perform, updated_by}
use Rattle.cx_exec.specs.Laws.Fetch.{SpelledIsFetched}
use Rattle.cx_asm_execution.specs.Laws.Pointers.{LoadsGiveWords}
use Rattle.cx_asm_execution.specs.Stands.{AreAt, IsMachine}
use Rattle.cx_asm_execution.proofs.InstructionLemmas.{loaded_after}

-- the laws of the crates below that are used here
pub record Fetching : Type 0 where
  pub spells : (i : Instruction) → IsWellFormed i → Spells i (spelling i)
  pub size : (i : Instruction) → IsWellFormed i → length (spelling i) ≡ length_of i.op
  pub fetched : SpelledIsFetched

-- a step is the effect of the instruction at the next address
performs_alone : Fetching → (i : Instruction) (m after : Machine) → IsMachine m → m.next % 2 ≡ 0 → m.next ≢ entry → AreAt m.storage m.next (i ∷ []) → is_execute i.op ≡ false
    → Effect i (updated_by m.next (length_of i.op)) m (Ok tt) after → Steps m Done after
unfolding Steps Runs instruction_to_perform AreAt
performs_alone known i m after machine even outside stands plain effect =
    let well = stands.0 in
    let size = known.size i well in
    let there : span m.storage m.next (length (spelling i)) ≡ Some (spelling i) = rw size stands.1 in
    let found = known.fetched m.storage m.next i (spelling i) even (known.spells i well) there in
    (outside, rw (found.0, found.1, plain, size) effect)

pub loads_give_words : Fetching → LoadsGiveWords
unfolding Effect RxEffect operation_row
loads_give_words known m r b d word machine even outside stands e =
    performs_alone known (instruction op.L (Rx r 0 b d)) m (loaded_after r word m) machine even outside stands refl (rw e (refl, refl))
