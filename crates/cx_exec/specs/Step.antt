-- One step (GA22-7000, "Instruction Execution", "Execute"; the entry is this product's own).
use Rattle.cx_storage.specs.Address.{address_after}
use Rattle.std.specs.Prelude.{◌≡◌, ◌≢◌, ℕ, ◌/◌, ◌%◌, List, [], ◌∷◌, length, Bool, true, false, ◌==◌, bit_or, Result, Ok, Err, MatchResult, if◌then◌else◌}
use Rattle.cx_code.specs.declared.table.Op.{Op}
use Rattle.cx_code.specs.declared.table.Op.TheVariants as op
use Rattle.cx_code.specs.declared.instruction.Fields.{Fields}
use Rattle.cx_code.specs.declared.instruction.Fields.TheVariants.{Rx}
use Rattle.cx_code.specs.Spelling.{Instruction}
use Rattle.cx_exec.specs.declared.machine.Interruption.{Interruption}
use Rattle.cx_exec.specs.declared.machine.Interruption.TheVariants as interruption
use Rattle.cx_exec.specs.declared.machine.Step.{Step}
use Rattle.cx_exec.specs.declared.machine.Step.TheVariants.{Done, AtEntry, Interrupt}
use Rattle.cx_exec.specs.declared.machine.Updated.{Updated}
use Rattle.cx_exec.specs.declared.stepping.PendingInstruction.{PendingInstruction}
use Rattle.cx_exec.specs.Machine.{Machine, reg, effective}
use Rattle.cx_exec.specs.Fetch.{code_at, read_as}
use Rattle.cx_exec.specs.Outcome.{Outcome, IsSuppressed}
use Rattle.cx_exec.specs.Rows.{Effect}

abbrev pub entry : ℕ
entry = 0x800

-- where the machine goes on after an instruction of this many bytes
abbrev pub updated_by : ℕ → ℕ → Updated
updated_by place bytes = record { length_code = bytes / 2; address = address_after place bytes }

-- the copy of a target that EX changes: the second byte is joined by OR with bits 24 to 31 of R1, unless R1 is 0; no
-- instruction has fewer than two bytes
abbrev pub joined_second : ℕ → List ℕ → List ℕ
joined_second low [] = []
joined_second low (code ∷ []) = code ∷ []
joined_second low (code ∷ second ∷ rest) = code ∷ bit_or second low ∷ rest

abbrev pub changed_copy : Machine → ℕ → List ℕ → List ℕ
changed_copy m r1 bytes = if r1 == 0 then bytes else joined_second (reg m r1 % 256) bytes

abbrev pub is_execute : Op → Bool
is_execute op.Ex = true
is_execute _ = false

-- a target may not be an EX itself
abbrev pub not_execute : Instruction → Result Instruction Interruption
not_execute i = if is_execute i.op then Err interruption.Execute else Ok i

abbrev pub unless_interrupted : {A B : Type 0} → Result A Interruption → (A → Result B Interruption)
    → Result B Interruption
unless_interrupted (Ok x) f = f x
unless_interrupted (Err cause) f = Err cause

-- the target of an EX, from its changed copy
unfoldable pub target_at : Machine → ℕ → ℕ → Result Instruction Interruption
target_at m r1 a =
    unless_interrupted (code_at m.storage a)
    (λ bytes. unless_interrupted (read_as (changed_copy m r1 bytes)) not_execute)

-- an instruction to be performed, and what comes after it
abbrev pub pending_instruction : Instruction → Updated → PendingInstruction
pending_instruction i updated = record { inst = i; updated = updated }

-- in place of EX its target is performed, with a length of 2 and the address after the EX; the last arm is not reached,
-- since EX has no other format
abbrev pub in_place : Machine → Fields → Instruction → Updated → Result PendingInstruction Interruption
in_place m (Rx r1 x2 b2 d2) i updated =
    unless_interrupted (target_at m r1 (effective m.regs x2 b2 d2))
    (λ target. Ok (pending_instruction target (record { length_code = 2; address = updated.address })))
in_place m _ i updated = Ok (pending_instruction i updated)

-- what is performed of the instruction at the next address
abbrev pub performed_of : Machine → Instruction → Updated → Result PendingInstruction Interruption
performed_of m i updated = if is_execute i.op then in_place m i.fields i updated else Ok (pending_instruction i updated)

-- the instruction that storage holds at this moment at the next address, for EX its target, or what interrupts the
-- fetch
unfoldable pub instruction_to_perform : Machine → Result PendingInstruction Interruption
instruction_to_perform m =
    unless_interrupted (code_at m.storage m.next)
    (λ bytes. unless_interrupted (read_as bytes) (λ i. performed_of m i (updated_by m.next (length bytes))))

-- its effect is that of its row
unfoldable pub Runs : Machine → Outcome → Machine → Type 0
Runs m outcome after =
    MatchResult (instruction_to_perform m) (λ d. Effect d.inst d.updated m outcome after)
    (λ cause. IsSuppressed cause m outcome after)

-- a step, and the machine that it leaves
unfoldable pub Steps : Machine → Step → Machine → Type 0
Steps m AtEntry after = (m.next ≡ entry) × (after ≡ m)
Steps m Done after = (m.next ≢ entry) × Runs m (Ok tt) after
Steps m (Interrupt cause) after = (m.next ≢ entry) × Runs m (Err cause) after
