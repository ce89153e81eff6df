-- Each of the instructions made is performed.
use Rattle.std.proofs.Common.{◌≡◌, ℕ, ◌+◌, ◌*◌, ◌^◌, ◌<◌, ◌≤◌, List, [], ◌∷◌, length, true, Option, Some, None, Ok, is_some, slice_index, slice_set, refl, ◌∙◌, arith, inr}
use Rattle.std.specs.List.{AllByRecursion}
use Rattle.std.proofs.lemmas.List.{length-set}
use Rattle.byteorder.specs.Endian.{big_bytes}
use Rattle.cx_storage.specs.Storage.{byte_at, span, after_write}
use Rattle.cx_storage.specs.Address.{address_in, address_after}
use Rattle.cx_storage.specs.Word.{word_at}
use Rattle.cx_storage.specs.Facts.Writes.{span_present_after_write}
use Rattle.cx_code.specs.declared.table.Op.TheVariants as op
use Rattle.cx_code.specs.declared.instruction.Fields.TheVariants.{Rr, Rx, Si}
use Rattle.cx_code.specs.Table.{operation_row, length_of}
use Rattle.cx_code.specs.Spelling.{Instruction, instruction}
use Rattle.cx_exec.specs.declared.machine.Step.TheVariants.{Done}
use Rattle.cx_exec.specs.Branches.{link_word}
use Rattle.cx_exec.specs.Machine.{Machine, effective}
use Rattle.cx_exec.specs.Operands.{IfPresent, Stores}
use Rattle.cx_exec.specs.Outcome.{Outcome}
use Rattle.cx_exec.specs.Rows.{Effect, RrEffect, RxEffect, SiEffect}
use Rattle.cx_exec.specs.Step.{Steps, updated_by}
use Rattle.cx_asm_execution.specs.Stands.{list_length}
use Rattle.cx_asm_execution.proofs.Ready.{Known, Ready}
use Rattle.cx_asm_execution.proofs.SpanLemmas.{span_part}
use Rattle.cx_asm_execution.proofs.StepLemmas.{performs, goes_on}
use Rattle.cx_asm_execution.proofs.ArrivalWordLemmas.{others_stay}

-- a register is loaded
abbrev pub loaded_after : ℕ → ℕ → Machine → Machine
loaded_after r v m = record m { regs = slice_set m.regs r v; next = address_after m.next 4 }

pub load_address : Known → (list r x b d v : ℕ) (rest : List Instruction) (m : Machine) → Ready list (instruction op.La (Rx r x b d) ∷ rest) m → effective m.regs x b d ≡ v
    → Steps m Done (loaded_after r v m) × Ready list rest (loaded_after r v m)
unfolding Effect RxEffect operation_row
load_address known list r x b d v rest m ready e = (
  performs known list (instruction op.La (Rx r x b d)) rest m (loaded_after r v m) ready refl (rw e (refl, refl)),
  goes_on list (instruction op.La (Rx r x b d)) rest m (loaded_after r v m) ready refl refl (length-set m.regs r v ∙ ready.machine.regs) ready.machine.storage
      ready.there (λ x lx far. refl),
)

pub load_word : Known → (list r b d v : ℕ) (rest : List Instruction) (m : Machine) → Ready list (instruction op.L (Rx r 0 b d) ∷ rest) m → word_at m.storage (effective m.regs 0 b d) ≡ Some v
    → Steps m Done (loaded_after r v m) × Ready list rest (loaded_after r v m)
unfolding Effect RxEffect operation_row
load_word known list r b d v rest m ready e = (
  performs known list (instruction op.L (Rx r 0 b d)) rest m (loaded_after r v m) ready refl (rw e (refl, refl)),
  goes_on list (instruction op.L (Rx r 0 b d)) rest m (loaded_after r v m) ready refl refl (length-set m.regs r v ∙ ready.machine.regs) ready.machine.storage
      ready.there (λ x lx far. refl),
)

-- bytes are stored at an address
abbrev pub stored_after : ℕ → List ℕ → ℕ → Machine → Machine
stored_after a bytes code m = record m { storage = after_write m.storage a bytes; cc = code; next = address_after m.next 4 }

if_there : {A : Type 0} (o : Option A) (m after : Machine) (outcome : Outcome) (P : Type 0) → is_some o ≡ true → P → IfPresent o m outcome after (λ _. P)
if_there None m after outcome P there p = cc
if_there (Some x) m after outcome P there p = p

pub word_there : (list k n : ℕ) (code : List Instruction) (m : Machine) → list < 2 ^ 24 → 4 * k + 4 ≤ list_length → n ≤ 4 → Ready list code m → is_some (span m.storage (address_after list (4 * k)) n) ≡ true
word_there list k n code m ll room few ready = span_part m.storage list list_length (4 * k) n ll ready.there (omega arith)

stored_goes : Known → (list k cc_after : ℕ) (bytes : List ℕ) (i : Instruction) (rest : List Instruction) (m : Machine) → list < 2 ^ 24 → 4 * k + 4 ≤ list_length → length bytes ≤ 4
    → AllByRecursion (λ b. b < 256) bytes → length_of i.op ≡ 4 → Ready list (i ∷ rest) m → Ready list rest (stored_after (address_after list (4 * k)) bytes cc_after m)
stored_goes known list k cc_after bytes i rest m ll room few small size ready =
    let a = address_after list (4 * k) in
    let there = word_there list k (length bytes) (i ∷ rest) m ll room few ready in
    goes_on list i rest m (stored_after a bytes cc_after m) ready size refl ready.machine.regs (known.sound.write m.storage a bytes ready.machine.storage small)
    (span_present_after_write m.storage a bytes list list_length ∙ ready.there)
    (λ x lx far. others_stay m.storage list k bytes x ll lx room few there (inr (omega (arith, room, far))))

pub store_word : Known → (list k b d v : ℕ) (rest : List Instruction) (m : Machine) → list < 2 ^ 24 → 4 * k + 4 ≤ list_length → Ready list (instruction op.St (Rx 0 0 b d) ∷ rest) m
    → effective m.regs 0 b d ≡ address_after list (4 * k) → slice_index m.regs 0 ≡ v
    → Steps m Done (stored_after (address_after list (4 * k)) (big_bytes 4 v) m.cc m) × Ready list rest (stored_after (address_after list (4 * k)) (big_bytes 4 v) m.cc m)
unfolding Effect RxEffect Stores operation_row
store_word known list k b d v rest m ll room ready at value =
    let i = instruction op.St (Rx 0 0 b d) in
    let there = word_there list k 4 (i ∷ rest) m ll room (omega arith) ready in (
      performs known list i rest m (stored_after (address_after list (4 * k)) (big_bytes 4 v) m.cc m) ready refl
          (rw (at, value) (if_there (span m.storage (address_after list (4 * k)) 4) m (stored_after (address_after list (4 * k)) (big_bytes 4 v) m.cc m) (Ok tt) _ there (refl, refl))),
      stored_goes known list k m.cc (big_bytes 4 v) i rest m ll room (omega arith) (omega arith, (omega arith, (omega arith, (omega arith, tt)))) refl ready,
    )

pub mark_word : Known → (list k b d : ℕ) (rest : List Instruction) (m : Machine) → list < 2 ^ 24 → 4 * k + 4 ≤ list_length → Ready list (instruction op.Oi (Si 0x80 b d) ∷ rest) m
    → effective m.regs 0 b d ≡ address_after list (4 * k) → byte_at m.storage (address_after list (4 * k)) ≡ Some 0
    → Steps m Done (stored_after (address_after list (4 * k)) (0x80 ∷ []) 1 m) × Ready list rest (stored_after (address_after list (4 * k)) (0x80 ∷ []) 1 m)
unfolding Effect SiEffect Stores operation_row
mark_word known list k b d rest m ll room ready at none =
    let i = instruction op.Oi (Si 0x80 b d) in
    let there = word_there list k 1 (i ∷ rest) m ll room (omega arith) ready in (
      performs known list i rest m (stored_after (address_after list (4 * k)) (0x80 ∷ []) 1 m) ready refl
          (rw (at, none) (if_there (span m.storage (address_after list (4 * k)) 1) m (stored_after (address_after list (4 * k)) (0x80 ∷ []) 1 m) (Ok tt) _ there (refl, refl))),
      stored_goes known list k 1 (0x80 ∷ []) i rest m ll room (omega arith) (omega arith, tt) refl ready,
    )

-- the machine goes on at the address in register 15
abbrev pub called_after : Machine → Machine
called_after m = record m { regs = slice_set m.regs 14 (link_word (updated_by m.next 2) m.cc); next = address_in (slice_index m.regs 15) }

pub call : Known → (list : ℕ) (rest : List Instruction) (m : Machine) → Ready list (instruction op.Balr (Rr 14 15) ∷ rest) m → Steps m Done (called_after m)
unfolding Effect RrEffect operation_row
call known list rest m ready = performs known list (instruction op.Balr (Rr 14 15)) rest m (called_after m) ready refl (refl, refl)
