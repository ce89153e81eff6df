-- One instruction is performed.
use Rattle.std.proofs.Common.{◌≡◌, ℕ, suc, ◌+◌, ◌*◌, ◌^◌, ◌<◌, List, [], ◌∷◌, length, false, true, Some, Ok, is_some, ◌∙◌, arith}
use Rattle.std.proofs.lemmas.List.Sums.{sum_by-cons}
use Rattle.cx_storage.specs.Storage.{Storage, span, IsSoundStorage}
use Rattle.cx_storage.specs.Address.{address_after}
use Rattle.cx_code.specs.Table.{length_of}
use Rattle.cx_code.specs.Spelling.{Instruction, spelling}
use Rattle.cx_exec.specs.declared.machine.Step.TheVariants.{Done}
use Rattle.cx_exec.specs.Machine.{Machine}
use Rattle.cx_exec.specs.Rows.{Effect}
use Rattle.cx_exec.specs.Step.{Steps, Runs, instruction_to_perform, is_execute, updated_by}
use Rattle.cx_asm_execution.specs.Stands.{AreAt, IsApart, code_length, list_length}
use Rattle.cx_asm_execution.proofs.SpanLemmas.{span_agree}
use Rattle.cx_asm_execution.proofs.Ready.{Known, Agree, Ready}

-- a step is the effect of the instruction at the next address
pub performs : Known → (list : ℕ) (i : Instruction) (rest : List Instruction) (m after : Machine) → Ready list (i ∷ rest) m → is_execute i.op ≡ false
    → Effect i (updated_by m.next (length_of i.op)) m (Ok tt) after → Steps m Done after
unfolding Steps Runs instruction_to_perform AreAt
performs known list i rest m after ready plain effect =
    let well = ready.stands.0 in
    let size = known.size i well in
    let there : span m.storage m.next (length (spelling i)) ≡ Some (spelling i) = rw size ready.stands.1 in
    let found = known.fetched m.storage m.next i (spelling i) ready.even (known.spells i well) there in
    let inside = ready.machine.next in
    let here : address_after m.next (4 * 0) ≡ m.next = omega arith in
    (rw here at (ready.outside 0 (omega arith)), rw (found.0, found.1, plain, size) effect)

code_longer : (i : Instruction) (rest : List Instruction) → code_length (i ∷ rest) ≡ length_of i.op + code_length rest
code_longer i rest = sum_by-cons (λ (x : Instruction). length_of x.op) i rest

-- instructions outside the list are still there after a change of the list
pub still : (s t : Storage) (list a : ℕ) (code : List Instruction) → a < 2 ^ 24 → Agree list s t → IsApart list a (code_length code) → AreAt s a code → AreAt t a code
unfolding AreAt
still s t list a [] la same apart at = tt
still s t list a (i ∷ rest) la same apart (well, here, later) =
    let longer = code_longer i rest in (
      well,
      span_agree s t a (length_of i.op) la (λ k h. same (address_after a k) (omega arith) (apart k (omega (arith, h, longer)))) ∙ here,
      still s t list (address_after a (length_of i.op)) rest (omega arith) same (λ k h.
          let e : address_after (address_after a (length_of i.op)) k ≡ address_after a (length_of i.op + k) = omega arith in
          rw e (apart (length_of i.op + k) (omega (arith, h, longer)))) later,
    )

-- after an instruction of four bytes, which changed the list alone, the machine is ready for the next ones
pub goes_on : (list : ℕ) (i : Instruction) (rest : List Instruction) (m after : Machine) → Ready list (i ∷ rest) m → length_of i.op ≡ 4
    → after.next ≡ address_after m.next 4 → length after.regs ≡ 16 → IsSoundStorage after.storage → is_some (span after.storage list list_length) ≡ true
    → Agree list m.storage after.storage → Ready list rest after
unfolding AreAt
goes_on list i rest m after ready size next regs sound there same =
    let inside = ready.machine.next in
    let even = ready.even in
    let longer = code_longer i rest in
    let apart : IsApart list (address_after m.next 4) (code_length rest) = λ k h.
    let e : address_after (address_after m.next 4) k ≡ address_after m.next (4 + k) = omega arith in
    rw e (ready.apart (4 + k) (omega (arith, h, longer, size))) in
    let later : AreAt m.storage (address_after m.next 4) rest = rw size at ready.stands.2 in
    record {
      machine = record { regs = regs; next = omega arith; storage = sound };
      even = omega arith;
      there = there;
      stands = rw next (still m.storage after.storage list (address_after m.next 4) rest (omega arith) same apart later);
      apart = rw next apart;
      outside = λ k h.
          let e : address_after after.next (4 * k) ≡ address_after m.next (4 * suc k) = omega arith in
          rw e (ready.outside (suc k) (omega arith));
    }
