-- The last four instructions: the mark, the list's address, the entry's address, and the call.
use Rattle.std.proofs.Common.{◌≡◌, ◌≢◌, ℕ, ◌+◌, ◌*◌, ◌^◌, ◌<◌, ◌≤◌, List, [], ◌∷◌, length, Some, slice_index, refl, ◌∙◌, ap, arith, inr}
use Rattle.std.proofs.lemmas.List.{get_or-set_same, get_or-set_other, length-set}
use Rattle.cx_storage.specs.Storage.{after_write, IsSoundStorage}
use Rattle.cx_storage.specs.Address.{address_in, address_after}
use Rattle.cx_storage.specs.Word.{word_at}
use Rattle.cx_code.specs.declared.table.Op.TheVariants as op
use Rattle.cx_code.specs.declared.instruction.Fields.TheVariants.{Rr, Rx}
use Rattle.cx_code.specs.Spelling.{instruction}
use Rattle.cx_exec.specs.Branches.{link_word}
use Rattle.cx_exec.specs.Machine.{Machine, effective}
use Rattle.cx_exec.specs.Step.{entry, updated_by}
use Rattle.cx_exec.specs.Advance.{Passes}
use Rattle.cx_asm_execution.specs.Expansion.{Statement, branch, address_reached}
use Rattle.cx_asm_execution.specs.Stands.{IsWord, IsApart, list_length}
use Rattle.cx_asm_execution.proofs.Ready.{Known, Ready}
use Rattle.cx_asm_execution.proofs.SpanLemmas.{word_agree}
use Rattle.cx_asm_execution.proofs.ArrivalWordLemmas.{others_stay, first_is_zero}
use Rattle.cx_asm_execution.proofs.InstructionLemmas.{loaded_after, stored_after, called_after, load_address, load_word, mark_word, word_there, call}
use Rattle.cx_asm_execution.proofs.ArrivalStoreLemmas.{Same, address_same, reaches}

-- the machine after them
pub record Called (s : Statement) (first : List ℕ) (list : ℕ) (m after : Machine) : Type 0 where
  pub passes : Passes 4 m after
  pub next : after.next ≡ entry
  pub place : slice_index after.regs 1 ≡ list
  pub kept : (r : ℕ) → r ≢ 0 → r ≢ 1 → r ≢ 14 → r ≢ 15 → slice_index after.regs r ≡ slice_index first r
  pub link : address_in (slice_index after.regs 14) ≡ address_after m.next 14
  pub storage : after.storage ≡ after_write m.storage (address_after list (4 * length s.arguments)) (0x80 ∷ [])
  pub sound : IsSoundStorage after.storage

abbrev CallGoes : Statement → List ℕ → ℕ → Machine → Type 0
CallGoes s first list m = (after : Machine) × Called s first list m after

pub branch_goes : Known → (first : List ℕ) (list v : ℕ) (s : Statement) (m : Machine) → list < 2 ^ 24 → 4 * length s.arguments + 4 ≤ list_length → Same first m.regs
    → IsWord first list (length s.arguments) s.last → s.list.base ≢ 0 → address_reached first s.list ≡ list → s.entry.base ≢ 0 → s.entry.base ≢ 1 → Ready list (branch s) m
    → word_at m.storage (address_after list (4 * length s.arguments)) ≡ Some v → v < 2 ^ 24 → word_at m.storage (address_reached first s.entry) ≡ Some entry → IsApart list (address_reached first s.entry) 4
    → CallGoes s first list m
unfolding Passes link_word
branch_goes known first list v s m ll room same last based place some other ready word small target apart =
    let k = length s.arguments in
    let a = address_after list (4 * k) in
    let regs = ready.machine.regs in
    let zero_byte = first_is_zero m.storage a v (omega arith) word small in
    let balr = instruction op.Balr (Rr 14 15) in
    let load = instruction op.L (Rx 15 0 s.entry.base s.entry.displacement) in
    let load_list = instruction op.La (Rx 1 0 s.list.base s.list.displacement) in
    let marks = mark_word known list k s.last.base s.last.displacement (load_list ∷ load ∷ balr ∷ []) m ll room ready
    (address_same first m.regs 0 s.last.base s.last.displacement same ∙ reaches first s.last last.0 ∙ last.1) zero_byte in
    let marked = stored_after a (0x80 ∷ []) 1 m in
    let lists = load_address known list 1 0 s.list.base s.list.displacement list (load ∷ balr ∷ []) marked marks.1
    (address_same first m.regs 0 s.list.base s.list.displacement same ∙ reaches first s.list based ∙ place) in
    let listed = loaded_after 1 list marked in
    let base : slice_index listed.regs s.entry.base ≡ slice_index first s.entry.base = get_or-set_other m.regs 1 s.entry.base list 0 other ∙ same s.entry.base some in
    let at : effective listed.regs 0 s.entry.base s.entry.displacement ≡ address_reached first s.entry = reaches listed.regs s.entry some ∙ rw base refl in
    let there = word_there list k 1 (branch s) m ll room (omega arith) ready in
    let holds : word_at listed.storage (address_reached first s.entry) ≡ Some entry =
    word_agree m.storage listed.storage (address_reached first s.entry) (omega arith)
    (λ i few. others_stay m.storage list k (0x80 ∷ []) (address_after (address_reached first s.entry) i) ll (omega arith) room (omega arith) there (inr (let far = apart i few in omega (arith, far, room))))
    ∙ target in
    let loads = load_word known list 15 s.entry.base s.entry.displacement entry (balr ∷ []) listed lists.1 (rw at holds) in
    let loaded = loaded_after 15 entry listed in
    let calls = call known list [] loaded loads.1 in
    let after = called_after loaded in
    let link = link_word (updated_by loaded.next 2) loaded.cc in
    let one : length listed.regs ≡ 16 = length-set m.regs 1 list ∙ regs in
    let two : length loaded.regs ≡ 16 = length-set listed.regs 15 entry ∙ one in
    let target_register : slice_index loaded.regs 15 ≡ entry = get_or-set_same listed.regs 15 entry 0 (omega (arith, one)) in
    let link_register : slice_index after.regs 14 ≡ link = get_or-set_same loaded.regs 14 link 0 (omega (arith, two)) in (
      after,
      record {
        passes = (marked, marks.0, (listed, lists.0, (loaded, loads.0, (after, calls, refl))));
        next = ap address_in target_register;
        place = get_or-set_other loaded.regs 14 1 link 0 (λ e. omega (arith, e)) ∙ get_or-set_other listed.regs 15 1 entry 0 (λ e. omega (arith, e))
            ∙ get_or-set_same m.regs 1 list 0 (omega (arith, regs));
        kept = λ r not0 not1 not14 not15. get_or-set_other loaded.regs 14 r link 0 not14 ∙ get_or-set_other listed.regs 15 r entry 0 not15
            ∙ get_or-set_other m.regs 1 r list 0 not1 ∙ same r not0;
        link = ap address_in link_register ∙ omega arith;
        storage = refl;
        sound = loads.1.machine.storage;
      },
    )
