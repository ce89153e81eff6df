-- The stores, the last four instructions, and the list that is read after them.
use Rattle.std.proofs.Common.{◌≡◌, ℕ, zero, suc, ◌+◌, ◌*◌, ◌^◌, ◌<◌, ◌≤◌, List, ◌∷◌, [], length, map, Some, slice_index, refl, ◌∙◌, arith, inl, inr}
use Rattle.std.proofs.lemmas.Bool.{cases_lt}
use Rattle.cx_storage.specs.Storage.{byte_at, span, after_write}
use Rattle.cx_storage.specs.Address.{address_in, address_after, distance}
use Rattle.cx_storage.specs.Word.{word_at}
use Rattle.cx_exec.specs.Machine.{Machine}
use Rattle.cx_exec.specs.Step.{entry}
use Rattle.cx_region_state.specs.Laws.Calls.{CallIsRead, IsCallAt}
use Rattle.cx_asm_execution.specs.Expansion.{Statement, Argument, instructions_made, branch, words_of_list, resolved_block_bytes, address_reached, argument_address, call_made}
use Rattle.cx_asm_execution.specs.Stands.{IsMachine, IsLegal, StandsInStorage, IsListAddressed, IsClear, code_length, list_length}
use Rattle.cx_asm_execution.specs.Arrives.{Arrives}
use Rattle.cx_asm_execution.proofs.ArrivalMadeLemmas.{counted, measured}
use Rattle.cx_asm_execution.proofs.Ready.{Known, Ready}
use Rattle.cx_asm_execution.proofs.SpanLemmas.{span_agree, word_agree}
use Rattle.cx_asm_execution.proofs.ArrivalWordLemmas.{others_stay, marked_word}
use Rattle.cx_asm_execution.proofs.InstructionLemmas.{word_there}
use Rattle.cx_asm_execution.proofs.ArrivalStoreLemmas.{Stored, store_all, address_small}
use Rattle.cx_asm_execution.proofs.BranchLemmas.{branch_goes}
use Rattle.cx_asm_execution.proofs.ListLemmas.{ListWord, unmarked, marked, is_call}

-- an argument's address is one
value_small : (first : List ℕ) (arguments : List Argument) (k : ℕ) → slice_index (map (argument_address first) arguments) k < 2 ^ 24
value_small first [] k = omega arith
value_small first (a ∷ rest) zero = address_small first a.index a.base a.displacement
value_small first (a ∷ rest) (suc k) = value_small first rest k

-- the machine after the stores
record IsStored (m : Machine) (s : Statement) (mid : Machine) : Type 0 where
  stored : Stored m.regs (address_reached m.regs s.list) 0 (words_of_list s) m mid
  ready : Ready (address_reached m.regs s.list) (branch s) mid

stores_go : Known → (m : Machine) (s : Statement) → IsMachine m → StandsInStorage m s → IsListAddressed m s → IsClear m s → (mid : Machine) × IsStored m s mid
unfolding instructions_made
stores_go known m s machine stands addressed clear =
    let ready : Ready (address_reached m.regs s.list) (instructions_made s) m = record {
      machine = machine;
      even = clear.even;
      there = clear.there;
      stands = stands.instructions;
      apart = clear.code;
      outside = clear.outside;
    } in
    let room = clear.room in
    let all = store_all known m.regs (address_reached m.regs s.list) 0 (words_of_list s) (branch s) m (omega arith) (omega (arith, room)) (λ r some. refl) addressed.words ready in
    (all.0, record { stored = all.2; ready = all.1 })

-- each word of the list after the mark
list_words : (m : Machine) (s : Statement) (mid after : Machine) → IsClear m s → IsStored m s mid → after.storage ≡ after_write mid.storage (address_after (address_reached m.regs s.list) (4 * length s.arguments)) (0x80 ∷ [])
    → (k : ℕ) → k ≤ length s.arguments → ListWord after.storage (address_reached m.regs s.list) (length s.arguments) k (slice_index (map (argument_address m.regs) (words_of_list s)) k)
list_words m s mid after clear is storage k few =
    let list = address_reached m.regs s.list in
    let n = length s.arguments in
    let v = slice_index (map (argument_address m.regs) (words_of_list s)) k in
    let small : v < 2 ^ 24 = value_small m.regs (words_of_list s) k in
    let room = clear.room in
    let fits : 4 * n + 4 ≤ list_length = omega (arith, room) in
    let there = word_there list n 1 (branch s) mid (omega arith) fits (omega arith) is.ready in
    let start : 0 + k ≡ k = omega arith in
    let stored : word_at mid.storage (address_after list (4 * k)) ≡ Some v = rw start at (is.stored.words k (omega (arith, few))) in
    rw storage (elim (cases_lt k n) [
      | inl before ↦
          let kept = word_agree mid.storage (after_write mid.storage (address_after list (4 * n)) (0x80 ∷ [])) (address_after list (4 * k)) (omega arith)
          (λ i less. others_stay mid.storage list n (0x80 ∷ []) (address_after (address_after list (4 * k)) i) (omega arith) (omega arith) fits (omega arith) there (inl (omega (arith, before, less, fits)))) in
          unmarked _ list n k v before small (kept ∙ stored)
      | inr past ↦
          let last : k ≡ n = omega (arith, past, few) in
          let there' = rw (← last) at there in
          marked _ list n k v last small (rw (← last) (marked_word mid.storage (address_after list (4 * k)) v (omega arith) stored small there'))
    ])

pub arrives : Known → CallIsRead → (m : Machine) (s : Statement) → IsMachine m → IsLegal s → StandsInStorage m s → IsListAddressed m s → IsClear m s → (after : Machine) × Arrives m s after
arrives known read m s machine legal stands addressed clear =
    let list = address_reached m.regs s.list in
    let ll : list < 2 ^ 24 = omega arith in
    let n = length s.arguments in
    let room = clear.room in
    let fits : 4 * n + 4 ≤ list_length = omega (arith, room) in
    let mid = (stores_go known m s machine stands addressed clear).0 in
    let is : IsStored m s mid = (stores_go known m s machine stands addressed clear).1 in
    let target : word_at mid.storage (address_reached m.regs s.entry) ≡ Some entry =
    word_agree m.storage mid.storage (address_reached m.regs s.entry) (omega arith)
    (λ i few. is.stored.others (address_after (address_reached m.regs s.entry) i) (omega arith) (inr (let far = clear.entry i few in omega (arith, far, room)))) ∙ stands.entry in
    let start : 0 + n ≡ n = omega arith in
    let last : word_at mid.storage (address_after list (4 * n)) ≡ Some (slice_index (map (argument_address m.regs) (words_of_list s)) n) = rw start at (is.stored.words n (omega arith)) in
    let calls = branch_goes known m.regs list (slice_index (map (argument_address m.regs) (words_of_list s)) n) s mid ll fits is.stored.same addressed.last addressed.list refl addressed.entry addressed.other is.ready
    last (value_small m.regs (words_of_list s) n) target clear.entry in
    let after = calls.0 in
    let called = calls.1 in
    let there = word_there list n 1 (branch s) mid ll fits (omega arith) is.ready in
    let others : (x : ℕ) → x < 2 ^ 24 → 4 * length (words_of_list s) ≤ distance list x → byte_at after.storage x ≡ byte_at m.storage x = λ x lx far.
    rw called.storage (others_stay mid.storage list n (0x80 ∷ []) x ll lx fits (omega arith) there (inr (omega (arith, far))))
    ∙ is.stored.others x lx (inr (omega (arith, far))) in
    let block : span after.storage (address_reached m.regs s.block) (length (resolved_block_bytes s)) ≡ Some (resolved_block_bytes s) =
    span_agree m.storage after.storage (address_reached m.regs s.block) (length (resolved_block_bytes s)) (omega arith)
    (λ i few. others (address_after (address_reached m.regs s.block) i) (omega arith) (let far = clear.block i few in omega (arith, far, room))) ∙ stands.block in
    let is_read : IsCallAt after.storage list (call_made m.regs s) =
    is_call after.storage m.regs list s ll legal addressed.block block (list_words m s mid after clear is called.storage) in
    let place : address_in (slice_index after.regs 1) ≡ list = rw called.place (omega arith) in
    let count : length (instructions_made s) ≡ 2 * length (words_of_list s) + 4 = (let all = counted s in omega (arith, all)) in
    let size : code_length (instructions_made s) ≡ 8 * length (words_of_list s) + 14 = measured s in
    let next = is.stored.next in (
      after,
      record {
        passes = rw count (known.joined (2 * length (words_of_list s)) 4 m mid after is.stored.passes called.passes);
        next = called.next;
        call = rw place ((read after.storage list (call_made m.regs s) called.sound ll).1 is_read);
        kept = called.kept;
        link = rw size (called.link ∙ omega (arith, next));
        others = others;
      },
    )
