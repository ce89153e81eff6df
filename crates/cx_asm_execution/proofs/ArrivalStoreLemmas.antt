-- The stores of addresses into the words of a list, one after the other.
use Rattle.std.proofs.Common.{◌≡◌, ◌≢◌, ℕ, zero, suc, ◌+◌, ◌*◌, ◌^◌, ◌<◌, ◌≤◌, ◌⊎◌, List, [], ◌∷◌, ◌++◌, length, map, Some, slice_index, refl, ◌∙◌, arith, inl, inr}
use Rattle.std.proofs.lemmas.Bool.{cases_eq, eq-eqb, ne_eqb}
use Rattle.std.proofs.lemmas.List.{get_or-set_same, get_or-set_other}
use Rattle.byteorder.specs.Endian.{big_bytes}
use Rattle.cx_storage.specs.Storage.{byte_at}
use Rattle.cx_storage.specs.Address.{address_after, distance}
use Rattle.cx_storage.specs.Word.{word_at}
use Rattle.cx_code.specs.declared.table.Op.TheVariants as op
use Rattle.cx_code.specs.declared.instruction.Fields.TheVariants.{Rx}
use Rattle.cx_code.specs.Spelling.{Instruction, instruction}
use Rattle.cx_exec.specs.Machine.{Machine, effective, address_part}
use Rattle.cx_exec.specs.Advance.{Passes}
use Rattle.cx_asm_execution.specs.Expansion.{ImpliedAddress, Argument, store_instructions, address_reached, argument_address}
use Rattle.std.specs.List.{AllByRecursion, enumerate_from}
use Rattle.cx_asm_execution.specs.Stands.{IsWord, list_length}
use Rattle.cx_asm_execution.proofs.Ready.{Known, Ready}
use Rattle.cx_asm_execution.proofs.SpanLemmas.{word_agree}
use Rattle.cx_asm_execution.proofs.ArrivalWordLemmas.{others_stay}
use Rattle.cx_asm_execution.proofs.InstructionLemmas.{loaded_after, stored_after, load_address, store_word, word_there}

-- registers alike except 0, which no address reads
abbrev pub Same : List ℕ → List ℕ → Type 0
Same first regs = (r : ℕ) → r ≢ 0 → slice_index regs r ≡ slice_index first r

given_same : (first regs : List ℕ) (r : ℕ) → Same first regs → address_part regs r ≡ address_part first r
given_same first regs r same = elim (cases_eq r 0) [
  | inl e ↦ rw (eq-eqb r 0 e) refl
  | inr ne ↦ rw (ne_eqb r 0 ne) (same r ne)
]

pub address_same : (first regs : List ℕ) (x b d : ℕ) → Same first regs → effective regs x b d ≡ effective first x b d
unfolding effective
address_same first regs x b d same = rw (given_same first regs b same, given_same first regs x same) refl

-- with a base that isn't 0 an instruction reaches what the base register and the displacement say
pub reaches : (regs : List ℕ) (place : ImpliedAddress) → place.base ≢ 0 → effective regs 0 place.base place.displacement ≡ address_reached regs place
unfolding effective
reaches regs place some =
    let base : address_part regs place.base ≡ slice_index regs place.base = rw (ne_eqb place.base 0 some) refl in
    rw base (omega arith)

pub address_small : (regs : List ℕ) (x b d : ℕ) → effective regs x b d < 2 ^ 24
unfolding effective
address_small regs x b d = omega arith

-- one address is stored in word k
pub record StoredOne (first : List ℕ) (list k v : ℕ) (m after : Machine) : Type 0 where
  pub passes : Passes 2 m after
  pub next : after.next ≡ address_after m.next 8
  pub same : Same first after.regs
  pub word : word_at after.storage (address_after list (4 * k)) ≡ Some v
  pub others : (x : ℕ) → x < 2 ^ 24 → (distance list x < 4 * k) ⊎ (4 * k + 4 ≤ distance list x) → byte_at after.storage x ≡ byte_at m.storage x

abbrev OneGoes : List ℕ → ℕ → ℕ → Argument → List Instruction → Machine → Type 0
OneGoes first list k a rest m = (after : Machine) × Ready list rest after × StoredOne first list k (argument_address first a) m after

store_one : Known → (first : List ℕ) (list k : ℕ) (a : Argument) (rest : List Instruction) (m : Machine) → list < 2 ^ 24 → 4 * k + 4 ≤ list_length → Same first m.regs
    → IsWord first list k a.word → Ready list (store_instructions (a ∷ []) ++ rest) m → OneGoes first list k a rest m
unfolding Passes
store_one known first list k a rest m ll room same word ready =
    let v = argument_address first a in
    let small : v < 2 ^ 24 = address_small first a.index a.base a.displacement in
    let inside = ready.machine.next in
    let regs = ready.machine.regs in
    let loads = load_address known list 0 a.index a.base a.displacement v (instruction op.St (Rx 0 0 a.word.base a.word.displacement) ∷ rest) m ready
    (address_same first m.regs a.index a.base a.displacement same) in
    let mid = loaded_after 0 v m in
    let same_mid : Same first mid.regs = λ r some. get_or-set_other m.regs 0 r v 0 some ∙ same r some in
    let value : slice_index mid.regs 0 ≡ v = get_or-set_same m.regs 0 v 0 (omega (arith, regs)) in
    let at = address_same first mid.regs 0 a.word.base a.word.displacement same_mid ∙ reaches first a.word word.0 ∙ word.1 in
    let stored = store_word known list k a.word.base a.word.displacement v rest mid ll room loads.1 at value in
    let after = stored_after (address_after list (4 * k)) (big_bytes 4 v) mid.cc mid in
    let there = word_there list k 4 _ mid ll room (omega arith) loads.1 in (
      after,
      stored.1,
      record {
        passes = (mid, loads.0, (after, stored.0, refl));
        next = omega arith;
        same = same_mid;
        word = known.words.word m.storage (address_after list (4 * k)) v (omega arith) (omega (arith, small)) there;
        others = λ x lx aside. others_stay m.storage list k (big_bytes 4 v) x ll lx room (omega arith) there aside;
      },
    )

-- addresses are stored in words k and after
pub record Stored (first : List ℕ) (list k : ℕ) (arguments : List Argument) (m after : Machine) : Type 0 where
  pub passes : Passes (2 * length arguments) m after
  pub next : after.next ≡ address_after m.next (8 * length arguments)
  pub same : Same first after.regs
  pub words : (j : ℕ) → j < length arguments → word_at after.storage (address_after list (4 * (k + j))) ≡ Some (slice_index (map (argument_address first) arguments) j)
  pub others : (x : ℕ) → x < 2 ^ 24 → (distance list x < 4 * k) ⊎ (4 * (k + length arguments) ≤ distance list x) → byte_at after.storage x ≡ byte_at m.storage x

stored_more : Known → (first : List ℕ) (list k : ℕ) (a : Argument) (arguments : List Argument) (m mid after : Machine) → list < 2 ^ 24 → 4 * k + 4 ≤ list_length → m.next < 2 ^ 24
    → StoredOne first list k (argument_address first a) m mid → Stored first list (k + 1) arguments mid after → Stored first list k (a ∷ arguments) m after
stored_more known first list k a arguments m mid after ll room inside one more =
    let count : 2 * suc (length arguments) ≡ 2 + 2 * length arguments = omega arith in
    let second = one.next in
    let third = more.next in
    record {
      passes = rw count (known.joined 2 (2 * length arguments) m mid after one.passes more.passes);
      next = omega (arith, second, third);
      same = more.same;
      words = words;
      others = others;
    }
  where
    kept : (i : ℕ) → i < 4 → byte_at after.storage (address_after (address_after list (4 * k)) i) ≡ byte_at mid.storage (address_after (address_after list (4 * k)) i)
    kept i few = more.others (address_after (address_after list (4 * k)) i) (omega arith) (inl (omega (arith, few, ll, room)))

    words : (j : ℕ) → j < suc (length arguments) → word_at after.storage (address_after list (4 * (k + j))) ≡ Some (slice_index (map (argument_address first) (a ∷ arguments)) j)
    words zero few =
        let here : k + 0 ≡ k = omega arith in
        rw here (word_agree mid.storage after.storage (address_after list (4 * k)) (omega arith) kept ∙ one.word)
    words (suc j) few =
        let there : k + suc j ≡ k + 1 + j = omega arith in
        rw there (more.words j (omega (arith, few)))

    others : (x : ℕ) → x < 2 ^ 24 → (distance list x < 4 * k) ⊎ (4 * (k + suc (length arguments)) ≤ distance list x) → byte_at after.storage x ≡ byte_at m.storage x
    others x lx (inl before) = more.others x lx (inl (omega (arith, before))) ∙ one.others x lx (inl before)
    others x lx (inr beyond) = more.others x lx (inr (omega (arith, beyond))) ∙ one.others x lx (inr (omega (arith, beyond)))

-- each has its own word, from word k on
abbrev pub HaveWords : List ℕ → ℕ → ℕ → List Argument → Type 0
HaveWords regs list k arguments = AllByRecursion (λ e. IsWord regs list e.0 e.1.word) (enumerate_from k arguments)

abbrev AllGo : List ℕ → ℕ → ℕ → List Argument → List Instruction → Machine → Type 0
AllGo first list k arguments rest m = (after : Machine) × Ready list rest after × Stored first list k arguments m after

pub store_all : Known → (first : List ℕ) (list k : ℕ) (arguments : List Argument) (rest : List Instruction) (m : Machine) → list < 2 ^ 24 → 4 * (k + length arguments) ≤ list_length
    → Same first m.regs → HaveWords first list k arguments → Ready list (store_instructions arguments ++ rest) m → AllGo first list k arguments rest m
unfolding Passes
store_all known first list k [] rest m ll room same words ready =
    let inside = ready.machine.next in (
      m,
      ready,
      record {
        passes = refl;
        next = omega arith;
        same = same;
        words = λ j few. absurd (omega (arith, few));
        others = λ x lx aside. refl;
      },
    )
store_all known first list k (a ∷ arguments) rest m ll room same words ready =
    let one = store_one known first list k a (store_instructions arguments ++ rest) m ll (omega arith) same words.0 ready in
    let more = store_all known first list (k + 1) arguments rest one.0 ll (omega arith) one.2.same words.1 one.1 in
    (more.0, more.1, stored_more known first list k a arguments m one.0 more.0 ll (omega arith) ready.machine.next one.2 more.2)
