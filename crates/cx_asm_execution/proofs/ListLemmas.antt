-- The list that was built is read as the statement's call.
use Rattle.std.proofs.Common.{flat_map, ◌≡◌, ◌≢◌, ℕ, zero, suc, ◌+◌, ◌*◌, ◌^◌, ◌<◌, ◌≤◌, List, [], ◌∷◌, length, map, Bool, true, false, Some, slice_index, ◌==◌, refl, sym, ◌∙◌, ap, arith}
use Rattle.std.specs.Prelude.{MatchBool, IsTrue}
use Rattle.std.specs.Option.{option_map}
use Rattle.std.proofs.lemmas.Bool.{eq-eqb, ne_eqb, le-leb, lt-leb}
use Rattle.std.proofs.lemmas.List.{length-map}
use Rattle.std.proofs.lemmas.Option.{slice_get-get_or}
use Rattle.cx_base.specs.declared.legal.ListedCondition.{ListedCondition}
use Rattle.cx_base.specs.Legal.{is_legal_list, lists_conditions}
use Rattle.cx_storage.specs.Storage.{Storage, byte_at, span}
use Rattle.cx_storage.specs.Address.{address_in, address_after}
use Rattle.cx_storage.specs.Word.{word_at}
use Rattle.cx_storage.specs.Facts.Spans.{span_at, span_from}
use Rattle.cx_region_state.specs.Call.{has_high_bit, listed_in}
use Rattle.cx_region_state.specs.Laws.Calls.{IsCallAt, bytes_of_block}
use Rattle.cx_exec.specs.Machine.{effective}
use Rattle.cx_asm_execution.specs.Expansion.{Statement, words_of_list, resolved_block_bytes, address_reached, argument_address, call_made}
use Rattle.cx_asm_execution.specs.Stands.{IsLegal}
use Rattle.cx_asm_execution.proofs.ArrivalStoreLemmas.{reaches}

-- the first four bytes of a span, and those after them
front_of_span : (s : Storage) (a b0 b1 b2 b3 : ℕ) (rest : List ℕ) → a < 2 ^ 24 → span s a (length (b0 ∷ b1 ∷ b2 ∷ b3 ∷ rest)) ≡ Some (b0 ∷ b1 ∷ b2 ∷ b3 ∷ rest)
    → span s a 4 ≡ Some (b0 ∷ b1 ∷ b2 ∷ b3 ∷ [])
front_of_span s a b0 b1 b2 b3 rest la e = span_from s a 4 (b0 ∷ b1 ∷ b2 ∷ b3 ∷ []) la refl each
  where
    byte : (k : ℕ) → k < 4 → byte_at s (address_after a k) ≡ Some (slice_index (b0 ∷ b1 ∷ b2 ∷ b3 ∷ rest) k)
    byte k few = span_at s a (length (b0 ∷ b1 ∷ b2 ∷ b3 ∷ rest)) (b0 ∷ b1 ∷ b2 ∷ b3 ∷ rest) k la e (omega (arith, few))

    each : (k : ℕ) → k < 4 → byte_at s (address_after a k) ≡ Some (slice_index (b0 ∷ b1 ∷ b2 ∷ b3 ∷ []) k)
    each zero h = byte 0 h
    each (suc zero) h = byte 1 h
    each (suc (suc zero)) h = byte 2 h
    each (suc (suc (suc zero))) h = byte 3 h
    each (suc (suc (suc (suc k)))) h = absurd (omega arith)

rest_of_span : (s : Storage) (a b0 b1 b2 b3 : ℕ) (rest : List ℕ) → a < 2 ^ 24 → span s a (length (b0 ∷ b1 ∷ b2 ∷ b3 ∷ rest)) ≡ Some (b0 ∷ b1 ∷ b2 ∷ b3 ∷ rest)
    → span s (address_after a 4) (length rest) ≡ Some rest
rest_of_span s a b0 b1 b2 b3 rest la e = span_from s (address_after a 4) (length rest) rest (omega arith) refl (λ k few.
    let at : address_after (address_after a 4) k ≡ address_after a (suc (suc (suc (suc k)))) = omega arith in
    rw at (span_at s a (length (b0 ∷ b1 ∷ b2 ∷ b3 ∷ rest)) (b0 ∷ b1 ∷ b2 ∷ b3 ∷ rest) (suc (suc (suc (suc k)))) la e (omega (arith, few))))

-- the conditions' bytes are read as the conditions
abbrev condition_bytes : List ListedCondition → List ℕ
condition_bytes listed = flat_map (λ (l : ListedCondition). l.number ∷ l.label ∷ []) listed

condition_length : (listed : List ListedCondition) → length (condition_bytes listed) ≡ 2 * length listed
condition_length [] = refl
condition_length (l ∷ rest) = let more = condition_length rest in omega (arith, more)

conditions_read : (listed : List ListedCondition) → listed_in (condition_bytes listed) ≡ listed
conditions_read [] = refl
conditions_read (l ∷ rest) = ap (λ (others : List ListedCondition). l ∷ others) (conditions_read rest)

-- a word of the list: its address, and its kind, which the last alone has
pub record ListWord (s : Storage) (list n k v : ℕ) : Type 0 where
  pub word : ℕ
  pub at : word_at s (address_after list (4 * k)) ≡ Some word
  pub address : address_in word ≡ v
  pub mark : has_high_bit word ≡ (k == n)

pub unmarked : (s : Storage) (list n k v : ℕ) → k < n → v < 2 ^ 24 → word_at s (address_after list (4 * k)) ≡ Some v → ListWord s list n k v
unmarked s list n k v before small e = record {
  word = v;
  at = e;
  address = omega arith;
  mark = lt-leb (2 ^ 31) v (omega (arith, small)) ∙ sym (ne_eqb k n (λ same. omega (arith, same, before)));
}

pub marked : (s : Storage) (list n k v : ℕ) → k ≡ n → v < 2 ^ 24 → word_at s (address_after list (4 * k)) ≡ Some (2 ^ 31 + v) → ListWord s list n k v
marked s list n k v same small e = record {
  word = 2 ^ 31 + v;
  at = e;
  address = omega (arith, small);
  mark = le-leb (2 ^ 31) (2 ^ 31 + v) (omega arith) ∙ sym (eq-eqb k n same);
}

-- The list and the block, where they hold what the statement says, are its call.
pub is_call : (s : Storage) (first : List ℕ) (list : ℕ) (statement : Statement) → list < 2 ^ 24 → IsLegal statement → statement.block.base ≢ 0
    → span s (address_reached first statement.block) (length (resolved_block_bytes statement)) ≡ Some (resolved_block_bytes statement)
    → ((k : ℕ) → k ≤ length statement.arguments → ListWord s list (length statement.arguments) k (slice_index (map (argument_address first) (words_of_list statement)) k))
    → IsCallAt s list (call_made first statement)
unfolding resolved_block_bytes call_made
is_call s first list statement ll legal based block words = record {
  block = rw (head, at, start) (front_of_span s place _ _ _ _ _ (omega arith) block);
  options = legal.options;
  conditions = listed (lists_conditions statement.command) legal.conditions;
  count = size ∙ legal.count;
  words = λ k few.
      let word = words k (omega (arith, few, size)) in
      rw word.at (word.mark ∙ ap (λ (n : ℕ). k == n) (sym size));
  places = λ k few.
      let word = words (suc k) (omega (arith, few, size)) in
      let next : k + 1 ≡ suc k = omega arith in
      rw (next, word.at) (ap Some word.address ∙ sym (slice_get-get_or (map (argument_address first) statement.arguments) k 0 few));
}
  where
    place : ℕ
    place = address_reached first statement.block

    size : length (map (argument_address first) statement.arguments) ≡ length statement.arguments
    size = length-map statement.arguments (argument_address first)

    first_word : ListWord s list (length statement.arguments) 0 (effective first 0 statement.block.base statement.block.displacement)
    first_word = words 0 (omega arith)

    head : word_at s list ≡ Some first_word.word
    head = let none : address_after list (4 * 0) ≡ list = omega arith in rw none at first_word.at

    at : address_in first_word.word ≡ place
    at = first_word.address ∙ reaches first statement.block based

    start : address_after place 0 ≡ place
    start = omega arith

    after : option_map listed_in (bytes_of_block s list 4 (2 * length statement.conditions)) ≡ Some statement.conditions
    after =
        let bytes = rest_of_span s place _ _ _ _ (condition_bytes statement.conditions) (omega arith) block in
        rw (head, at, sym (condition_length statement.conditions), bytes) (ap Some (conditions_read statement.conditions))

    listed : (lists : Bool) → MatchBool lists ((statement.first ≡ length statement.conditions) × IsTrue (is_legal_list statement.command statement.conditions)) (statement.conditions ≡ [])
        → MatchBool lists ((option_map listed_in (bytes_of_block s list 4 (2 * statement.first)) ≡ Some statement.conditions) × IsTrue (is_legal_list statement.command statement.conditions)) (statement.conditions ≡ [])
    listed true h = (rw h.0 after, h.1)
    listed false h = h
