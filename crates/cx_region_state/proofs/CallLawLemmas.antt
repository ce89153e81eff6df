-- A call is read exactly where its list has what `IsCallAt` says.
use Rattle.std.proofs.Common.{◌≡◌, ℕ, zero, suc, ◌+◌, ◌-◌, ◌*◌, ◌/◌, ◌%◌, ◌^◌, ◌<◌, ◌≤◌, ◌↔◌, ◌≢◌, Bool, nat_lt, true, false, ◌==◌, List, [], ◌∷◌, length, map, drop, slice_get, slice_index, Option, Some, None, Result, Ok, Err, is_some, IsSomeAnd, IsTrue, MatchBool, refl, sym, ap, ◌∙◌, arith, inl, inr, add-one, count_by, if◌then◌else◌}
use Rattle.std.specs.Option.{option_map, option_and_then, ok_or, unwrap_or}
use Rattle.std.specs.List.{AllByRecursion, position_or_len}
use Rattle.std.proofs.lemmas.Bool.{cases_Bool, eqb-true, eq-eqb, ltb-true, ltb-false}
use Rattle.std.proofs.lemmas.Bool.Decides.{eqb_tells}
use Rattle.std.proofs.lemmas.List.{ext_get_or, length-map}
use Rattle.std.proofs.lemmas.List.Sums.{fails_before_first, passes_at_first, position_or_len_is}
use Rattle.std.proofs.lemmas.Option.{slice_get-get_or, slice_get-map, slice_get_within, unwrap_or-slice_get}
use Rattle.cx_base.specs.declared.commands.Command.{Command}
use Rattle.cx_base.specs.declared.legal.ListedCondition.{ListedCondition}
use Rattle.cx_base.specs.Commands.{row_of}
use Rattle.cx_base.specs.declared.options.CommandOption.{CommandOption}
use Rattle.cx_base.specs.Arguments.{argument_index, arguments_in}
use Rattle.cx_base.specs.Commands.{command_with}
use Rattle.cx_storage.specs.Address.{address_in}
use Rattle.cx_base.specs.Legal.{is_legal, is_legal_list, lists_conditions}
use Rattle.cx_storage.specs.Storage.{Storage, span, IsSoundStorage}
use Rattle.cx_storage.specs.Address.{address_after}
use Rattle.cx_storage.specs.Facts.Sound.{span_small}
use Rattle.cx_storage.specs.Facts.Spans.{span_length}
use Rattle.cx_storage.specs.Word.{word_at}
use Rattle.cx_region_state.specs.declared.call.CallFault.{CallFault}
use Rattle.cx_region_state.specs.declared.call.CallFault.TheVariants.{Xarg, Xfun}
use Rattle.cx_region_state.specs.Call.{Call, ArgumentBlock, argument_count, block_from, block_of, call_of, command_of, conditions_of, has_high_bit, has_resp, listed_in, marks_last_alone, only_if, place_of, places_of, resp_place, has_label, then_result, words_from}
use Rattle.cx_region_state.specs.Laws.Calls.{IsCallAt, arguments_of, bytes_of_block, list_word}

-- ---- results

then_ok : {A B : Type 0} (r : Result A CallFault) (f : A → Result B CallFault) (y : B) → then_result r f ≡ Ok y → (x : A) × (r ≡ Ok x) × (f x ≡ Ok y)
then_ok (Ok x) f y e = (x, refl, e)
then_ok (Err fault) f y e = cc

only_ok : {A : Type 0} (b : Bool) (x y : A) (fault : CallFault) → only_if b x fault ≡ Ok y → (b ≡ true) × (x ≡ y)
only_ok true x y fault e = (refl, cc)
only_ok false x y fault e = cc

some_ok : {A : Type 0} (o : Option A) (fault : CallFault) (x : A) → ok_or o fault ≡ Ok x → o ≡ Some x
some_ok None fault x e = cc
some_ok (Some y) fault x e = let same : y ≡ x = cc in ap Some same

is_other : (a b : ℕ) → a ≢ b → (a == b) ≡ false
is_other a b ne = elim (eqb_tells a b) [ inl t ↦ absurd (ne t.1) | inr f ↦ f.0 ]

-- ---- the words

along_none : (a : ℕ) → a < 2 ^ 24 → address_after a (4 * 0) ≡ a
along_none a h = omega arith

along_more : (a k : ℕ) → address_after (address_after a 4) (4 * k) ≡ address_after a (4 * suc k)
along_more a k = omega arith

-- the words read are those at their places
words_in : (s : Storage) (a n : ℕ) (words : List ℕ) → a < 2 ^ 24 → words_from s a n ≡ Some words
    → (length words ≡ n) × ((k : ℕ) → k < n → list_word s a k ≡ slice_get words k)
unfolding words_from
words_in s a zero words h e = let nil : [] ≡ words = cc in rw (← nil) (refl, λ k l. absurd (omega arith))
words_in s a (suc n) words h e = go (word_at s a) (words_from s (address_after a 4) n) refl (λ rest f. words_in s (address_after a 4) n rest (omega arith) f) e
  where
    go : (o : Option ℕ) (r : Option (List ℕ)) → word_at s a ≡ o
        → ((rest : List ℕ) → r ≡ Some rest → (length rest ≡ n) × ((k : ℕ) → k < n → list_word s (address_after a 4) k ≡ slice_get rest k))
        → option_and_then (λ word. option_map (λ rest. word ∷ rest) r) o ≡ Some words → (length words ≡ suc n) × ((k : ℕ) → k < suc n → list_word s a k ≡ slice_get words k)
    go None r here more e = cc
    go (Some word) None here more e = cc
    go (Some word) (Some rest) here more e =
        let shape : word ∷ rest ≡ words = cc in
        let tail = more rest refl in
        rw (← shape) (ap suc tail.0, at tail.1)
      where
        at : ((k : ℕ) → k < n → list_word s (address_after a 4) k ≡ slice_get rest k) → (k : ℕ) → k < suc n → list_word s a k ≡ slice_get (word ∷ rest) k
        at more zero l = ap (word_at s) (along_none a h) ∙ here
        at more (suc k) l = ap (word_at s) (sym (along_more a k)) ∙ more k (omega arith)

-- where each word is in storage, they are read
words_there : (s : Storage) (a n : ℕ) → a < 2 ^ 24 → ((k : ℕ) → k < n → is_some (list_word s a k) ≡ true) → (words : List ℕ) × (words_from s a n ≡ Some words)
unfolding words_from
words_there s a zero h there = ([], refl)
words_there s a (suc n) h there =
    let tail = words_there s (address_after a 4) n (omega arith) (λ k l. ap (λ x. is_some (word_at s x)) (along_more a k) ∙ there (suc k) (omega arith)) in
    go (word_at s a) (words_from s (address_after a 4) n) (ap (λ x. is_some (word_at s x)) (sym (along_none a h)) ∙ there zero (omega arith)) tail.0 tail.1
  where
    go : (o : Option ℕ) (r : Option (List ℕ)) → is_some o ≡ true → (rest : List ℕ) → r ≡ Some rest
        → (words : List ℕ) × (option_and_then (λ word. option_map (λ rest. word ∷ rest) r) o ≡ Some words)
    go None r here rest e = cc
    go (Some word) r here rest e = (word ∷ rest, rw e refl)

-- ---- the high bit

marks_each : (words : List ℕ) → marks_last_alone words ≡ true → (k : ℕ) → k < length words → has_high_bit (slice_index words k) ≡ (k + 1 == length words)
unfolding marks_last_alone
marks_each words e k l =
    let last : position_or_len has_high_bit words + 1 ≡ length words = eqb-true _ _ e in
    elim (cases_Bool (nat_lt k (position_or_len has_high_bit words))) [
      | inl t ↦
          let before = ltb-true _ _ t in
          let low : (k + 1 == length words) ≡ false = is_other (k + 1) (length words) (omega arith) in
          fails_before_first has_high_bit words k 0 before ∙ sym low
      | inr f ↦
          let same : position_or_len has_high_bit words ≡ k = omega (arith, ltb-false _ _ f) in
          let high : has_high_bit (slice_index words k) ≡ true = rw same at (passes_at_first has_high_bit words 0 (omega arith)) in
          high ∙ sym (eq-eqb _ _ (omega arith))
    ]

marks_from : (words : List ℕ) → 0 < length words → ((k : ℕ) → k < length words → has_high_bit (slice_index words k) ≡ (k + 1 == length words)) → marks_last_alone words ≡ true
unfolding marks_last_alone
marks_from words some each =
    let at : position_or_len has_high_bit words ≡ length words - 1 =
    position_or_len_is has_high_bit words (length words - 1) 0 (omega arith)
    (λ k l. each k (omega arith) ∙ is_other (k + 1) (length words) (omega arith))
    (λ l. each (length words - 1) l ∙ eq-eqb _ _ (omega arith)) in
    eq-eqb _ _ (omega arith)

-- ---- the block

four : (place : ℕ) (bytes : List ℕ) (block : ArgumentBlock) → length bytes ≡ 4 → AllByRecursion (λ b. b < 256) bytes → block_from place bytes ≡ block
    → (block.place ≡ place) × (bytes ≡ block.function / 256 ∷ block.function % 256 ∷ block.first ∷ block.second ∷ [])
four place [] block l all e = absurd (omega arith)
four place (b0 ∷ []) block l all e = absurd (omega arith)
four place (b0 ∷ b1 ∷ []) block l all e = absurd (omega arith)
four place (b0 ∷ b1 ∷ b2 ∷ []) block l all e = absurd (omega arith)
four place (b0 ∷ b1 ∷ b2 ∷ b3 ∷ []) block l all e =
    let quotient : (b0 * 256 + b1) / 256 ≡ b0 = omega (arith, all.1.0) in
    let remainder : (b0 * 256 + b1) % 256 ≡ b1 = omega (arith, all.1.0) in
    rw (← e) (refl, rw (quotient, remainder) refl)
four place (b0 ∷ b1 ∷ b2 ∷ b3 ∷ b4 ∷ rest) block l all e = absurd (omega arith)

-- the word that addresses a block, and the block's bytes
block_read : (s : Storage) (list : ℕ) (block : ArgumentBlock) → IsSoundStorage s → block_of s list ≡ Ok block
    → (word : ℕ) × (word_at s list ≡ Some word) × (block.place ≡ address_in word)
    × (span s (address_in word) 4 ≡ Some (block.function / 256 ∷ block.function % 256 ∷ block.first ∷ block.second ∷ []))
unfolding block_of
block_read s list block ok e = go (word_at s list) refl (some_ok _ _ _ e)
  where
    at_bytes : (place : ℕ) (r : Option (List ℕ)) → span s place 4 ≡ r → option_map (block_from place) r ≡ Some block
        → (block.place ≡ place) × (r ≡ Some (block.function / 256 ∷ block.function % 256 ∷ block.first ∷ block.second ∷ []))
    at_bytes place None f g = cc
    at_bytes place (Some bytes) f g =
        let parts = four place bytes block (span_length s place 4 bytes f) (span_small s place 4 bytes ok f) (cc) in
        (parts.0, ap Some parts.1)

    go : (o : Option ℕ) → word_at s list ≡ o → option_and_then (λ word. option_map (block_from (address_in word)) (span s (address_in word) 4)) o ≡ Some block
        → (word : ℕ) × (word_at s list ≡ Some word) × (block.place ≡ address_in word)
        × (span s (address_in word) 4 ≡ Some (block.function / 256 ∷ block.function % 256 ∷ block.first ∷ block.second ∷ []))
    go None f g = cc
    go (Some word) f g = let parts = at_bytes (address_in word) (span s (address_in word) 4) refl g in (word, f, parts.0, parts.1)

place_itself : (word : ℕ) → address_after (address_in word) 0 ≡ address_in word
place_itself word = omega arith

-- ---- the listed conditions

conditions_read : (s : Storage) (list word : ℕ) (command : Command) (block : ArgumentBlock) (conditions : List ListedCondition)
    → word_at s list ≡ Some word → block.place ≡ address_in word → conditions_of s command block ≡ Ok conditions
    → MatchBool (lists_conditions command)
    ((option_map listed_in (bytes_of_block s list 4 (2 * block.first)) ≡ Some conditions) × IsTrue (is_legal_list command conditions))
    (conditions ≡ [])
unfolding conditions_of
conditions_read s list word command block conditions w p e = elim (cases_Bool (lists_conditions command)) [
  | inl t ↦ rw (t, w) (at_bytes (rw (t, p) at e))
  | inr f ↦ rw f (let g : Ok [] ≡ Ok conditions = rw f at e in cc)
]
  where
    at_bytes : then_result (ok_or (span s (address_after (address_in word) 4) (2 * block.first)) Xarg) (λ bytes. only_if (is_legal_list command (listed_in bytes)) (listed_in bytes) Xfun) ≡ Ok conditions
        → (option_map listed_in (span s (address_after (address_in word) 4) (2 * block.first)) ≡ Some conditions) × IsTrue (is_legal_list command conditions)
    at_bytes e = go (span s (address_after (address_in word) 4) (2 * block.first)) e
      where
        go : (r : Option (List ℕ)) → then_result (ok_or r Xarg) (λ bytes. only_if (is_legal_list command (listed_in bytes)) (listed_in bytes) Xfun) ≡ Ok conditions
            → (option_map listed_in r ≡ Some conditions) × IsTrue (is_legal_list command conditions)
        go None e = cc
        go (Some bytes) e = let parts = only_ok _ _ _ _ e in (ap Some parts.1, ap (is_legal_list command) (sym parts.1) ∙ parts.0)

-- ---- the addresses

same_end : (k n : ℕ) → (k + 1 == 1 + n) ≡ (k == n)
same_end k n = elim (eqb_tells k n) [
  | inl t ↦ eq-eqb _ _ (omega (arith, t.1)) ∙ sym t.0
  | inr f ↦ is_other _ _ (λ e. f.1 (omega arith)) ∙ sym f.0
]

after_first : (words : List ℕ) (n : ℕ) → length words ≡ 1 + n → (length (map address_in (drop 1 words)) ≡ n) × ((k : ℕ) → option_map address_in (slice_get words (k + 1)) ≡ slice_get (map address_in (drop 1 words)) k)
after_first [] n e = absurd (omega arith)
after_first (word ∷ rest) n e = (length-map rest address_in ∙ omega arith, λ k. rw add-one (sym (slice_get-map address_in rest k)))

places_read : (s : Storage) (list n : ℕ) (places : List ℕ) → list < 2 ^ 24 → places_of s list n ≡ Ok places
    → (length places ≡ n) × ((k : ℕ) → k ≤ n → IsSomeAnd (list_word s list k) (λ word. has_high_bit word ≡ (k == n)))
    × ((k : ℕ) → k < n → option_map address_in (list_word s list (k + 1)) ≡ slice_get places k)
unfolding places_of
places_read s list n places h e =
    let read = then_ok (ok_or (words_from s list (1 + n)) Xarg) (λ words. only_if (marks_last_alone words) (map address_in (drop 1 words)) Xarg) places e in
    let words : List ℕ = read.0 in
    let each = words_in s list (1 + n) words h (some_ok _ _ _ read.1) in
    let marks = only_ok _ _ _ _ read.2 in
    at words each.0 each.1 marks.0 marks.1
  where
    at : (words : List ℕ) → length words ≡ 1 + n → ((k : ℕ) → k < 1 + n → list_word s list k ≡ slice_get words k) → marks_last_alone words ≡ true → map address_in (drop 1 words) ≡ places
        → (length places ≡ n) × ((k : ℕ) → k ≤ n → IsSomeAnd (list_word s list k) (λ word. has_high_bit word ≡ (k == n)))
        × ((k : ℕ) → k < n → option_map address_in (list_word s list (k + 1)) ≡ slice_get places k)
    at words long each marks shape =
        let after = after_first words n long in
        rw (← shape) (
          after.0,
          λ k l. rw (each k (omega arith), slice_get-get_or words k 0 (omega arith)) (marks_each words marks k (omega arith) ∙ rw long (same_end k n)),
          λ k l. ap (option_map address_in) (each (k + 1) (omega arith)) ∙ after.1 k,
        )

-- ---- from the call to its list

-- a command is found exactly by its function value
abbrev AreFound : Type 0
AreFound = (function : ℕ) (command : Command) → (command_with function ≡ Some command) ↔ ((row_of command).function ≡ function)

command_read : AreFound → (block : ArgumentBlock) (command : Command) → command_of block ≡ Ok command
    → ((row_of command).function ≡ block.function) × IsTrue (is_legal command block.first block.second)
unfolding command_of
command_read are_found block command e =
    let found = then_ok (ok_or (command_with block.function) Xfun) (λ command. only_if (is_legal command block.first block.second) command Xfun) command e in
    let kept = only_ok _ _ _ _ found.2 in
    at found.0 (some_ok _ _ _ found.1) kept.0 kept.1
  where
    at : (x : Command) → command_with block.function ≡ Some x → is_legal x block.first block.second ≡ true → x ≡ command
        → ((row_of command).function ≡ block.function) × IsTrue (is_legal command block.first block.second)
    at x f legal same = rw (← same) ((are_found block.function x).0 f, legal)

call_with : Command → ArgumentBlock → List ListedCondition → List ℕ → Call
call_with command block conditions places =
    record { command = command; first = block.first; second = block.second; conditions = conditions; places = places }

has_all : AreFound → (s : Storage) (list : ℕ) (block : ArgumentBlock) (command : Command) (conditions : List ListedCondition) (places : List ℕ)
    → IsSoundStorage s → list < 2 ^ 24 → block_of s list ≡ Ok block → command_of block ≡ Ok command → conditions_of s command block ≡ Ok conditions
    → places_of s list (argument_count command block conditions) ≡ Ok places → IsCallAt s list (call_with command block conditions places)
unfolding argument_count call_with
has_all are_found s list block command conditions places ok h b c l p =
    let read = block_read s list block ok b in
    let known = command_read are_found block command c in
    let after = conditions_read s list read.0 command block conditions read.1 read.2 l in
    let each = places_read s list (argument_count command block conditions) places h p in
    let long : length places ≡ argument_count command block conditions = each.0 in
    record {
      block = rw (read.1, place_itself read.0, known.0) read.3;
      options = known.1;
      conditions = after;
      count = long;
      words = λ k le. rw long (each.1 k (omega arith));
      places = λ k lt. each.2 k (omega arith);
    }

forward : AreFound → (s : Storage) (list : ℕ) (call : Call) → IsSoundStorage s → list < 2 ^ 24 → call_of s list ≡ Ok call → IsCallAt s list call
unfolding call_of call_with
forward are_found s list call ok h e =
    let b = then_ok _ _ call e in
    let c = then_ok _ _ call b.2 in
    let l = then_ok _ _ call c.2 in
    let p = then_ok _ _ call l.2 in
    let same : call_with c.0 b.0 l.0 p.0 ≡ call = cc in
    rw (← same) (has_all are_found s list b.0 c.0 l.0 p.0 ok h b.1 c.1 l.1 p.1)

-- ---- from the list to the call

block_there : (s : Storage) (list f a b : ℕ) → bytes_of_block s list 0 4 ≡ Some (f / 256 ∷ f % 256 ∷ a ∷ b ∷ [])
    → (word : ℕ) × (word_at s list ≡ Some word) × (block_of s list ≡ Ok (record { place = address_in word; function = f; first = a; second = b }))
unfolding block_of
block_there s list f a b e = go (word_at s list) e
  where
    whole : f / 256 * 256 + f % 256 ≡ f
    whole = omega arith

    go : (o : Option ℕ) → option_and_then (λ word. span s (address_after (address_in word) 0) 4) o ≡ Some (f / 256 ∷ f % 256 ∷ a ∷ b ∷ [])
        → (word : ℕ) × (o ≡ Some word) × (ok_or (option_and_then (λ word. option_map (block_from (address_in word)) (span s (address_in word) 4)) o) Xarg ≡ Ok (record { place = address_in word; function = f; first = a; second = b }))
    go None g = cc
    go (Some word) g =
        let bytes : span s (address_in word) 4 ≡ Some (f / 256 ∷ f % 256 ∷ a ∷ b ∷ []) = rw (place_itself word) at g in
        (word, refl, rw (bytes, whole) refl)

command_there : AreFound → (block : ArgumentBlock) (command : Command) → (row_of command).function ≡ block.function → is_legal command block.first block.second ≡ true → command_of block ≡ Ok command
unfolding command_of
command_there are_found block command f legal =
    let found : command_with block.function ≡ Some command = (are_found block.function command).1 f in
    rw (found, legal) refl

conditions_there : (s : Storage) (list word : ℕ) (command : Command) (block : ArgumentBlock) (conditions : List ListedCondition)
    → word_at s list ≡ Some word → block.place ≡ address_in word
    → MatchBool (lists_conditions command)
    ((option_map listed_in (bytes_of_block s list 4 (2 * block.first)) ≡ Some conditions) × IsTrue (is_legal_list command conditions))
    (conditions ≡ [])
    → conditions_of s command block ≡ Ok conditions
unfolding conditions_of
conditions_there s list word command block conditions w p m = elim (cases_Bool (lists_conditions command)) [
  | inl t ↦ let parts = rw (t, w) at m in rw (t, p) (go (span s (address_after (address_in word) 4) (2 * block.first)) parts.0 parts.1)
  | inr f ↦ let none : conditions ≡ [] = rw f at m in rw f (ap Ok (sym none))
]
  where
    go : (r : Option (List ℕ)) → option_map listed_in r ≡ Some conditions → is_legal_list command conditions ≡ true
        → then_result (ok_or r Xarg) (λ bytes. only_if (is_legal_list command (listed_in bytes)) (listed_in bytes) Xfun) ≡ Ok conditions
    go None e legal = cc
    go (Some bytes) e legal =
        let same : listed_in bytes ≡ conditions = cc in
        rw (same, legal) refl

there_if : (o : Option ℕ) (P : ℕ → Type 0) → IsSomeAnd o P → is_some o ≡ true
there_if None P h = absurd h
there_if (Some x) P h = refl

places_there : (s : Storage) (list n : ℕ) (places : List ℕ) → list < 2 ^ 24 → length places ≡ n
    → ((k : ℕ) → k ≤ n → IsSomeAnd (list_word s list k) (λ word. has_high_bit word ≡ (k == n)))
    → ((k : ℕ) → k < n → option_map address_in (list_word s list (k + 1)) ≡ slice_get places k) → places_of s list n ≡ Ok places
unfolding places_of
places_there s list n places h long each found =
    let read = words_there s list (1 + n) h (λ k l. there_if (list_word s list k) (λ word. has_high_bit word ≡ (k == n)) (each k (omega arith))) in
    let at = words_in s list (1 + n) read.0 h read.1 in
    let marks = marks_from read.0 (omega arith) (high read.0 at.0 at.1) in
    let same = addresses read.0 at.0 at.1 in
    rw (read.1, marks, same) refl
  where
    high : (words : List ℕ) → length words ≡ 1 + n → ((k : ℕ) → k < 1 + n → list_word s list k ≡ slice_get words k) → (k : ℕ) → k < length words
        → has_high_bit (slice_index words k) ≡ (k + 1 == length words)
    high words l at k lt =
        let word : list_word s list k ≡ Some (slice_index words k) = at k (omega arith) ∙ slice_get-get_or words k 0 lt in
        let bit : has_high_bit (slice_index words k) ≡ (k == n) = rw word at (each k (omega arith)) in
        bit ∙ rw l (sym (same_end k n))

    addresses : (words : List ℕ) → length words ≡ 1 + n → ((k : ℕ) → k < 1 + n → list_word s list k ≡ slice_get words k) → map address_in (drop 1 words) ≡ places
    addresses words l at =
        let after = after_first words n l in
        ext_get_or 0 (map address_in (drop 1 words)) places (after.0 ∙ sym long) (λ i lt.
        let same : slice_get (map address_in (drop 1 words)) i ≡ slice_get places i = sym (after.1 i) ∙ ap (option_map address_in) (sym (at (i + 1) (omega arith))) ∙ found i (omega arith) in
        sym (unwrap_or-slice_get (map address_in (drop 1 words)) i 0) ∙ ap (λ o. unwrap_or o 0) same ∙ unwrap_or-slice_get places i 0)

backward : AreFound → (s : Storage) (list : ℕ) (call : Call) → list < 2 ^ 24 → IsCallAt s list call → call_of s list ≡ Ok call
unfolding call_of argument_count
backward are_found s list call h is =
    let b = block_there s list (row_of call.command).function call.first call.second is.block in
    at b.0 b.1 b.2
  where
    at : (word : ℕ) → word_at s list ≡ Some word
        → block_of s list ≡ Ok (record { place = address_in word; function = (row_of call.command).function; first = call.first; second = call.second }) → call_of s list ≡ Ok call
    at word w b =
        let block : ArgumentBlock = record { place = address_in word; function = (row_of call.command).function; first = call.first; second = call.second } in
        let c = command_there are_found block call.command refl is.options in
        let l = conditions_there s list word call.command block call.conditions w refl is.conditions in
        let p : places_of s list (argument_count call.command block call.conditions) ≡ Ok call.places = places_there s list _ call.places h is.count (λ k le. rw (← is.count) (is.words k (rw is.count le))) (λ k lt. is.places k (rw is.count lt)) in
        rw (b, c, l, p) refl

pub call_is_read : AreFound → (s : Storage) (list : ℕ) (call : Call) → IsSoundStorage s → list < 2 ^ 24 → (call_of s list ≡ Ok call) ↔ IsCallAt s list call
call_is_read are_found s list call ok h = (forward are_found s list call ok h, backward are_found s list call h)

-- ---- the addresses of options and of RESP

-- each argument of a list is found by the name of its option
abbrev AreFoundByName : Type 0
AreFoundByName = (command : Command) (first k : ℕ) (option : CommandOption)
    → slice_get (arguments_in (row_of command).options first) k ≡ Some option → argument_index command first option.name ≡ Some k

pub arguments_have_places : AreFoundByName → (s : Storage) (list : ℕ) (call : Call) (k : ℕ) (option : CommandOption) → IsCallAt s list call
    → slice_get (arguments_of call) k ≡ Some option
    → (k < length call.places) × (place_of call option.name ≡ slice_get call.places k) × (place_of call option.name ≡ option_map address_in (list_word s list (k + 1)))
unfolding place_of
arguments_have_places are_found s list call k option is e =
    let within = slice_get_within (arguments_of call) k option e in
    let inside : k < length call.places = omega (arith, is.count, within) in
    let found : place_of call option.name ≡ slice_get call.places k = rw (are_found call.command call.first k option e) refl in
    (inside, found, found ∙ sym (is.places k inside))

resp_place_is : (s : Storage) (list : ℕ) (call : Call) → IsCallAt s list call → has_resp call.second ≡ true
    → resp_place call ≡ slice_get call.places (length (arguments_of call) + count_by has_label call.conditions)
unfolding resp_place
resp_place_is s list call is t =
    let count = rw t at is.count in
    let last : length call.places - 1 ≡ length (arguments_of call) + count_by has_label call.conditions = omega (arith, count) in
    rw (t, last) refl

resp_place_absent : (call : Call) → has_resp call.second ≡ false → resp_place call ≡ None
unfolding resp_place
resp_place_absent call f = rw f refl

pub resp_has_its_place : (s : Storage) (list : ℕ) (call : Call) → IsCallAt s list call
    → (is_some (resp_place call) ≡ has_resp call.second)
    × (resp_place call ≡ (if has_resp call.second
    then option_map address_in (list_word s list (length (arguments_of call) + count_by has_label call.conditions + 1)) else None))
resp_has_its_place s list call is = elim (cases_Bool (has_resp call.second)) [
  | inl t ↦
      let count = rw t at is.count in
      let inside : length (arguments_of call) + count_by has_label call.conditions < length call.places = omega (arith, count) in
      let found = resp_place_is s list call is t in
      let there : is_some (resp_place call) ≡ true =
      rw (found, slice_get-get_or call.places (length (arguments_of call) + count_by has_label call.conditions) 0 inside) refl in
      rw (t) (there, found ∙ sym (is.places (length (arguments_of call) + count_by has_label call.conditions) inside))
  | inr f ↦ let none = resp_place_absent call f in rw (f, none) (refl, refl)
]
