-- The resolved lines of an accepted source can be written: instructions are well formed and have even offsets, bytes are
-- below 256, and no line is empty.
use Rattle.std.specs.Prelude.{Result, ℤ, ◌^◌, flat_map, map, nat_lt, option_map, pos, replicate, reverse, slice_index, take, unwrap_or, Contains}
use Rattle.std.specs.List.{AllByRecursion, find, list_all, repeat}
use Rattle.std.specs.Option.{option_map_or}
use Rattle.std.proofs.Common.{◌≡◌, ◌≤◌, ◌<◌, ℕ, zero, suc, ◌+◌, ◌-◌, ◌*◌, ◌/◌, ◌%◌, Bool, true, false, cond, ◌==◌, ◌&&◌, Option, Some, None, Ok, Err, List, [], ◌∷◌, ◌++◌, ◌⊎◌, inl, inr, ⊎_elim, length, refl, sym, ◌∙◌, ap, subst, arith}
use Rattle.std.specs.Int.{w128}
use Rattle.std.proofs.lemmas.Bool.Decides.{nat_tests}
use Rattle.std.proofs.lemmas.List.Elements.{Contains-append_right}
use Rattle.byteorder.specs.Endian.{big_bytes, low_bytes}
use Rattle.cx_code.specs.declared.disassembly.Line.{Line}
use Rattle.cx_code.specs.declared.disassembly.LineContent.TheVariants.{Code, Data, Space}
use Rattle.cx_ebcdic.specs.Characters.{code_of, table}
use Rattle.cx_source.specs.declared.source.Item.{Item}
use Rattle.cx_source.specs.declared.source.Source.{Source}
use Rattle.cx_source.specs.declared.source.Stmt.{Stmt}
use Rattle.cx_asm_expressions.specs.Bytes.{CopyOfConstant, address_constant, address_made, body_made, copy_of_constant, constant_copy, plain_made}
use Rattle.cx_asm_expressions.specs.Digits.{digit, digit_value}
use Rattle.cx_asm_expressions.specs.Expressions.{value_of}
use Rattle.cx_asm_expressions.specs.Facts.Constants.{address_or_plain}
use Rattle.cx_asm_expressions.specs.Faults.{lowest}
use Rattle.cx_asm_expressions.specs.Fields.{without_sign}
use Rattle.cx_asm_expressions.specs.Items.{Constant, constant_in, size_of as constant_size, value_length, values_in}
use Rattle.cx_asm_expressions.specs.Kinds.{bit_from_right, bits_from_right, bounded_decimal, character_bytes, decimal_bytes, digit_from_right, half_byte, half_bytes, integer_bytes, is_below, is_binary_length, packed_from_right, row_of_kind}
use Rattle.cx_asm_expressions.specs.Texts.{characters, code}
use Rattle.cx_asm_expressions.specs.Weights.{stands_in}
use Rattle.cx_asm_expressions.specs.declared.faults.FaultKind.{FaultKind}
use Rattle.cx_asm_expressions.specs.declared.faults.FaultKind.TheVariants.{NotRelocatable, ValueOutOfRange}
use Rattle.cx_asm_expressions.specs.declared.kinds.ConstantKind.{ConstantKind}
use Rattle.cx_asm_expressions.specs.declared.values.Value.{Value}
use Rattle.cx_asm_pools.specs.Pools.{PlacedLiterals}
use Rattle.cx_asm_pass1.specs.Given.{location_counter}
use Rattle.cx_asm_pass1.specs.Layout.{align, extent_of}
use Rattle.cx_asm_pass1.specs.PassState.{PassState, extent_in, next_in, role_in, state_after}
use Rattle.cx_asm_pass1.specs.declared.roles.Role.{Role}
use Rattle.cx_asm_pass1.specs.declared.roles.Role.TheVariants.{Unknown, Instruction as Machine, Control, Dummy, Equate, Storage, Pool, Registers, Member, Nothing}
use Rattle.cx_asm_operands.specs.Bases.{Bases, none_in_use}
use Rattle.cx_asm_operands.specs.Checking.{then_check}
use Rattle.cx_asm_pass2.specs.SecondFaults.{bases_after}
use Rattle.cx_asm_pass2.specs.Statements.{PlacedStatement, placed_items, statements_of}
use Rattle.cx_asm_pass2.specs.Whole.{Whole, instruction_context, item_made, pool_of, whole_of}
use Rattle.cx_asm.specs.Assembly.{AssemblyParts, assembly_of}
use Rattle.cx_asm.specs.Facts.Bases.{after_sixteen}
use Rattle.cx_asm.specs.Resolving.{counter_at, data_line, last_pool, line}
use Rattle.cx_asm_laws.specs.Facts.Hexadecimals.{EachIsByte}
use Rattle.cx_asm_laws.specs.Laws.Standing.{AnyByRecursion, IsAmong, IsData, IsInstruction, IsItem, IsLiteral, IsOfRole, IsOfStatements, IsSpace}
use Rattle.cx_asm_laws.proofs.AgainLemmas.{IsRight}
use Rattle.cx_asm_laws.proofs.BackLemmas.{Resolves}
use Rattle.cx_asm_laws.proofs.LiteralLemmas.{all_joined, listed, own_statement, statements_listed}
use Rattle.cx_asm_laws.proofs.StandingLemmas.{none_there, nothing_else_stands}

-- ---- bytes
bytes_joined : (one other : List ℕ) → EachIsByte one → EachIsByte other → EachIsByte (one ++ other)
bytes_joined one other h k = all_joined (λ byte. byte < 256) one other h k

bytes_repeated : (n : ℕ) (bytes : List ℕ) → EachIsByte bytes → EachIsByte (repeat n bytes)
bytes_repeated zero bytes h = tt
bytes_repeated (suc n) bytes h = bytes_joined bytes (repeat n bytes) h (bytes_repeated n bytes h)

bytes_taken : (n : ℕ) (bytes : List ℕ) → EachIsByte bytes → EachIsByte (take n bytes)
bytes_taken zero bytes h = tt
bytes_taken (suc n) [] h = tt
bytes_taken (suc n) (byte ∷ bytes) h = (h.0, bytes_taken n bytes h.1)

blanks : (n : ℕ) → EachIsByte (replicate n 64)
blanks zero = tt
blanks (suc n) = (omega arith, blanks n)

-- characters
all_below : list_all (λ row. nat_lt row.1 256) table ≡ true
unfolding table
all_below = refl

both : (a b : Bool) → (a && b) ≡ true → (a ≡ true) × (b ≡ true)
both true b e = (refl, e)
both false b e = absurd (cc)

found_below : (test : ℕ × ℕ → Bool) (rows : List (ℕ × ℕ)) → list_all (λ row. nat_lt row.1 256) rows ≡ true → unwrap_or (option_map (λ row. row.1) (find test rows)) 0 < 256
found_below test [] h = omega arith
found_below test (row ∷ rows) h = go (test row) (both (nat_lt row.1 256) (list_all (λ r. nat_lt r.1 256) rows) h) (found_below test rows (both (nat_lt row.1 256) (list_all (λ r. nat_lt r.1 256) rows) h).1)
  where
    go : (b : Bool) → (nat_lt row.1 256 ≡ true) × (list_all (λ r. nat_lt r.1 256) rows ≡ true) → unwrap_or (option_map (λ r. r.1) (find test rows)) 0 < 256
        → unwrap_or (option_map (λ r. r.1) (cond b (Some row) (find test rows))) 0 < 256
    go true h more = (let own = h.0 in grind (arith, nat_tests, own))
    go false h more = more

code_below : (c : ℕ) → code c < 256
unfolding code_of
code_below c = found_below (λ row. row.0 == c) table all_below

codes_below : (text : List ℕ) → EachIsByte (map code text)
codes_below [] = tt
codes_below (c ∷ text) = (code_below c, codes_below text)

-- half bytes
digit_below : (c : ℕ) → digit_value c < 16
unfolding digit
digit_below c = grind (arith, nat_tests)

right_digit : (digits : List ℕ) (j : ℕ) → digit_from_right digits j < 16
right_digit digits j = go (nat_lt j (length digits))
  where
    go : (b : Bool) → cond b (digit_value (slice_index digits (length digits - 1 - j))) 0 < 16
    go true = digit_below (slice_index digits (length digits - 1 - j))
    go false = omega arith

right_bit : (digits : List ℕ) (j : ℕ) → bit_from_right digits j ≤ 1
right_bit digits j = go (nat_lt j (length digits) && slice_index digits (length digits - 1 - j) == 49)
  where
    go : (b : Bool) → cond b 1 0 ≤ 1
    go true = omega arith
    go false = omega arith

right_bits : (digits : List ℕ) (j : ℕ) → bits_from_right digits j < 16
right_bits digits j =
    let a = right_bit digits (4 * j + 3) in let b = right_bit digits (4 * j + 2) in let c = right_bit digits (4 * j + 1) in let d = right_bit digits (4 * j) in omega (arith, a, b, c, d)

right_packed : (field : List ℕ) (j : ℕ) → packed_from_right field j < 16
right_packed field j = go (j == 0) (slice_index field 0 == 45)
  where
    sign : (m : Bool) → cond m 13 12 < 16
    sign true = omega arith
    sign false = omega arith

    go : (b m : Bool) → cond b (cond m 13 12) (digit_from_right (without_sign field) (j - 1)) < 16
    go true m = sign m
    go false m = right_digit (without_sign field) (j - 1)

half_below : (kind : ConstantKind) (value : List ℕ) (j : ℕ) → half_byte kind value j < 16
half_below kind value j = grind (arith, right_bits, right_packed, right_digit)

halves_below : (kind : ConstantKind) (value : List ℕ) (n : ℕ) → EachIsByte (half_bytes kind value n)
halves_below kind value zero = tt
halves_below kind value (suc r) =
    let high = half_below kind value (r * 2 + 1) in let low = half_below kind value (r * 2) in (omega (arith, high, low), halves_below kind value r)

-- binary numbers
high_first : (n x : ℕ) → EachIsByte (big_bytes n x)
high_first zero x = tt
high_first (suc zero) x = (omega arith, tt)
high_first (suc (suc k)) x = (below (x / 256 ^ suc k), high_first (suc k) x)
  where
    below : (y : ℕ) → y % 256 < 256
    below y = omega arith

number_below : (n : ℕ) (number : ℤ) → EachIsByte (integer_bytes n number)
number_below n number = go (is_binary_length n)
  where
    go : (b : Bool) → EachIsByte (cond b (big_bytes n (low_bytes w128 n number)) [])
    go true = high_first n (low_bytes w128 n number)
    go false = tt

-- ---- the bytes of a constant
-- a type's bytes are characters, half bytes, a binary number, or given ones
bytes_by : (kind : ConstantKind) (value : List ℕ) (n : ℕ)
    → ((row_of_kind kind).bytes value n ≡ character_bytes value n) ⊎ (((row_of_kind kind).bytes value n ≡ half_bytes kind value n)
    ⊎ (((row_of_kind kind).bytes value n ≡ decimal_bytes value n) ⊎ (list_all (λ byte. nat_lt byte 256) ((row_of_kind kind).bytes value n) ≡ true)))
bytes_by kind value n = grind arith

given_below : (bytes : List ℕ) → list_all (λ byte. nat_lt byte 256) bytes ≡ true → EachIsByte bytes
given_below [] h = tt
given_below (byte ∷ bytes) h =
    let parts = both (nat_lt byte 256) (list_all (λ b. nat_lt b 256) bytes) h in
    let own = parts.0 in (grind (arith, nat_tests, own), given_below bytes parts.1)

characters_below : (value : List ℕ) (n : ℕ) → EachIsByte (character_bytes value n)
characters_below value n = bytes_taken n (map code (characters value) ++ replicate n 64) (bytes_joined (map code (characters value)) (replicate n 64) (codes_below (characters value)) (blanks n))

kind_below : (kind : ConstantKind) (value : List ℕ) (n : ℕ) → EachIsByte ((row_of_kind kind).bytes value n)
kind_below kind value n = go (bytes_by kind value n)
  where
    go : ((row_of_kind kind).bytes value n ≡ character_bytes value n) ⊎ (((row_of_kind kind).bytes value n ≡ half_bytes kind value n)
        ⊎ (((row_of_kind kind).bytes value n ≡ decimal_bytes value n) ⊎ (list_all (λ byte. nat_lt byte 256) ((row_of_kind kind).bytes value n) ≡ true)))
        → EachIsByte ((row_of_kind kind).bytes value n)
    go (inl e) = subst EachIsByte (sym e) (characters_below value n)
    go (inr (inl e)) = subst EachIsByte (sym e) (halves_below kind value n)
    go (inr (inr (inl e))) = subst EachIsByte (sym e) (number_below n (unwrap_or (bounded_decimal value) (pos 0)))
    go (inr (inr (inr h))) = given_below ((row_of_kind kind).bytes value n) h

values_below : (kind : ConstantKind) (modifier : Option ℕ) (values : List (List ℕ)) → EachIsByte (flat_map (λ value. (row_of_kind kind).bytes value (value_length kind modifier value)) values)
values_below kind modifier [] = tt
values_below kind modifier (value ∷ values) =
    bytes_joined ((row_of_kind kind).bytes value (value_length kind modifier value)) (flat_map (λ v. (row_of_kind kind).bytes v (value_length kind modifier v)) values)
    (kind_below kind value (value_length kind modifier value)) (values_below kind modifier values)

plain_below : (kind : ConstantKind) (modifier : Option ℕ) (body : List ℕ) (once : CopyOfConstant) → plain_made kind modifier body ≡ Ok once → EachIsByte once.bytes
plain_below kind modifier body once e = go (lowest (map (λ value. (row_of_kind kind).fault value (value_length kind modifier value)) (values_in (row_of_kind kind).style body))) e
  where
    go : (fault : Option FaultKind) → option_map_or Err fault (Ok (copy_of_constant (flat_map (λ value. (row_of_kind kind).bytes value (value_length kind modifier value)) (values_in (row_of_kind kind).style body)) false)) ≡ Ok once
        → EachIsByte once.bytes
    go (Some fault) e = absurd (cc)
    go None e =
        let same : copy_of_constant (flat_map (λ value. (row_of_kind kind).bytes value (value_length kind modifier value)) (values_in (row_of_kind kind).style body)) false ≡ once = cc in
        subst (λ k. EachIsByte k.bytes) same (values_below kind modifier (values_in (row_of_kind kind).style body))

chosen_below : (b : Bool) (bytes : List ℕ) (is : Bool) (fault : FaultKind) (once : CopyOfConstant) → EachIsByte bytes → cond b (Ok (copy_of_constant bytes is)) (Err fault) ≡ Ok once → EachIsByte once.bytes
chosen_below true bytes is fault once h e = (let same : copy_of_constant bytes is ≡ once = cc in subst (λ k. EachIsByte k.bytes) same h)
chosen_below false bytes is fault once h e = absurd (cc)

address_below : (n : ℕ) (control section : Option (List ℕ)) (number : ℤ) (once : CopyOfConstant) → address_constant n control section number ≡ Ok once → EachIsByte once.bytes
address_below n control None number once e = chosen_below (is_below n number (2 ^ (8 * n))) (integer_bytes n number) false ValueOutOfRange once (number_below n number) e
address_below n control (Some section) number once e = chosen_below (n == 4 && stands_in section control) (integer_bytes 4 number) true NotRelocatable once (number_below 4 number) e

found_address : (n : ℕ) (control : Option (List ℕ)) (value : Result Value FaultKind) (once : CopyOfConstant) → address_made n control value ≡ Ok once → EachIsByte once.bytes
found_address n control (Ok value) once e = address_below n control value.section value.number once e
found_address n control (Err fault) once e = absurd (cc)

body_below : (find : List ℕ → Option Value) (here : Option Value) (control : Option (List ℕ)) (kind : ConstantKind) (modifier : Option ℕ) (value : Option (List ℕ)) (once : CopyOfConstant)
    → body_made find here control kind modifier value ≡ Ok once → EachIsByte once.bytes
body_below find here control kind modifier None once e = (let same : copy_of_constant [] false ≡ once = cc in subst (λ k. EachIsByte k.bytes) same tt)
body_below find here control kind modifier (Some body) once e =
    ⊎_elim
    (λ address. found_address (value_length kind modifier body) control (value_of find here body) once (sym address.0 ∙ e))
    (λ plain. plain_below kind modifier body once (sym plain ∙ e))
    (address_or_plain find here control kind modifier body)

once_below : (whole : Whole) (counter : Option Value) (text : List ℕ) (c : Constant) (once : CopyOfConstant) → constant_in false text ≡ Ok c → item_made whole false counter text ≡ Ok once → EachIsByte once.bytes
unfolding constant_copy
once_below whole counter text c once written value =
    body_below whole.find counter whole.control c.kind c.modifier c.value once (sym (ap (then_check (constant_copy whole.find counter whole.control)) written) ∙ value)

-- ---- lines
only_line : (x l : Line) → Contains (x ∷ []) l → x ≡ l
only_line x l (zero, less, e) = e
only_line x l (suc k, less, e) = absurd (omega (arith, less))

data_right : (l : Line) (whole : Whole) (counter : Option Value) (item : List ℕ × ℕ) → IsData (IsAmong l) whole counter item → IsRight l l.what
data_right l whole counter item d =
    go (repeat d.constant.duplication d.once.bytes) (bytes_repeated d.constant.duplication d.once.bytes (once_below whole counter item.0 d.constant d.once d.written d.value)) d.stands
  where
    go : (bytes : List ℕ) → EachIsByte bytes → Contains (data_line item.1 bytes) l → IsRight l l.what
    go [] are there = absurd (none_there l there)
    go (byte ∷ bytes) are there = subst (λ k. IsRight k k.what) (only_line (line item.1 (Data (byte ∷ bytes))) l there) (are, omega arith)

space_right : (l : Line) (item : List ℕ × ℕ) → IsSpace (IsAmong l) item → IsRight l l.what
space_right l item s = go (constant_size s.constant) (constant_size s.constant == 0) refl s.stands
  where
    go : (n : ℕ) (b : Bool) → (n == 0) ≡ b → Contains (cond b [] (line item.1 (Space n) ∷ [])) l → IsRight l l.what
    go n true e there = absurd (none_there l there)
    go n false e there = (let some : 1 ≤ n = grind (arith, nat_tests, e) in subst (λ k. IsRight k k.what) (only_line (line item.1 (Space n)) l there) some)

items_right : (l : Line) (whole : Whole) (is_ds : Bool) (s : PlacedStatement) (items : List (List ℕ × ℕ)) → AnyByRecursion (IsItem (IsAmong l) whole is_ds s) items → IsRight l l.what
items_right l whole is_ds s [] h = absurd h
items_right l whole true s (item ∷ items) (inl h) = space_right l item h
items_right l whole false s (item ∷ items) (inl h) = data_right l whole (location_counter s.place.section item.1 1) item h
items_right l whole is_ds s (item ∷ items) (inr h) = items_right l whole is_ds s items h

literals_right : (l : Line) (whole : Whole) (statements : List PlacedStatement) (pool : PlacedLiterals) → AnyByRecursion (IsLiteral (IsAmong l) whole statements) pool → IsRight l l.what
literals_right l whole statements [] h = absurd h
literals_right l whole statements (e ∷ pool) (inl h) = data_right l whole (counter_at statements e.1.user) (e.0, e.1.offset) h
literals_right l whole statements (e ∷ pool) (inr h) = literals_right l whole statements pool h

IsEven : PlacedStatement → Type 0
IsEven s = (size : ℕ) → role_in s.stmt ≡ Machine size → s.place.offset % 2 ≡ 0

even_place : (stmt : Stmt) (state : PassState) (size : ℕ) → role_in stmt ≡ Machine size → (extent_in stmt state).offset % 2 ≡ 0
unfolding extent_of
even_place stmt state size role =
    let offset : (extent_in stmt state).offset ≡ align 2 (next_in state) = rw role refl in
    subst (λ n. n % 2 ≡ 0) (sym offset) (aligned (next_in state))
  where
    aligned : (n : ℕ) → align 2 n % 2 ≡ 0
    aligned n = (let same : (n + (2 - 1)) / 2 * 2 % 2 ≡ 0 = omega arith in same)

all_even : (before : List Item) → AllByRecursion IsEven (listed before)
unfolding listed own_statement IsEven
all_even [] = tt
all_even (item ∷ before) = all_joined IsEven (listed before) (own_statement item.stmt item.line (state_after before)) (all_even before) (go item.stmt)
  where
    go : (o : Option Stmt) → AllByRecursion IsEven (own_statement o item.line (state_after before))
    go None = tt
    go (Some stmt) = ((λ size role. even_place stmt (state_after before) size role), tt)

module _ (resolves : Resolves) (whole : Whole) (statements : List PlacedStatement) (l : Line) where
  instruction_right : (bases : Bases) → length bases ≡ 16 → (s : PlacedStatement) → s.place.offset % 2 ≡ 0 → IsInstruction (IsAmong l) whole bases s → IsRight l l.what
  instruction_right bases sixteen s even i =
      subst (λ k. IsRight k k.what) (only_line (line s.place.offset (Code i.made)) l i.stands)
      ((resolves i.operation (instruction_context whole bases s) s.stmt.operand i.made sixteen i.resolved).1, even)

  role_right : (bases : Bases) → length bases ≡ 16 → (s : PlacedStatement) → IsEven s → (r : Role) → role_in s.stmt ≡ r → IsOfRole whole statements l bases s r → IsRight l l.what
  unfolding IsEven
  role_right bases sixteen s even (Machine size) e h = instruction_right bases sixteen s (even size e) h
  role_right bases sixteen s even (Storage is_ds) e h = items_right l whole is_ds s (placed_items s) h
  role_right bases sixteen s even Pool e h = literals_right l whole statements (pool_of whole s) h
  role_right bases sixteen s even Unknown e h = absurd h
  role_right bases sixteen s even Control e h = absurd h
  role_right bases sixteen s even Dummy e h = absurd h
  role_right bases sixteen s even Equate e h = absurd h
  role_right bases sixteen s even Registers e h = absurd h
  role_right bases sixteen s even Member e h = absurd h
  role_right bases sixteen s even Nothing e h = absurd h

  line_right : (bases : Bases) → length bases ≡ 16 → (rest : List PlacedStatement) → AllByRecursion IsEven rest → IsOfStatements whole statements l bases rest → IsRight l l.what
  line_right bases sixteen [] even h = literals_right l whole statements (last_pool whole) h
  line_right bases sixteen (s ∷ rest) even (inl h) = role_right bases sixteen s even.0 (role_in s.stmt) refl h.1
  line_right bases sixteen (s ∷ rest) even (inr h) = line_right (bases_after whole bases s) (after_sixteen whole bases s sixteen) rest even.1 h

each_of : {X : Type 0} (Q : X → Type 0) (all : List X) → ((x : X) → Contains all x → Q x) → (xs : List X) → ((x : X) → Contains xs x → Contains all x) → AllByRecursion Q xs
each_of Q all f [] within = tt
each_of Q all f (x ∷ xs) within = (f x (within x (0, omega arith, refl)), each_of Q all f xs (λ y there. within y (Contains-append_right (x ∷ []) xs y there)))

pub all_right : Resolves → (source : Source) (made : AssemblyParts) → assembly_of source ≡ Ok made → AllByRecursion (λ l. IsRight l l.what) made.section.resolved
all_right resolves source made e =
    let even : AllByRecursion IsEven (statements_of source) = subst (AllByRecursion IsEven) (sym (statements_listed source)) (all_even (reverse source.items)) in
    each_of (λ l. IsRight l l.what) made.section.resolved
    (λ l there. line_right resolves (whole_of source) (statements_of source) l none_in_use refl (statements_of source) even (nothing_else_stands source made l e there)) made.section.resolved (λ l there. there)
