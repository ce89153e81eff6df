-- Lines, by the line feeds that end them.
use Rattle.std.proofs.Common.{◌≡◌, ℕ, ◌+◌, ◌-◌, ◌<◌, ◌≤◌, Bool, true, false, cond, ◌==◌, nat_lt, List, [], ◌∷◌, ◌++◌, length, take, drop, get_or, None, Some, refl, sym, ap, ◌∙◌, subst, arith, rules, position, append-nil, append_assoc, length-append}
use Rattle.std.specs.Prelude.{slice_index}
use borrow.Author.Tests.{ltb-true, ltb-false, lt-ltb, eqb-true, ne_eqb}
use Rattle.std.proofs.lemmas.Option.{cond_some}
use Rattle.std.proofs.lemmas.Grind.{common_steps}
use Rattle.std.proofs.lemmas.List.{length-take-le, take_all}
use Rattle.std.proofs.lemmas.List.Elements.{All-append, All-head, All-tail}
use Rattle.std.proofs.lemmas.List.Sums.{split_at_first, fails_before_first, passes_at_first}
use Rattle.std.proofs.lemmas.List.Splits.{slice_split-cons_no, slice_split_at, slice_split_none, length-slice_split}
use Rattle.std.specs.List.{All, slice_split, position_or_len, onto_first, before_first, after_first, count_by}
use Rattle.std.specs.Str.Lines.{strip_carriage_return}
use Rattle.cx_script_io.specs.Lines.{is_too_long, lines_met, lines_of_parts, last_met}
use Rattle.cx_script_io.specs.Unbroken.{IsUnbroken}
use Rattle.cx_script_io.specs.declared.input.Ending.{Ending}
use Rattle.cx_script_io.specs.declared.input.Ending.TheVariants.{AtEnd, Failed, PastBound}

abbrev feed : ℕ → Bool
feed b = b == 10

-- ---- the first LF
found : (b : Bool) (i k : ℕ) → cond b (Some i) None ≡ Some k → (b ≡ true) × (i ≡ k)
found b i k e = cond_some b i k e

missed : (b : Bool) (i : ℕ) → cond b (Some i) None ≡ None → b ≡ false
missed true i e = cc
missed false i e = refl

all_before : (bytes : List ℕ) → All (λ b. feed b ≡ false) (before_first feed bytes)
all_before bytes = λ k e m. let k' = fails_before_first feed bytes k e (grind (arith, common_steps)) in grind (arith, common_steps)

pub split_found : (bytes : List ℕ) (end : ℕ) → position (λ b. b == 10) bytes ≡ Some end → bytes ≡ take end bytes ++ 10 ∷ drop (end + 1) bytes
split_found bytes end e =
    let at = found (nat_lt (position_or_len feed bytes) (length bytes)) (position_or_len feed bytes) end e in
    let within : position_or_len feed bytes < length bytes = ltb-true _ _ at.0 in
    let ten : get_or bytes (position_or_len feed bytes) 0 ≡ 10 = eqb-true _ _ (passes_at_first feed bytes 0 within) in
    let whole = split_at_first feed bytes 0 within in
    subst (λ k. bytes ≡ take k bytes ++ 10 ∷ drop (k + 1) bytes) at.1
    (whole ∙ ap (λ (b : ℕ). before_first feed bytes ++ (b ∷ after_first feed bytes)) ten)

pub split_unbroken : (bytes : List ℕ) (end : ℕ) → position (λ b. b == 10) bytes ≡ Some end → IsUnbroken (take end bytes)
unfolding IsUnbroken
split_unbroken bytes end e =
    let at = found (nat_lt (position_or_len feed bytes) (length bytes)) (position_or_len feed bytes) end e in
    subst (λ k. All (λ b. feed b ≡ false) (take k bytes)) at.1 (all_before bytes)

pub split_none : (bytes : List ℕ) → position (λ b. b == 10) bytes ≡ None → IsUnbroken bytes
unfolding IsUnbroken
split_none bytes e =
    let past : length bytes ≤ position_or_len feed bytes = ltb-false _ _ (missed _ _ e) in
    subst (λ (l : List ℕ). All (λ b. feed b ≡ false) l) (take_all (position_or_len feed bytes) bytes past) (all_before bytes)

-- ---- unbroken bytes
pub unbroken_nil : IsUnbroken []
unfolding IsUnbroken
unbroken_nil = search (rules, common_steps)

pub unbroken_append : (xs ys : List ℕ) → IsUnbroken xs → IsUnbroken ys → IsUnbroken (xs ++ ys)
unfolding IsUnbroken
unbroken_append xs ys p q = All-append (λ b. feed b ≡ false) xs ys p q

-- bytes in front of the first part
abbrev onto : List ℕ → List (List ℕ) → List (List ℕ)
onto bytes [] = bytes ∷ []
onto bytes (part ∷ parts) = (bytes ++ part) ∷ parts

some_parts : (bytes : List ℕ) → (part : List ℕ) × (parts : List (List ℕ)) × (slice_split feed bytes ≡ part ∷ parts)
some_parts bytes = parts_of (slice_split feed bytes) (length-slice_split feed bytes) refl
  where
    parts_of : (parts : List (List ℕ)) → length (slice_split feed bytes) ≡ count_by feed bytes + 1 → slice_split feed bytes ≡ parts → (part : List ℕ) × (more : List (List ℕ)) × (slice_split feed bytes ≡ part ∷ more)
    parts_of [] l e = absurd (omega (arith, l, ap length e))
    parts_of (part ∷ more) l e = (part, more, e)

onto_cons : (x : ℕ) (xs : List ℕ) (parts : List (List ℕ)) → onto_first x (onto xs parts) ≡ onto (x ∷ xs) parts
onto_cons x xs [] = refl
onto_cons x xs (part ∷ parts) = refl

onto_nil : (parts : List (List ℕ)) (part : List ℕ) (more : List (List ℕ)) → parts ≡ part ∷ more → parts ≡ onto [] parts
onto_nil [] part more e = cc
onto_nil (p ∷ ps) part more e = refl

split_all : (bytes rest : List ℕ) → All (λ b. feed b ≡ false) bytes → slice_split feed (bytes ++ rest) ≡ onto bytes (slice_split feed rest)
split_all [] rest h = let some = some_parts rest in onto_nil (slice_split feed rest) some.0 some.1 some.2
split_all (x ∷ xs) rest h =
    slice_split-cons_no feed x (xs ++ rest) (All-head (λ z. feed z ≡ false) x xs h)
    ∙ ap (onto_first x) (split_all xs rest (All-tail (λ z. feed z ≡ false) x xs h)) ∙ onto_cons x xs (slice_split feed rest)

-- a line that an LF ends, and what follows it
after_line : (ending : Ending) (line : List ℕ) (parts : List (List ℕ)) (part : List ℕ) (more : List (List ℕ)) → parts ≡ part ∷ more
    → lines_of_parts ending (line ∷ parts) ≡ strip_carriage_return line ∷ lines_of_parts ending parts
after_line ending line [] part more e = cc
after_line ending line (p ∷ ps) part more e = refl

pub line_met : (ending : Ending) (line rest : List ℕ) → IsUnbroken line → lines_met ending (line ++ 10 ∷ rest) ≡ strip_carriage_return line ∷ lines_met ending rest
unfolding lines_met IsUnbroken
line_met ending line rest h =
    let some = some_parts rest in
    ap (lines_of_parts ending) (slice_split_at feed line 10 rest h refl) ∙ after_line ending line (slice_split feed rest) some.0 some.1 some.2

-- bytes without an LF
pub none_met : (ending : Ending) (bytes : List ℕ) → IsUnbroken bytes → lines_met ending bytes ≡ last_met ending bytes
unfolding lines_met IsUnbroken
none_met ending bytes h = ap (lines_of_parts ending) (slice_split_none feed bytes h)

-- ---- lines that are too long whatever follows
cut_len : (l : List ℕ) (b : Bool) → (length (cond b (take (length l - 1) l) l) ≤ length l) × (length l ≤ length (cond b (take (length l - 1) l) l) + 1)
cut_len l true = let len : length (take (length l - 1) l) ≡ length l - 1 = length-take-le (length l - 1) l (omega arith) in (omega (arith, len), omega (arith, len))
cut_len l false = (omega arith, omega arith)

strip_len : (l : List ℕ) → (length (strip_carriage_return l) ≤ length l) × (length l ≤ length (strip_carriage_return l) + 1)
strip_len l = cut_len l (slice_index l (length l - 1) == 13)

pub long_bytes : (bytes : List ℕ) → 4097 < length bytes → is_too_long (strip_carriage_return bytes) ≡ true
long_bytes bytes h = let len = strip_len bytes in lt-ltb 4096 (length (strip_carriage_return bytes)) (omega (arith, len.1))

long_by : (bytes part : List ℕ) → 4096 < length (strip_carriage_return bytes) → (part ≡ [] → ⊥) → 4096 < length (strip_carriage_return (bytes ++ part))
long_by bytes [] h some = absurd (some refl)
long_by bytes (x ∷ part) h some =
    let shorter = strip_len bytes in
    let longer = strip_len (bytes ++ x ∷ part) in
    let all = length-append bytes (x ∷ part) in
    omega (arith, shorter.0, longer.1, all)

pub long_on : (bytes part : List ℕ) → is_too_long (strip_carriage_return bytes) ≡ true → is_too_long (strip_carriage_return (bytes ++ part)) ≡ true
long_on bytes [] h = subst (λ (l : List ℕ). is_too_long (strip_carriage_return l) ≡ true) (sym (append-nil bytes)) h
long_on bytes (x ∷ part) h =
    let long = ltb-true 4096 (length (strip_carriage_return bytes)) h in
    let more = long_by bytes (x ∷ part) long (λ e. cc) in
    lt-ltb 4096 (length (strip_carriage_return (bytes ++ x ∷ part))) more

long_whole : (bytes : List ℕ) → is_too_long (strip_carriage_return bytes) ≡ true → is_too_long bytes ≡ true
long_whole bytes h =
    let long = ltb-true 4096 (length (strip_carriage_return bytes)) h in
    let less = strip_len bytes in
    lt-ltb 4096 (length bytes) (omega (arith, long, less.0))

-- the first line of bytes that are too long, however they go on
abbrev pub BeginsLong : List (List ℕ) → Type 0
BeginsLong [] = ⊥
BeginsLong (line ∷ lines) = is_too_long line ≡ true

last_long : (ending : Ending) (bytes : List ℕ) → is_too_long (strip_carriage_return bytes) ≡ true → BeginsLong (last_met ending bytes)
last_long AtEnd bytes h =
    let long = ltb-true 4096 (length bytes) (long_whole bytes h) in
    let some : (length bytes == 0) ≡ false = ne_eqb (length bytes) 0 (λ e. omega (arith, e, long)) in
    subst (λ (b : Bool). BeginsLong (cond b [] (bytes ∷ []))) (sym some) (long_whole bytes h)
last_long Failed bytes h = subst (λ (b : Bool). BeginsLong (cond b (strip_carriage_return bytes ∷ []) [])) (sym h) h
last_long PastBound bytes h = subst (λ (b : Bool). BeginsLong (cond b (strip_carriage_return bytes ∷ []) [])) (sym h) h

parts_long : (ending : Ending) (bytes : List ℕ) (parts : List (List ℕ)) → is_too_long (strip_carriage_return bytes) ≡ true → BeginsLong (lines_of_parts ending (onto bytes parts))
parts_long ending bytes [] h = last_long ending bytes h
parts_long ending bytes (part ∷ []) h = last_long ending (bytes ++ part) (long_on bytes part h)
parts_long ending bytes (part ∷ next ∷ more) h = long_on bytes part h

pub begins_long : (ending : Ending) (bytes rest : List ℕ) → IsUnbroken bytes → is_too_long (strip_carriage_return bytes) ≡ true → BeginsLong (lines_met ending (bytes ++ rest))
unfolding lines_met IsUnbroken
begins_long ending bytes rest u h =
    subst (λ (parts : List (List ℕ)). BeginsLong (lines_of_parts ending parts)) (sym (split_all bytes rest u)) (parts_long ending bytes (slice_split feed rest) h)

-- ---- bytes that go on
-- The lines of bytes of which no more were read, and those of all bytes: the first ones are the same, and where the
-- bytes after the last LF are too long already, so is the next line.
pub record Continues (ending : Ending) (seen rest : List ℕ) : Type 0 where
  pub complete : List (List ℕ)
  pub part : List ℕ
  pub more : List (List ℕ)
  pub front : lines_met Failed seen ≡ complete ++ last_met Failed part
  pub whole : lines_met ending (seen ++ rest) ≡ complete ++ more
  pub long : is_too_long (strip_carriage_return part) ≡ true → BeginsLong more

one_unbroken : (x : ℕ) → feed x ≡ false → IsUnbroken (x ∷ [])
unfolding IsUnbroken
one_unbroken x e = All-append (λ b. feed b ≡ false) (x ∷ []) [] (one x e) (search (rules, common_steps))
  where
    one : (x : ℕ) → feed x ≡ false → All (λ b. feed b ≡ false) (x ∷ [])
    one x e = search (rules, common_steps)

-- after a line
next_line : (ending : Ending) (part xs rest : List ℕ) → IsUnbroken part → Continues ending xs rest → Continues ending (part ++ 10 ∷ xs) rest
next_line ending part xs rest u c =
    record {
      complete = strip_carriage_return part ∷ c.complete;
      part = c.part;
      more = c.more;
      front = line_met Failed part xs u ∙ ap (λ l. strip_carriage_return part ∷ l) c.front;
      whole = ap (lines_met ending) (append_assoc part (10 ∷ xs) rest) ∙ line_met ending part (xs ++ rest) u ∙ ap (λ l. strip_carriage_return part ∷ l) c.whole;
      long = c.long;
    }

-- by the next byte
by_byte : (ending : Ending) (part xs rest : List ℕ) (x : ℕ) (b : Bool) → feed x ≡ b → IsUnbroken part → Continues ending xs rest
    → (IsUnbroken (part ++ x ∷ []) → Continues ending ((part ++ x ∷ []) ++ xs) rest) → Continues ending (part ++ x ∷ xs) rest
by_byte ending part xs rest x true e u c h = subst (λ (b : ℕ). Continues ending (part ++ b ∷ xs) rest) (sym (eqb-true x 10 e)) (next_line ending part xs rest u c)
by_byte ending part xs rest x false e u c h =
    subst (λ (l : List ℕ). Continues ending l rest) (append_assoc part (x ∷ []) xs) (h (unbroken_append part (x ∷ []) u (one_unbroken x e)))

-- the bytes that follow a line's beginning
goes_on : (ending : Ending) (part seen rest : List ℕ) → IsUnbroken part → Continues ending (part ++ seen) rest
goes_on ending part [] rest u =
    let same = append-nil part in
    subst (λ (l : List ℕ). Continues ending l rest) (sym same)
    (record {
      complete = [];
      part = part;
      more = lines_met ending (part ++ rest);
      front = none_met Failed part u;
      whole = refl;
      long = λ h. begins_long ending part rest u h;
    })
goes_on ending part (x ∷ xs) rest u =
    by_byte ending part xs rest x (feed x) refl u (goes_on ending [] xs rest unbroken_nil) (λ v. goes_on ending (part ++ x ∷ []) xs rest v)

pub continues : (ending : Ending) (seen rest : List ℕ) → Continues ending seen rest
continues ending seen rest = goes_on ending [] seen rest unbroken_nil
