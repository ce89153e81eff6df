-- What is put into a translation comes before or after the statements made of an EXEC statement.
use Rattle.std.specs.Prelude.{codes, is_none, decimal, slice_get, ⊤}
use Rattle.std.proofs.Common.{◌≡◌, ◌⊎◌, inl, inr, ◌≤◌, ◌<◌, ℕ, zero, suc, ◌+◌, ◌-◌, ◌*◌, ◌==◌, Bool, true, false, cond, ◌&&◌, ◌||◌, Option, Some, None, Ok, List, [], ◌∷◌, ◌++◌, length, map, take, drop, get_or, refl, sym, ◌∙◌, ap, subst, ⊎_elim, arith}
use Rattle.std.specs.List.{Contains, cons_option, list_any, position}
use Rattle.std.proofs.Math.Seq.{split_at}
use Rattle.std.specs.Str.{bytes_eq}
use Rattle.std.proofs.lemmas.List.{append_assoc}
use Rattle.std.proofs.lemmas.List.Quantifiers.{position-Some}
use Rattle.cx_base.specs.declared.commands.Command.{Command}
use Rattle.cx_base.specs.Commands.{row_of}
use Rattle.cx_source.specs.declared.source.Item.{Item}
use Rattle.cx_source.specs.declared.source.Source.{Source}
use Rattle.cx_source.specs.declared.source.Stmt.{Stmt}
use Rattle.cx_source.specs.Statements.{is_continued}
use Rattle.cx_translate.specs.declared.faults.TransFault.{TransFault}
use Rattle.cx_translate.specs.declared.words.Word.{Word}
use Rattle.cx_translate.specs.Call.{list_of, pointers_of}
use Rattle.cx_translate.specs.Expansion.{call, label, load, made_in, made_item, made_of, stmt, stores}
use Rattle.cx_translate.specs.Refusals.{command_in, fault_in, refusal_of}
use Rattle.cx_translate.specs.Sections.{name_at, bases, begins_exec, begins_section, begins_storage, place_after, continuation_count, is_end, lines, insert_items, put_before, put_after, storage_fields, with_bases, with_eib, with_storage}
use Rattle.cx_translate.specs.Translation.{continues_exec, expanded_items, expansion, fault_at, statement_faults, translation, translation_of}
use Rattle.cx_translate.specs.Facts.AllFaults.{translated_so}
use Rattle.cx_translate.specs.Words.{words_of}
use Rattle.cx_translate.specs.Facts.Found.{bases_after, continued, eib_before, eib_section, fault_in_stmt, fault_of_command, listed_line, made_by, storage_before, storage_after, storage_section}
use Rattle.cx_asm_execution.specs.MadeLines.{IsMade}
use Rattle.cx_asm_execution.proofs.Together.{StandTogether}

-- ---- cutting lists
take_front : {X : Type 0} (xs ys : List X) (n : ℕ) → n ≤ length xs → take n (xs ++ ys) ≡ take n xs
take_front xs ys zero le = refl
take_front [] ys (suc n) le = absurd (omega arith)
take_front (x ∷ xs) ys (suc n) le = ap (λ k. x ∷ k) (take_front xs ys n (omega arith))

drop_front : {X : Type 0} (xs ys : List X) (n : ℕ) → n ≤ length xs → drop n (xs ++ ys) ≡ drop n xs ++ ys
drop_front xs ys zero le = refl
drop_front [] ys (suc n) le = absurd (omega arith)
drop_front (x ∷ xs) ys (suc n) le = drop_front xs ys n (omega arith)

take_past : {X : Type 0} (xs ys : List X) (n : ℕ) → length xs ≤ n → take n (xs ++ ys) ≡ xs ++ take (n - length xs) ys
take_past [] ys n le = (let e : n - 0 ≡ n = omega arith in rw e refl)
take_past (x ∷ xs) ys zero le = absurd (omega arith)
take_past (x ∷ xs) ys (suc n) le = (let e : suc n - length (x ∷ xs) ≡ n - length xs = omega arith in rw e (ap (λ k. x ∷ k) (take_past xs ys n (omega arith))))

drop_past : {X : Type 0} (xs ys : List X) (n : ℕ) → length xs ≤ n → drop n (xs ++ ys) ≡ drop (n - length xs) ys
drop_past [] ys n le = (let e : n - 0 ≡ n = omega arith in rw e refl)
drop_past (x ∷ xs) ys zero le = absurd (omega arith)
drop_past (x ∷ xs) ys (suc n) le = (let e : suc n - length (x ∷ xs) ≡ n - length xs = omega arith in rw e (drop_past xs ys n (omega arith)))

pub length_joined : {X : Type 0} (xs ys : List X) → length (xs ++ ys) ≡ length xs + length ys
length_joined [] ys = omega arith
length_joined (x ∷ xs) ys = (let more = length_joined xs ys in omega (arith, more))

-- ---- statements that nothing is put beside
record IsPlain (item : Item) : Type 0 where
  begins : is_none item.stmt ≡ false
  section : begins_section item ≡ false
  storage : begins_storage item ≡ false
  end : is_end item ≡ false

pub ArePlain : List Item → Type 0
ArePlain [] = ⊤
ArePlain (item ∷ items) = IsPlain item × ArePlain items

plain_joined : (xs ys : List Item) → ArePlain xs → ArePlain ys → ArePlain (xs ++ ys)
unfolding ArePlain
plain_joined [] ys a b = b
plain_joined (x ∷ xs) ys a b = (a.0, plain_joined xs ys a.1 b)

record IsPlainOperation (operation : List ℕ) : Type 0 where
  csect : bytes_eq operation (codes "CSECT") ≡ false
  start : bytes_eq operation (codes "START") ≡ false
  dsect : bytes_eq operation (codes "DSECT") ≡ false
  end : bytes_eq operation (codes "END") ≡ false

and_false : (a b : Bool) → b ≡ false → (a && b) ≡ false
and_false true b e = e
and_false false b e = refl

plain_item : (line : ℕ) (name operation operand : List ℕ) → IsPlainOperation operation → IsPlain (made_item line (stmt name operation operand))
unfolding made_item begins_section begins_storage is_end
plain_item line name operation operand p =
    record {
      begins = refl;
      section = rw (p.csect, p.start) refl;
      storage = and_false (bytes_eq name (codes "DFHEISTG")) (bytes_eq operation (codes "DSECT")) p.dsect;
      end = p.end;
    }

is_ds : IsPlainOperation (codes "DS")
is_ds = record { csect = refl; start = refl; dsect = refl; end = refl }

is_la : IsPlainOperation (codes "LA")
is_la = record { csect = refl; start = refl; dsect = refl; end = refl }

is_st : IsPlainOperation (codes "ST")
is_st = record { csect = refl; start = refl; dsect = refl; end = refl }

is_oi : IsPlainOperation (codes "OI")
is_oi = record { csect = refl; start = refl; dsect = refl; end = refl }

is_l : IsPlainOperation (codes "L")
is_l = record { csect = refl; start = refl; dsect = refl; end = refl }

is_balr : IsPlainOperation (codes "BALR")
is_balr = record { csect = refl; start = refl; dsect = refl; end = refl }

lines_joined : (line : ℕ) (xs ys : List Stmt) → lines line (xs ++ ys) ≡ lines line xs ++ lines line ys
lines_joined line [] ys = refl
lines_joined line (x ∷ xs) ys = ap (λ k. made_item line x ∷ k) (lines_joined line xs ys)

both_plain : (line : ℕ) (xs ys : List Stmt) → ArePlain (lines line xs) → ArePlain (lines line ys) → ArePlain (lines line (xs ++ ys))
both_plain line xs ys a b = subst ArePlain (sym (lines_joined line xs ys)) (plain_joined (lines line xs) (lines line ys) a b)

plain_stores : (line k : ℕ) (list : List (List ℕ)) → ArePlain (lines line (stores k list))
unfolding ArePlain
plain_stores line k [] = tt
plain_stores line k (argument ∷ list) =
    (plain_item line [] (codes "LA") (codes "0," ++ argument) is_la, (plain_item line [] (codes "ST") (codes "0,DFHEIPL+" ++ decimal (4 * k)) is_st, plain_stores line (k + 1) list))

plain_loads : (line : ℕ) (registers : List (List ℕ)) → ArePlain (lines line (map load registers))
unfolding ArePlain
plain_loads line [] = tt
plain_loads line (register ∷ registers) = (plain_item line [] (codes "L") (register ++ codes ",DFHEITP") is_l, plain_loads line registers)

plain_call : (line k : ℕ) → ArePlain (lines line (call k))
unfolding ArePlain
plain_call line k = (
  plain_item line [] (codes "OI") (codes "DFHEIPL+" ++ decimal (4 * k) ++ codes ",X'80'") is_oi,
  (
    plain_item line [] (codes "LA") (codes "1,DFHEIPL") is_la,
    (plain_item line [] (codes "L") (codes "15,=V(DFHEI1)") is_l, (plain_item line [] (codes "BALR") (codes "14,15") is_balr, tt)),
  ),
)

plain_label : (line : ℕ) (name : List ℕ) → ArePlain (lines line (label name))
unfolding ArePlain
plain_label line name = go (length name == 0)
  where
    go : (b : Bool) → ArePlain (lines line (cond b [] (stmt name (codes "DS") (codes "0H") ∷ [])))
    go true = tt
    go false = (plain_item line name (codes "DS") (codes "0H") is_ds, tt)

plain_made : (line : ℕ) (name : List ℕ) (command : Command) (words : List Word) → ArePlain (lines line (made_in name command words))
unfolding made_in
plain_made line name command words =
    let list = list_of command words in
    let one = both_plain line (label name) (stores 0 list) (plain_label line name) (plain_stores line 0 list) in
    let two = both_plain line (label name ++ stores 0 list) (call (length list - 1)) one (plain_call line (length list - 1)) in
    both_plain line (label name ++ stores 0 list ++ call (length list - 1)) (map load (pointers_of (row_of command).options words)) two (plain_loads line (pointers_of (row_of command).options words))

-- ---- something put in, before or after
nothing_together : (items : List Item) → StandTogether [] items
nothing_together items = record { before = []; after = items; is = refl }

put_before_them : (part before rest made : List Item) (place : ℕ) → place ≤ length before → StandTogether part (insert_items place made (before ++ part ++ rest))
put_before_them part before rest made place le =
    let all : before ++ part ++ rest ≡ before ++ (part ++ rest) = append_assoc before part rest in
    record {
      before = take place before ++ made ++ drop place before;
      after = rest;
      is =
          ap (insert_items place made) all ∙ ap (λ k. k ++ made ++ drop place (before ++ (part ++ rest))) (take_front before (part ++ rest) place le)
          ∙ ap (λ k. take place before ++ made ++ k) (drop_front before (part ++ rest) place le)
          ∙ sym (append_assoc (take place before ++ made) (drop place before) (part ++ rest))
          ∙ sym (append_assoc (take place before ++ made ++ drop place before) part rest);
    }

put_after_them : (part before rest made : List Item) (place : ℕ) → length before + length part ≤ place → StandTogether part (insert_items place made (before ++ part ++ rest))
put_after_them part before rest made place le =
    let long : length (before ++ part) ≤ place = (let e = length_joined before part in omega (arith, e, le)) in
    let n = place - length (before ++ part) in
    record {
      before = before;
      after = take n rest ++ made ++ drop n rest;
      is =
          ap (λ k. k ++ made ++ drop place (before ++ part ++ rest)) (take_past (before ++ part) rest place long)
          ∙ ap (λ k. before ++ part ++ take n rest ++ made ++ k) (drop_past (before ++ part) rest place long)
          ∙ ap (λ k. k ++ drop n rest) (append_assoc (before ++ part) (take n rest) made)
          ∙ append_assoc (before ++ part) (take n rest ++ made) (drop n rest);
    }

abbrev IsBeside : List Item → List Item → ℕ → Type 0
IsBeside before part place = (place < length before) ⊎ (length before + length part ≤ place)

put_beside : (part before rest made : List Item) (place : ℕ) → IsBeside before part place → StandTogether part (insert_items place made (before ++ part ++ rest))
put_beside part before rest made place (inl le) = put_before_them part before rest made place (omega (arith, le))
put_beside part before rest made place (inr le) = put_after_them part before rest made place le

-- the line that something is put beside is none of them
unfoldable pub HaveNot : (Item → Bool) → List Item → Type 0
HaveNot p [] = ⊤
HaveNot p (item ∷ items) = (p item ≡ false) × HaveNot p items

past_part : (p : Item → Bool) (part rest : List Item) (place : ℕ) (d : Item) → HaveNot p part → p (get_or (part ++ rest) place d) ≡ true → length part ≤ place
unfolding HaveNot
past_part p [] rest place d none e = omega arith
past_part p (x ∷ part) rest zero d none e = (let no = none.0 in absurd (cc))
past_part p (x ∷ part) rest (suc place) d none e = (let le = past_part p part rest place d none.1 e in omega (arith, le))

beside : (p : Item → Bool) (before part rest : List Item) (place : ℕ) (d : Item) → HaveNot p part → p (get_or (before ++ (part ++ rest)) place d) ≡ true → IsBeside before part place
beside p [] part rest place d none e = inr (let le = past_part p part rest place d none e in omega (arith, le))
beside p (x ∷ before) part rest zero d none e = inl (omega arith)
beside p (x ∷ before) part rest (suc place) d none e = go (beside p before part rest place d none e)
  where
    go : IsBeside before part place → IsBeside (x ∷ before) part (suc place)
    go (inl less) = inl (omega (arith, less))
    go (inr more) = inr (omega (arith, more))

found_beside : (p : Item → Bool) (before part rest : List Item) (place : ℕ) (d : Item) → HaveNot p part → position p (before ++ part ++ rest) ≡ Some place → IsBeside before part place
found_beside p before part rest place d none found =
    beside p before part rest place d none (subst (λ k. p (get_or k place d) ≡ true) (append_assoc before part rest) (position-Some p (before ++ part ++ rest) place d found).1)

-- after a statement and the lines that continue it
continuing_most : (continues : Bool) (before : List Item) (y : Item) (rest : List Item) → is_none y.stmt ≡ false → continuation_count continues (before ++ (y ∷ rest)) ≤ length before
continuing_most continues [] y rest e = go continues
  where
    go : (b : Bool) → cond (b && is_none y.stmt) (1 + continuation_count (is_continued true y.text) rest) 0 ≤ 0
    go true = rw e (omega arith)
    go false = omega arith
continuing_most continues (x ∷ before) y rest e = go (continues && is_none x.stmt) (continuing_most (is_continued true x.text) before y rest e)
  where
    go : (b : Bool) → continuation_count (is_continued true x.text) (before ++ (y ∷ rest)) ≤ length before
        → cond b (1 + continuation_count (is_continued true x.text) (before ++ (y ∷ rest))) 0 ≤ length (x ∷ before)
    go true le = omega (arith, le)
    go false le = omega arith

pub dropped_length : (n : ℕ) (xs : List Item) → n ≤ length xs → length (drop n xs) + n ≡ length xs
dropped_length zero xs le = omega arith
dropped_length (suc n) [] le = absurd (omega arith)
dropped_length (suc n) (x ∷ xs) le = (let e = dropped_length n xs (omega arith) in omega (arith, e))

after_beside : (y : Item) (part before rest : List Item) (place : ℕ) → is_none y.stmt ≡ false → IsBeside before (y ∷ part) place
    → (place_after (before ++ (y ∷ part) ++ rest) place ≤ length before) ⊎ (length before + length (y ∷ part) ≤ place_after (before ++ (y ∷ part) ++ rest) place)
unfolding place_after
after_beside y part before rest place e (inr past) = inr (omega (arith, past))
after_beside y part before rest place e (inl less) =
    let all = before ++ (y ∷ part) ++ rest in
    let split : drop (place + 1) all ≡ drop (place + 1) before ++ (y ∷ (part ++ rest)) =
    ap (drop (place + 1)) (append_assoc before (y ∷ part) rest) ∙ drop_front before (y ∷ (part ++ rest)) (place + 1) (omega (arith, less)) in
    let most : continuation_count (continued (slice_get all place)) (drop (place + 1) all) ≤ length (drop (place + 1) before) =
    rw split (continuing_most (continued (slice_get all place)) (drop (place + 1) before) y (part ++ rest) e) in
    let long = dropped_length (place + 1) before (omega (arith, less)) in
    inl (omega (arith, most, long))

-- ---- what a translation puts in
pub no_section : (items : List Item) → ArePlain items → HaveNot begins_section items
unfolding ArePlain HaveNot
no_section [] p = tt
no_section (x ∷ items) p = ((p.0).section, no_section items p.1)

no_storage : (items : List Item) → ArePlain items → HaveNot begins_storage items
unfolding ArePlain HaveNot
no_storage [] p = tt
no_storage (x ∷ items) p = ((p.0).storage, no_storage items p.1)

pub no_end : (items : List Item) → ArePlain items → HaveNot is_end items
unfolding ArePlain HaveNot
no_end [] p = tt
no_end (x ∷ items) p = ((p.0).end, no_end items p.1)

-- a statement begins on the first of them
unfoldable pub Begins : List Item → Type 0
Begins [] = ⊤
Begins (item ∷ items) = is_none item.stmt ≡ false

plain_begins : (items : List Item) → ArePlain items → Begins items
unfolding ArePlain Begins
plain_begins [] plain = tt
plain_begins (item ∷ items) plain = (plain.0).begins

kept_before : (p : Item → Bool) (part items : List Item) (made : List Stmt) (place : ℕ) (d : Item) → HaveNot p part → position p items ≡ Some place → StandTogether part items
    → StandTogether part (put_before made place items)
kept_before p part items made place d none found there =
    let at : IsBeside there.before part place = found_beside p there.before part there.after place d none (ap (position p) (sym there.is) ∙ found) in
    subst (λ k. StandTogether part (put_before made place k)) (sym there.is)
    (put_beside part there.before there.after (lines (listed_line (slice_get (there.before ++ part ++ there.after) place)) made) place at)

kept_after : (p : Item → Bool) (part items : List Item) (made : List Stmt) (place : ℕ) (d : Item) → Begins part → HaveNot p part → position p items ≡ Some place → StandTogether part items
    → StandTogether part (put_after made place items)
unfolding Begins
kept_after p [] items made place d begun none found there = nothing_together (put_after made place items)
kept_after p (y ∷ part) items made place d begun none found there =
    let all = there.before ++ (y ∷ part) ++ there.after in
    let at : IsBeside there.before (y ∷ part) place = found_beside p there.before (y ∷ part) there.after place d none (ap (position p) (sym there.is) ∙ found) in
    let added = lines (listed_line (slice_get all place)) made in
    subst (λ k. StandTogether (y ∷ part) (put_after made place k)) (sym there.is)
    (⊎_elim
    (λ le. put_before_them (y ∷ part) there.before there.after added (place_after all place) le)
    (λ le. put_after_them (y ∷ part) there.before there.after added (place_after all place) le)
    (after_beside y part there.before there.after place begun at))

module _ (part : List Item) (begun : Begins part) (sections : HaveNot begins_section part) (ends : HaveNot is_end part) (d : Item) where
  pub with_bases_has : (items : List Item) → StandTogether part items → StandTogether part (with_bases items)
  unfolding with_bases
  with_bases_has items there = go (position begins_section items) refl
    where
      go : (place : Option ℕ) → position begins_section items ≡ place → StandTogether part (bases_after place items)
      go None none = there
      go (Some place) found = kept_after begins_section part items (bases (name_at place items)) place d begun sections found there

  pub with_eib_has : (items : List Item) → StandTogether part items → StandTogether part (with_eib items)
  unfolding with_eib
  with_eib_has items there = go (position is_end items) refl
    where
      go : (place : Option ℕ) → position is_end items ≡ place → StandTogether part (eib_before place items)
      go None none = there
      go (Some place) found = kept_before is_end part items eib_section place d ends found there

module _ (part : List Item) (plain : ArePlain part) (d : Item) where
  with_storage_keeps : (items : List Item) → StandTogether part items → StandTogether part (with_storage items)
  unfolding with_storage
  with_storage_keeps items there = go (position begins_storage items) refl
    where
      before_section : (place : Option ℕ) → position begins_section items ≡ place → StandTogether part (storage_before place items)
      before_section None none = there
      before_section (Some place) found = kept_before begins_section part items storage_section place d (no_section part plain) found there

      go : (place : Option ℕ) → position begins_storage items ≡ place → StandTogether part (storage_after place items)
      go None none = before_section (position begins_section items) refl
      go (Some place) found = kept_after begins_storage part items storage_fields place d (plain_begins part plain) (no_storage part plain) found there

  with_bases_keeps : (items : List Item) → StandTogether part items → StandTogether part (with_bases items)
  with_bases_keeps items there = with_bases_has part (plain_begins part plain) (no_section part plain) (no_end part plain) d items there

  with_eib_keeps : (items : List Item) → StandTogether part items → StandTogether part (with_eib items)
  with_eib_keeps items there = with_eib_has part (plain_begins part plain) (no_section part plain) (no_end part plain) d items there

-- ---- in place of the statement
stands_expanded : (continues : Bool) (before : List Item) (item : Item) (rest part : List Item) → ((c : Bool) → expansion c item ≡ part)
    → StandTogether part (expanded_items continues (before ++ (item ∷ rest)))
stands_expanded continues [] item rest part h =
    record { before = []; after = expanded_items (continues_exec continues item) rest; is = ap (λ k. k ++ expanded_items (continues_exec continues item) rest) (h continues) }
stands_expanded continues (x ∷ before) item rest part h =
    let more = stands_expanded (continues_exec continues x) before item rest part h in
    record {
      before = expansion continues x ++ more.before;
      after = more.after;
      is =
          ap (λ k. expansion continues x ++ k) more.is
          ∙ sym (append_assoc (expansion continues x) (more.before ++ part) more.after)
          ∙ ap (λ k. k ++ more.after) (sym (append_assoc (expansion continues x) more.before part));
    }

expands_so : (item : Item) (exec : Stmt) → item.stmt ≡ Some exec → begins_exec item ≡ true → (c : Bool) → expansion c item ≡ lines item.line (made_of exec.name (words_of exec.operand))
unfolding expansion
expands_so item exec is begins c = rw (begins, is) (go c)
  where
    go : (c : Bool) → cond (c && false) [] (lines item.line (made_of exec.name (words_of exec.operand))) ≡ lines item.line (made_of exec.name (words_of exec.operand))
    go true = refl
    go false = refl

-- ---- its command
none_of_two : (one : Option TransFault) (other : List TransFault) → cons_option one other ≡ [] → (one ≡ None) × (other ≡ [])
none_of_two None other e = (refl, e)
none_of_two (Some fault) other e = absurd (cc)

no_fault_at : (before : List Item) (item : Item) (rest : List Item) → statement_faults (before ++ (item ∷ rest)) ≡ [] → fault_at item ≡ None
no_fault_at [] item rest e = (none_of_two (fault_at item) (statement_faults rest) e).0
no_fault_at (x ∷ before) item rest e = no_fault_at before item rest (none_of_two (fault_at x) (statement_faults (before ++ (item ∷ rest))) e).1

record IsNamed (line : ℕ) (words : List Word) : Type 0 where
  command : Command
  named : ℕ
  found : command_in words ≡ Some (command, named)
  accepted : fault_in line command (take 1 words) (take named (drop 1 words)) (drop named (drop 1 words)) ≡ None

named_so : (line : ℕ) (words : List Word) → refusal_of line words ≡ None → IsNamed line words
unfolding refusal_of
named_so line words e = go (command_in words) refl e
  where
    go : (found : Option (Command × ℕ)) → command_in words ≡ found → fault_of_command line words found ≡ None → IsNamed line words
    go None is e = absurd (cc)
    go (Some found) is e = record { command = found.0; named = found.1; found = is; accepted = e }

faultless : (item : Item) (exec : Stmt) → item.stmt ≡ Some exec → begins_exec item ≡ true → fault_at item ≡ None → refusal_of item.line (words_of exec.operand) ≡ None
unfolding fault_at
faultless item exec is begins e = (let same : cond (begins_exec item) (fault_in_stmt item.line item.stmt) None ≡ refusal_of item.line (words_of exec.operand) = rw (begins, is) refl in sym same ∙ e)

-- ---- the translation
has_exec : (before : List Item) (item : Item) (rest : List Item) → begins_exec item ≡ true → list_any begins_exec (before ++ (item ∷ rest)) ≡ true
has_exec [] item rest e = rw e refl
has_exec (x ∷ before) item rest e = go (begins_exec x) (has_exec before item rest e)
  where
    go : (b : Bool) → list_any begins_exec (before ++ (item ∷ rest)) ≡ true → (b || list_any begins_exec (before ++ (item ∷ rest))) ≡ true
    go true f = refl
    go false f = f

pub stand_together : (source made : Source) (item : Item) (exec : Stmt) → translation_of source ≡ Ok made → Contains source.items item → item.stmt ≡ Some exec → begins_exec item ≡ true → IsMade item exec made.items
unfolding translation made_of
stand_together source made item exec e contained statement begins =
    let front : List Item = take contained.0 source.items in
    let back : List Item = drop (suc contained.0) source.items in
    let is : source.items ≡ front ++ (item ∷ back) =
    split_at source.items contained.0 item contained.1 ∙ ap (λ k. front ++ (k ∷ back)) contained.2 in
    let any : list_any begins_exec source.items ≡ true = ap (list_any begins_exec) is ∙ has_exec front item back begins in
    let accepted = translated_so source made any e in
    let sound = faultless item exec statement begins (no_fault_at front item back (ap statement_faults (sym is) ∙ accepted.0)) in
    let named = named_so item.line (words_of exec.operand) sound in
    let words = drop named.named (drop 1 (words_of exec.operand)) in
    let part = lines item.line (made_in exec.name named.command words) in
    let one : lines item.line (made_of exec.name (words_of exec.operand)) ≡ part = ap (λ k. lines item.line (made_by exec.name (words_of exec.operand) k)) named.found in
    let plain = plain_made item.line exec.name named.command words in
    let first = stands_expanded false front item back part (λ c. expands_so item exec statement begins c ∙ one) in
    let first' : StandTogether part (expanded_items false source.items) = subst (λ k. StandTogether part (expanded_items false k)) (sym is) first in
    let second = with_storage_keeps part plain item (expanded_items false source.items) first' in
    let third = with_bases_keeps part plain item (with_storage (expanded_items false source.items)) second in
    let last = subst (StandTogether part) accepted.1 (with_eib_keeps part plain item (with_bases (with_storage (expanded_items false source.items))) third) in
    record {
      command = named.command;
      named = named.named;
      found = named.found;
      accepted = sound;
      before = last.before;
      after = last.after;
      is = last.is ∙ ap (λ k. last.before ++ k ++ last.after) (sym one);
    }

-- the words after the command's name, and what follows of them
abbrev pub words_after : Stmt → ℕ → List Word
words_after exec named = drop named (drop 1 (words_of exec.operand))

pub made_items : (item : Item) (exec : Stmt) (items : List Item) (made : IsMade item exec items)
    → items ≡ made.before ++ lines item.line (made_in exec.name made.command (words_after exec made.named)) ++ made.after
unfolding made_of
made_items item exec items made =
    made.is ∙ ap (λ k. made.before ++ lines item.line (made_by exec.name (words_of exec.operand) k) ++ made.after) made.found

pub no_fault_in : (item : Item) (exec : Stmt) (items : List Item) (made : IsMade item exec items)
    → fault_in item.line made.command (take 1 (words_of exec.operand)) (take made.named (drop 1 (words_of exec.operand))) (words_after exec made.named) ≡ None
unfolding refusal_of
no_fault_in item exec items made = sym (ap (fault_of_command item.line (words_of exec.operand)) made.found) ∙ made.accepted
