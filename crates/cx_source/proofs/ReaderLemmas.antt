-- A reader that is fed in pieces answers what the whole source gives.
use Rattle.std.proofs.Common.{◌≡◌, ◌≢◌, ℕ, ◌+◌, Bool, true, false, ◌||◌, cond, eqb, List, [], ◌∷◌, ◌++◌, length, map, take, fold, Option, Some, None, Result, Ok, Err, refl, sym, ◌∙◌, ap, subst}
use Rattle.std.specs.List.{list_any, slice_split, onto_first, concat, range_with_len}
use Rattle.std.specs.Option.{option_or, option_map_or}
use Rattle.std.specs.Str.Lines.{lines, lines_of_parts, strip_carriage_return}
use Rattle.std.proofs.lemmas.List.{append-nil, append_assoc, length_push, length-map, take_at}
use Rattle.std.proofs.lemmas.Bool.{eqb-true}
use Rattle.std.proofs.lemmas.List.Folds.{fold_stays, list_any-append}
use Rattle.std.proofs.lemmas.Grind.{fold-append}
use Rattle.cx_source.specs.Lines.{text_of}
use Rattle.cx_source.specs.Statements.{is_continued, is_last, up_to_end, items_from}
use Rattle.cx_source.specs.Faults.{source_fault, source_from, source_in, source_of}
use Rattle.cx_source.specs.Facts.AllFaults.{first_fault, source_is}
use Rattle.cx_source.specs.Reader.{Reading, reading_at_start, if_expected, reading_after, take_byte, take_line, source_or_fault, finish, Refuses, ReadsAs}
use Rattle.cx_source.specs.declared.source.Item.{Item}
use Rattle.cx_source.specs.declared.source.Source.{Source}
use Rattle.cx_source.specs.declared.source.SourceFault.{SourceFault}
use Rattle.cx_source.specs.declared.source.SourceFault.TheVariants.{BadCharacter, BadName, BadContinuation, TooLong, NoEnd, Memory}
use Rattle.cx_source.specs.declared.reader.Progress.{Progress}
use Rattle.cx_source.specs.declared.reader.Progress.TheVariants.{Expects, Ended, Faulty}

abbrev ends_line : ℕ → Bool
ends_line b = eqb b 10

abbrev judged : Option SourceFault → Source → Result Source SourceFault
judged fault source = option_map_or Err fault (Ok source)

abbrev reading : List (List ℕ) → List ℕ → Progress → Reading
reading texts unfinished progress = record { texts = texts; unfinished = unfinished; progress = progress }

-- after a line, by its fault, whether it is END's and whether it is continued
abbrev judged_line : Option SourceFault → Bool → Bool → List (List ℕ) → List ℕ → Reading
judged_line fault last continues texts text =
    option_map_or (λ f. reading texts [] (Faulty f)) fault (reading (texts ++ text ∷ []) [] (cond last Ended (Expects continues)))

-- The lines of a text.

neither : (a b : Bool) → (a || b) ≡ false → (a ≡ false) × (b ≡ false)
neither true b e = cc
neither false b e = (refl, e)

-- a front without a line's end is the beginning of the first part
split_front : (u bs : List ℕ) → list_any ends_line u ≡ false → slice_split ends_line (u ++ 10 ∷ bs) ≡ u ∷ slice_split ends_line bs
split_front [] bs h = refl
split_front (x ∷ xs) bs h =
    let parts = neither (ends_line x) (list_any ends_line xs) h in
    ap (λ b. cond b ([] ∷ slice_split ends_line (xs ++ 10 ∷ bs)) (onto_first x (slice_split ends_line (xs ++ 10 ∷ bs)))) parts.0
    ∙ ap (onto_first x) (split_front xs bs parts.1)

split_none : (u : List ℕ) → list_any ends_line u ≡ false → slice_split ends_line u ≡ u ∷ []
split_none [] h = refl
split_none (x ∷ xs) h =
    let parts = neither (ends_line x) (list_any ends_line xs) h in
    ap (λ b. cond b ([] ∷ slice_split ends_line xs) (onto_first x (slice_split ends_line xs))) parts.0
    ∙ ap (onto_first x) (split_none xs parts.1)

-- a part that a second one follows is a line
onto_part : (x : List ℕ) (b : ℕ) (parts : List (List ℕ)) → lines_of_parts (x ∷ onto_first b parts) ≡ strip_carriage_return x ∷ lines_of_parts (onto_first b parts)
onto_part x b [] = refl
onto_part x b (part ∷ parts) = refl

either_part : (x : List ℕ) (b : ℕ) (e : Bool) (parts : List (List ℕ)) → lines_of_parts (x ∷ cond e ([] ∷ parts) (onto_first b parts)) ≡ strip_carriage_return x ∷ lines_of_parts (cond e ([] ∷ parts) (onto_first b parts))
either_part x b true parts = refl
either_part x b false parts = onto_part x b parts

first_part : (x bs : List ℕ) → lines_of_parts (x ∷ slice_split ends_line bs) ≡ strip_carriage_return x ∷ lines_of_parts (slice_split ends_line bs)
first_part x [] = refl
first_part x (b ∷ bs) = either_part x b (ends_line b) (slice_split ends_line bs)

lines_front : (u bs : List ℕ) → list_any ends_line u ≡ false → lines (u ++ 10 ∷ bs) ≡ strip_carriage_return u ∷ lines bs
lines_front u bs h = ap lines_of_parts (split_front u bs h) ∙ first_part u bs

lines_none : (u : List ℕ) → list_any ends_line u ≡ false → lines u ≡ cond (eqb (length u) 0) [] (u ∷ [])
lines_none u h = ap lines_of_parts (split_none u h)

-- After END and after a fault nothing changes.

pub ended_stays : (texts : List (List ℕ)) (u bs : List ℕ) → fold take_byte (reading texts u Ended) bs ≡ reading texts u Ended
ended_stays texts u bs = fold_stays take_byte (reading texts u Ended) (λ b. unfold take_byte in refl) bs

pub faulty_stays : (texts : List (List ℕ)) (u : List ℕ) (fault : SourceFault) (bs : List ℕ) → fold take_byte (reading texts u (Faulty fault)) bs ≡ reading texts u (Faulty fault)
faulty_stays texts u fault bs = fold_stays take_byte (reading texts u (Faulty fault)) (λ b. unfold take_byte in refl) bs

finish_ended : (texts : List (List ℕ)) (bs : List ℕ) → finish (fold take_byte (reading texts [] Ended) bs) ≡ Ok (source_from texts)
unfolding finish
finish_ended texts bs = ap finish (ended_stays texts [] bs)

finish_faulty : (texts : List (List ℕ)) (fault : SourceFault) (bs : List ℕ) → finish (fold take_byte (reading texts [] (Faulty fault)) bs) ≡ Err fault
unfolding finish
finish_faulty texts fault bs = ap finish (faulty_stays texts [] fault bs)

-- What the lines that are left make, after those that are read.
outcome : List (List ℕ) → Bool → List (List ℕ) → Result Source SourceFault
outcome texts continues left =
    judged (first_fault continues (length texts + 1) left) (source_from (texts ++ up_to_end continues (map text_of left)))

-- the same where the first line left is judged
after : Option SourceFault → Bool → Bool → List (List ℕ) → List ℕ → List (List ℕ) → Result Source SourceFault
after fault last continues texts text left =
    judged (option_or fault (cond last None (first_fault continues (length texts + 1 + 1) left)))
    (source_from (texts ++ text ∷ cond last [] (up_to_end continues (map text_of left))))

line_on : (continues : Bool) (texts : List (List ℕ)) (text : List ℕ) (left : List (List ℕ)) → outcome (texts ++ text ∷ []) continues left ≡ after None false continues texts text left
unfolding outcome after
line_on continues texts text left =
    ap (λ n. judged (first_fault continues (n + 1) left) (source_from ((texts ++ text ∷ []) ++ up_to_end continues (map text_of left)))) (length_push texts text)
    ∙ ap (λ all. judged (first_fault continues (length texts + 1 + 1) left) (source_from all)) (append_assoc texts (text ∷ []) (up_to_end continues (map text_of left)))

-- a whole line, and what comes after it
line_step : (fault : Option SourceFault) (last continues : Bool) (texts : List (List ℕ)) (text bs : List ℕ)
    → finish (fold take_byte (reading (texts ++ text ∷ []) [] (Expects continues)) bs) ≡ outcome (texts ++ text ∷ []) continues (lines bs)
    → finish (fold take_byte (judged_line fault last continues texts text) bs) ≡ after fault last continues texts text (lines bs)
unfolding after
line_step (Some fault) last continues texts text bs h = finish_faulty texts fault bs
line_step None true continues texts text bs h = finish_ended (texts ++ text ∷ []) bs
line_step None false continues texts text bs h = h ∙ line_on continues texts text (lines bs)

-- the last line has no line's end
last_none : (continues : Bool) (texts : List (List ℕ)) → finish (reading texts [] (Expects continues)) ≡ outcome texts continues []
unfolding finish outcome
last_none continues texts = refl

last_step : (fault : Option SourceFault) (last continues : Bool) (texts : List (List ℕ)) (text : List ℕ)
    → finish (judged_line fault last continues texts text) ≡ after fault last continues texts text []
last_step fault last continues texts text = line_step fault last continues texts text [] (last_none continues (texts ++ text ∷ []))

closed_is_finish : (fault : Option SourceFault) (last continues : Bool) (texts : List (List ℕ)) (text : List ℕ)
    → let r = judged_line fault last continues texts text in source_or_fault r.progress r ≡ finish r
unfolding finish
closed_is_finish (Some fault) last continues texts text = refl
closed_is_finish None true continues texts text = refl
closed_is_finish None false continues texts text = refl

-- where no more comes: an unfinished line is judged like any other
finish_open : (empty continues : Bool) (texts : List (List ℕ)) (u : List ℕ)
    → source_or_fault (cond empty (reading texts u (Expects continues)) (reading_after continues u (reading texts u (Expects continues)))).progress (cond empty (reading texts u (Expects continues)) (reading_after continues u (reading texts u (Expects continues))))
    ≡ outcome texts continues (cond empty [] (u ∷ []))
unfolding outcome after
finish_open true continues texts u = refl
finish_open false continues texts u =
    let text = text_of u in
    let fault = source_fault continues (length texts + 1) u in
    closed_is_finish fault (is_last continues text) (is_continued continues text) texts text
    ∙ last_step fault (is_last continues text) (is_continued continues text) texts text

-- What the rest of a source leads to is what its lines make.
whole : (bs : List ℕ) (texts : List (List ℕ)) (u : List ℕ) (continues : Bool) → list_any ends_line u ≡ false
    → finish (fold take_byte (reading texts u (Expects continues)) bs) ≡ outcome texts continues (lines (u ++ bs))
unfolding finish take_byte outcome after
whole [] texts u continues h =
    finish_open (eqb (length u) 0) continues texts u
    ∙ ap (outcome texts continues) (sym (ap lines (append-nil u) ∙ lines_none u h))
whole (b ∷ bs) texts u continues h =
    let line = strip_carriage_return u in
    let text = text_of line in
    elim (ends_line b) as (λ e. ends_line b ≡ e → finish (fold take_byte (cond e (reading_after continues line (reading texts u (Expects continues))) (reading texts (u ++ b ∷ []) (Expects continues))) bs) ≡ outcome texts continues (lines (u ++ b ∷ bs))) [
      | true ↦ λ e. line_step (source_fault continues (length texts + 1) line) (is_last continues text) (is_continued continues text) texts text bs (whole bs (texts ++ text ∷ []) [] (is_continued continues text) refl)
          ∙ ap (outcome texts continues) (sym (ap (λ x. lines (u ++ x ∷ bs)) (eqb-true b 10 e) ∙ lines_front u bs h))
      | false ↦ λ e. whole bs texts (u ++ b ∷ []) continues (list_any-append ends_line u (b ∷ []) ∙ ap (λ x. x || (ends_line b || false)) h ∙ ap (λ x. x || false) e)
          ∙ ap (λ all. outcome texts continues (lines all)) (append_assoc u (b ∷ []) bs)
    ] refl

-- THE THEOREM: fed with bytes, a reader answers what their lines make.
pub whole_source : (bytes : List ℕ) → finish (fold take_byte reading_at_start bytes) ≡ source_of bytes
unfolding source_of outcome
whole_source bytes = whole bytes [] [] false refl ∙ sym (source_is (lines bytes))

-- two pieces are as one
pub two_pieces : (r : Reading) (a b : List ℕ) → fold take_byte (fold take_byte r a) b ≡ fold take_byte r (a ++ b)
two_pieces r a b = sym (fold-append take_byte r a b)

-- and so are many
pub many_pieces : (pieces : List (List ℕ)) (r : Reading) → fold (fold take_byte) r pieces ≡ fold take_byte r (concat pieces)
many_pieces [] r = refl
many_pieces (piece ∷ pieces) r = many_pieces pieces (fold take_byte r piece) ∙ two_pieces r piece (concat pieces)

-- Lines that come at once.

lines_faulty : (texts : List (List ℕ)) (fault : SourceFault) (all : List (List ℕ)) → finish (fold take_line (reading texts [] (Faulty fault)) all) ≡ Err fault
unfolding finish
lines_faulty texts fault all = ap finish (fold_stays take_line (reading texts [] (Faulty fault)) (λ line. unfold take_line in refl) all)

lines_ended : (texts : List (List ℕ)) (all : List (List ℕ)) → finish (fold take_line (reading texts [] Ended) all) ≡ Ok (source_from texts)
unfolding finish
lines_ended texts all = ap finish (fold_stays take_line (reading texts [] Ended) (λ line. unfold take_line in refl) all)

whole_line_step : (fault : Option SourceFault) (last continues : Bool) (texts : List (List ℕ)) (text : List ℕ) (all : List (List ℕ))
    → finish (fold take_line (reading (texts ++ text ∷ []) [] (Expects continues)) all) ≡ outcome (texts ++ text ∷ []) continues all
    → finish (fold take_line (judged_line fault last continues texts text) all) ≡ after fault last continues texts text all
unfolding after
whole_line_step (Some fault) last continues texts text all h = lines_faulty texts fault all
whole_line_step None true continues texts text all h = lines_ended (texts ++ text ∷ []) all
whole_line_step None false continues texts text all h = h ∙ line_on continues texts text all

lines_outcome : (all : List (List ℕ)) (texts : List (List ℕ)) (continues : Bool) → finish (fold take_line (reading texts [] (Expects continues)) all) ≡ outcome texts continues all
unfolding take_line outcome after
lines_outcome [] texts continues = last_none continues texts
lines_outcome (line ∷ all) texts continues =
    let text = text_of line in
    whole_line_step (source_fault continues (length texts + 1) line) (is_last continues text) (is_continued continues text) texts text all
    (lines_outcome all (texts ++ text ∷ []) (is_continued continues text))

-- fed line by line, a reader answers what the lines make
pub line_by_line : (all : List (List ℕ)) → finish (fold take_line reading_at_start all) ≡ source_in all
unfolding outcome
line_by_line all = lines_outcome all [] false ∙ sym (source_is all)

-- Lines that were read stay.

abbrev Adds : List (List ℕ) → List (List ℕ) → Type 0
Adds old new = (more : List (List ℕ)) × (new ≡ old ++ more)

line_adds : (fault : Option SourceFault) (last continues : Bool) (texts : List (List ℕ)) (text : List ℕ) → Adds texts (judged_line fault last continues texts text).texts
line_adds (Some fault) last continues texts text = ([], sym (append-nil texts))
line_adds None last continues texts text = (text ∷ [], refl)

either_adds : (e continues : Bool) (texts : List (List ℕ)) (u line more : List ℕ) → Adds texts (cond e (reading_after continues line (reading texts u (Expects continues))) (reading texts more (Expects continues))).texts
either_adds true continues texts u line more = line_adds (source_fault continues (length texts + 1) line) _ _ texts (text_of line)
either_adds false continues texts u line more = ([], sym (append-nil texts))

byte_adds : (progress : Progress) (texts : List (List ℕ)) (u : List ℕ) (b : ℕ) → Adds texts (take_byte (reading texts u progress) b).texts
unfolding take_byte
byte_adds Ended texts u b = ([], sym (append-nil texts))
byte_adds (Faulty fault) texts u b = ([], sym (append-nil texts))
byte_adds (Expects continues) texts u b = either_adds (ends_line b) continues texts u (strip_carriage_return u) (u ++ b ∷ [])

piece_adds : (bs : List ℕ) (r : Reading) → Adds r.texts (fold take_byte r bs).texts
piece_adds [] r = ([], sym (append-nil r.texts))
piece_adds (b ∷ bs) r =
    let first = byte_adds r.progress r.texts r.unfinished b in
    let rest = piece_adds bs (take_byte r b) in
    (first.0 ++ rest.0, rest.1 ∙ ap (λ x. x ++ rest.0) first.1 ∙ append_assoc r.texts first.0 rest.0)

pub texts_kept : (bs : List ℕ) (r : Reading) → take (length r.texts) (fold take_byte r bs).texts ≡ r.texts
texts_kept bs r = let adds = piece_adds bs r in ap (take (length r.texts)) adds.1 ∙ take_at r.texts adds.0 (length r.texts) refl

pub in_pieces : (pieces : List (List ℕ)) → finish (fold (fold take_byte) reading_at_start pieces) ≡ source_of (concat pieces)
in_pieces pieces = ap finish (many_pieces pieces reading_at_start) ∙ whole_source (concat pieces)

-- A reader keeps no failed allocation as its fault.

after_not : (g : SourceFault) (fault : Option SourceFault) (last continues : Bool) (texts : List (List ℕ)) (text : List ℕ) → fault ≢ Some g
    → (judged_line fault last continues texts text).progress ≢ Faulty g
after_not g (Some fault) last continues texts text h = λ e. h (ap Some (let inner : fault ≡ g = cc in inner))
after_not g None true continues texts text h = λ e. cc
after_not g None false continues texts text h = λ e. cc

-- a fault that no line has, no piece brings
module _ (g : SourceFault) (never : (continues : Bool) (n : ℕ) (line : List ℕ) → source_fault continues n line ≢ Some g) where
  either_not : (e continues : Bool) (texts : List (List ℕ)) (u line more : List ℕ) → (cond e (reading_after continues line (reading texts u (Expects continues))) (reading texts more (Expects continues))).progress ≢ Faulty g
  either_not true continues texts u line more = after_not g _ _ _ texts (text_of line) (never continues (length texts + 1) line)
  either_not false continues texts u line more = λ e. cc

  byte_not : (progress : Progress) (texts : List (List ℕ)) (u : List ℕ) (b : ℕ) → progress ≢ Faulty g → (take_byte (reading texts u progress) b).progress ≢ Faulty g
  unfolding take_byte
  byte_not Ended texts u b h = h
  byte_not (Faulty fault) texts u b h = h
  byte_not (Expects continues) texts u b h = either_not (ends_line b) continues texts u (strip_carriage_return u) (u ++ b ∷ [])

  piece_not : (bs : List ℕ) (r : Reading) → r.progress ≢ Faulty g → (fold take_byte r bs).progress ≢ Faulty g
  piece_not [] r h = h
  piece_not (b ∷ bs) r h = piece_not bs (take_byte r b) (byte_not r.progress r.texts r.unfinished b h)

no_memory : (a b c d : Bool) (n : ℕ) → cond a (Some (TooLong n)) (cond b (Some (BadCharacter n)) (cond c (Some (BadContinuation n)) (cond d None (Some (BadName n))))) ≢ Some Memory
no_memory true b c d n = λ e. cc
no_memory false true c d n = λ e. cc
no_memory false false true d n = λ e. cc
no_memory false false false true n = λ e. cc
no_memory false false false false n = λ e. cc

fault_not_memory : (continues : Bool) (n : ℕ) (line : List ℕ) → source_fault continues n line ≢ Some Memory
unfolding source_fault
fault_not_memory continues n line = no_memory _ _ _ _ n

no_end : (a b c d : Bool) (n m : ℕ) → cond a (Some (TooLong n)) (cond b (Some (BadCharacter n)) (cond c (Some (BadContinuation n)) (cond d None (Some (BadName n))))) ≢ Some (NoEnd m)
no_end true b c d n m = λ e. cc
no_end false true c d n m = λ e. cc
no_end false false true d n m = λ e. cc
no_end false false false true n m = λ e. cc
no_end false false false false n m = λ e. cc

fault_not_end : (m : ℕ) (continues : Bool) (n : ℕ) (line : List ℕ) → source_fault continues n line ≢ Some (NoEnd m)
unfolding source_fault
fault_not_end m continues n line = no_end _ _ _ _ n m

-- before its end a source is never refused for having none, nor for memory
pub not_before_the_end : (bytes : List ℕ) (n : ℕ) → ((fold take_byte reading_at_start bytes).progress ≢ Faulty (NoEnd n)) × ((fold take_byte reading_at_start bytes).progress ≢ Faulty Memory)
not_before_the_end bytes n =
    (piece_not (NoEnd n) (fault_not_end n) bytes reading_at_start (λ e. cc), piece_not Memory fault_not_memory bytes reading_at_start (λ e. cc))

-- what a fault that a piece brought leaves
refuses_due : (fault : SourceFault) (old due new : Reading) → due.progress ≢ Faulty Memory → new ≡ due → new.progress ≡ Faulty fault → Refuses fault old due new
refuses_due Memory old due new h taken faulty = absurd (h (ap (λ (r : Reading). r.progress) (sym taken) ∙ faulty))
refuses_due (TooLong n) old due new h taken faulty = (taken, faulty)
refuses_due (BadCharacter n) old due new h taken faulty = (taken, faulty)
refuses_due (BadContinuation n) old due new h taken faulty = (taken, faulty)
refuses_due (BadName n) old due new h taken faulty = (taken, faulty)
refuses_due (NoEnd n) old due new h taken faulty = (taken, faulty)

pub refuses_new : (fault : SourceFault) (old new : Reading) (piece : List ℕ) → ((kept : SourceFault) → old.progress ≢ Faulty kept) → new ≡ fold take_byte old piece → new.progress ≡ Faulty fault → Refuses fault old (fold take_byte old piece) new
refuses_new fault old new piece h taken faulty =
    refuses_due fault old (fold take_byte old piece) new (piece_not Memory fault_not_memory piece old (h Memory)) taken faulty

whole_line_not : (progress : Progress) (texts : List (List ℕ)) (u line : List ℕ) → progress ≢ Faulty Memory → (take_line (reading texts u progress) line).progress ≢ Faulty Memory
unfolding take_line
whole_line_not Ended texts u line h = h
whole_line_not (Faulty fault) texts u line h = h
whole_line_not (Expects continues) texts u line h = after_not Memory _ _ _ texts (text_of (u ++ line)) (fault_not_memory continues (length texts + 1) (u ++ line))

pub refuses_line : (fault : SourceFault) (old new : Reading) (continues : Bool) (line : List ℕ) → old.progress ≡ Expects continues → new ≡ take_line old line → new.progress ≡ Faulty fault → Refuses fault old (take_line old line) new
refuses_line fault old new continues line h taken faulty =
    refuses_due fault old (take_line old line) new
    (whole_line_not old.progress old.texts old.unfinished line (λ e. let no : Expects continues ≡ Faulty Memory = sym h ∙ e in cc)) taken faulty

-- after END and after a fault
pub ended_keeps : (r : Reading) (bs : List ℕ) → r.progress ≡ Ended → r ≡ fold take_byte r bs
ended_keeps r bs e =
    let same : r ≡ reading r.texts r.unfinished Ended = ap (reading r.texts r.unfinished) e in
    same ∙ sym (ap (λ x. fold take_byte x bs) same ∙ ended_stays r.texts r.unfinished bs)

faulty_keeps : (r : Reading) (bs : List ℕ) (fault : SourceFault) → r.progress ≡ Faulty fault → r ≡ fold take_byte r bs
faulty_keeps r bs fault e =
    let same : r ≡ reading r.texts r.unfinished (Faulty fault) = ap (reading r.texts r.unfinished) e in
    same ∙ sym (ap (λ x. fold take_byte x bs) same ∙ faulty_stays r.texts r.unfinished fault bs)

kept_due : (fault : SourceFault) (r due : Reading) → r ≡ due → r.progress ≡ Faulty fault → Refuses fault r due r
kept_due Memory r due same faulty = refl
kept_due (TooLong n) r due same faulty = (same, faulty)
kept_due (BadCharacter n) r due same faulty = (same, faulty)
kept_due (BadContinuation n) r due same faulty = (same, faulty)
kept_due (BadName n) r due same faulty = (same, faulty)
kept_due (NoEnd n) r due same faulty = (same, faulty)

pub refuses_kept : (fault : SourceFault) (r : Reading) (piece : List ℕ) → r.progress ≡ Faulty fault → Refuses fault r (fold take_byte r piece) r
refuses_kept fault r piece faulty = kept_due fault r (fold take_byte r piece) (faulty_keeps r piece fault faulty) faulty

-- and a whole line changes nothing there either
pub ended_keeps_line : (r : Reading) (line : List ℕ) → r.progress ≡ Ended → r ≡ take_line r line
unfolding take_line
ended_keeps_line r line e = sym (ap (λ p. if_expected p r (λ continues. reading_after continues (r.unfinished ++ line) r)) e)

faulty_keeps_line : (r : Reading) (line : List ℕ) (fault : SourceFault) → r.progress ≡ Faulty fault → r ≡ take_line r line
unfolding take_line
faulty_keeps_line r line fault e = sym (ap (λ p. if_expected p r (λ continues. reading_after continues (r.unfinished ++ line) r)) e)

pub refuses_kept_line : (fault : SourceFault) (r : Reading) (line : List ℕ) → r.progress ≡ Faulty fault → Refuses fault r (take_line r line) r
refuses_kept_line fault r line faulty = kept_due fault r (take_line r line) (faulty_keeps_line r line fault faulty) faulty

-- the answer of a reader that has a fault
finish_at : (r : Reading) (fault : SourceFault) → r.progress ≡ Faulty fault → finish r ≡ Err fault
unfolding finish
finish_at r fault e =
    let last = λ (p : Progress). if_expected p r (λ continues. cond (eqb (length r.unfinished) 0) r (reading_after continues r.unfinished r)) in
    ap (λ p. source_or_fault (last p).progress (last p)) e ∙ ap (λ p. source_or_fault p r) e

faulty_source : (fault : SourceFault) (bytes : List ℕ) (new : Reading) → (new ≡ fold take_byte reading_at_start bytes) × (new.progress ≡ Faulty fault) → source_of bytes ≡ Err fault
faulty_source fault bytes new h = sym (whole_source bytes) ∙ ap finish (sym h.0) ∙ finish_at new fault h.1

pub reads_refused : (fault : SourceFault) (bytes : List ℕ) (new : Reading) → Refuses fault reading_at_start (fold take_byte reading_at_start bytes) new → ReadsAs (source_of bytes) (Err fault)
reads_refused Memory bytes new h = tt
reads_refused (TooLong n) bytes new h = faulty_source (TooLong n) bytes new h
reads_refused (BadCharacter n) bytes new h = faulty_source (BadCharacter n) bytes new h
reads_refused (BadContinuation n) bytes new h = faulty_source (BadContinuation n) bytes new h
reads_refused (BadName n) bytes new h = faulty_source (BadName n) bytes new h
reads_refused (NoEnd n) bytes new h = faulty_source (NoEnd n) bytes new h

-- what is refused early is refused for the whole's fault
pub early_fault : (front rest : List ℕ) (fault : SourceFault) → (fold take_byte reading_at_start front).progress ≡ Faulty fault → source_of (front ++ rest) ≡ Err fault
early_fault front rest fault e =
    sym (whole_source (front ++ rest))
    ∙ ap finish (sym (two_pieces reading_at_start front rest) ∙ sym (faulty_keeps (fold take_byte reading_at_start front) rest fault e))
    ∙ finish_at (fold take_byte reading_at_start front) fault e

-- A line that ends is judged at once.

after_line : (fault : Option SourceFault) (last continues : Bool) (texts : List (List ℕ)) (text : List ℕ) (given : SourceFault)
    → finish (judged_line fault last continues texts text) ≡ Err given → ((n : ℕ) → given ≢ NoEnd n) → (judged_line fault last continues texts text).progress ≡ Faulty given
unfolding finish
after_line (Some kept) last continues texts text given e h = (let same : kept ≡ given = cc in ap Faulty same)
after_line None true continues texts text given e h = cc
after_line None false continues texts text given e h =
    let same : NoEnd (length (texts ++ text ∷ []) + 1) ≡ given = cc in absurd (h (length (texts ++ text ∷ []) + 1) (sym same))

after_feed : (progress : Progress) (texts : List (List ℕ)) (u : List ℕ) (fault : SourceFault) → finish (take_byte (reading texts u progress) 10) ≡ Err fault
    → ((n : ℕ) → fault ≢ NoEnd n) → (take_byte (reading texts u progress) 10).progress ≡ Faulty fault
unfolding finish take_byte
after_feed Ended texts u fault e h = cc
after_feed (Faulty kept) texts u fault e h = (let same : kept ≡ fault = cc in ap Faulty same)
after_feed (Expects continues) texts u fault e h =
    after_line (source_fault continues (length texts + 1) (strip_carriage_return u)) _ _ texts (text_of (strip_carriage_return u)) fault e h

pub complete_fault : (bytes : List ℕ) (fault : SourceFault) → source_of (bytes ++ 10 ∷ []) ≡ Err fault → ((n : ℕ) → fault ≢ NoEnd n)
    → (fold take_byte reading_at_start (bytes ++ 10 ∷ [])).progress ≡ Faulty fault
complete_fault bytes fault e h =
    let r = fold take_byte reading_at_start bytes in
    let two : take_byte r 10 ≡ fold take_byte reading_at_start (bytes ++ 10 ∷ []) = two_pieces reading_at_start bytes (10 ∷ []) in
    ap (λ (x : Reading). x.progress) (sym two)
    ∙ after_feed r.progress r.texts r.unfinished fault (ap finish two ∙ whole_source (bytes ++ 10 ∷ []) ∙ e) h

-- The lines of a source are its items.

items_texts : (texts : List (List ℕ)) (continues : Bool) (n : ℕ) → map (λ (item : Item). item.text) (items_from continues n texts) ≡ texts
items_texts [] continues n = refl
items_texts (text ∷ more) continues n = ap (λ rest. text ∷ rest) (items_texts more (is_continued continues text) (n + 1))

items_numbers : (texts : List (List ℕ)) (continues : Bool) (n : ℕ) → map (λ (item : Item). item.line) (items_from continues n texts) ≡ range_with_len n (length texts)
items_numbers [] continues n = refl
items_numbers (text ∷ more) continues n = ap (λ rest. n ∷ rest) (items_numbers more (is_continued continues text) (n + 1))

judged_items : (fault : Option SourceFault) (texts : List (List ℕ)) (source : Source) → judged fault (source_from texts) ≡ Ok source
    → (map (λ (item : Item). item.text) source.items ≡ texts) × (map (λ (item : Item). item.line) source.items ≡ range_with_len 1 (length source.items))
judged_items (Some fault) texts source e = cc
judged_items None texts source e =
    let same : source_from texts ≡ source = cc in
    subst (λ (s : Source). (map (λ (item : Item). item.text) s.items ≡ texts) × (map (λ (item : Item). item.line) s.items ≡ range_with_len 1 (length s.items))) same
    (items_texts texts false 1, items_numbers texts false 1 ∙ sym (ap (range_with_len 1) (sym (length-map (items_from false 1 texts) (λ (item : Item). item.text)) ∙ ap length (items_texts texts false 1))))

-- what an accepted source's items are
pub one_item_a_line : (all : List (List ℕ)) (source : Source) → source_in all ≡ Ok source
    → (map (λ (item : Item). item.text) source.items ≡ up_to_end false (map text_of all)) × (map (λ (item : Item). item.line) source.items ≡ range_with_len 1 (length source.items))
one_item_a_line all source e = judged_items (first_fault false 1 all) (up_to_end false (map text_of all)) source (sym (source_is all) ∙ e)
