-- Lines and words that don't overlap: the first of them, and the last.
use Rattle.std.specs.Prelude.{◌*◌, ◌==◌, cond}
use Rattle.std.proofs.lemmas.Bool.Decides.{nat_tests}
use Rattle.cx_code.specs.Spelling.{Instruction}
use Rattle.std.proofs.Common.{◌≡◌, ◌≤◌, ◌<◌, ℕ, zero, suc, ◌+◌, Bool, true, false, List, [], ◌∷◌, ◌++◌, length, refl, sym, ◌∙◌, ap, subst, arith}
use Rattle.cx_code.specs.declared.disassembly.Line.{Line}
use Rattle.cx_code.specs.declared.disassembly.LineContent.TheVariants.{Code, Data, Space}
use Rattle.cx_asm_image.specs.Relocated.{words_at}
use Rattle.cx_asm_image.specs.Resolved.{AreApart, end_after, offset_after}
use Rattle.cx_asm.specs.Laws.SectionLines.{IsWithin, WordsApart}
use Rattle.cx_asm.specs.Parts.Kept.{kept}
use Rattle.cx_asm.specs.Resolving.{Standing, data_line, join_sections, line as line_of, relocated_offsets, space_line, standing_from}
use Rattle.cx_source.specs.declared.source.Source.{Source}
use Rattle.cx_asm_pass1.specs.Locations.{IsPlaced, final_state}
use Rattle.cx_asm_pass1.specs.declared.places.Places.{Places}
use Rattle.cx_asm_operands.specs.Bases.{none_in_use}
use Rattle.cx_asm_pass2.specs.Statements.{PlacedStatement, statements_of}
use Rattle.cx_asm_pass2.specs.Whole.{whole_of, whole_by}
use Rattle.cx_asm.specs.Assembly.{control_section_size, standing_of}
use Rattle.cx_asm.proofs.JoinLemmas.{joined_in_turn}
use Rattle.cx_asm_pass2.specs.Facts.Whole.{whole_is}

-- ---- the first of them
apart_ends : (from : ℕ) (lines : List Line) (end : ℕ) → AreApart from lines end → from ≤ end
apart_ends from [] end apart = apart
apart_ends from (l ∷ lines) end apart = let rest = apart_ends (offset_after l) lines end apart.1 in omega (arith, rest, apart.0)

apart_front : (from : ℕ) (one other : List Line) (end : ℕ) → AreApart from (one ++ other) end → AreApart from one end
apart_front from [] other end apart = apart_ends from other end apart
apart_front from (l ∷ one) other end apart = (apart.0, apart_front (offset_after l) one other end apart.1)

words_end : (from : ℕ) (words : List ℕ) (end : ℕ) → WordsApart from words end → from ≤ end
words_end from [] end apart = apart
words_end from (word ∷ words) end apart = let rest = words_end (word + 4) words end apart.1 in omega (arith, rest, apart.0)

words_front : (from : ℕ) (one other : List ℕ) (end : ℕ) → WordsApart from (one ++ other) end → WordsApart from one end
words_front from [] other end apart = words_end from other end apart
words_front from (word ∷ one) other end apart = (apart.0, words_front (word + 4) one other end apart.1)

within_front : (from : ℕ) (one other : Standing) (end : ℕ) → IsWithin from (join_sections one other) end → IsWithin from one end
within_front from one other end h =
    record { lines = apart_front from one.lines other.lines end h.lines; words = words_front from one.relocs other.relocs end h.words }

-- the first part of what is left fits after what is there
pub fits_first : (old part rest left all : Standing) (end : ℕ) → left ≡ join_sections part rest → join_sections old left ≡ all → IsWithin 0 all end → IsWithin 0 (join_sections old part) end
fits_first old part rest left all end e f h =
    within_front 0 (join_sections old part) rest end
    (subst (λ s. IsWithin 0 s end) (sym f ∙ ap (λ (s : Standing). join_sections old s) e ∙ sym (joined_in_turn old part rest)) h)

-- so it does where it is kept
pub kept_fits : (keeps : Bool) (old part rest left first all : Standing) (end : ℕ) → left ≡ join_sections part rest → kept keeps old left ≡ kept keeps first all
    → (keeps ≡ true → IsWithin 0 (join_sections first all) end) → keeps ≡ true → IsWithin 0 (join_sections old part) end
kept_fits true old part rest left first all end e f h is = fits_first old part rest left (join_sections first all) end e f (h refl)
kept_fits false old part rest left first all end e f h is = cc

-- ---- the last of them
pub line_fits : (from : ℕ) (lines : List Line) (l : Line) (end : ℕ) → AreApart from (lines ++ l ∷ []) end → (end_after from lines ≤ l.at) × (offset_after l ≤ end)
line_fits from [] l end apart = (apart.0, apart.1)
line_fits from (m ∷ lines) l end apart = line_fits (offset_after m) lines l end apart.1

words_rest : (from : ℕ) (one other : List ℕ) (end : ℕ) → WordsApart from (one ++ other) end → WordsApart 0 other end
words_rest from [] [] end apart = omega arith
words_rest from [] (word ∷ other) end apart = (omega arith, apart.1)
words_rest from (word ∷ one) other end apart = words_rest (word + 4) one other end apart.1

pub words_fit : (one other : Standing) (end : ℕ) → IsWithin 0 (join_sections one other) end → WordsApart 0 other.relocs end
words_fit one other end h = words_rest 0 one.relocs other.relocs end h.words

words_last : (from at n end : ℕ) → WordsApart from (words_at at n) end → 0 < n → at + 4 * n ≤ end
words_last from at zero end apart some = absurd (omega (arith, some))
words_last from at (suc zero) end apart some = omega (arith, apart.1)
words_last from at (suc (suc n)) end apart some = let rest = words_last (at + 4) (at + 4) (suc n) end apart.1 (omega arith) in omega (arith, rest)

pub relocated_fit : (at n : ℕ) (is : Bool) (end : ℕ) → is ≡ true → 0 < n → WordsApart 0 (relocated_offsets at n is) end → at + 4 * n ≤ end
relocated_fit at n true end e some apart = words_last 0 at n end apart some
relocated_fit at n false end e some apart = cc

-- ---- where a line is
space_stands : (none : Bool) (from : ℕ) (lines : List Line) (at size end : ℕ) → none ≡ false → AreApart from (lines ++ cond none [] (line_of at (Space size) ∷ [])) end → at + size ≤ end
space_stands true from lines at size end e apart = cc
space_stands false from lines at size end e apart = (line_fits from lines (line_of at (Space size)) end apart).1

some_size : (size : ℕ) → (size ≡ 0 → ⊥) → size == 0 ≡ false
some_size size some = grind (arith, nat_tests)

pub space_fits : (from : ℕ) (lines : List Line) (at size end : ℕ) → (size ≡ 0 → ⊥) → AreApart from (lines ++ space_line at size) end → at + size ≤ end
space_fits from lines at size end some apart = space_stands (size == 0) from lines at size end (some_size size some) apart

pub data_fits : (from : ℕ) (lines : List Line) (at : ℕ) (bytes : List ℕ) (end : ℕ) → (length bytes ≡ 0 → ⊥) → AreApart from (lines ++ data_line at bytes) end → at ≤ end
data_fits from lines at [] end some apart = absurd (some refl)
data_fits from lines at (byte ∷ bytes) end some apart =
    let ends = (line_fits from lines (line_of at (Data (byte ∷ bytes))) end apart).1 in omega (arith, ends)

pub code_fits : (from : ℕ) (lines : List Line) (at : ℕ) (made : Instruction) (end : ℕ) → AreApart from (lines ++ line_of at (Code made) ∷ []) end → at ≤ end
code_fits from lines at made end apart = let ends = (line_fits from lines (line_of at (Code made)) end apart).1 in omega (arith, ends)

-- bytes that aren't empty, by their number
pub some_bytes : (items bytes : List ℕ) (count : ℕ) (is_empty : Bool) → items ≡ bytes → count ≡ length items → is_empty ≡ (count == 0) → is_empty ≡ false → length bytes ≡ 0 → ⊥
some_bytes items bytes count is_empty e f g h none =
    let zero_count : count ≡ 0 = f ∙ ap length e ∙ none in
    let no : count == 0 ≡ false = sym g ∙ h in
    grind (arith, nat_tests)

-- ---- what is in the control section fits in the largest text
apart_more : (from : ℕ) (lines : List Line) (end most : ℕ) → end ≤ most → AreApart from lines end → AreApart from lines most
apart_more from [] end most le apart = omega (arith, le, apart)
apart_more from (l ∷ lines) end most le apart = (apart.0, apart_more (offset_after l) lines end most le apart.1)

words_more : (from : ℕ) (words : List ℕ) (end most : ℕ) → end ≤ most → WordsApart from words end → WordsApart from words most
words_more from [] end most le apart = omega (arith, le, apart)
words_more from (word ∷ words) end most le apart = (apart.0, words_more (word + 4) words end most le apart.1)

within_more : (one : Standing) (end most : ℕ) → end ≤ most → IsWithin 0 one end → IsWithin 0 one most
within_more one end most le h = record { lines = apart_more 0 one.lines end most le h.lines; words = words_more 0 one.relocs end most le h.words }

pub section_fits : (source : Source) (places : Places) (statements : List PlacedStatement) → IsPlaced (final_state source) places → statements ≡ statements_of source → control_section_size source ≤ 65536
    → IsWithin 0 (standing_of source) (control_section_size source) → IsWithin 0 (standing_from (whole_by places) statements none_in_use statements) 65536
unfolding standing_of
section_fits source places statements placed e le h =
    rw (whole_is source places placed, e) (within_more (standing_from (whole_of source) (statements_of source) none_in_use (statements_of source)) (control_section_size source) 65536 le h)
