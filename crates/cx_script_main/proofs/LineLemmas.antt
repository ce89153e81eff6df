-- A line of some bytes, by those before it.
use Rattle.std.proofs.Common.{◌≡◌, ℕ, suc, ◌+◌, ◌-◌, ◌<◌, List, [], ◌∷◌, ◌++◌, None, append-nil, append_assoc, drop, encode_utf8, encode_utf8_all, length, map, min, slice_get, take, ap, ◌∙◌, refl, sym, arith, ◌≤◌}
use Rattle.std.proofs.lemmas.List.{drop_all, take_min}
use Rattle.std.specs.Prelude.{if◌then◌else◌, ◌==◌, Bool, true, false}
use Rattle.std.specs.Str.Lines.{strip_carriage_return}
use Rattle.cx_script_io.specs.Facts.Lines.{line_met, none_met}
use Rattle.cx_script_io.specs.Lines.{last_met, lines_met}
use Rattle.cx_script_io.specs.Unbroken.{IsUnbroken}
use Rattle.cx_script_main.specs.Shown.{shown_line}
use Rattle.cx_script_blocks.specs.Shown.{printable_byte}
use Rattle.cx_script_io.specs.declared.input.Ending.TheVariants.{AtEnd}

-- the first line
pub line_first : (bytes line rest : List ℕ) → bytes ≡ line ++ 10 ∷ rest → IsUnbroken line
    → slice_get (lines_met AtEnd bytes) 0 ≡ slice_get (strip_carriage_return line ∷ []) 0
line_first bytes line rest e u = ap (λ (l : List (List ℕ)). slice_get l 0) (ap (lines_met AtEnd) e ∙ line_met AtEnd line rest u)

-- a later one is one of the bytes after the first
pub line_after : (bytes line rest : List ℕ) (number before : ℕ) → bytes ≡ line ++ 10 ∷ rest → IsUnbroken line → before < number
    → slice_get (lines_met AtEnd bytes) (number - before) ≡ slice_get (lines_met AtEnd rest) (number - (before + 1))
line_after bytes line rest number before e u less =
    let next : number - before ≡ suc (number - (before + 1)) = omega arith in
    ap (λ (l : List (List ℕ)). slice_get l (number - before)) (ap (lines_met AtEnd) e ∙ line_met AtEnd line rest u)
    ∙ ap (λ (n : ℕ). slice_get (strip_carriage_return line ∷ lines_met AtEnd rest) n) next

-- bytes without an LF are at most one
at_most_one : (bytes : List ℕ) (is_empty : Bool) (n : ℕ) → slice_get (if is_empty then [] else bytes ∷ []) (suc n) ≡ None
at_most_one bytes true n = refl
at_most_one bytes false n = refl

pub line_none : (bytes : List ℕ) (number before : ℕ) → IsUnbroken bytes → before < number → slice_get (lines_met AtEnd bytes) (number - before) ≡ None
line_none bytes number before u less =
    let next : number - before ≡ suc (number - (before + 1)) = omega arith in
    ap (λ (l : List (List ℕ)). slice_get l (number - before)) (none_met AtEnd bytes u)
    ∙ ap (λ (n : ℕ). slice_get (last_met AtEnd bytes) n) next ∙ at_most_one bytes (length bytes == 0) (number - (before + 1))

pub line_last : (bytes : List ℕ) → IsUnbroken bytes → slice_get (lines_met AtEnd bytes) 0 ≡ slice_get (last_met AtEnd bytes) 0
line_last bytes u = ap (λ (l : List (List ℕ)). slice_get l 0) (none_met AtEnd bytes u)

-- ---- a line as it is shown
-- one more of its characters is written
pub one_more : (done rest all left : List ℕ) (b ch : ℕ) → ch ≡ printable_byte b → left ≡ b ∷ rest → done ++ encode_utf8_all (map printable_byte left) ≡ all
    → (done ++ encode_utf8 ch) ++ encode_utf8_all (map printable_byte rest) ≡ all
one_more done rest all left b ch is e h =
    let here : encode_utf8 ch ++ encode_utf8_all (map printable_byte rest) ≡ encode_utf8_all (map printable_byte left) = rw (e, is) refl in
    append_assoc done (encode_utf8 ch) (encode_utf8_all (map printable_byte rest)) ∙ ap (λ (l : List ℕ). done ++ l) here ∙ h

-- all are
pub all_written : (done shown line : List ℕ) (i : ℕ) → length shown ≤ i → shown ≡ take (min 4096 (length line)) line
    → done ++ encode_utf8_all (map printable_byte (drop i shown)) ≡ encode_utf8_all (map printable_byte shown) → done ≡ shown_line line
all_written done shown line i past is h =
    let none : drop i shown ≡ [] = drop_all i shown past in
    let front : shown ≡ take 4096 line = is ∙ take_min 4096 line in
    let whole : done ++ [] ≡ encode_utf8_all (map printable_byte shown) = rw none at h in
    sym (append-nil done) ∙ whole ∙ ap (λ (l : List ℕ). encode_utf8_all (map printable_byte l)) front
