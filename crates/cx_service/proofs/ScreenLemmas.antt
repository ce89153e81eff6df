-- Lines put over a screen's, one more at a time.
use Rattle.std.proofs.Common.{◌≡◌, ℕ, zero, suc, ◌+◌, ◌≤◌, Bool, true, false, Option, Some, None, List, [], ◌∷◌, ◌++◌, length, refl, sym, ◌∙◌, ap, subst, arith, replicate, length-append}
use Rattle.std.specs.Prelude.{slice_set}
use Rattle.std.specs.List.{AllByRecursion}
use Rattle.std.proofs.lemmas.List.{length-replicate, append-nil, append_assoc, length_push}
use Rattle.cx_service.specs.Lines.{blank, columns, parts_of, AreLinesOf}
use Rattle.cx_service.specs.Parts.LineSteps.{AreLinesLeft}
use Rattle.cx_service.proofs.LineLemmas.{lines_fit, left_lines_exist}
use Rattle.cx_service.specs.Screen.{rows, full_line, with_lines, IsScreen, blank_screen, screen_before_text, ShowsText}

pub with_lines-none : (screen : List (List ℕ)) → with_lines screen [] ≡ screen
unfolding with_lines
with_lines-none [] = refl
with_lines-none (row ∷ rest) = refl

-- one more line
pub with_lines-push : (screen lines : List (List ℕ)) (line : List ℕ) → with_lines screen (lines ++ line ∷ []) ≡ slice_set (with_lines screen lines) (length lines) (full_line line)
unfolding with_lines
with_lines-push [] [] line = refl
with_lines-push [] (l ∷ lines) line = refl
with_lines-push (row ∷ rest) [] line = ap (λ rs. full_line line ∷ rs) (with_lines-none rest)
with_lines-push (row ∷ rest) (l ∷ lines) line = ap (λ rs. full_line l ∷ rs) (with_lines-push rest lines line)

-- lines that the screen has no room for
pub with_lines-past : (screen lines more : List (List ℕ)) → length screen ≤ length lines → with_lines screen (lines ++ more) ≡ with_lines screen lines
unfolding with_lines
with_lines-past [] lines more full = refl
with_lines-past (row ∷ rest) [] more full = absurd (omega arith)
with_lines-past (row ∷ rest) (l ∷ lines) more full = ap (λ rs. full_line l ∷ rs) (with_lines-past rest lines more (omega arith))

-- ---- 24 lines of 80 bytes

pub IsScreen-blank : IsScreen blank_screen
unfolding IsScreen
IsScreen-blank = (refl, all_blank rows)
  where
    all_blank : (n : ℕ) → AllByRecursion (λ line. length line ≡ columns) (replicate n (replicate columns blank))
    all_blank zero = tt
    all_blank (suc n) = (refl, all_blank n)

pub length-filled : (line : List ℕ) → length line ≤ 80 → length (full_line line) ≡ 80
length-filled line short = rw (length-append, length-replicate) (omega arith)

length-with_lines : (screen lines : List (List ℕ)) → length (with_lines screen lines) ≡ length screen
unfolding with_lines
length-with_lines [] lines = refl
length-with_lines (row ∷ rest) [] = refl
length-with_lines (row ∷ rest) (line ∷ lines) = ap suc (length-with_lines rest lines)

columns-with_lines : (screen lines : List (List ℕ)) → AllByRecursion (λ line. length line ≡ columns) screen → AllByRecursion (λ line. length line ≤ 80) lines → AllByRecursion (λ line. length line ≡ columns) (with_lines screen lines)
unfolding with_lines
columns-with_lines [] lines all fit = tt
columns-with_lines (row ∷ rest) [] all fit = all
columns-with_lines (row ∷ rest) (line ∷ lines) all fit = (length-filled line fit.0, columns-with_lines rest lines all.1 fit.1)

pub IsScreen-with_lines : (screen lines : List (List ℕ)) → IsScreen screen → AllByRecursion (λ line. length line ≤ 80) lines → IsScreen (with_lines screen lines)
unfolding IsScreen
IsScreen-with_lines screen lines sound fit = (length-with_lines screen lines ∙ sound.0, columns-with_lines screen lines sound.1 fit)

pub IsScreen-cleared : (screen : List (List ℕ)) (erase : Bool) → IsScreen screen → IsScreen (screen_before_text screen erase)
IsScreen-cleared screen true sound = IsScreen-blank
IsScreen-cleared screen false sound = sound

-- a text is shown on a screen as one
pub IsScreen-shown : (old : List (List ℕ)) (text : List ℕ) (erase : Bool) (new : List (List ℕ)) → IsScreen old → ShowsText old text erase new → IsScreen new
IsScreen-shown old text erase new sound shows =
    subst IsScreen (sym shows.over)
    (IsScreen-with_lines (screen_before_text old erase) shows.lines (IsScreen-cleared old erase sound) (lines_fit (parts_of text) shows.lines shows.are_lines))

-- ---- the loop over the rows
pub record HasShown (initial now : List (List ℕ)) (text : List ℕ) (left : Option (List ℕ)) (count : ℕ) : Type 0 where
  pub lines : List (List ℕ)
  pub counted : length lines ≡ count
  pub over : now ≡ with_lines initial lines
  pub goes_on : (more : List (List ℕ)) → AreLinesLeft left more → AreLinesOf text (lines ++ more)

pub HasShown-none : (initial : List (List ℕ)) (text : List ℕ) → HasShown initial initial text (Some text) 0
HasShown-none initial text = record { lines = []; counted = refl; over = sym (with_lines-none initial); goes_on = λ more h. h }

pub HasShown-more : (initial now : List (List ℕ)) (text current line : List ℕ) (left : Option (List ℕ)) (count : ℕ) → HasShown initial now text (Some current) count → ((more : List (List ℕ)) → AreLinesLeft left more → AreLinesOf current (line ∷ more)) → HasShown initial (slice_set now count (full_line line)) text left (count + 1)
HasShown-more initial now text current line left count shown first = record {
  lines = shown.lines ++ line ∷ [];
  counted = length_push shown.lines line ∙ ap (λ n. n + 1) shown.counted;
  over =
      ap (λ screen. slice_set screen count (full_line line)) shown.over
      ∙ ap (λ n. slice_set (with_lines initial shown.lines) n (full_line line)) (sym shown.counted)
      ∙ sym (with_lines-push initial shown.lines line);
  goes_on = λ more h. subst (AreLinesOf text) (sym (append_assoc shown.lines (line ∷ []) more)) (shown.goes_on (line ∷ more) (first more h));
}

pub ShowsText-ended : (initial now : List (List ℕ)) (text : List ℕ) (count : ℕ) → HasShown initial now text None count → ShowsText initial text false now
ShowsText-ended initial now text count shown = record {
  lines = shown.lines;
  are_lines = subst (AreLinesOf text) (append-nil shown.lines) (shown.goes_on [] refl);
  over = shown.over;
}

pub ShowsText-full : (initial now : List (List ℕ)) (text : List ℕ) (left : Option (List ℕ)) (count : ℕ) → length initial ≤ count → HasShown initial now text left count → ShowsText initial text false now
ShowsText-full initial now text left count full shown =
    let more = left_lines_exist left in
    let all : length initial ≤ length shown.lines = subst (λ n. length initial ≤ n) (sym shown.counted) full in
    record {
      lines = shown.lines ++ more.0;
      are_lines = shown.goes_on more.0 more.1;
      over = shown.over ∙ sym (with_lines-past initial shown.lines more.0 all);
    }
