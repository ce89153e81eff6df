-- What looks write of what was run (own).
use Rattle.std.specs.Prelude.{ℕ, ◌-◌, ◌==◌, if◌then◌else◌, Option, Some, None, not, List, [], ◌∷◌, ◌++◌, codes, length, map, replicate}
use Rattle.std.specs.Fmt.{decimal}
use Rattle.std.specs.List.{count_by, filter, flat_map}
use Rattle.std.specs.Option.{option_map_or}
use Rattle.std.specs.Str.{byte}
use Rattle.cx_base.specs.Digits.{digits}
use Rattle.cx_base.specs.Texts.{shown_name}
use Rattle.cx_load.specs.declared.program.Loaded.{Loaded}
use Rattle.cx_region.specs.State.{RegionState}
use Rattle.cx_look_lines.specs.Words.{Lines, look_line, none_line, or_none}
use Rattle.cx_look_symbols.specs.Sources.{Sources, source_lines, text_on}
use Rattle.cx_look_cover.specs.Counts.{counted_program, counted_with, goes_both_ways, is_branch, one_way, was_run}
use Rattle.cx_look_cover.specs.Ranges.{ranges_of}
use Rattle.cx_look_cover.specs.declared.counts.Counted.{Counted}
use Rattle.cx_look_cover.specs.declared.ranges.LineRange.{LineRange}
use Rattle.cx_exec.specs.declared.tallied.Tally.{Tally}

-- ---- words
-- a line's number in five digits, as in the listing
abbrev pub line_word : ℕ → List ℕ
line_word line = digits 10 5 line

-- a number in decimal digits, with blanks in front to five places at least; hyphens for zero
unfoldable pub count_word : ℕ → List ℕ
count_word n =
    if n == 0 then codes "-----" else replicate (5 - length (decimal n)) (byte " ") ++ decimal n

-- one line, or the first and the last of several
abbrev pub range_word : LineRange → List ℕ
range_word it =
    if it.first == it.last then line_word it.first else line_word it.first ++ codes "-" ++ line_word it.last

-- ---- a program
-- how many of its statements were run, and how many of its conditional branches went both ways
unfoldable pub program_line : List ℕ → List Counted → Lines
program_line name counted =
    look_line
    (codes "COVERED" ∷ shown_name name ∷ codes "STATEMENTS" ∷ decimal (count_by was_run counted)
    ∷ codes "OF" ∷ decimal (length counted)
    ∷ codes "BRANCHES BOTH WAYS" ∷ decimal (count_by goes_both_ways counted)
    ∷ codes "OF" ∷ decimal (count_by is_branch counted) ∷ [])

-- the lines of statements that were never run
abbrev pub lines_never_run : List Counted → List ℕ
lines_never_run counted = map (λ it. it.line) (filter (λ it. not (was_run it)) counted)

abbrev pub never_line_of : List ℕ → Lines
never_line_of [] = []
never_line_of lines = look_line (codes "NEVER" ∷ map range_word (ranges_of lines))

unfoldable pub never_line : List Counted → Lines
never_line counted = never_line_of (lines_never_run counted)

-- a conditional branch that went one way only, how often, and its text
abbrev pub way_line : List (List ℕ) → ℕ → Tally → Lines
way_line lines line t =
    option_map_or
    (λ way. look_line (codes "BRANCH" ∷ line_word line ∷ way ∷ decimal t.runs ∷ text_on lines line ∷ []))
    (one_way t) []

abbrev pub branch_line : List (List ℕ) → Counted → Lines
branch_line lines it = option_map_or (way_line lines it.line) it.branch []

abbrev pub program_lines : List (List ℕ) → List ℕ → List Counted → Lines
program_lines lines name counted =
    program_line name counted ++ never_line counted ++ flat_map (branch_line lines) counted

-- a statement's line, with how often it was run
abbrev pub count_line : List (List ℕ) → Counted → Lines
count_line lines it = look_line (line_word it.line ∷ count_word it.runs ∷ text_on lines it.line ∷ [])

-- ---- looks
abbrev pub covered_word : List ℕ → List ℕ
covered_word name = codes "COVERED " ++ shown_name name

abbrev pub off_line : Lines
off_line = look_line (codes "COVER" ∷ codes "OFF" ∷ [])

-- a program's line, and what was never run of it
unfoldable pub covered_text : Sources → RegionState → Option (List Tally) → List ℕ → Lines
covered_text sources region None name = off_line
covered_text sources region (Some tallies) name =
    option_map_or (program_lines (source_lines sources name) name) (counted_program sources region tallies name)
    (none_line (covered_word name))

-- a program's statements with their counts
unfoldable pub covered_lines_text : Sources → RegionState → Option (List Tally) → List ℕ → Lines
covered_lines_text sources region None name = off_line
covered_lines_text sources region (Some tallies) name =
    or_none (covered_word name)
    (option_map_or (flat_map (count_line (source_lines sources name)))
    (counted_program sources region tallies name) [])

-- the lines of all programs with a source, in the order of the region's programs
abbrev pub program_line_with : Sources → RegionState → List Tally → List ℕ × Loaded → Lines
program_line_with sources region tallies (name, loaded) =
    option_map_or (program_line name) (counted_with sources region.shared.storage tallies name loaded) []

unfoldable pub covered_all_text : Sources → RegionState → Option (List Tally) → Lines
covered_all_text sources region None = off_line
covered_all_text sources region (Some tallies) =
    or_none (codes "COVERED") (flat_map (program_line_with sources region tallies) region.shared.programs)
