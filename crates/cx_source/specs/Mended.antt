-- A source as it is read in spite of what is wrong with its lines, so that more is known of it (own).
use Rattle.std.specs.Prelude.{ℕ, ◌+◌, Bool, false, ◌&&◌, not, if◌then◌else◌, Option, List, [], ◌∷◌, slice_get, codes}
use Rattle.std.specs.Option.{option_map_or}
use Rattle.cx_source.specs.Lines.{columns, text_of, trim_blanks}
use Rattle.cx_source.specs.Statements.{is_continued, is_last}
use Rattle.cx_source.specs.Faults.{source_fault, goes_on, source_from}
use Rattle.cx_source.specs.declared.source.Source.{Source}

-- the next line, if there is one, begins anew where it should continue
abbrev pub is_cut_off : Bool → ℕ → Option (List ℕ) → Bool
is_cut_off continues number next =
    option_map_or (λ line. continues && not (goes_on continues (source_fault continues number line))) next false

-- a text, without the mark in column 72 where the next line begins anew
abbrev pub text_kept : Bool → List ℕ → List ℕ
text_kept cut_off text = if cut_off then trim_blanks (columns 1 71 text) else text

-- the texts of the lines up to END's; without END one is put after them
abbrev pub texts_read : Bool → ℕ → List (List ℕ) → List (List ℕ)
texts_read continues number [] = codes "         END" ∷ []
texts_read continues number (line ∷ more) =
    let text = text_of line in let joined = goes_on continues (source_fault continues number line) in
    let next = is_continued joined text in
    if is_last joined text then text ∷ []
    else text_kept (is_cut_off next (number + 1) (slice_get more 0)) text ∷ texts_read next (number + 1) more

-- the source that lines make, whatever is wrong with them
unfoldable pub source_read : List (List ℕ) → Source
source_read all = source_from (texts_read false 1 all)
