-- Texts cut into parts, and what a part is by itself (own; the marks are those of GC33-4010, "Operand Fields and
-- Subfields", and of SC33-0077, "EXEC CICS" command format).
use Rattle.std.specs.Prelude.{ℕ, ◌+◌, Bool, true, false, ◌&&◌, ◌||◌, not, ◌==◌, nat_le, nat_lt, if◌then◌else◌, List, [], ◌∷◌, ◌++◌, codes, drop, filter, slice_get, take, unwrap_or}
use Rattle.std.specs.List.{list_any}
use Rattle.std.specs.Str.{byte}
use Rattle.cx_source.specs.Marks.{outside_apostrophes}
use Rattle.cx_translate.specs.Pieces.{depth_after}
use Rattle.cx_look_faults.specs.declared.spans.Cell.{Cell}
use Rattle.cx_look_faults.specs.declared.spans.Cut.{Cut}
use Rattle.cx_look_faults.specs.declared.spans.Cut.TheVariants.{Words, Operands, Subfields, Terms}
use Rattle.cx_look_faults.specs.declared.spans.Span.{Span}

abbrev pub span : ℕ → ℕ → Span
span start end = record { start = start; end = end }

abbrev pub span_text : Span → List ℕ → List ℕ
span_text part text = drop part.start (take part.end text)

-- a character is one of some
abbrev pub is_one_of : List ℕ → ℕ → Bool
is_one_of some c = list_any (λ one. one == c) some

-- A character separates parts; `depth` parentheses are open before it, and it lies outside apostrophes or not.
abbrev pub separates : Cut → ℕ → Bool → ℕ → Bool
separates Words depth is_outside c = not (depth == 0) || (is_outside && is_one_of (codes " ()") c)
separates Operands depth is_outside c = is_outside && depth == 0 && c == byte ","
separates Subfields depth is_outside c = is_outside && is_one_of (codes ",()") c
separates Terms depth is_outside c = is_outside && is_one_of (codes ",()+-") c

-- the characters of a text, each with whether it separates parts
abbrev pub cells_from : Cut → ℕ → ℕ → List Bool → List ℕ → List Cell
cells_from cut depth at outs [] = []
cells_from cut depth at outs (c ∷ cs) =
    let out = unwrap_or (slice_get outs at) false in
    record { byte = c; separates = separates cut depth out c }
    ∷ cells_from cut (depth_after depth out c) (at + 1) outs cs

abbrev pub cells_of : Cut → List ℕ → List Cell
cells_of cut text = cells_from cut 0 0 (outside_apostrophes text) text

-- the parts between them, and those that aren't empty
abbrev pub spans_from : ℕ → ℕ → List Cell → List Span
spans_from start at [] = span start at ∷ []
spans_from start at (c ∷ cs) =
    if c.separates then span start at ∷ spans_from (at + 1) (at + 1) cs else spans_from start (at + 1) cs

abbrev pub spans_of : Cut → List ℕ → List Span
spans_of cut text = filter (λ part. nat_lt part.start part.end) (spans_from 0 0 (cells_of cut text))

-- a text with 0 in place of each of its parts but some
abbrev pub zeros_from : List Span → Bool → ℕ → List Cell → List ℕ
zeros_from kept is_new at [] = []
zeros_from kept is_new at (c ∷ cs) =
    let stays = c.separates || list_any (λ part. nat_le part.start at && nat_lt at part.end) kept in
    (if stays then c.byte ∷ [] else (if is_new then byte "0" ∷ [] else []))
    ++ zeros_from kept c.separates (at + 1) cs

abbrev pub with_zeros : Cut → List Span → List ℕ → List ℕ
with_zeros cut kept text = zeros_from kept true 0 (cells_of cut text)
