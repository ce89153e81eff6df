-- What a reader of a source is after the bytes that it was fed (this product's own; the source is that of GC33-4010).
use Rattle.std.specs.Prelude.{ℕ, ◌+◌, ◌≡◌, Bool, false, ◌==◌, if◌then◌else◌, Result, Ok, Err, List, [], ◌∷◌, ◌++◌, length}
use Rattle.std.specs.Option.{option_map_or}
use Rattle.std.specs.Str.{byte}
use Rattle.std.specs.Str.Lines.{strip_carriage_return}
use Rattle.cx_source.specs.Lines.{text_of}
use Rattle.cx_source.specs.Statements.{is_continued, is_last}
use Rattle.cx_source.specs.Faults.{source_fault, source_from}
use Rattle.cx_source.specs.declared.source.Source.{Source}
use Rattle.cx_source.specs.declared.source.SourceFault.{SourceFault}
use Rattle.cx_source.specs.declared.source.SourceFault.TheVariants.{NoEnd, Memory}
use Rattle.cx_source.specs.declared.reader.Progress.{Progress}
use Rattle.cx_source.specs.declared.reader.Progress.TheVariants.{Expects, Ended, Faulty}

pub record Reading : Type 0 where
  -- the texts of the lines that are complete, up to END's
  pub texts : List (List ℕ)
  -- what came of the next line
  pub unfinished : List ℕ
  -- whether a line is expected, and if the line before it is continued; or END was met, or a fault
  pub progress : Progress

abbrev pub reading_at_start : Reading
reading_at_start = record { texts = []; unfinished = []; progress = Expects false }

-- After a whole line: its text is kept. A faulty one isn't.
abbrev pub reading_after : Bool → List ℕ → Reading → Reading
reading_after continues line reading =
    let text = text_of line in
    let next = if is_last continues text then Ended else Expects (is_continued continues text) in
    option_map_or (λ fault. record { texts = reading.texts; unfinished = []; progress = Faulty fault })
    (source_fault continues (length reading.texts + 1) line)
    (record { texts = reading.texts ++ text ∷ []; unfinished = []; progress = next })

-- what is next where a line is expected; after END and after a fault nothing changes anything
abbrev pub if_expected : Progress → Reading → (Bool → Reading) → Reading
if_expected (Expects continues) reading next = next continues
if_expected progress reading next = reading

-- after a byte: LF ends a line
unfoldable pub take_byte : Reading → ℕ → Reading
take_byte reading b = if_expected reading.progress reading (λ continues.
    if b == byte "\n" then reading_after continues (strip_carriage_return reading.unfinished) reading
    else record { texts = reading.texts; unfinished = reading.unfinished ++ b ∷ []; progress = reading.progress })

-- After a line that comes at once, without its end: it goes on with what is unfinished. No byte of it is dropped.
unfoldable pub take_line : Reading → List ℕ → Reading
take_line reading line =
    if_expected reading.progress reading (λ continues. reading_after continues (reading.unfinished ++ line) reading)

-- the source, or the fault
abbrev pub source_or_fault : Progress → Reading → Result Source SourceFault
source_or_fault Ended reading = Ok (source_from reading.texts)
source_or_fault (Faulty fault) reading = Err fault
source_or_fault (Expects continues) reading = Err (NoEnd (length reading.texts + 1))

-- the answer where no more comes: the last line needs no LF
unfoldable pub finish : Reading → Result Source SourceFault
finish reading =
    let last = if_expected reading.progress reading (λ continues.
    if length reading.unfinished == 0 then reading else reading_after continues reading.unfinished reading) in
    source_or_fault last.progress last

-- The answer is the one due, unless memory runs out.
abbrev pub ReadsAs : Result Source SourceFault → Result Source SourceFault → Type 0
ReadsAs due (Err Memory) = Unit {0}
ReadsAs due result = due ≡ result

-- What feeding leaves where it answers an error, by what it should leave: as it was where an allocation failed, else
-- the fault, which is kept.
abbrev pub Refuses : SourceFault → Reading → Reading → Reading → Type 0
Refuses Memory old due new = new ≡ old
Refuses fault old due new = (new ≡ due) × (new.progress ≡ Faulty fault)
