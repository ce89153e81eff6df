-- A mark stands round the part at its spot, and leaves all else.
use Rattle.std.proofs.Common.{◌≡◌, ℕ, ◌-◌, List, ◌++◌, append_assoc, drop, map, take, refl, sym, ap, ◌∙◌}
use Rattle.std.proofs.lemmas.List.{length-take, take-append-drop}
use Rattle.cx_look_faults.specs.declared.positions.Spot.{Spot}
use Rattle.cx_look_script.specs.Faults.{source_text_at, with_marks}
use Rattle.cx_script_blocks.specs.Shown.{printable_byte}
use Rattle.cx_look_script.specs.Laws.Marks.{FaultsAreMarked, IsMarked}

cut : (k n : ℕ) (line : List ℕ) → line ≡ take k line ++ take n (drop k line) ++ drop n (drop k line)
cut k n line =
    sym (take-append-drop k line) ∙ ap (λ (l : List ℕ). take k line ++ l) (sym (take-append-drop n (drop k line)))
    ∙ sym (append_assoc (take k line) (take n (drop k line)) (drop n (drop k line)))

is_marked : (spot : Spot) (line : List ℕ) → IsMarked spot line (with_marks spot line)
is_marked spot line =
    record {
      before = take (spot.column - 1) line;
      after = drop spot.length (drop (spot.column - 1) line);
      at = length-take (spot.column - 1) line;
      whole = cut (spot.column - 1) spot.length line;
      is = refl;
    }

pub faults_are_marked : FaultsAreMarked
faults_are_marked source mark =
    let line = map printable_byte (source_text_at source.lines mark.spot.line) in
    record { marked = with_marks mark.spot line; written = refl; is = is_marked mark.spot line }
