-- Lines put on a page one after another.
use Rattle.std.proofs.Common.{◌≡◌, ℕ, List, [], ◌∷◌, ◌++◌, Option, codes, sym}
use Rattle.std.proofs.lemmas.List.Sums.{fold-append}
use Rattle.cx_storage.specs.Storage.{Storage}
use Rattle.cx_base.specs.Pages.{blank_page}
use Rattle.cx_edf_display.specs.declared.seen.Seen.{Seen}
use Rattle.cx_edf.specs.declared.stops.StopPoint.{StopPoint}
use Rattle.cx_edf_display.specs.Texts.{with_page_line, with_page_lines}
use Rattle.cx_edf_display.specs.Displays.{keys, main_page, outcome, stop_status, task_heading, task_lines}

-- lines after others
pub lines_joined : (page : List (List ℕ)) (first rest : List (ℕ × List (List ℕ))) → with_page_lines page (first ++ rest) ≡ with_page_lines (with_page_lines page first) rest
lines_joined page first rest = fold-append (λ page line. with_page_line page line.0 line.1) page first rest

-- the main page, line by line
pub page_made : (storage : Storage) (name : List ℕ) (stop : StopPoint) (task : Option Seen) (status : List ℕ) (blank first second third fourth last : List (List ℕ))
    → status ≡ stop_status stop → blank ≡ blank_page → first ≡ with_page_line blank 1 (task_heading name task) → second ≡ with_page_line first 2 (codes "STATUS " ∷ status ∷ [])
    → third ≡ with_page_lines second (task_lines storage stop task) → fourth ≡ with_page_line third 21 (outcome stop) → last ≡ with_page_line fourth 24 (keys ∷ [])
    → last ≡ main_page storage name stop task
unfolding main_page
page_made storage name stop task status blank first second third fourth last s b h1 h2 h3 h4 h5 =
    let begun : List (List ℕ) = with_page_line (with_page_line blank_page 1 (task_heading name task)) 2 (codes "STATUS " ∷ stop_status stop ∷ []) in
    rw (h5, h4, h3, h2, h1, s, b) (sym (lines_joined begun (task_lines storage stop task) ((21, outcome stop) ∷ (24, keys ∷ []) ∷ [])))
