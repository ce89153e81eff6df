-- What isn't changed has no line.
use Rattle.std.proofs.Common.{◌≡◌, ℕ, Bool, true, false, MatchBool, List, [], ◌∷◌, ◌++◌, refl, ap, ◌∙◌}
use Rattle.std.proofs.lemmas.Slice.Eq.{bytes_eq-Decides}
use Rattle.std.specs.Str.{bytes_eq}
use Rattle.cx_storage.specs.Storage.{Storage}
use Rattle.cx_look_lines.specs.Words.{Lines}
use Rattle.cx_look_ahead.specs.declared.rows.Row.{Row}
use Rattle.cx_look_ahead.specs.Watching.{AreChanges, AreOfRange, AreOfRanges, ActionEffect, IsChange, kept_in, shown_in}
use Rattle.cx_look_ahead.specs.declared.watching.Kept.{Kept}

same_line : (effect : ActionEffect) (kept : Kept) (lines : Lines) (same : Bool) → MatchBool same (lines ≡ []) (IsChange effect kept lines) → same ≡ true → lines ≡ []
same_line effect kept lines true are e = are
same_line effect kept lines false are e = cc

pub no_changes : (ranges : List Row) (effect : ActionEffect) (storage : Storage) (lines : Lines) → effect.storage ≡ storage → AreChanges ranges storage effect lines → lines ≡ []
unfolding AreOfRanges AreOfRange
no_changes [] effect storage lines e none = none
no_changes (range ∷ ranges) effect storage lines e (first, rest, one, others, are) =
    let there : List ℕ = shown_in storage range in
    let alike : bytes_eq there (shown_in effect.storage range) ≡ true =
    ap (λ (s : Storage). bytes_eq there (shown_in s range)) e ∙ (bytes_eq-Decides there there).1 refl in
    let here = same_line effect (kept_in storage range) first (bytes_eq there (shown_in effect.storage range)) one alike in
    are ∙ ap (λ (l : Lines). l ++ rest) here ∙ no_changes ranges effect storage rest e others
