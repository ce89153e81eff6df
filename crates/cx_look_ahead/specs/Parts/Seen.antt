-- Ranges on the way through a run that is done once more.
use Rattle.std.specs.Prelude.{◌≡◌, ◌<◌, ℕ, Option, Some, None, if◌then◌else◌, List, [], ◌∷◌, ◌++◌, codes, map}
use Rattle.std.specs.List.{AllByRecursion, flat_map}
use Rattle.std.specs.Option.{option_map_or}
use Rattle.std.specs.Str.{bytes_eq}
use Rattle.cx_base.specs.Digits.{hex_digits}
use Rattle.cx_exec.specs.Machine.{Machine}
use Rattle.cx_storage.specs.Storage.{Storage}
use Rattle.cx_look_lines.specs.Words.{Lines}
use Rattle.cx_look_ahead.specs.Watching.{ActionEffect, IsChange, change_line, instruction_word, shown_in}
use Rattle.cx_look_ahead.specs.Writers.{LastWriter}
use Rattle.cx_look_ahead.specs.declared.watching.Kept.{Kept}

-- a range, its bytes as they are shown, and the last instruction that changed one of them
pub record SeenRange : Type 0 where
  pub kept : Kept
  pub shown : List ℕ
  pub last : Option ℕ

-- the bytes that are shown so
abbrev pub AreBytes : List ℕ → List ℕ → Type 0
AreBytes shown bytes = (shown ≡ hex_digits bytes) × AllByRecursion (λ b. b < 256) bytes

abbrev pub seen_in : Storage → Kept → SeenRange
seen_in s kept = record { kept = kept; shown = shown_in s kept.range; last = None }

-- after an instruction that leaves a storage
abbrev pub noted : Storage → ℕ → SeenRange → SeenRange
noted s at seen =
    if bytes_eq seen.shown (shown_in s seen.kept.range) then seen
    else record { kept = seen.kept; shown = shown_in s seen.kept.range; last = Some at }

-- each of them
abbrev pub all_noted : Storage → ℕ → List SeenRange → List SeenRange
all_noted s at seen = map (noted s at) seen

-- the bytes are those in a storage
abbrev pub IsSeenIn : Storage → SeenRange → Type 0
IsSeenIn s seen = seen.shown ≡ shown_in s seen.kept.range

abbrev pub AreSeenIn : Storage → List SeenRange → Type 0
AreSeenIn s seen = AllByRecursion (IsSeenIn s) seen

abbrev pub IsLastSeen : ℕ → Machine → SeenRange → Type 0
IsLastSeen limit m seen = LastWriter limit m seen.kept.range seen.last

-- ---- lines
-- a range, where its bytes aren't as they were kept
abbrev pub if_changed : Storage → Kept → List Kept
if_changed s kept = if bytes_eq kept.bytes (shown_in s kept.range) then [] else kept ∷ []

-- the lines of ranges that one statement changed
unfoldable pub statement_lines : ActionEffect → List ℕ → List Kept → Lines
statement_lines effect statement changed = flat_map (λ kept. change_line effect kept statement) changed

-- the statement of a range's last instruction, or the abend, after a run that leaves a storage
abbrev pub run_word : ActionEffect → Storage → SeenRange → List ℕ
run_word effect left seen =
    if bytes_eq (shown_in left seen.kept.range) (shown_in effect.storage seen.kept.range)
    then option_map_or (instruction_word effect.sources effect.programs) seen.last [] else codes " ABEND"

abbrev pub seen_line : ActionEffect → Storage → SeenRange → Lines
seen_line effect left seen = change_line effect seen.kept (run_word effect left seen)

-- those of ranges that were changed, one after another
unfoldable pub IsOfChanged : ActionEffect → List Kept → Lines → Type 0
IsOfChanged effect [] lines = lines ≡ []
IsOfChanged effect (kept ∷ more) lines =
    (first rest : Lines) × IsChange effect kept first × IsOfChanged effect more rest × (lines ≡ first ++ rest)
