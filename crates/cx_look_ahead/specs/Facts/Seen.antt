-- What is noted of an instruction: the bytes are then those of the storage that it leaves, and nothing is noted where
-- they were those before.
use Rattle.std.proofs.Common.{◌≡◌, ℕ, Bool, true, false, List, [], ◌∷◌, Some, refl, sym}
use Rattle.std.proofs.lemmas.Slice.Eq.{bytes_eq-Decides}
use Rattle.std.specs.Prelude.{if◌then◌else◌}
use Rattle.std.specs.Str.{bytes_eq}
use Rattle.cx_storage.specs.Storage.{Storage}
use Rattle.cx_look_ahead.specs.Watching.{shown_in}
use Rattle.cx_look_ahead.specs.Parts.Seen.{AreSeenIn, IsSeenIn, SeenRange, all_noted, noted}

follows : (s : Storage) (at : ℕ) (it : SeenRange) → IsSeenIn s (noted s at it)
follows s at it = by (bytes_eq it.shown (shown_in s it.kept.range)) refl
  where
    by : (same : Bool) → same ≡ bytes_eq it.shown (shown_in s it.kept.range)
        → IsSeenIn s (if same then it else record { kept = it.kept; shown = shown_in s it.kept.range; last = Some at })
    by true is = (bytes_eq-Decides it.shown (shown_in s it.kept.range)).0 (sym is)
    by false is = refl

pub all_follow : (s : Storage) (at : ℕ) (seen : List SeenRange) → AreSeenIn s (all_noted s at seen)
all_follow s at [] = tt
all_follow s at (it ∷ more) = (follows s at it, all_follow s at more)

stays : (s : Storage) (at : ℕ) (it : SeenRange) → IsSeenIn s it → it ≡ noted s at it
stays s at it same = by (bytes_eq it.shown (shown_in s it.kept.range)) ((bytes_eq-Decides it.shown (shown_in s it.kept.range)).1 same)
  where
    by : (alike : Bool) → alike ≡ true → it ≡ (if alike then it else record { kept = it.kept; shown = shown_in s it.kept.range; last = Some at })
    by true is = refl
    by false is = cc

pub all_stay : (s : Storage) (at : ℕ) (seen : List SeenRange) → AreSeenIn s seen → seen ≡ all_noted s at seen
all_stay s at [] all = refl
all_stay s at (it ∷ more) (one, others) = both (stays s at it one) (all_stay s at more others)
  where
    both : {X : Type 0} {x y : X} {xs ys : List X} → x ≡ y → xs ≡ ys → x ∷ xs ≡ y ∷ ys
    both p q = rw (p, q) refl
