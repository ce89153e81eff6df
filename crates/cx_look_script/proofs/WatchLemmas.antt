-- What isn't changed isn't written, and what is written is decided.
use Rattle.std.proofs.Common.{◌≡◌, ℕ, List, [], ◌∷◌, ◌++◌, length, map, refl, sym, subst, ap, ◌∙◌, append-nil}
use Rattle.cx_edf.specs.State.{EdfState}
use Rattle.cx_edf.specs.Steps.{DisplayMaker}
use Rattle.cx_look_ahead.specs.declared.rows.Row.{Row}
use Rattle.cx_look_lines.specs.Words.{marked}
use Rattle.cx_look_ahead.specs.Facts.Unchanged.{no_changes}
use Rattle.cx_look_ahead.specs.Laws.Watching.{ChangesDecide}
use Rattle.cx_look_ahead.specs.Watching.{AreChanges, AreOfRanges, ActionEffect, kept_in, work_of}
use Rattle.cx_look_ahead.specs.declared.watching.Cause.{Cause}
use Rattle.cx_look_ahead.specs.declared.watching.Kept.{Kept}
use Rattle.cx_look_ahead.specs.declared.writers.Work.{Work}
use Rattle.cx_look_script.specs.Looking.{Acts, LookPerforms}
use Rattle.cx_look_script.specs.declared.action.LookAction.{LookAction}
use Rattle.cx_look_script.specs.Laws.Watches.{WatchedTextsDecide}
use Rattle.cx_look_script.specs.State.{LookState}
use Rattle.cx_look_script.specs.Watched.{IsWatchedText, ShowsChanges, cause_of, effect_of}

none_marked : marked [] ≡ []
unfolding marked
none_marked = refl

unchanged : (old new : LookState) (by : Cause) (watched : List ℕ) → IsWatchedText old by new watched → new.edf ≡ old.edf → watched ≡ []
unchanged old new by watched shown same =
    let storage = ap (λ (s : EdfState). s.region.shared.storage) same in
    shown.is ∙ ap marked (no_changes old.watched (effect_of old by new) old.edf.region.shared.storage shown.lines storage shown.are) ∙ none_marked

no_ranges : (old new : LookState) (by : Cause) (ranges : List Row) (watched : List ℕ) (shown : IsWatchedText old by new watched) → old.watched ≡ ranges
    → AreChanges ranges old.edf.region.shared.storage (effect_of old by new) shown.lines
no_ranges old new by ranges watched shown none =
    subst (λ (l : List Row). AreChanges l old.edf.region.shared.storage (effect_of old by new) shown.lines) none shown.are

unwatched : (old new : LookState) (by : Cause) (watched : List ℕ) → IsWatchedText old by new watched → old.watched ≡ [] → watched ≡ []
unfolding AreOfRanges
unwatched old new by watched shown none = shown.is ∙ ap marked (no_ranges old new by [] watched shown none) ∙ none_marked

-- what is written is the action's own
pub alone : (old new : LookState) (by : Cause) (own text watched : List ℕ) → IsWatchedText old by new watched → text ≡ own ++ watched → new.edf ≡ old.edf → text ≡ own
alone old new by own text watched shown is same = is ∙ ap (λ w. own ++ w) (unchanged old new by watched shown same) ∙ append-nil own

pub alone_unwatched : (old new : LookState) (by : Cause) (own text watched : List ℕ) → IsWatchedText old by new watched → text ≡ own ++ watched → old.watched ≡ [] → text ≡ own
alone_unwatched old new by own text watched shown is none = is ∙ ap (λ w. own ++ w) (unwatched old new by watched shown none) ∙ append-nil own

pub watched_texts_decide : ChangesDecide → WatchedTextsDecide
watched_texts_decide law old new by one other p q =
    p.is ∙ ap marked (law (effect_of old by new) old.watched old.edf.region.shared.storage p.lines q.lines p.are q.are) ∙ sym q.is

-- ---- what an action writes with it
none_of : (ranges : List Row) → length ranges ≡ 0 → ranges ≡ []
none_of [] e = refl
none_of (range ∷ ranges) e = cc

pub not_watched : (make : DisplayMaker) (old : LookState) (a : LookAction) (own : List ℕ) (new : LookState) → Acts make old a own new → length old.watched ≡ 0
    → LookPerforms make old a own new
unfolding AreOfRanges
not_watched make old a own new acts none =
    record {
      own = own;
      acts = acts;
      watched = [];
      shown = record {
        lines = [];
        are = subst (λ (l : List Row). AreChanges l old.edf.region.shared.storage (effect_of old (cause_of a) new) []) (sym (none_of old.watched none)) refl;
        is = sym none_marked;
      };
      is = sym (append-nil own);
    }

abbrev pub effect_with : Cause → Work → LookState → ActionEffect
effect_with by work new =
    record { by = by; done = work; sources = new.sources; programs = new.edf.region.shared.programs; storage = new.edf.region.shared.storage }

pub is_watched : (make : DisplayMaker) (old : LookState) (a : LookAction) (own watched text : List ℕ) (new : LookState) (by : Cause) (work : Work) (kept : List Kept)
    → Acts make old a own new → by ≡ cause_of a → work ≡ work_of old.edf.region by → kept ≡ map (kept_in old.edf.region.shared.storage) old.watched
    → ShowsChanges (effect_with by work new) kept watched → text ≡ own ++ watched → LookPerforms make old a text new
is_watched make old a own watched text new by work kept acts named worked were shown is =
    let ranges : List Kept = map (kept_in old.edf.region.shared.storage) old.watched in
    let here = subst (λ (k : List Kept). ShowsChanges (effect_with by work new) k watched) were shown in
    let done = subst (λ (w : Work). ShowsChanges (effect_with by w new) ranges watched) worked here in
    record {
      own = own;
      acts = acts;
      watched = watched;
      shown = subst (λ (b : Cause). ShowsChanges (effect_with b (work_of old.edf.region b) new) ranges watched) named done;
      is = is;
    }
