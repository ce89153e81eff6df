-- The table of sessions after a call.
use Rattle.std.proofs.Common.{◌≡◌, ℕ, true, false, List, Option, Some, None, refl, sym, ap, ◌∙◌}
use Rattle.std.specs.Map.{set_value}
use Rattle.std.specs.Option.{option_map_or}
use Rattle.std.proofs.lemmas.Bool.{true≢false}
use Rattle.cx_ebcdic.specs.declared.aids.Aid.TheVariants as aid
use Rattle.cx_base.specs.Facts.Tables.{insert_entry_present}
use Rattle.cx_region.specs.State.{RegionState}
use Rattle.cx_ebcdic.specs.Names.{is_name}
use Rattle.cx_region.specs.declared.changes.AlterReply.{AlterReply}
use Rattle.cx_region.specs.declared.changes.AlterReply.TheVariants as alter
use Rattle.cx_region.specs.declared.changes.Change.{Change}
use Rattle.cx_region.specs.declared.replies.Event.TheVariants as event
use Rattle.cx_region.specs.declared.replies.Reply.TheVariants as reply
use Rattle.cx_edf.specs.Sessions.{SessionState, Sessions, after_key, is_stopped, session_in, with_session}
use Rattle.cx_edf.specs.Steps.{DisplayMaker, with_session_changed, sessions_after}

-- a session set under the name of one is that session put there
pub put_present : (sessions : Sessions) (name : List ℕ) (old new : SessionState) → session_in sessions name ≡ Some old
    → set_value (is_name name) sessions new ≡ with_session sessions name (Some new)
put_present sessions name old new there = sym (insert_entry_present is_name sessions name new old there)

-- a session changed, where it is there
pub changed_there : (sessions : Sessions) (name : List ℕ) (to : SessionState → Option SessionState) (old : SessionState) → session_in sessions name ≡ Some old
    → with_session sessions name (to old) ≡ with_session_changed sessions name to
changed_there sessions name to old there = sym (ap (λ o. option_map_or (λ s. with_session sessions name (to s)) o sessions) there)

-- and the session put in place of it
pub changed_in_place : (sessions : Sessions) (name : List ℕ) (to : SessionState → Option SessionState) (old new : SessionState) → session_in sessions name ≡ Some old → to old ≡ Some new
    → set_value (is_name name) sessions new ≡ with_session_changed sessions name to
changed_in_place sessions name to old new there done =
    put_present sessions name old new there ∙ ap (with_session sessions name) (sym done) ∙ changed_there sessions name to old there

-- PF3 ends a session that is there
pub ended_there : (sessions : Sessions) (name bytes : List ℕ) → option_map_or (λ session. is_stopped session.mode) (session_in sessions name) false ≡ true
    → with_session sessions name None ≡ with_session_changed sessions name (λ session. after_key session aid.Pf3 bytes)
unfolding after_key
ended_there sessions name bytes stopped = go (session_in sessions name) stopped
  where
    go : (o : Option SessionState) → option_map_or (λ session. is_stopped session.mode) o false ≡ true
        → with_session sessions name None ≡ option_map_or (λ session. with_session sessions name None) o sessions
    go None never = absurd (true≢false (sym never))
    go (Some s) is = refl

-- nothing is done at a session where the alteration was refused
pub refused_leaves : (make : DisplayMaker) (sessions : Sessions) (name : List ℕ) (change : Change) (given : AlterReply) (region : RegionState) → (given ≡ alter.Altered → ⊥)
    → sessions ≡ sessions_after sessions (event.Alter name change) (reply.Alter given) (make region)
refused_leaves make sessions name change alter.Altered region refused = absurd (refused refl)
refused_leaves make sessions name change _ region refused = refl
