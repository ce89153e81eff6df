-- A terminal that is stopped is shown as stopped.
use Rattle.std.proofs.Common.{◌≡◌, ℕ, true, false, Option, Some, None, List, ◌++◌, codes, get_or, refl, ap, arith}
use Rattle.std.specs.Prelude.{◌↔◌}
use Rattle.std.specs.Option.{option_map_or}
use Rattle.cx_edf.specs.Sessions.{SessionState, is_stopped}
use Rattle.cx_edf.specs.State.{session_at}
use Rattle.cx_edf.specs.declared.modes.Mode.{Mode}
use Rattle.cx_edf.specs.declared.modes.Mode.TheVariants as mode
use Rattle.cx_look_tables.specs.Laws.{IsShownAsStopped, StoppedTerminalsAreShown}
use Rattle.cx_look_tables.specs.Terminals.{edf_word, mode_name, stops_word}

-- by the characters that begin the words
off_is_none : IsShownAsStopped (codes "OFF") → false ≡ true
off_is_none h = let e : 79 ≡ 83 = ap (λ (l : List ℕ). get_or l 0 0) h.begins in absurd (omega (arith, e))

free_is_none : (stops : List ℕ) → IsShownAsStopped (codes "FREE" ++ stops) → false ≡ true
free_is_none stops h = let e : 70 ≡ 83 = ap (λ (l : List ℕ). get_or l 0 0) h.begins in absurd (omega (arith, e))

suppressed_is_none : (stops : List ℕ) → IsShownAsStopped (codes "SUPPRESSED" ++ stops) → false ≡ true
suppressed_is_none stops h = let e : 85 ≡ 84 = ap (λ (l : List ℕ). get_or l 1 0) h.begins in absurd (omega (arith, e))

by_mode : (m : Mode) (stops : List ℕ) → (is_stopped m ≡ true) ↔ IsShownAsStopped (mode_name m ++ stops)
by_mode mode.Free stops = ((λ e. cc), free_is_none stops)
by_mode (mode.Stopped stop) stops = ((λ e. record { stops = stops; begins = refl }), (λ h. refl))
by_mode mode.Suppressed stops = ((λ e. cc), suppressed_is_none stops)

by_session : (session : Option SessionState) → (option_map_or (λ (s : SessionState). is_stopped s.mode) session false ≡ true) ↔ IsShownAsStopped (edf_word session)
unfolding edf_word
by_session None = ((λ e. cc), off_is_none)
by_session (Some session) = by_mode session.mode (stops_word session.stops)

pub stopped_are_shown : StoppedTerminalsAreShown
stopped_are_shown state name = by_session (session_at state name)
