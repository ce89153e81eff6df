-- What DISPLAY writes is the session's.
use Rattle.std.proofs.Common.{Option, sym, ◌∙◌, ap}
use Rattle.std.specs.Prelude.{codes}
use Rattle.std.specs.Option.{option_and_then, option_map}
use Rattle.cx_edf.specs.Sessions.{SessionState, nth_back, shown_of}
use Rattle.cx_script_actions.specs.Effects.{Performs, page_of}
use Rattle.cx_script_actions.specs.Laws.Displays.{DisplayIsTheSessions, PreviousIsTheSessions}
use Rattle.cx_script_actions.specs.Texts.{page_lines}

pub display_is_the_sessions : DisplayIsTheSessions
unfolding Performs
display_is_the_sessions name make one other after later text written same p q =
    p.0
    ∙ ap (λ (o : Option SessionState). page_lines (codes "DISPLAY") name (option_map (λ s. page_of s.0 s.1.page) (option_and_then shown_of o))) same
    ∙ sym q.0

pub previous_is_the_sessions : PreviousIsTheSessions
unfolding Performs
previous_is_the_sessions name back make one other after later text written same p q =
    p.0
    ∙ ap (λ (o : Option SessionState). page_lines (codes "DISPLAY") name (option_map (λ display. display.main) (option_and_then (λ s. nth_back s.displays back) o))) same
    ∙ sym q.0
