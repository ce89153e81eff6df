-- The events that are left for the region without EDF, and what it replies (own).
use Rattle.std.specs.Prelude.{Bool, true, false, ◌&&◌, is_some, not, List, [], ◌∷◌, ◌++◌, map, if◌then◌else◌}
use Rattle.cx_region.specs.Tables.{terminal_of}
use Rattle.cx_region.specs.declared.changes.AlterReply.TheVariants as alter
use Rattle.cx_region.specs.declared.replies.Event.{Event}
use Rattle.cx_region.specs.declared.replies.Event.TheVariants as event
use Rattle.cx_region.specs.declared.replies.Reply.{Reply}
use Rattle.cx_region.specs.declared.replies.Reply.TheVariants as reply
use Rattle.cx_edf.specs.declared.answers.EdfEvent.{EdfEvent}
use Rattle.cx_edf.specs.declared.answers.EdfEvent.TheVariants as edf_event
use Rattle.cx_edf.specs.declared.answers.Answer.{Answer}
use Rattle.cx_edf.specs.declared.answers.Answer.TheVariants as answer
use Rattle.cx_edf.specs.State.{EdfState, holds, stopped_at}
use Rattle.cx_edf.specs.Steps.{Door, Keeps, Passes, door_of}

-- EDF's own events, which it answers itself: EDF ON and EDF OFF, a key met in Stopped, a turn met in Stopped with a
-- live task, and an alteration met in another mode of a terminal that there is
unfoldable pub is_own : EdfState → EdfEvent → Bool
is_own old (edf_event.Plain (event.Key name aid bytes)) = stopped_at old name
is_own old (edf_event.Plain (event.Turn name)) = holds old name
is_own old (edf_event.Plain (event.Alter name change)) =
    is_some (terminal_of old.region name) && not (stopped_at old name)
is_own old (edf_event.Plain e) = false
is_own old e = true

-- the region's reply in an answer; that to PF12 that ended a task is Altered
abbrev pub reply_in : Answer → Reply
reply_in (answer.Region r) = r
reply_in _ = reply.Alter alter.Altered

-- an alteration that the region refused
abbrev pub is_refused : Event → Reply → Bool
is_refused (event.Alter name change) (reply.Alter alter.Altered) = false
is_refused (event.Alter name change) r = true
is_refused e r = false

-- What is left of an event for the region, with the region's reply: what was passed, except a refused alteration.
abbrev pub left_in : Door → Answer → List (Event × Reply)
left_in (Keeps own sessions) given = []
left_in (Passes event own) given = if is_refused event (reply_in given) then [] else (event, reply_in given) ∷ []

unfoldable pub left_of : EdfState → EdfEvent → Answer → List (Event × Reply)
left_of old e given = left_in (door_of old e) given

-- Events with their answers, from a state on, and the state after each: what is left of them, and what the region
-- replies.
unfoldable pub erasure : EdfState → List EdfEvent → List Answer → List EdfState → List Event
erasure old (e ∷ events) (given ∷ answers) (new ∷ states) =
    map (λ p. p.0) (left_of old e given) ++ erasure new events answers states
erasure old _ _ _ = []

unfoldable pub region_replies : EdfState → List EdfEvent → List Answer → List EdfState → List Reply
region_replies old (e ∷ events) (given ∷ answers) (new ∷ states) =
    map (λ p. p.1) (left_of old e given) ++ region_replies new events answers states
region_replies old _ _ _ = []
