-- What a turn is answered (this product's own).
use Rattle.std.specs.Prelude.{ℕ, Bool, true, false, List, codes}
use Rattle.cx_region_state.specs.declared.replies.TurnReply.{TurnReply}
use Rattle.cx_region_state.specs.declared.replies.TurnReply.TheVariants as turn

-- the task has ended
abbrev pub is_over : TurnReply → Bool
is_over turn.Ended = true
is_over (turn.Abended code) = true
is_over _ = false

-- the names of replies, as a transcript has them
abbrev pub turn_reply_name : TurnReply → List ℕ
turn_reply_name turn.Idle = codes "Idle"
turn_reply_name turn.NoSuchTerminal = codes "NoSuchTerminal"
turn_reply_name turn.AtCommand = codes "AtCommand"
turn_reply_name (turn.Performed condition) = codes "Performed"
turn_reply_name turn.Entered = codes "Entered"
turn_reply_name turn.Returned = codes "Returned"
turn_reply_name turn.Waiting = codes "Waiting"
turn_reply_name (turn.TookLabel condition) = codes "TookLabel"
turn_reply_name (turn.TookExit code) = codes "TookExit"
turn_reply_name (turn.Abended code) = codes "Abended"
turn_reply_name turn.Ended = codes "Ended"
