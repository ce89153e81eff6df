-- What events are answered under EDF (own).
use Rattle.std.specs.Prelude.{ℕ, List, codes}
use Rattle.cx_edf.specs.declared.answers.EdfReply.{EdfReply}
use Rattle.cx_edf.specs.declared.answers.EdfReply.TheVariants as edf
use Rattle.cx_edf.specs.declared.answers.KeyAnswer.{KeyAnswer}
use Rattle.cx_edf.specs.declared.answers.KeyAnswer.TheVariants as of_key
use Rattle.cx_edf.specs.declared.answers.TurnAnswer.{TurnAnswer}
use Rattle.cx_edf.specs.declared.answers.TurnAnswer.TheVariants as of_turn
use Rattle.cx_edf.specs.declared.answers.AlterAnswer.{AlterAnswer}
use Rattle.cx_edf.specs.declared.answers.AlterAnswer.TheVariants as of_alter
use Rattle.cx_edf.specs.declared.answers.Answer.{Answer}
use Rattle.cx_edf.specs.declared.answers.Answer.TheVariants as answer
use Rattle.cx_region.specs.declared.replies.Reply.TheVariants as reply
use Rattle.cx_region.specs.Replies.{alter_reply_name}

abbrev pub edf_reply_name : EdfReply → List ℕ
edf_reply_name edf.Started = codes "Started"
edf_reply_name edf.AlreadyOn = codes "AlreadyOn"
edf_reply_name edf.Closed = codes "Closed"
edf_reply_name edf.NotOn = codes "NotOn"
edf_reply_name edf.NoSuchTerminal = codes "NoSuchTerminal"

-- the answer of a key, and of a turn, as an event's
abbrev pub key_answer : KeyAnswer → Answer
key_answer (of_key.Region r) = answer.Region (reply.Key r)
key_answer of_key.ToEdf = answer.ToEdf

abbrev pub turn_answer : TurnAnswer → Answer
turn_answer (of_turn.Region r) = answer.Region (reply.Turn r)
turn_answer of_turn.Held = answer.Held

-- the answer of an alteration, as an event's
abbrev pub alter_answer : AlterAnswer → Answer
alter_answer (of_alter.Region r) = answer.Region (reply.Alter r)
alter_answer of_alter.NotStopped = answer.NotStopped

-- its name: the region's, or EDF's own
abbrev pub alter_answer_name : AlterAnswer → List ℕ
alter_answer_name (of_alter.Region r) = alter_reply_name r
alter_answer_name of_alter.NotStopped = codes "NotStopped"
