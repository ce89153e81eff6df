-- The lines of a transcript (own).
use Rattle.std.specs.Prelude.{ℕ, List, [], ◌∷◌, ◌++◌, codes, Option, Some, None, Result, Ok, Err}
use Rattle.std.specs.Option.{option_to_list}
use Rattle.cx_base.specs.Digits.{digits}
use Rattle.cx_base.specs.Texts.{shown_text, shown_name, written_line}
use Rattle.cx_base.specs.Pages.{page_text}
use Rattle.cx_base.specs.Conditions.{entry_of}
use Rattle.cx_load.specs.declared.program.Loaded.{Loaded}
use Rattle.cx_edf.specs.Answers.{edf_reply_name}
use Rattle.cx_edf.specs.declared.answers.Answer.{Answer}
use Rattle.cx_edf.specs.declared.answers.Answer.TheVariants as answer
use Rattle.cx_edf.specs.declared.answers.EdfEvent.{EdfEvent}
use Rattle.cx_edf.specs.declared.answers.EdfEvent.TheVariants as edf_event
use Rattle.cx_region.specs.declared.replies.DefineFault.{DefineFault}
use Rattle.cx_region.specs.declared.replies.Event.{Event}
use Rattle.cx_region.specs.declared.replies.Event.TheVariants as event
use Rattle.cx_region.specs.declared.replies.Reply.{Reply}
use Rattle.cx_region.specs.declared.replies.Reply.TheVariants as reply
use Rattle.cx_region.specs.Replies.{alter_reply_name, define_fault_name, key_reply_name}
use Rattle.cx_region_state.specs.Replies.{turn_reply_name}
use Rattle.cx_region_state.specs.declared.replies.TurnReply.{TurnReply}
use Rattle.cx_region_state.specs.declared.replies.TurnReply.TheVariants as turn

-- a line of a name and one word
abbrev pub named_line : List ℕ → List ℕ → List ℕ → List ℕ
named_line verb name word = written_line verb (shown_name name ∷ word ∷ [])

-- ---- replies
unfoldable pub refused_text : List ℕ → List ℕ → List ℕ → List ℕ
refused_text verb name fault = written_line verb (shown_name name ∷ codes "REFUSED" ∷ fault ∷ [])

unfoldable pub program_text : List ℕ → Result Loaded DefineFault → List ℕ
program_text name (Ok loaded) =
    let hex = digits 16 6 in
    written_line (codes "PROGRAM") (shown_name name ∷ codes "AT" ∷ hex loaded.at ∷ codes "LENGTH" ∷ hex loaded.len ∷ [])
program_text name (Err fault) = refused_text (codes "PROGRAM") name (define_fault_name fault)

unfoldable pub defined_text : List ℕ → List ℕ → Result (Unit {0}) DefineFault → List ℕ
defined_text verb name (Ok done) = named_line verb name (codes "DEFINED")
defined_text verb name (Err fault) = refused_text verb name (define_fault_name fault)

-- the condition's name, or the code's four bytes, where a turn's reply has one
abbrev pub turn_reply_detail : TurnReply → Option (List ℕ)
turn_reply_detail (turn.Performed condition) = Some (entry_of condition).name
turn_reply_detail (turn.TookLabel condition) = Some (entry_of condition).name
turn_reply_detail (turn.TookExit code) = Some (shown_text code)
turn_reply_detail (turn.Abended code) = Some (shown_text code)
turn_reply_detail _ = None

unfoldable pub turn_text : List ℕ → TurnReply → List ℕ
turn_text name given =
    let detail = option_to_list (turn_reply_detail given) in
    written_line (codes "TURN") (shown_name name ∷ turn_reply_name given ∷ detail)

-- what is written for the reply to an event
unfoldable pub reply_text : Event → Reply → List ℕ
reply_text (event.Program name image) (reply.Program given) = program_text name given
reply_text (event.Transaction tran program) (reply.Transaction given) = defined_text (codes "TRANSACTION") tran given
reply_text (event.Terminal name) (reply.Terminal given) = defined_text (codes "TERMINAL") name given
reply_text (event.Clock time date) reply.Clock = written_line (codes "CLOCK") (codes "SET" ∷ [])
reply_text (event.Key name aid bytes) (reply.Key given) = named_line (codes "KEY") name (key_reply_name given)
reply_text (event.Turn name) (reply.Turn given) = turn_text name given
reply_text (event.Alter name change) (reply.Alter given) = named_line (codes "ALTER") name (alter_reply_name given)
reply_text _ _ = []

-- ---- EDF
-- what is written for an event of the region under EDF: a key may be EDF's, a turn may be held, and an alteration may
-- be of a terminal that isn't in Stopped
unfoldable pub plain_text : Event → Answer → List ℕ
plain_text e (answer.Region given) = reply_text e given
plain_text (event.Key name aid bytes) answer.ToEdf = named_line (codes "KEY") name (codes "ToEdf")
plain_text (event.Turn name) answer.Held = named_line (codes "TURN") name (codes "Held")
plain_text (event.Alter name change) answer.NotStopped = named_line (codes "ALTER") name (codes "NotStopped")
plain_text _ _ = []

-- what is written for the answer to an event under EDF
unfoldable pub answer_text : EdfEvent → Answer → List ℕ
answer_text (edf_event.Plain e) given = plain_text e given
answer_text (edf_event.On name) (answer.Edf given) = named_line (codes "EDF") name (edf_reply_name given)
answer_text (edf_event.Off name) (answer.Edf given) = named_line (codes "EDF") name (edf_reply_name given)
answer_text _ _ = []

-- ---- pages
-- the page of a display, or the screen of a terminal, where it is there
unfoldable pub page_lines : List ℕ → List ℕ → Option (List (List ℕ)) → List ℕ
page_lines verb name None = named_line verb name (codes "NONE")
page_lines verb name (Some page) = written_line verb (shown_name name ∷ []) ++ page_text page
