-- What half-turns leave of a task's program levels, and of what each has asked for (Application Programmer's Reference
-- Manual, SC33-0077, "Program Control", "HANDLE CONDITION", "PUSH HANDLE").
use Rattle.std.specs.Prelude.{◌≡◌, ℕ, zero, suc, ◌<◌, ◌≤◌, true, false, ◌⊎◌, List, [], ◌∷◌, length, drop}
use Rattle.cx_program.specs.declared.level.Level.{Level}
use Rattle.cx_program.specs.Handles.{Handles, no_handles}
use Rattle.cx_program.specs.Levels.{Levels}
use Rattle.cx_region_state.specs.declared.replies.TurnReply.{TurnReply}
use Rattle.cx_region_state.specs.declared.replies.TurnReply.TheVariants as turn
use Rattle.cx_region_state.specs.declared.verdict.Request.{Request}
use Rattle.cx_region_state.specs.declared.verdict.Request.TheVariants as request
use Rattle.cx_region_state.specs.Replies.{is_over}
use Rattle.cx_region_state.specs.Areas.{entry_registers}
use Rattle.cx_region_state.specs.State.{TaskContext, TaskState}
use Rattle.cx_region_task.specs.Abends.{with_exit_off}
use Rattle.cx_region_task.specs.Changes.{after_request}
use Rattle.cx_region_task.specs.Turn.{HalfTurn}

-- ---- one half-turn
-- A level begins, which has asked for nothing: under the current one, which stays as it was, or in its place. Its
-- program is at its entry, with the registers of an entry and code 0.
pub record HasBegun (before after : TaskState) : Type 0 where
  pub handles : after.levels.current.handles ≡ no_handles
  pub callers : (after.levels.callers ≡ before.levels.current ∷ before.levels.callers)
      ⊎ (after.levels.callers ≡ before.levels.callers)
  pub regs : after.regs ≡ entry_registers after.next after.levels.current.stg after.eib
  pub cc : after.cc ≡ 0
  pub due : after.due ≡ false

-- a caller is the current level again, as it was, with the registers and the code that it kept
pub record IsBack (caller : Level) (callers : List Level) (after : TaskState) : Type 0 where
  pub levels : after.levels ≡ record { callers = callers; current = caller }
  pub regs : after.regs ≡ caller.regs
  pub cc : after.cc ≡ caller.cc

-- `count` levels have ended, the current one first; the next is the current one, with its exit off, and those above it
-- are as they were.
pub record HaveEnded (before after : Levels) : Type 0 where
  pub count : ℕ
  pub level : Level
  pub left : drop count (before.current ∷ before.callers) ≡ level ∷ after.callers
  pub current : after.current ≡ with_exit_off level

-- what a half-turn leaves of the levels, by its reply: those above the current one, and which is the current one
unfoldable pub LeavesCallers : TurnReply → TaskState → TaskState → Type 0
LeavesCallers turn.Entered before after = HasBegun before after
LeavesCallers turn.Returned before after =
    (caller : Level) (callers : List Level) → before.levels.callers ≡ caller ∷ callers → IsBack caller callers after
LeavesCallers (turn.TookExit code) before after = HaveEnded before.levels after.levels
LeavesCallers _ before after = after.levels.callers ≡ before.levels.callers

-- a half-turn leaves each level above the current one, except a caller's exit that it takes
abbrev pub HalfTurnsLeaveCallers : Type 0
HalfTurnsLeaveCallers =
    (before after : TaskContext) (reply : TurnReply) → HalfTurn before reply after
    → LeavesCallers reply before.task after.task

-- Returned is answered only where a level has linked to the current one.
abbrev pub ReturnsHaveCallers : Type 0
ReturnsHaveCallers =
    (before after : TaskContext) → HalfTurn before turn.Returned after → 0 < length before.task.levels.callers

-- the current level keeps the registers and the code that its program has at a command
pub record Keeps (task : TaskState) : Type 0 where
  pub regs : task.levels.current.regs ≡ task.regs
  pub cc : task.levels.current.cc ≡ task.cc

-- where a half-turn comes to a command, the current level keeps what its program has
abbrev pub CommandsAreKept : Type 0
CommandsAreKept =
    (before after : TaskContext) → before.task.due ≡ false → HalfTurn before turn.AtCommand after → Keeps after.task

-- In every state that half-turns lead to, where a command is due, the current level keeps what its program has.
abbrev pub DueIsKept : Type 0
DueIsKept =
    (before after : TaskContext) (reply : TurnReply) → (before.task.due ≡ true → Keeps before.task)
    → HalfTurn before reply after
    → is_over reply ≡ false → after.task.due ≡ true → Keeps after.task

-- ---- LINK, and the RETURN from it
-- a half-turn, with what was reached before and after it
pub record Turned : Type 0 where
  pub before : TaskContext
  pub reply : TurnReply
  pub after : TaskContext

-- the levels above the current one are the same; an operator's alteration leaves them so
abbrev pub HasSameCallers : TaskState → TaskState → Type 0
HasSameCallers before after = after.levels.callers ≡ before.levels.callers

-- Half-turns of a task, one after another, after each of which it has at least `depth` callers. Between them what all
-- tasks share, the terminal, and all of the task but the levels above the current one may change.
unfoldable pub RunsBelow : ℕ → TaskState → List Turned → TaskState → Type 0
RunsBelow depth from [] to = HasSameCallers from to
RunsBelow depth from (turned ∷ rest) to =
    HasSameCallers from turned.before.task × HalfTurn turned.before turned.reply turned.after
    × (depth ≤ length turned.after.task.levels.callers) × RunsBelow depth turned.after.task rest to

-- A LINK: a level has begun under the linking one.
pub record HasLinked (linking entered : TaskContext) : Type 0 where
  pub enters : HalfTurn linking turn.Entered entered
  pub under : length entered.task.levels.callers ≡ suc (length linking.task.levels.callers)

-- The RETURN from it: the half-turns between have left the linking level below, and it is the nearest caller.
pub record ReturnsTo (linking entered returning returned : TaskContext) : Type 0 where
  pub turns : List Turned
  pub runs : RunsBelow (suc (length linking.task.levels.callers)) entered.task turns returning.task
  pub nearest : length returning.task.levels.callers ≡ suc (length linking.task.levels.callers)
  pub returns : HalfTurn returning turn.Returned returned

-- The levels are those of the LINK: the linking level with its handles and its exit, and those above it; and the
-- program has the registers and the code that it had at its LINK.
abbrev pub LinksAreReturned : Type 0
LinksAreReturned =
    (linking entered returning returned : TaskContext) → HasLinked linking entered
    → ReturnsTo linking entered returning returned
    → IsBack linking.task.levels.current linking.task.levels.callers returned.task

-- ---- PUSH HANDLE and POP HANDLE
-- the handles after requests, one after another
unfoldable pub handled_all : List Request → Handles → Handles
handled_all [] handles = handles
handled_all (request ∷ rest) handles = handled_all rest (after_request request handles)

-- Each PUSH of these requests is taken back by a POP after it, and so are as many PUSHes in front of them as the number
-- says: no POP takes back any other.
unfoldable pub IsBalanced : ℕ → List Request → Type 0
IsBalanced pushed [] = pushed ≡ 0
IsBalanced pushed (request.Push ∷ rest) = IsBalanced (suc pushed) rest
IsBalanced zero (request.Pop ∷ rest) = ⊥
IsBalanced (suc pushed) (request.Pop ∷ rest) = IsBalanced pushed rest
IsBalanced pushed (_ ∷ rest) = IsBalanced pushed rest

-- PUSH, whatever is asked for, other PUSHes with their POPs among it, and POP: the handles are as they were
abbrev pub PopsRestore : Type 0
PopsRestore = (handles : Handles) (between : List Request) → IsBalanced 0 between
    → after_request request.Pop (handled_all between (after_request request.Push handles)) ≡ handles
