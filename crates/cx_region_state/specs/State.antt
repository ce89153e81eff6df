-- What a half-turn of one terminal's task can reach. The manual's words are those of the Application Programmer's
-- Reference Manual (Command Level), SC33-0077; the limits and the layout in storage are this product's own.
use Rattle.std.specs.Prelude.{ℕ, Bool, List, Option, None}
use Rattle.cx_ebcdic.specs.declared.aids.Aid.{Aid}
use Rattle.cx_storage.specs.Storage.{Storage}
use Rattle.cx_load.specs.declared.program.Loaded.{Loaded}
use Rattle.cx_program.specs.Levels.{Levels}
use Rattle.cx_service.specs.Queues.{Queues}
use Rattle.cx_service.specs.Resources.{Resources}
use Rattle.cx_service.specs.Screen.{blank_screen}

-- What all tasks share: storage, where each program is, queues and resources.
pub record SharedState : Type 0 where
  pub storage : Storage
  pub programs : List (List ℕ × Loaded)
  pub queues : Queues
  pub resources : Resources

-- what a terminal's operator sent, with the key that sent it
pub record Input : Type 0 where
  pub aid : Aid
  pub bytes : List ℕ

-- the transaction that the terminal's next key attaches, and the COMMAREA kept for it: no bytes where there is none
pub record NextTransaction : Type 0 where
  pub tran : List ℕ
  pub commarea : List ℕ

-- A terminal without its task: its position among the terminals, counted from 1, by which its task owns areas and
-- resources; its screen, its held input, and its next transaction.
pub record TerminalEntryState : Type 0 where
  pub slot : ℕ
  pub screen : List (List ℕ)
  pub input : Option Input
  pub following : Option NextTransaction

-- a new terminal: a blank screen, and nothing else
abbrev pub fresh_terminal_entry : ℕ → TerminalEntryState
fresh_terminal_entry slot = record { slot = slot; screen = blank_screen; input = None; following = None }

-- A live task: its transaction, its number, the address of its EIB, its program levels, its registers, condition code
-- and next address, and whether a command is due.
pub record TaskState : Type 0 where
  pub tran : List ℕ
  pub number : ℕ
  pub eib : ℕ
  pub levels : Levels
  pub regs : List ℕ
  pub cc : ℕ
  pub next : ℕ
  pub due : Bool

-- What a half-turn reaches: all that tasks share, the terminal, and its task.
pub record TaskContext : Type 0 where
  pub shared : SharedState
  pub terminal_entry : TerminalEntryState
  pub task : TaskState

abbrev pub context : SharedState → TerminalEntryState → TaskState → TaskContext
context shared terminal_entry task = record { shared = shared; terminal_entry = terminal_entry; task = task }

-- the same, except storage
abbrev pub with_storage : TaskContext → Storage → TaskContext
with_storage r storage = record r { shared = record r.shared { storage = storage } }
