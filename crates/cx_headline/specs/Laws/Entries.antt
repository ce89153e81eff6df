-- What the base registers hold where a program is entered: the addresses of the sections that the translator's USING
-- statements name for them (OS/VS-DOS/VSE-VM/370 Assembler Language, GC33-4010, "USING"; which registers these are is
-- this product's own).
use Rattle.std.specs.Prelude.{◌≡◌, ℕ, Ok, Some, List, [], ◌∷◌, ◌++◌, codes, slice_get}
use Rattle.cx_source.specs.declared.source.Stmt.{Stmt}
use Rattle.cx_asm_operands.specs.Context.{Context, register_in}
use Rattle.cx_translate.specs.Sections.{bases}
use Rattle.cx_region_state.specs.Areas.{entry_registers}
use Rattle.cx_region_state.specs.declared.verdict.NewLevel.{NewLevel}
use Rattle.cx_region.specs.Attach.{fresh_task}

-- A USING statement of a section, as it is written: the register that its second operand is holds the section's
-- address.
pub record IsHeld (c : Context) (regs : List ℕ) (using : Stmt) (section : List ℕ) (at : ℕ) : Type 0 where
  pub operation : using.operation ≡ codes "USING"
  pub text : List ℕ
  pub operand : using.operand ≡ section ++ (codes "," ++ text)
  pub register : ℕ
  pub named : register_in c text ≡ Ok register
  pub holds : slice_get regs register ≡ Some at

-- sections with their addresses, one for each of the statements
unfoldable pub AreHeld : Context → List ℕ → List Stmt → List (List ℕ × ℕ) → Type 0
AreHeld c regs [] [] = Unit {0}
AreHeld c regs (using ∷ rest) (section ∷ others) = IsHeld c regs using section.0 section.1 × AreHeld c regs rest others
AreHeld c regs statements sections = ⊥

-- At a program's entry, the control section's start, so are the control section of any name, DFHEISTG and the EIB.
abbrev pub HoldTheirBases : List ℕ → ℕ → ℕ → ℕ → Type 0
HoldTheirBases regs entry stg eib =
    (c : Context) (name : List ℕ)
    → AreHeld c regs (bases name) ((name, entry) ∷ (codes "DFHEISTG", stg) ∷ (codes "DFHEIBLK", eib) ∷ [])

-- The registers of an entry hold their bases, with which a level begins by LINK and XCTL.
abbrev pub EntriesHoldTheirBases : Type 0
EntriesHoldTheirBases = (entry stg eib : ℕ) → HoldTheirBases (entry_registers entry stg eib) entry stg eib

-- So do the registers of the task that a key attaches.
abbrev pub TasksBeginSo : Type 0
TasksBeginSo = (tran : List ℕ) (number eib : ℕ) (level : NewLevel) →
    let task = fresh_task tran number eib level in HoldTheirBases task.regs task.next task.levels.current.stg task.eib
