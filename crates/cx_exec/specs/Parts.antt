-- Vocabulary of private functions: what is performed, an operand that is there or not, and rows whose code is kept
-- together.
use Rattle.std.specs.Prelude.{◌≡◌, ◌+◌, unwrap_or, ℕ, List, [], ◌∷◌, ◌++◌, Option, Some, None, Result, MatchResult, Bool, true, false, fold, if◌then◌else◌}
use Rattle.std.specs.List.{AllByRecursion, cons_option}
use Rattle.cx_storage.specs.Storage.{Storage, IsSoundStorage}
use Rattle.cx_storage.specs.Word.{word_at}
use Rattle.cx_code.specs.declared.table.Op.{Op}
use Rattle.cx_code.specs.declared.table.Op.TheVariants as op
use Rattle.cx_code.specs.Table.{length_of}
use Rattle.cx_code.specs.Spelling.{instruction}
use Rattle.cx_code.specs.Reading.{fields_at}
use Rattle.cx_exec.specs.Machine.{Machine}
use Rattle.cx_exec.specs.Operands.{extended_at}
use Rattle.cx_exec.specs.Step.{updated_by, performed_of, instruction_to_perform}
use Rattle.cx_exec.specs.Advance.{Passes, Advances}
use Rattle.cx_exec.specs.Passages.{Passage, Passages}
use Rattle.cx_exec.specs.Tallies.{IsTallied, with_passage, with_run}
use Rattle.cx_exec.specs.Watches.{IsWatched, LeavesSound, after_passage}
use Rattle.cx_exec.specs.declared.machine.Halt.{Halt}
use Rattle.cx_exec.specs.declared.machine.Step.{Step}
use Rattle.cx_exec.specs.declared.machine.Step.TheVariants.{AtEntry}
use Rattle.cx_exec.specs.declared.tallied.Tally.{Tally}
use Rattle.cx_exec.specs.declared.machine.Updated.{Updated}
use Rattle.cx_exec.specs.declared.places.Place.{Place}
use Rattle.cx_exec.specs.declared.machine.Interruption.{Interruption}
use Rattle.cx_exec.specs.declared.machine.Interruption.TheVariants as interruption

-- what the program-status word is updated to after an instruction of this many bytes
abbrev pub updated_at : Place → ℕ → Updated
updated_at place bytes = unwrap_or place.given (updated_by place.from bytes)

-- it is what is performed at the next address, for EX its target
abbrev pub IsPerformed : Machine → Op → List ℕ → Type 0
IsPerformed m op prefix =
    instruction_to_perform m ≡ performed_of m (instruction op (fields_at op prefix)) (updated_by m.next (length_of op))

-- an operand is given where its bytes are present; else addressing is the interruption
abbrev pub IsPresentOperand : Option ℕ → Result ℕ Interruption → Type 0
IsPresentOperand operand result =
    MatchResult result (λ x. operand ≡ Some x) (λ cause. (operand ≡ None) × (cause ≡ interruption.Addressing))

-- the rows whose second operand is a halfword in storage
abbrev pub has_half : Op → Bool
has_half op.Lh = true
has_half op.Ch = true
has_half op.Ah = true
has_half op.Sh = true
has_half _ = false

-- the rows that take a word as the second operand, extended by its sign where storage has a halfword, but M and D
abbrev pub takes_second : Op → Bool
takes_second op.L = true
takes_second op.Cl = true
takes_second op.C = true
takes_second op.A = true
takes_second op.S = true
takes_second op = has_half op

abbrev pub second_at : Op → Storage → ℕ → Option ℕ
second_at op s a = if has_half op then extended_at s a else word_at s a

-- L, CL and C
abbrev pub has_word : Op → Bool
has_word op.L = true
has_word op.Cl = true
has_word op.C = true
has_word _ = false

-- A, S, M and D
abbrev pub has_word_result : Op → Bool
has_word_result op.A = true
has_word_result op.S = true
has_word_result op.M = true
has_word_result op.D = true
has_word_result _ = false

-- the other rows of format RX except EX
abbrev pub has_address : Op → Bool
has_address op.Sth = true
has_address op.La = true
has_address op.Stc = true
has_address op.Bal = true
has_address op.Bct = true
has_address op.Bc = true
has_address op.St = true
has_address op.Cvd = true
has_address op.Ic = true
has_address op.Cvb = true
has_address _ = false

-- the tallies after an instruction that is done, with its target, if it has one
abbrev pub with_done : Bool → ℕ → Option ℕ → List Tally → List Tally
with_done goes_away at target tallies = fold (with_run goes_away) tallies (at ∷ cons_option target [])

-- the tallies after a step; those before where the next address is the entry
abbrev pub with_step : List Tally → Passage → Step → List Tally
with_step tallies p AtEntry = tallies
with_step tallies p _ = with_passage tallies p

-- n steps that are done, each of them counted, and the run goes on by its other passages
pub record CountsOn (n : ℕ) (m after : Machine) (old new : List Tally) : Type 0 where
  pub passes : Passes n m after
  pub passages : List Passage
  pub goes_on : (k : ℕ) (more : List Passage) → Passages k after more → Passages (n + k) m (passages ++ more)
  pub is : new ≡ fold with_passage old passages

-- a run that ends, with all of its instructions counted
pub record CountsAll (limit : ℕ) (m : Machine) (end : Halt) (after : Machine) (old new : List Tally) : Type 0 where
  pub run : Advances limit m end after
  pub tallied : IsTallied limit m old new

-- an instruction at an address that leaves a sound storage is noted, and what is held is then of that storage
pub record IsNoted {V : Type 0} (noted : Storage → ℕ → V → V) (is_of : Storage → V → Type 0) (s : Storage) (at : ℕ)
    (old new : V) : Type 0 where
  pub sound : IsSoundStorage s
  pub is : new ≡ noted s at old
  pub of : is_of s new

-- a step from an address is noted, unless that is the entry
abbrev pub NotesStep : {V : Type 0} → (Storage → ℕ → V → V) → (Storage → V → Type 0) → Storage → ℕ → Step → V → V
    → Type 0
NotesStep noted is_of s at AtEntry old new = new ≡ old
NotesStep noted is_of s at _ old new = IsNoted noted is_of s at old new

-- n steps that are done, each of them noted, and the run goes on by its other passages
pub record NotesOn {V : Type 0} (noted : Storage → ℕ → V → V) (n : ℕ) (m after : Machine) (old new : V) : Type 0 where
  pub passes : Passes n m after
  pub passages : List Passage
  pub goes_on : (k : ℕ) (more : List Passage) → Passages k after more → Passages (n + k) m (passages ++ more)
  pub sound : AllByRecursion LeavesSound passages
  pub is : new ≡ fold (after_passage noted) old passages

-- a run that ends, with all of its instructions noted
pub record NotesAll {V : Type 0} (noted : Storage → ℕ → V → V) (limit : ℕ) (m : Machine) (end : Halt) (after : Machine)
    (old new : V) : Type 0 where
  pub run : Advances limit m end after
  pub watched : IsWatched noted limit m old new
