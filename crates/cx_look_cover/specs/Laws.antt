-- What follows from the definitions: the passages of a run are those of its visits; targets are those of EX, and
-- conditional branches those of the table; a tally counts passages, of one run and of several; ranges name exactly their
-- lines.
use Rattle.std.specs.Prelude.{◌≡◌, ◌≢◌, ◌↔◌, ◌⊎◌, Bool, true, ◌&&◌, if◌then◌else◌, max, nat_lt, not, slice_index, ℕ, zero, suc, ◌+◌, ◌-◌, ◌<◌, ◌≤◌, ◌^◌, ◌==◌, ⊤, Some, List, [], ◌∷◌, ◌++◌, fold, length, map, slice_get}
use Rattle.std.specs.List.{count_by, filter, flat_map}
use Rattle.cx_code.specs.Reading.{reading}
use Rattle.cx_code.specs.Spelling.{Instruction, instruction}
use Rattle.cx_code.specs.declared.instruction.Fields.TheVariants.{Rr, Rx}
use Rattle.cx_code.specs.declared.table.Op.{Op}
use Rattle.cx_code.specs.declared.table.Op.TheVariants.{Bc, Bcr, Bct, Bctr, Ex}
use Rattle.cx_exec.specs.Fetch.{code_bytes}
use Rattle.cx_exec.specs.Machine.{Machine, effective}
use Rattle.cx_look_turn.specs.Traces.{Visits, visit}
use Rattle.cx_look_turn.specs.declared.traces.Visit.{Visit}
use Rattle.cx_look_cover.specs.Counts.{is_conditional, is_of_some_codes}
use Rattle.cx_exec.specs.Passages.{Passage, Passages, places_run, target_of, went_away}
use Rattle.cx_look_cover.specs.Ranges.{ranges_of}
use Rattle.cx_exec.specs.Tallies.{IsTallied, capped, tally_at, with_passage}
use Rattle.cx_load.specs.declared.program.Loaded.{Loaded}
use Rattle.cx_look_cover.specs.Tallies.{programs_end, reaching}
use Rattle.cx_look_cover.specs.declared.ranges.LineRange.{LineRange}
use Rattle.cx_exec.specs.declared.tallied.Tally.{Tally}

-- each count is one of visits
abbrev pub PassagesAreVisits : Type 0
PassagesAreVisits = (limit : ℕ) (m : Machine) (passages : List Passage) (visits : List Visit)
    → Passages limit m passages → Visits limit m visits → map (λ p. visit p.before) passages ≡ visits

-- ---- targets
-- the next instruction reads as an EX, and this is the address of its target (GA22-7000, "Execute")
pub record LeadsTo (m : Machine) (address : ℕ) : Type 0 where
  pub code : List ℕ
  pub are : code_bytes m.storage m.next ≡ Some code
  pub r1 : ℕ
  pub x2 : ℕ
  pub b2 : ℕ
  pub d2 : ℕ
  pub reads : reading code ≡ Some (instruction Ex (Rx r1 x2 b2 d2))
  pub is : address ≡ effective m.regs x2 b2 d2

-- a target is counted where there is one, and there alone
abbrev pub TargetsAreOfExecutes : Type 0
TargetsAreOfExecutes = (m : Machine) (address : ℕ) → (target_of m ≡ Some address) ↔ LeadsTo m address

-- ---- conditional branches (GA22-7000, "Branch on Condition", "Branch on Count")
-- what bytes are looked at by
abbrev pub is_looked_at : List ℕ → Bool
is_looked_at code = is_conditional (slice_index code 0) (slice_index code 1)

abbrev pub IsBranchOp : Op → Type 0
IsBranchOp op = (op ≡ Bc) ⊎ ((op ≡ Bcr) ⊎ ((op ≡ Bct) ⊎ (op ≡ Bctr)))

-- What reads as BC, BCR, BCT or BCTR is a conditional branch by its mask and by its second register, and nothing else
-- that reads as an instruction is one.
pub record IsByTable (code : List ℕ) : Type 0 where
  pub bc : (m1 x2 b2 d2 : ℕ) → reading code ≡ Some (instruction Bc (Rx m1 x2 b2 d2))
      → is_looked_at code ≡ is_of_some_codes m1
  pub bcr : (m1 r2 : ℕ) → reading code ≡ Some (instruction Bcr (Rr m1 r2))
      → is_looked_at code ≡ (is_of_some_codes m1 && not (r2 == 0))
  pub bct : (r1 x2 b2 d2 : ℕ) → reading code ≡ Some (instruction Bct (Rx r1 x2 b2 d2)) → is_looked_at code ≡ true
  pub bctr : (r1 r2 : ℕ) → reading code ≡ Some (instruction Bctr (Rr r1 r2)) → is_looked_at code ≡ not (r2 == 0)
  pub others : (i : Instruction) → reading code ≡ Some i → is_looked_at code ≡ true → IsBranchOp i.op

abbrev pub BranchesAreOfTable : Type 0
BranchesAreOfTable = (code : List ℕ) → IsByTable code

-- ---- what a tally counts
-- how often an address is among places
abbrev pub times_in : ℕ → List ℕ → ℕ
times_in address places = count_by (λ place. place == address) places

-- and among those where passages run an instruction
abbrev pub times_at : ℕ → List Passage → ℕ
times_at address passages = times_in address (flat_map places_run passages)

-- Of each address the runs are those before and one for each time that a passage runs the instruction there; and
-- likewise of the passages that go elsewhere.
pub record CountsThem (passages : List Passage) (old new : List Tally) (address : ℕ) : Type 0 where
  pub runs : (tally_at new address).runs ≡ capped ((tally_at old address).runs + times_at address passages)
  pub away :
      (tally_at new address).away
      ≡ capped ((tally_at old address).away + times_at address (filter went_away passages))

-- counts as they are kept
pub record IsInRange (tallies : List Tally) (address : ℕ) : Type 0 where
  pub runs : (tally_at tallies address).runs < 2 ^ 64
  pub away : (tally_at tallies address).away < 2 ^ 64

-- of each address that the tallies reach
abbrev pub TalliesCount : Type 0
TalliesCount = (limit : ℕ) (m : Machine) (old new : List Tally) (passages : List Passage) (address : ℕ)
    → Passages limit m passages → IsTallied limit m old new → IsInRange old address → address < length old
    → CountsThem passages old new address

-- and that is each of a program, where they reach the end of the programs
abbrev pub ProgramsAreReached : Type 0
ProgramsAreReached =
    (tallies : List Tally) (programs : List (List ℕ × Loaded)) (k : ℕ) (name : List ℕ) (loaded : Loaded)
    → slice_get programs k ≡ Some (name, loaded)
    → loaded.at + loaded.len ≤ length (reaching tallies (programs_end programs))

-- ---- several runs
-- a run that is counted: the end of the programs then, and its passages
pub record CountedRun : Type 0 where
  pub end : ℕ
  pub passages : List Passage

-- runs that are counted one after another, each in tallies that reach so far
abbrev pub AreCounted : List CountedRun → List Tally → List Tally → Type 0
AreCounted [] old new = new ≡ old
AreCounted (run ∷ runs) old new = AreCounted runs (fold with_passage (reaching old run.end) run.passages) new

-- The passages that are counted at an address, where tallies reach so far before: those of each run from the first on
-- at which they reach it.
abbrev pub counted_at : ℕ → ℕ → List CountedRun → List Passage
counted_at reach address [] = []
counted_at reach address (run ∷ runs) =
    let reached = max reach run.end in
    (if nat_lt address reached then run.passages else []) ++ counted_at reached address runs

-- of each address the sum over all of these passages
abbrev pub RunsAddUp : Type 0
RunsAddUp = (runs : List CountedRun) (old new : List Tally) (address : ℕ) → AreCounted runs old new
    → IsInRange old address → CountsThem (counted_at (length old) address runs) old new address

-- ---- ranges
-- the numbers of a range
abbrev pub numbers_from : ℕ → ℕ → List ℕ
numbers_from first zero = []
numbers_from first (suc n) = first ∷ numbers_from (suc first) n

abbrev pub numbers_in : LineRange → List ℕ
numbers_in it = numbers_from it.first (suc it.last - it.first)

-- no range goes on where the one in front of it ends
abbrev pub AreApartAfter : ℕ → List LineRange → Type 0
AreApartAfter last [] = ⊤
AreApartAfter last (next ∷ ranges) = (next.first ≢ last + 1) × AreApartAfter next.last ranges

abbrev pub AreApart : List LineRange → Type 0
AreApart [] = ⊤
AreApart (one ∷ ranges) = AreApartAfter one.last ranges

-- Ranges have the numbers that they are made of, in their order, and there are no fewer of them that have.
pub record IsOfNumbers (lines : List ℕ) : Type 0 where
  pub numbers : flat_map numbers_in (ranges_of lines) ≡ lines
  pub apart : AreApart (ranges_of lines)

abbrev pub RangesName : Type 0
RangesName = (lines : List ℕ) → IsOfNumbers lines
