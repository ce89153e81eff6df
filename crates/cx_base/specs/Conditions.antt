-- Exceptional conditions (Application Programmer's Reference Manual, SC33-0077, "Exceptional conditions").
-- The numbers and abend codes are CICS's customary ones.
use Rattle.std.specs.Prelude.{ℕ, ◌==◌, Option, Some, None, List, [], ◌∷◌, codes, option_and_then, unwrap_or}
use Rattle.std.specs.List.{position}
use Rattle.cx_ebcdic.specs.Names.{padded_name}
use Rattle.cx_base.specs.declared.conditions.Condition.{Condition}
use Rattle.cx_base.specs.declared.conditions.Condition.TheVariants.{Normal, Error, Invreq, Nospace, Lengerr, Itemerr, Pgmiderr, Nostg, Qiderr, Enqbusy}

-- a condition's number, name, and the code of the abend that it leads to, where it leads to one
pub record ConditionRow : Type 0 where
  pub number : ℕ
  pub name : List ℕ
  pub abend : Option (List ℕ)

abbrev pub condition_row : ℕ → List ℕ → Option (List ℕ) → ConditionRow
condition_row number name abend = record { number = number; name = name; abend = abend }

abbrev pub entry_of : Condition → ConditionRow
entry_of Normal = condition_row 0 (codes "NORMAL") None
entry_of Error = condition_row 1 (codes "ERROR") None
entry_of Invreq = condition_row 16 (codes "INVREQ") (Some (codes "AEIP"))
entry_of Nospace = condition_row 18 (codes "NOSPACE") None
entry_of Lengerr = condition_row 22 (codes "LENGERR") (Some (codes "AEIV"))
entry_of Itemerr = condition_row 26 (codes "ITEMERR") (Some (codes "AEIZ"))
entry_of Pgmiderr = condition_row 27 (codes "PGMIDERR") (Some (codes "AEI0"))
entry_of Nostg = condition_row 42 (codes "NOSTG") None
entry_of Qiderr = condition_row 44 (codes "QIDERR") (Some (codes "AEYH"))
entry_of Enqbusy = condition_row 55 (codes "ENQBUSY") None

-- the conditions that a program can handle: all but NORMAL
abbrev pub handled_conditions : List Condition
handled_conditions = Error ∷ Invreq ∷ Nospace ∷ Lengerr ∷ Itemerr ∷ Pgmiderr ∷ Nostg ∷ Qiderr ∷ Enqbusy ∷ []

-- a condition's place among all, from 0, which is NORMAL's
abbrev pub condition_place : Condition → ℕ
condition_place condition =
    unwrap_or (position (λ other. (entry_of other).number == (entry_of condition).number) (Normal ∷ handled_conditions))
    0

-- the abend code as it is in storage
unfoldable pub abend_code_of : Condition → Option (List ℕ)
abend_code_of condition = option_and_then (padded_name 4) (entry_of condition).abend
