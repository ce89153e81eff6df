-- Base registers and what they hold (GC33-4010, "USING -- Use Base Address Register" and "DROP -- Drop Base Register").
use Rattle.std.specs.Prelude.{ℕ, ℤ, pos, ◌+ℤ◌, Option, Some, None, List, [], ◌∷◌, replicate, slice_set, fold}
use Rattle.cx_asm_operands.specs.declared.bases.Base.{Base}

-- by register, from 0, the place that it holds where it is in use
abbrev pub Bases : Type 0
Bases = List (Option Base)

abbrev pub none_in_use : Bases
none_in_use = replicate 16 None

-- What a USING says: a place, given by its section and its offset there, and the registers that hold it.
pub record UsingStatement : Type 0 where
  pub section : List ℕ
  pub number : ℤ
  pub registers : List ℕ

abbrev pub using_with : List ℕ → ℤ → List ℕ → UsingStatement
using_with section number registers = record { section = section; number = number; registers = registers }

-- The first register holds the place, and each further one 4,096 more; what a register held before is replaced.
abbrev pub after_using : List ℕ → ℤ → List ℕ → Bases → Bases
after_using section number [] bases = bases
after_using section number (register ∷ registers) bases =
    let here : Base = record { section = section; number = number } in
    after_using section (number +ℤ pos 4096) registers (slice_set bases register (Some here))

-- A DROP ends the use of the registers that it names, and of no other, or of every one where it names none.
abbrev pub after_drop : Option (List ℕ) → Bases → Bases
after_drop None bases = none_in_use
after_drop (Some registers) bases = fold (λ left register. slice_set left register None) bases registers
