-- The operations that a statement may have (GC33-4010, "Machine Instructions", "Extended Mnemonic Codes" and "Assembler
-- Instructions"; DFHREGS is this product's own).
use Rattle.std.specs.Prelude.{ℕ, ◌+◌, Bool, not, ◌==◌, if◌then◌else◌, bit_and, List, [], ◌∷◌, ◌++◌, codes, map, Option, Some, None}
use Rattle.std.specs.Map.{lookup}
use Rattle.std.specs.Str.{bytes_eq}
use Rattle.cx_code.specs.Table.{ops, mnemonic_of as machine_name}
use Rattle.cx_code.specs.declared.table.Op.{Op}
use Rattle.cx_code.specs.declared.table.Op.TheVariants.{Bc, Bcr}
use Rattle.cx_asm_operations.specs.declared.operations.Directive.{Directive}
use Rattle.cx_asm_operations.specs.declared.operations.Directive.TheVariants as is
use Rattle.cx_asm_operations.specs.declared.operations.Mask.{Mask}
use Rattle.cx_asm_operations.specs.declared.operations.Operation.{Operation}
use Rattle.cx_asm_operations.specs.declared.operations.Operation.TheVariants as kinds

-- A mask's bits are 8 for condition code 0, 4 for 1, 2 for 2, 1 for 3.
abbrev pub mask : ℕ → Mask
mask n =
    let has : ℕ → Bool = λ bit. not (bit_and n bit == 0) in
    record { on_0 = has 8; on_1 = has 4; on_2 = has 2; on_3 = has 1 }

abbrev pub number : Mask → ℕ
number m = (if m.on_0 then 8 else 0) + (if m.on_1 then 4 else 0) + (if m.on_2 then 2 else 0) + (if m.on_3 then 1 else 0)

-- branches to a storage operand that have a name of their own: mnemonic and mask
unfoldable pub branches : List (List ℕ × ℕ)
branches =
    (codes "B", 15) ∷ (codes "NOP", 0) ∷ (codes "BH", 2) ∷ (codes "BP", 2) ∷ (codes "BL", 4) ∷ (codes "BM", 4)
    ∷ (codes "BE", 8) ∷ (codes "BZ", 8) ∷ (codes "BNH", 13) ∷ (codes "BNP", 13) ∷ (codes "BNL", 11) ∷ (codes "BNM", 11)
    ∷ (codes "BNE", 7) ∷ (codes "BNZ", 7) ∷ (codes "BO", 1) ∷ (codes "BNO", 14) ∷ []

-- branches to the address in a register
unfoldable pub register_branches : List (List ℕ × ℕ)
register_branches = (codes "BR", 15) ∷ (codes "NOPR", 0) ∷ []

-- what makes no instruction
unfoldable pub directives : List (List ℕ × Directive)
directives =
    (codes "CSECT", is.Csect) ∷ (codes "DSECT", is.Dsect) ∷ (codes "START", is.Start) ∷ (codes "USING", is.Using)
    ∷ (codes "DROP", is.Drop) ∷ (codes "EQU", is.Equ) ∷ (codes "DS", is.Ds) ∷ (codes "DC", is.Dc)
    ∷ (codes "LTORG", is.Ltorg) ∷ (codes "END", is.End) ∷ (codes "TITLE", is.Title) ∷ (codes "PRINT", is.Print)
    ∷ (codes "EJECT", is.Eject) ∷ (codes "SPACE", is.Space) ∷ (codes "DFHREGS", is.Dfhregs) ∷ (codes "COPY", is.Copy)
    ∷ []

-- every operation, with its name
unfoldable pub operations : List (List ℕ × Operation)
operations =
    map (λ op. (machine_name op, kinds.Machine op)) ops ++ map (λ b. (b.0, kinds.Branch (mask b.1))) branches
    ++ map (λ b. (b.0, kinds.RegisterBranch (mask b.1))) register_branches
    ++ map (λ d. (d.0, kinds.Directive d.1)) directives

-- the operation that has a name
unfoldable pub operation_named : List ℕ → Option Operation
operation_named name = lookup (bytes_eq name) operations

-- the machine instruction that an operation makes, if it makes one: the branches make BC and BCR
abbrev pub base_row : Operation → Option Op
base_row (kinds.Machine op) = Some op
base_row (kinds.Branch m) = Some Bc
base_row (kinds.RegisterBranch m) = Some Bcr
base_row (kinds.Directive d) = None
