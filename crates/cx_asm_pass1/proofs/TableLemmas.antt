-- A line's fault in a table of lines.
use Rattle.std.proofs.Common.{◌≡◌, ℕ, Bool, true, false, cond, Option, Some, List, [], ◌∷◌, map, refl, ap}
use Rattle.std.specs.Prelude.{nat_eq}
use Rattle.std.specs.Map.{lookup}
use Rattle.std.specs.Option.{option_map_or}
use Rattle.indexmap.specs.IndexMap.{insert_entry}
use Rattle.cx_asm_expressions.specs.Faults.{lower_of}
use Rattle.cx_asm_expressions.specs.declared.faults.FaultKind.{FaultKind}
use Rattle.cx_asm_pass1.specs.AllFaults.{with_fault}
use Rattle.cx_asm_pass1.specs.PassState.{line_fault}
use Rattle.cx_asm_pass1.specs.Parts.Faulty.{lowest_with}
use Rattle.cx_asm_pass1.specs.declared.place.LineFault.{LineFault}

abbrev pub entry_fault : ℕ × FaultKind → LineFault
entry_fault entry = line_fault entry.0 entry.1

abbrev Table : Type 0
Table = List (ℕ × FaultKind)

abbrev lowest_of : FaultKind → Option FaultKind → FaultKind
lowest_of kind first = option_map_or (λ one. lower_of one kind) first kind

-- at the first entry, which is the line's or a different one's
put_one : (is : Bool) (line : ℕ) (kind : FaultKind) (e : ℕ × FaultKind) (es : Table) (later : Option FaultKind) (left : List LineFault)
    → map entry_fault (insert_entry nat_eq es line (lowest_of kind later)) ≡ left
    → map entry_fault (cond is ((e.0, lowest_of kind (cond is (Some e.1) later)) ∷ es) (e ∷ insert_entry nat_eq es line (lowest_of kind (cond is (Some e.1) later))))
    ≡ cond is (line_fault e.0 (lower_of e.1 kind) ∷ map entry_fault es) (entry_fault e ∷ left)
put_one true line kind e es later left h = refl
put_one false line kind e es later left h = ap (λ (l : List LineFault). entry_fault e ∷ l) h

pub fault_put : (line : ℕ) (kind : FaultKind) (entries : Table)
    → map (λ (entry : ℕ × FaultKind). line_fault entry.0 entry.1) (insert_entry nat_eq entries line (lowest_with line kind entries)) ≡ with_fault line (Some kind) (map (λ (entry : ℕ × FaultKind). line_fault entry.0 entry.1) entries)
fault_put line kind [] = refl
fault_put line kind (e ∷ es) =
    put_one (nat_eq line e.0) line kind e es (lookup (nat_eq line) es) (with_fault line (Some kind) (map entry_fault es)) (fault_put line kind es)

-- a line's fault put into the table
pub fault_added : (line : ℕ) (kind : FaultKind) (fault : Option FaultKind) (old : List LineFault) (entries new : Table) (lowest : FaultKind) → fault ≡ Some kind
    → old ≡ map (λ (entry : ℕ × FaultKind). line_fault entry.0 entry.1) entries → lowest ≡ lowest_with line kind entries → new ≡ insert_entry nat_eq entries line lowest
    → map (λ (entry : ℕ × FaultKind). line_fault entry.0 entry.1) new ≡ with_fault line fault old
fault_added line kind fault old entries new lowest f o l n = rw (f, o, n, l) (fault_put line kind entries)
