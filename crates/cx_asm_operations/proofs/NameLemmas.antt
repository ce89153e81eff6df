-- Each operation is found by its name, and under a name only an operation of that name.
use Rattle.std.proofs.Common.{◌≡◌, ◌↔◌, ℕ, Bool, true, false, cond, List, [], ◌∷◌, ◌++◌, map, Option, Some, refl, ◌∙◌, ap}
use Rattle.std.specs.Prelude.{Contains, option_map}
use Rattle.std.specs.List.{IsDistinct, find}
use Rattle.std.specs.Map.{keys_of, lookup}
use Rattle.std.specs.Option.{option_or}
use Rattle.std.specs.Str.{bytes_eq}
use Rattle.std.proofs.lemmas.Cmp.{nat_list_eq_equiv}
use Rattle.std.proofs.lemmas.Map.Made.{IsDistinct-from_count, lookup-map_values}
use Rattle.std.proofs.lemmas.Map.Views.{Contains-from_lookup, lookup-from_Contains}
use Rattle.std.proofs.lemmas.Slice.Eq.{bytes_eq-Decides}
use Rattle.cx_code.specs.Table.{op_named, ops, operation_row, mnemonic_of as machine_name}
use Rattle.cx_code.specs.declared.table.Op.{Op}
use Rattle.cx_asm_operations.specs.declared.operations.Operation.{Operation}
use Rattle.cx_asm_operations.specs.declared.operations.Operation.TheVariants as kinds
use Rattle.cx_asm_operations.specs.Operations.{branches, directives, mask, operation_named, operations, register_branches}

appended : {K X : Type 0} (test : K → Bool) (one other : List (K × X)) → lookup test (one ++ other) ≡ option_or (lookup test one) (lookup test other)
appended test [] other = refl
appended {K} {X} test (e ∷ es) other = go (test e.0) (appended test es other) where
  go : (b : Bool) → lookup test (es ++ other) ≡ option_or (lookup test es) (lookup test other)
      → cond b (Some e.1) (lookup test (es ++ other)) ≡ option_or (cond b (Some e.1) (lookup test es)) (lookup test other)
  go true h = refl
  go false h = h

-- the machine instructions, by mnemonic
machine_rows : List Op → List (List ℕ × Operation)
machine_rows rows = map (λ op. (machine_name op, kinds.Machine op)) rows

found_machine : (name : List ℕ) (rows : List Op) → lookup (bytes_eq name) (machine_rows rows) ≡ option_map kinds.Machine (find (λ op. bytes_eq (machine_name op) name) rows)
unfolding machine_rows
found_machine name [] = refl
found_machine name (op ∷ rows) =
    ap (λ b. cond b (Some (kinds.Machine op)) (lookup (bytes_eq name) (machine_rows rows))) (nat_list_eq_equiv.symm name (machine_name op))
    ∙ go (bytes_eq (machine_name op) name) (found_machine name rows)
  where
    go : (b : Bool) → lookup (bytes_eq name) (machine_rows rows) ≡ option_map kinds.Machine (find (λ o. bytes_eq (machine_name o) name) rows)
        → cond b (Some (kinds.Machine op)) (lookup (bytes_eq name) (machine_rows rows)) ≡ option_map kinds.Machine (cond b (Some op) (find (λ o. bytes_eq (machine_name o) name) rows))
    go true h = refl
    go false h = h

-- the operations kind by kind
pub by_kinds : (name : List ℕ) → operation_named name
    ≡ option_or (option_map kinds.Machine (op_named name)) (option_or (option_map (λ b. kinds.Branch (mask b)) (lookup (bytes_eq name) branches))
    (option_or (option_map (λ b. kinds.RegisterBranch (mask b)) (lookup (bytes_eq name) register_branches))
    (option_map kinds.Directive (lookup (bytes_eq name) directives))))
unfolding operation_named operations op_named machine_rows ops operation_row branches register_branches directives
by_kinds name =
    let p = bytes_eq name in
    let second = map (λ (b : List ℕ × ℕ). (b.0, kinds.Branch (mask b.1))) branches in
    let third = map (λ (b : List ℕ × ℕ). (b.0, kinds.RegisterBranch (mask b.1))) register_branches in
    let fourth = map (λ d. (d.0, kinds.Directive d.1)) directives in
    appended p (machine_rows ops) (second ++ third ++ fourth)
    ∙ ap (λ o. option_or o (lookup p (second ++ third ++ fourth))) (found_machine name ops)
    ∙ ap (option_or (option_map kinds.Machine (find (λ op. bytes_eq (machine_name op) name) ops)))
    (appended p second (third ++ fourth)
    ∙ ap (λ o. option_or o (lookup p (third ++ fourth))) (lookup-map_values (λ b. kinds.Branch (mask b)) p branches)
    ∙ ap (option_or (option_map (λ b. kinds.Branch (mask b)) (lookup p branches)))
    (appended p third fourth
    ∙ ap (λ o. option_or o (lookup p fourth)) (lookup-map_values (λ b. kinds.RegisterBranch (mask b)) p register_branches)
    ∙ ap (option_or (option_map (λ b. kinds.RegisterBranch (mask b)) (lookup p register_branches))) (lookup-map_values kinds.Directive p directives)))

-- ---- no two have one name
names_apart : IsDistinct bytes_eq (keys_of operations)
unfolding operations ops operation_row branches register_branches directives
names_apart = IsDistinct-from_count nat_list_eq_equiv (keys_of operations) refl

pub found_exactly : (name : List ℕ) (it : Operation) → (operation_named name ≡ Some it) ↔ Contains operations (name, it)
unfolding operation_named
found_exactly name it = (
  Contains-from_lookup (λ x y. (bytes_eq-Decides x y).0) name it operations,
  lookup-from_Contains nat_list_eq_equiv name it operations names_apart,
)

first_found : (m : Option Op) (op : Op) (rest : Option Operation) → m ≡ Some op → option_or (option_map kinds.Machine m) rest ≡ Some (kinds.Machine op)
first_found m op rest e = ap (λ x. option_or (option_map kinds.Machine x) rest) e

pub machine_found : ((name : List ℕ) (op : Op) → (op_named name ≡ Some op) ↔ (machine_name op ≡ name)) → (op : Op) → operation_named (machine_name op) ≡ Some (kinds.Machine op)
machine_found machine op = by_kinds (machine_name op) ∙ first_found (op_named (machine_name op)) op _ ((machine (machine_name op) op).1 refl)
