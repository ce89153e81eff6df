-- Each row is in the list of all rows, under its code and under its mnemonic.
use Rattle.std.proofs.Common.{◌≡◌, ℕ, Bool, true, false, cond, List, [], ◌∷◌, Option, Some, refl, eqb, find, eqb-true, arith}
use Rattle.std.specs.List.{list_all}
use Rattle.std.specs.Str.{bytes_eq}
use Rattle.std.proofs.lemmas.Bool.{and_parts}
use Rattle.std.proofs.lemmas.Slice.Eq.{bytes_eq-Decides}
use Rattle.cx_code.specs.declared.table.Op.{Op}
use Rattle.cx_code.specs.Table.{operation_row, code_of, mnemonic_of, ops, op_at, op_named}

pub op_at-code_of : (op : Op) → op_at (code_of op) ≡ Some op
unfolding op_at ops operation_row
op_at-code_of op = grind arith

pub op_named-mnemonic_of : (op : Op) → op_named (mnemonic_of op) ≡ Some op
unfolding op_named ops operation_row
op_named-mnemonic_of op = grind arith

-- what holds of all that is searched holds of what is found
found_all-step : {X : Type 0} (p q : X → Bool) (y : X) (r : Option X) (x : X) (b : Bool) → p y ≡ b → (p y ≡ true → q y ≡ true) → (r ≡ Some x → q x ≡ true) → cond b (Some y) r ≡ Some x → q x ≡ true
found_all-step p q y r x true h here after e = let g = here h in cc
found_all-step p q y r x false h here after e = after e

pub find_passes : {X : Type 0} (p : X → Bool) (xs : List X) (x : X) → find p xs ≡ Some x → p x ≡ true
find_passes p [] x e = cc
find_passes p (y ∷ ys) x e =
    found_all-step p p y (find p ys) x (p y) refl (λ h. h) (find_passes p ys x) e

pub find_all : {X : Type 0} (p q : X → Bool) (xs : List X) (x : X) → find p xs ≡ Some x → list_all q xs ≡ true → q x ≡ true
find_all p q [] x e h = cc
find_all p q (y ∷ ys) x e h =
    let parts = and_parts (q y) (list_all q ys) h in
    found_all-step p q y (find p ys) x (p y) refl (λ _. parts.0) (λ r. find_all p q ys x r parts.1) e

-- a test that each row passes
pub each_row : (q : Op → Bool) → list_all q ops ≡ true → (op : Op) → q op ≡ true
unfolding op_at
each_row q h op = find_all _ q ops op (op_at-code_of op) h

pub code_of-op_at : (code : ℕ) (op : Op) → op_at code ≡ Some op → code_of op ≡ code
unfolding op_at
code_of-op_at code op e = eqb-true _ _ (find_passes (λ o. eqb (code_of o) code) ops op e)

pub mnemonic_of-op_named : (name : List ℕ) (op : Op) → op_named name ≡ Some op → mnemonic_of op ≡ name
unfolding op_named
mnemonic_of-op_named name op e =
    (bytes_eq-Decides (mnemonic_of op) name).0 (find_passes (λ o. bytes_eq (mnemonic_of o) name) ops op e)
