-- What is found under a name once a value was put under one.
use Rattle.std.proofs.Common.{◌≡◌, ℕ, cond, Some, List, sym, ap, ◌∙◌, ⊎_elim}
use Rattle.std.specs.Map.{lookup}
use Rattle.std.proofs.lemmas.Bool.{cases_Bool}
use Rattle.indexmap.specs.IndexMap.{insert_entry}
use Rattle.cx_ebcdic.specs.Facts.Names.{is_name-decides, is_name-laws}
use Rattle.cx_base.specs.Facts.Lookups.{lookup-insert_entry-same, lookup-insert_entry-other}
use Rattle.cx_asm_expressions.specs.Names.{is_same}
use Rattle.cx_asm_expressions.specs.Symbols.{Symbols, Defines}
use Rattle.cx_asm_expressions.specs.declared.values.Value.{Value}

pub found_after_put : {V : Type 0} (entries : List (List ℕ × V)) (name q : List ℕ) (value : V)
    → lookup (is_same q) (insert_entry is_same entries name value) ≡ cond (is_same name q) (Some value) (lookup (is_same q) entries)
found_after_put entries name q value = ⊎_elim
    (λ yes.
    let same : name ≡ q = (is_name-decides name q).0 yes in
    rw yes (ap (λ k. lookup (is_same k) (insert_entry is_same entries name value)) (sym same) ∙ lookup-insert_entry-same is_same is_name-laws entries name value))
    (λ differ. rw differ (lookup-insert_entry-other is_same is_name-laws entries name q value differ))
    (cases_Bool (is_same name q))

pub defined_by_insert : (old new : Symbols) (name : List ℕ) (value : Value) → new ≡ insert_entry is_same old name value → Defines old name value new
defined_by_insert old new name value e other = rw e (found_after_put old name other value)
