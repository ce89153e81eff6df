-- The length of a section once one was set.
use Rattle.std.proofs.Common.{◌≡◌, ℕ, Bool, true, false, cond, Option, Some, List, refl, ◌∙◌, ap, ⊎_elim}
use Rattle.std.specs.Prelude.{unwrap_or}
use Rattle.std.specs.Map.{lookup}
use Rattle.std.proofs.lemmas.Bool.{cases_Bool}
use Rattle.indexmap.specs.IndexMap.{insert_entry}
use Rattle.cx_ebcdic.specs.Facts.Names.{is_name-decides, is_name-laws}
use Rattle.cx_base.specs.Facts.Lookups.{lookup-insert_entry-same, lookup-insert_entry-other}
use Rattle.cx_asm_expressions.specs.Names.{is_same}
use Rattle.cx_asm_pass1.specs.PassState.{length_after}
use Rattle.cx_asm_pass1.specs.Parts.Passing.{Lengths, length_in}

found_put : (lengths : Lengths) (name other : List ℕ) (end : ℕ)
    → lookup (is_same other) (insert_entry is_same lengths name end) ≡ cond (is_same other name) (Some end) (lookup (is_same other) lengths)
found_put lengths name other end = ⊎_elim
    (λ yes.
    let same : other ≡ name = (is_name-decides other name).0 yes in
    rw yes (ap (λ k. lookup (is_same k) (insert_entry is_same lengths name end)) same ∙ lookup-insert_entry-same is_same is_name-laws lengths name end))
    (λ no. rw no (lookup-insert_entry-other is_same is_name-laws lengths name other end (is_name-laws.symm name other ∙ no)))
    (cases_Bool (is_same other name))

chosen : (b : Bool) (end : ℕ) (old : Option ℕ) → unwrap_or (cond b (Some end) old) 0 ≡ cond b end (unwrap_or old 0)
chosen true end old = refl
chosen false end old = refl

pub length_put : (old new : Lengths) (name other : List ℕ) (end : ℕ) → new ≡ insert_entry is_same old name end
    → length_in new other ≡ length_after (Some name) end (length_in old) other
length_put old new name other end e =
    rw e (ap (λ o. unwrap_or o 0) (found_put old name other end) ∙ chosen (is_same other name) end (lookup (is_same other) old))
