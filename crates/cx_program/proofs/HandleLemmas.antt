-- Entries given to conditions, and the conditions that wait.
use Rattle.std.specs.Prelude.{◌≡◌, ◌≢◌, not, is_some}
use Rattle.std.proofs.Common.{ℕ, ◌<◌, List, ◌∷◌, length, get_or, sym, ◌∙◌, ap, subst, arith}
use Rattle.std.proofs.lemmas.List.{ext_get_or, get_or-set_other, get_or-set_same}
use Rattle.cx_ebcdic.specs.Characters.{code_of, table}
use Rattle.cx_ebcdic.specs.Names.{is_name_character, name_code, padded_name}
use Rattle.cx_base.specs.Conditions.{abend_code_of, handled_conditions, condition_place}
use Rattle.cx_base.specs.declared.conditions.Condition.{Condition}
use Rattle.cx_base.specs.declared.conditions.Condition.TheVariants.{Normal, Error}
use Rattle.cx_program.specs.declared.entries.Handler.{Handler}
use Rattle.cx_program.specs.declared.entries.Handler.TheVariants.{NoEntry}
use Rattle.cx_program.specs.declared.entries.Entries.{Entries}
use Rattle.cx_program.specs.Entries.{entry_for, with_entry}
use Rattle.cx_program.specs.Handles.{condition_waits}

-- a condition for which a choice is made leads to an abend exactly where it doesn't wait
pub has_code_or_waits : (condition : Condition) → condition ≢ Normal → condition ≢ Error → is_some (abend_code_of condition) ≡ not (condition_waits condition)
unfolding abend_code_of padded_name name_code is_name_character code_of table
has_code_or_waits condition exceptional not_error = grind (arith, exceptional, not_error)

-- each condition is at its place
at_place : (condition : Condition) → get_or (Normal ∷ handled_conditions) (condition_place condition) Normal ≡ condition
at_place condition = grind arith

-- each place is that of the condition there
place_at : (i : ℕ) → i < length (Normal ∷ handled_conditions) → condition_place (get_or (Normal ∷ handled_conditions) i Normal) ≡ i
place_at i less = grind (arith, less)

place_once : (a b : Condition) → condition_place a ≡ condition_place b → a ≡ b
place_once a b same = sym (at_place a) ∙ ap (λ i. get_or (Normal ∷ handled_conditions) i Normal) same ∙ at_place b

place_within : (condition : Condition) → condition_place condition < length (Normal ∷ handled_conditions)
place_within condition = grind arith

-- a condition has the entry that it was given
pub entry_for_same : (entries : Entries) (condition : Condition) (entry : Handler) → length entries.of ≡ length (Normal ∷ handled_conditions) → entry_for (with_entry entries condition entry) condition ≡ entry
unfolding entry_for with_entry
entry_for_same entries condition entry ten = get_or-set_same entries.of (condition_place condition) entry NoEntry (omega (arith, place_within condition, ten))

-- every other condition keeps its entry
pub entry_for_other : (entries : Entries) (condition other : Condition) (entry : Handler) → other ≢ condition → entry_for (with_entry entries condition entry) other ≡ entry_for entries other
unfolding entry_for with_entry
entry_for_other entries condition other entry apart = get_or-set_other entries.of (condition_place condition) (condition_place other) entry NoEntry (λ same. apart (place_once other condition same))

-- the entries are what they answer for each condition
pub entries_same : (a b : Entries) → length a.of ≡ length (Normal ∷ handled_conditions) → length b.of ≡ length (Normal ∷ handled_conditions) → ((condition : Condition) → entry_for a condition ≡ entry_for b condition) → a ≡ b
unfolding entry_for
entries_same a b a_ten b_ten same =
    ap
    (λ (of : List Handler). record { of = of })
    (ext_get_or NoEntry a.of b.of (a_ten ∙ sym b_ten) (λ i less.
    let here : condition_place (get_or (Normal ∷ handled_conditions) i Normal) ≡ i = place_at i (omega (arith, less, a_ten)) in
    subst (λ (k : ℕ). get_or a.of k NoEntry ≡ get_or b.of k NoEntry) here (same (get_or (Normal ∷ handled_conditions) i Normal))))
