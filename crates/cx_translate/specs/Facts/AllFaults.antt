-- What a source with and without a fault is translated to.
use Rattle.std.proofs.Common.{◌≡◌, Bool, true, false, cond, ◌||◌, None, List, [], ◌∷◌, slice_get, Ok, Err, refl, ap}
use Rattle.std.specs.Prelude.{option_and_then}
use Rattle.std.specs.List.{list_any}
use Rattle.std.specs.Option.{option_map_or}
use Rattle.cx_source.specs.declared.source.Item.{Item}
use Rattle.cx_source.specs.declared.source.Source.{Source}
use Rattle.cx_translate.specs.Refusals.{refusal_of}
use Rattle.cx_translate.specs.Sections.{begins_exec}
use Rattle.cx_translate.specs.Translation.{fault_at, made_source, statement_faults, translation, translation_of}
use Rattle.cx_translate.specs.Words.{words_of}
use Rattle.cx_translate.specs.declared.faults.TransFault.{TransFault}

none_here : (item : Item) → begins_exec item ≡ false → fault_at item ≡ None
unfolding fault_at
none_here item e = ap (λ b. cond b (option_and_then (λ exec. refusal_of item.line (words_of exec.operand)) item.stmt) None) e

either : (a b : Bool) → a || b ≡ false → (a ≡ false) × (b ≡ false)
either true b e = absurd (cc)
either false b e = (refl, e)

-- without an EXEC statement there is no fault
pub no_exec_no_fault : (items : List Item) → list_any begins_exec items ≡ false → statement_faults items ≡ []
no_exec_no_fault [] e = refl
no_exec_no_fault (item ∷ more) e =
    let both = either (begins_exec item) (list_any begins_exec more) e in
    rw (none_here item both.0) (no_exec_no_fault more both.1)

-- a source is translated to what is made of it, and has no fault
pub accepted : (faults : List TransFault) (source made : Source) → option_map_or Err (slice_get faults 0) (Ok source) ≡ Ok made → (faults ≡ []) × (source ≡ made)
accepted [] source made e = (refl, cc)
accepted (fault ∷ more) source made e = absurd (cc)

pub translated_so : (source made : Source) → list_any begins_exec source.items ≡ true → translation_of source ≡ Ok made
    → (statement_faults source.items ≡ []) × (translation source.items ≡ made.items)
unfolding translation_of made_source
translated_so source made any e =
    let ok = accepted (statement_faults source.items) (made_source source) made e in
    let same : (cond (list_any begins_exec source.items) (record { items = translation source.items }) source).items ≡ made.items = ap (λ s. s.items) ok.1 in
    (ok.0, (rw any at same))
