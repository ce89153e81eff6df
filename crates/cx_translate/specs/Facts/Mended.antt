-- A source whose EXEC statements have no fault is translated as it is.
use Rattle.std.proofs.Common.{◌≡◌, Bool, false, cond, Option, Some, None, List, [], ◌∷◌, ◌++◌, refl, ◌∙◌, ap}
use Rattle.std.specs.List.{cons_option, list_any}
use Rattle.cx_source.specs.declared.source.Item.{Item}
use Rattle.cx_source.specs.declared.source.Source.{Source}
use Rattle.cx_translate.specs.Sections.{begins_exec, with_bases, with_eib, with_storage}
use Rattle.cx_translate.specs.Translation.{continues_exec, expanded_items, expansion, fault_at, made_source, mended_expansion, mended_items, mended_source, statement_faults, translation}
use Rattle.cx_translate.specs.declared.faults.TransFault.{TransFault}

none_of : (fault : Option TransFault) (more : List TransFault) → cons_option fault more ≡ [] → (fault ≡ None) × (more ≡ [])
none_of None more e = (refl, e)
none_of (Some fault) more e = absurd (cc)

sound_expansion : (continues : Bool) (item : Item) → fault_at item ≡ None → mended_expansion continues item ≡ expansion continues item
unfolding mended_expansion
sound_expansion continues item e = rw e refl

pub items_whole : (continues : Bool) (items : List Item) → statement_faults items ≡ [] → mended_items continues items ≡ expanded_items continues items
items_whole continues [] e = refl
items_whole continues (item ∷ rest) e =
    let both = none_of (fault_at item) (statement_faults rest) e in
    ap (λ made. made ++ mended_items (continues_exec continues item) rest) (sound_expansion continues item both.0)
    ∙ ap (λ more. expansion continues item ++ more) (items_whole (continues_exec continues item) rest both.1)

made_of_items : List Item → Source
made_of_items made = record { items = with_eib (with_bases (with_storage made)) }

pub translation_whole : (source : Source) → statement_faults source.items ≡ [] → mended_source source ≡ made_source source
unfolding mended_source made_source translation made_of_items
translation_whole source e = ap (λ made. cond (list_any begins_exec source.items) (made_of_items made) source) (items_whole false source.items e)
