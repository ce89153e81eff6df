-- Which faults a script may have, by why no more of it was read.
use Rattle.std.proofs.Common.{◌≡◌, ◌≢◌, ℕ, ◌+◌, Bool, true, false, List, [], ◌∷◌, None, Some, Option, Result, Ok, Err, cond, codes, refl, sym, ap, ◌∙◌}
use Rattle.cx_script_blocks.specs.declared.blocks.Block.{Block}
use Rattle.std.specs.Option.{ok_or, option_map}
use Rattle.std.specs.Result.{result_map_both}
use Rattle.std.specs.Str.{bytes_eq}
use Rattle.cx_script_blocks.specs.declared.blocks.Body.{Body}
use Rattle.cx_script_blocks.specs.declared.blocks.Body.TheVariants as kind
use Rattle.cx_script_blocks.specs.Blocks.{block_step, block_end, fault_of_line, step_at, step_in, step_of, with_line}
use Rattle.cx_asm_build.specs.Facts.Faults.{prepared_not_memory}
use Rattle.cx_asm_build.specs.Prepared.{prepared_of}
use Rattle.cx_asm_build.specs.declared.faults.PrepareFault.{PrepareFault}
use Rattle.cx_asm_build.specs.declared.faults.PrepareFault.TheVariants as prepare
use Rattle.cx_asm_build.specs.declared.program.Prepared.{Prepared}
use Rattle.cx_script_io.specs.Lines.{is_too_long, lines_met}
use Rattle.cx_script.specs.Script.{Script, Step, end_fault, first_place, script_in, script_from, step_from, stepped, fault_at_ending, with_actions_first, led_to}
use Rattle.cx_script.specs.declared.run.Place.{Place}
use Rattle.cx_script_actions.specs.Language.{Language}
use Rattle.cx_script_blocks.specs.declared.blocks.LineStep.{LineStep}
use Rattle.cx_script_blocks.specs.declared.faults.RunFault.{RunFault}
use Rattle.cx_script_blocks.specs.declared.faults.RunFault.TheVariants.{BadLine, BadLook, Source, Read, Write, Memory, ReadBound}
use Rattle.cx_script_io.specs.declared.input.Ending.{Ending}
use Rattle.cx_script_io.specs.declared.input.Ending.TheVariants.{AtEnd, Failed, PastBound}

-- whether a script that was read so far may have this fault, or none
abbrev pub may_have : Ending → Option RunFault → Bool
may_have ending (Some (BadLine n)) = true
may_have AtEnd (Some (BadLook n)) = true
may_have ending (Some (Source n kind)) = true
may_have AtEnd None = true
may_have Failed (Some Read) = true
may_have PastBound (Some ReadBound) = true
may_have _ _ = false

pub fault_before : {A : Type 0} (actions : List A) (script : Script A) → (with_actions_first actions script).fault ≡ script.fault
fault_before actions script = refl

-- what a line's fault may be
abbrev pub is_own : RunFault → Bool
is_own (BadLine n) = true
is_own (Source n kind) = true
is_own _ = false

-- a step, or a fault that a line may have
abbrev pub MayBeLed : {A : Type 0} → Result A RunFault → Type 0
MayBeLed (Ok step) = Unit {0}
MayBeLed (Err fault) = is_own fault ≡ true

own_bad : {A H : Type 0} (o : Option (LineStep A H)) (number : ℕ) → MayBeLed (ok_or o (BadLine number))
own_bad None number = refl
own_bad (Some step) number = tt

-- what a source's end leads to: Memory is no fault of a source
own_source : {A H : Type 0} (make : Prepared → LineStep A H) (first : ℕ) (due : Result Prepared PrepareFault) → due ≢ Err prepare.Memory → MayBeLed (result_map_both make (fault_of_line first) due)
own_source make first (Ok prepared) h = tt
own_source make first (Err (prepare.At n k)) h = refl
own_source make first (Err prepare.Memory) h = absurd (h refl)

own_end : {A H : Type 0} (language : Language A H) (first : ℕ) (has : Body H) → MayBeLed (block_end language first has)
own_end language first (kind.Image name stg_len text) = tt
own_end language first (kind.Lines heading lines) = tt
own_end language first (kind.Source name wanted lines) =
    own_source _ first (prepared_of wanted.listing wanted.disassembly lines) (prepared_not_memory wanted.listing wanted.disassembly lines)

own_within : {A H : Type 0} (language : Language A H) (number : ℕ) (block : Block H) (text : List ℕ) (end : Bool)
    → MayBeLed (cond end (block_end language block.line block.body) (ok_or (option_map block_step (with_line language block text)) (BadLine number)))
own_within language number block text true = own_end language block.line block.body
own_within language number block text false = own_bad (option_map block_step (with_line language block text)) number

own_in : {A H : Type 0} (language : Language A H) (number : ℕ) (block : Option (Block H)) (text : List ℕ) (long : Bool) → MayBeLed (cond long (Err (BadLine number)) (step_in language number block text))
own_in language number block text true = refl
own_in language number None text false = own_bad (option_map (step_of number) (language.line_of number text)) number
own_in language number (Some block) text false = own_within language number block text (bytes_eq text (codes "/*"))

own_led : {A H : Type 0} (f : LineStep A H → Step A H) (due : Result (LineStep A H) RunFault) → MayBeLed due → MayBeLed (result_map_both f (λ (fault : RunFault). fault) due)
own_led f (Ok step) own = tt
own_led f (Err fault) own = own

pub led_own : {A H : Type 0} (language : Language A H) (number : ℕ) (place : Place H) (text : List ℕ) → MayBeLed (step_from language number place text)
unfolding step_from step_at
led_own language number place text = own_led (stepped language number place) _ (own_in language number place.block text (is_too_long text))

own_may : (ending : Ending) (fault : RunFault) → is_own fault ≡ true → may_have ending (Some fault) ≡ true
own_may ending (BadLine n) e = refl
own_may ending (Source n kind) e = refl
own_may ending (BadLook n) e = cc
own_may ending Read e = cc
own_may ending Write e = cc
own_may ending Memory e = cc
own_may ending ReadBound e = cc

led_has : {A H : Type 0} (ending : Ending) (due : Result (Step A H) RunFault) (next : Place H → Script A) → MayBeLed due
    → ((place : Place H) → may_have ending (next place).fault ≡ true) → may_have ending (led_to due next).fault ≡ true
led_has ending (Err fault) next own h = own_may ending fault own
led_has ending (Ok step) next own h = ap (may_have ending) (fault_before step.actions (next step.place)) ∙ h step.place

end_has : {H : Type 0} (block : Option (Block H)) (bad_look : Option ℕ) → may_have AtEnd (end_fault block bad_look) ≡ true
end_has (Some block) bad_look = refl
end_has None (Some line) = refl
end_has None None = refl

left_has : {H : Type 0} (ending : Ending) (place : Place H) → may_have ending (fault_at_ending ending place) ≡ true
unfolding fault_at_ending
left_has AtEnd place = end_has place.block place.bad_look
left_has Failed place = refl
left_has PastBound place = refl

from_has : {A H : Type 0} (language : Language A H) (ending : Ending) (number : ℕ) (place : Place H) (lines : List (List ℕ)) → may_have ending (script_from language ending number place lines).fault ≡ true
unfolding script_from
from_has language ending number place [] = left_has ending place
from_has language ending number place (line ∷ lines) =
    led_has ending (step_from language number place line) (λ next. script_from language ending (number + 1) next lines) (led_own language number place line) (λ next. from_has language ending (number + 1) next lines)

pub script_has : {A H : Type 0} (language : Language A H) (ending : Ending) (bytes : List ℕ) → may_have ending (script_in language ending bytes).fault ≡ true
unfolding script_in
script_has language ending bytes = from_has language ending 1 first_place (lines_met ending bytes)

-- a script's fault is one that it may have
pub has_this : {A H : Type 0} (language : Language A H) (ending : Ending) (bytes : List ℕ) (fault : Option RunFault) → (script_in language ending bytes).fault ≡ fault → may_have ending fault ≡ true
has_this language ending bytes fault e = ap (may_have ending) (sym e) ∙ script_has language ending bytes

-- a script that was not read to its end has a fault
pub never_faultless : {A H : Type 0} (language : Language A H) (ending : Ending) (bytes : List ℕ) → may_have ending None ≡ false → (script_in language ending bytes).fault ≡ None → ⊥
never_faultless language ending bytes e f = let has = has_this language ending bytes None f in cc
