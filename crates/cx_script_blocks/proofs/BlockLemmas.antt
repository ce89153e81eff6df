-- What the end of a source's block leads to.
use Rattle.std.proofs.Common.{◌≡◌, ℕ, true, false, Result, Ok, Err, sym, ap, ◌∙◌}
use Rattle.std.specs.Result.{result_map_both}
use Rattle.cx_asm_build.specs.Prepared.{Prepares, prepared_of}
use Rattle.cx_asm_build.specs.declared.faults.PrepareFault.{PrepareFault}
use Rattle.cx_asm_build.specs.declared.faults.PrepareFault.TheVariants as prepare
use Rattle.cx_asm_build.specs.declared.program.Prepared.{Prepared}
use Rattle.cx_script_actions.specs.Language.{Language}
use Rattle.cx_script_blocks.specs.Blocks.{block_end, fault_of_line}
use Rattle.cx_script_blocks.specs.Faults.{is_memory}
use Rattle.cx_script_blocks.specs.declared.blocks.LineStep.{LineStep}
use Rattle.cx_script_blocks.specs.declared.blocks.Body.{Body}
use Rattle.cx_script_blocks.specs.declared.blocks.Body.TheVariants as kind
use Rattle.cx_script_blocks.specs.declared.faults.RunFault.{RunFault}
use Rattle.cx_script_blocks.specs.declared.faults.RunFault.TheVariants.{BadLine}

-- a source's fault, with the script's line, is what its end leads to
pub source_refused : {A H : Type 0} (make : Prepared → LineStep A H) (first : ℕ) (due : Result Prepared PrepareFault) (fault : PrepareFault) (result : Result (LineStep A H) RunFault)
    → Prepares due (Err fault) → (is_memory result ≡ false → result ≡ Err (fault_of_line first fault)) → is_memory result ≡ false
    → result ≡ result_map_both make (fault_of_line first) due
source_refused make first due (prepare.At n k) result h f m = f m ∙ sym (ap (result_map_both make (fault_of_line first)) h)
source_refused make first due prepare.Memory result h f m =
    let no : true ≡ false = sym (ap is_memory (f m)) ∙ m in absurd (cc)

-- a block's end is no bad line
pub end_is_good : {A H : Type 0} (language : Language A H) (first : ℕ) (has : Body H) (number : ℕ) {P : Type 0}
    → block_end language first has ≡ Err (BadLine number) → P
end_is_good language first (kind.Image name stg_len text) number e = cc
end_is_good language first (kind.Lines heading lines) number e = cc
end_is_good {A} {H} language first (kind.Source name wanted lines) number e = go _ (prepared_of wanted.listing wanted.disassembly lines) e
  where
    go : {P : Type 0} (make : Prepared → LineStep A H) (due : Result Prepared PrepareFault) → result_map_both make (fault_of_line first) due ≡ Err (BadLine number) → P
    go make (Ok prepared) e = cc
    go make (Err (prepare.At n which)) e = cc
    go make (Err prepare.Memory) e = cc
