-- Lines and blocks: what each line of a script leads to (own).
use Rattle.std.specs.Prelude.{ℕ, ◌+◌, ◌++◌, ◌∷◌, if◌then◌else◌, Option, Some, None, Result, Ok, Err, List, [], take, codes}
use Rattle.std.specs.Option.{ok_or, option_map}
use Rattle.std.specs.Result.{result_map_both}
use Rattle.std.specs.Str.{bytes_eq}
use Rattle.cx_code.specs.declared.image.Image.{Image}
use Rattle.cx_script_blocks.specs.declared.blocks.Block.{Block}
use Rattle.cx_script_blocks.specs.declared.blocks.Body.{Body}
use Rattle.cx_script_blocks.specs.declared.blocks.Body.TheVariants as kind
use Rattle.cx_script_blocks.specs.declared.blocks.LineStep.{LineStep}
use Rattle.cx_script_blocks.specs.declared.faults.RunFault.{RunFault}
use Rattle.cx_script_blocks.specs.declared.faults.RunFault.TheVariants.{BadLine, Source, Memory}
use Rattle.cx_asm_build.specs.Prepared.{prepared_of}
use Rattle.cx_asm_build.specs.declared.faults.PrepareFault.{PrepareFault}
use Rattle.cx_asm_build.specs.declared.faults.PrepareFault.TheVariants.{At}
use Rattle.cx_asm_build.specs.declared.faults.PrepareFault.TheVariants as without
use Rattle.cx_asm_build.specs.declared.program.Prepared.{Prepared}
use Rattle.cx_script_io.specs.Lines.{is_too_long}
use Rattle.cx_script_actions.specs.Words.{hex_bytes}
use Rattle.cx_script_actions.specs.Language.{Language}
use Rattle.cx_script_actions.specs.declared.actions.Action.TheVariants as action
use Rattle.cx_script_actions.specs.declared.actions.Line.{Line}
use Rattle.cx_script_actions.specs.declared.actions.Line.TheVariants as line

-- a line that leads to this action, and leaves no block to the next one
abbrev pub action_step : {A H : Type 0} → Option A → LineStep A H
action_step asked = record { action = asked; block = None }

-- a line that leaves this block to the next one
abbrev pub block_step : {A H : Type 0} → Block H → LineStep A H
block_step block = record { action = None; block = Some block }

-- a line outside a block, by its number
abbrev pub step_of : {A H : Type 0} → ℕ → Line A H → LineStep A H
step_of first line.Blank = action_step None
step_of first (line.Image name stg_len) = block_step (record { line = first; body = kind.Image name stg_len [] })
step_of first (line.Source name wanted) = block_step (record { line = first; body = kind.Source name wanted [] })
step_of first (line.Lines heading) = block_step (record { line = first; body = kind.Lines heading [] })
step_of first (line.Action asked) = action_step (Some asked)

-- No more than 65,537 bytes of a text are kept: one that is longer than 65,536 is BadLength, whatever follows.
unfoldable pub kept_text : List ℕ → List ℕ
kept_text text = take 65537 text

-- No more than 10,001 lines of a source are kept: one that has not ended with the 10,000th is TooLong, whatever
-- follows.
unfoldable pub kept_lines : List (List ℕ) → List (List ℕ)
kept_lines lines = take 10001 lines

-- What a block has with one more line, which in an image's is hexadecimal digits; None where it may not have that line.
-- Of lines that are handed over the language says it.
abbrev pub body_with : {A H : Type 0} → Language A H → Body H → List ℕ → Option (Body H)
body_with language (kind.Image name stg_len text) line =
    option_map (λ new. kind.Image name stg_len (kept_text (text ++ new))) (hex_bytes line)
body_with language (kind.Source name wanted lines) line =
    Some (kind.Source name wanted (kept_lines (lines ++ line ∷ [])))
body_with language (kind.Lines heading lines) line =
    option_map (λ more. kind.Lines heading more) (language.with_line heading lines line)

abbrev pub with_line : {A H : Type 0} → Language A H → Block H → List ℕ → Option (Block H)
with_line language block text = option_map (λ more. record block { body = more }) (body_with language block.body text)

-- an image has entry 0 and no relocated words
abbrev pub image_of : ℕ → List ℕ → Image
image_of stg_len text = record { text = text; entry = 0; relocs = []; stg_len = stg_len }

-- A source's fault is reported with the script's line: of NoEnd that is the line that ends the block.
abbrev pub fault_of_line : ℕ → PrepareFault → RunFault
fault_of_line first (At number kind) = Source (first + number) kind
fault_of_line first without.Memory = Memory

-- What the line that ends a block leads to, by the line that begins it and what it has. A source is judged there,
-- whole; lines are handed over.
abbrev pub block_end : {A H : Type 0} → Language A H → ℕ → Body H → Result (LineStep A H) RunFault
block_end language first (kind.Image name stg_len text) =
    Ok (action_step (Some (language.of_block (action.Image name (image_of stg_len text)))))
block_end language first (kind.Source name wanted lines) =
    let action_of = λ (made : Prepared). language.of_source name lines (action.Source name made.text made.image) in
    let judged = prepared_of wanted.listing wanted.disassembly lines in
    result_map_both (λ (made : Prepared). action_step (Some (action_of made))) (fault_of_line first) judged
block_end language first (kind.Lines heading lines) = Ok (action_step (language.of_lines first heading lines))

-- a line outside a block, or inside one: its end, or one more line of it
abbrev pub step_in : {A H : Type 0} → Language A H → ℕ → Option (Block H) → List ℕ → Result (LineStep A H) RunFault
step_in language number None text = ok_or (option_map (step_of number) (language.line_of number text)) (BadLine number)
step_in language number (Some block) text =
    if bytes_eq text (codes "/*") then block_end language block.line block.body
    else ok_or (option_map block_step (with_line language block text)) (BadLine number)

-- What the line with this number leads to in a script of this language: a step, or a fault of its own. That of a bad
-- line is BadLine with its number.
unfoldable pub step_at : {A H : Type 0} → Language A H → ℕ → Option (Block H) → List ℕ → Result (LineStep A H) RunFault
step_at language number block text =
    if is_too_long text then Err (BadLine number) else step_in language number block text
