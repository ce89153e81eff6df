-- No source is refused for lack of memory.
use Rattle.std.proofs.Common.{◌≡◌, ◌≢◌, ℕ, ◌+◌, Bool, true, false, cond, List, [], ◌∷◌, map, Option, Some, None, Result, Ok, Err, slice_get, refl, sym, ap, subst}
use Rattle.std.specs.Option.{option_map_or, option_or}
use Rattle.std.specs.List.{cons_option}
use Rattle.cx_base.specs.declared.commands.Command.{Command}
use Rattle.cx_source.specs.Faults as lines
use Rattle.cx_source.specs.Facts.AllFaults.{first_fault as first_line_fault, first_of_faults}
use Rattle.cx_source.specs.Lines.{text_of}
use Rattle.cx_source.specs.Statements.{is_continued, is_last, up_to_end}
use Rattle.cx_source.specs.declared.source.Item.{Item}
use Rattle.cx_source.specs.declared.source.Source.{Source}
use Rattle.cx_source.specs.declared.source.SourceFault.{SourceFault}
use Rattle.cx_source.specs.declared.source.SourceFault.TheVariants as source
use Rattle.cx_source.specs.declared.source.Stmt.{Stmt}
use Rattle.cx_translate.specs.Facts.Found.{fault_in_stmt, fault_of_command, judged}
use Rattle.cx_translate.specs.Refusals.{command_in, fault_in, refusal_of}
use Rattle.cx_translate.specs.Sections.{begins_exec}
use Rattle.cx_translate.specs.Translation as translation
use Rattle.cx_translate.specs.Words.{words_of}
use Rattle.cx_translate.specs.declared.faults.TransFault.{TransFault}
use Rattle.cx_translate.specs.declared.faults.TransFault.TheVariants as trans
use Rattle.cx_translate.specs.declared.words.Word.{Word}
use Rattle.cx_asm.specs.Assembly.{AssemblyParts, assembly_faults, assembly_of, fault_on, assembly_parts}
use Rattle.cx_asm_pass1.specs.declared.place.LineFault.{LineFault}
use Rattle.cx_asm_expressions.specs.declared.faults.FaultKind.{FaultKind}
use Rattle.cx_asm_expressions.specs.declared.faults.FaultKind.TheVariants as reason
use Rattle.cx_asm.specs.declared.faults.AsmFault.{AsmFault}
use Rattle.cx_asm.specs.declared.faults.AsmFault.TheVariants as asm
use Rattle.cx_asm_build.specs.Kinds.{of_assembly, of_source, of_translation}
use Rattle.cx_asm_build.specs.Prepared.{by_assembly, by_source, by_translation, prepared_of}
use Rattle.cx_asm_build.specs.declared.faults.PrepareFault.{PrepareFault}
use Rattle.cx_asm_build.specs.declared.faults.PrepareFault.TheVariants.{At, Memory}
use Rattle.cx_asm_build.specs.declared.program.Prepared.{Prepared}

-- ---- the source's lines
abbrev sound_line : Option SourceFault → Type 0
sound_line (Some source.Memory) = ⊥
sound_line other = Unit {0}

line_chain : (a b c d : Bool) (n : ℕ) → sound_line (cond a (Some (source.TooLong n)) (cond b (Some (source.BadCharacter n)) (cond c (Some (source.BadContinuation n)) (cond d None (Some (source.BadName n))))))
line_chain true b c d n = tt
line_chain false true c d n = tt
line_chain false false true d n = tt
line_chain false false false true n = tt
line_chain false false false false n = tt

line_sound : (continues : Bool) (n : ℕ) (line : List ℕ) → sound_line (lines.source_fault continues n line)
unfolding lines.source_fault
line_sound continues n line = line_chain _ _ _ _ n

line_or : (a b : Option SourceFault) → sound_line a → sound_line b → sound_line (option_or a b)
line_or None b h k = k
line_or (Some fault) b h k = h

line_end : (last : Bool) (rest : Option SourceFault) → sound_line rest → sound_line (cond last None rest)
line_end true rest h = tt
line_end false rest h = h

lines_sound : (continues : Bool) (n : ℕ) (all : List (List ℕ)) → sound_line (first_line_fault continues n all)
lines_sound continues n [] = tt
lines_sound continues n (line ∷ more) =
    line_or (lines.source_fault continues n line) _ (line_sound continues n line)
    (line_end (is_last continues (text_of line)) _ (lines_sound (is_continued continues (text_of line)) (n + 1) more))

-- ---- the translation
abbrev sound_statement : Option TransFault → Type 0
sound_statement (Some trans.Memory) = ⊥
sound_statement other = Unit {0}

statement_chain : (a b c d e : Bool) (n : ℕ) → sound_statement (cond a (Some (trans.UnknownOption n)) (cond b (Some (trans.BadArgument n)) (cond c (Some (trans.TooManyConditions n)) (cond d (Some (trans.Conflict n)) (cond e None (Some (trans.MissingOption n)))))))
statement_chain true b c d e n = tt
statement_chain false true c d e n = tt
statement_chain false false true d e n = tt
statement_chain false false false true e n = tt
statement_chain false false false false true n = tt
statement_chain false false false false false n = tt

in_sound : (line : ℕ) (command : Command) (cics named words : List Word) → sound_statement (fault_in line command cics named words)
unfolding fault_in
in_sound line command cics named words = statement_chain _ _ _ _ _ line

command_sound : (line : ℕ) (words : List Word) (found : Option (Command × ℕ)) → sound_statement (fault_of_command line words found)
command_sound line words None = tt
command_sound line words (Some found) = in_sound line found.0 _ _ _

of_sound : (line : ℕ) (words : List Word) → sound_statement (refusal_of line words)
unfolding refusal_of
of_sound line words = command_sound line words (command_in words)

stmt_sound : (line : ℕ) (stmt : Option Stmt) → sound_statement (fault_in_stmt line stmt)
stmt_sound line None = tt
stmt_sound line (Some exec) = of_sound line (words_of exec.operand)

where_exec : (begins : Bool) (fault : Option TransFault) → sound_statement fault → sound_statement (cond begins fault None)
where_exec true fault h = h
where_exec false fault h = tt

at_sound : (item : Item) → sound_statement (translation.fault_at item)
unfolding translation.fault_at
at_sound item = where_exec (begins_exec item) (fault_in_stmt item.line item.stmt) (stmt_sound item.line item.stmt)

statement_or : (a : Option TransFault) (more : List TransFault) → sound_statement a → sound_statement (slice_get more 0)
    → sound_statement (slice_get (cons_option a more) 0)
statement_or None more h k = k
statement_or (Some fault) more h k = h

statements_sound : (items : List Item) → sound_statement (slice_get (translation.statement_faults items) 0)
statements_sound [] = tt
statements_sound (item ∷ rest) = statement_or (translation.fault_at item) (translation.statement_faults rest) (at_sound item) (statements_sound rest)

-- ---- the stages
abbrev Sound : Result Prepared PrepareFault → Type 0
Sound (Err Memory) = ⊥
Sound other = Unit {0}

assembly_fault_sound : (fault : AsmFault) → fault ≢ asm.Memory → Sound (Err (of_assembly fault))
unfolding of_assembly
assembly_fault_sound (asm.UnknownOperation n) h = tt
assembly_fault_sound (asm.UndefinedSymbol n) h = tt
assembly_fault_sound (asm.DuplicateSymbol n) h = tt
assembly_fault_sound (asm.NoAddressability n) h = tt
assembly_fault_sound (asm.BadOperand n) h = tt
assembly_fault_sound (asm.ValueOutOfRange n) h = tt
assembly_fault_sound (asm.NotRelocatable n) h = tt
assembly_fault_sound (asm.TooLarge n) h = tt
assembly_fault_sound asm.Memory h = absurd (h refl)

by_assembly_sound : (listing disassembly : Bool) (due : Result AssemblyParts AsmFault) → due ≢ Err asm.Memory → Sound (by_assembly listing disassembly due)
by_assembly_sound listing disassembly (Ok assembly) h = tt
by_assembly_sound listing disassembly (Err fault) h = assembly_fault_sound fault (λ e. h (ap Err e))

kind_not_memory : (line : ℕ) (k : FaultKind) → fault_on line k ≢ asm.Memory
kind_not_memory line reason.UnknownOperation = λ e. cc
kind_not_memory line reason.UndefinedSymbol = λ e. cc
kind_not_memory line reason.DuplicateSymbol = λ e. cc
kind_not_memory line reason.NoAddressability = λ e. cc
kind_not_memory line reason.BadOperand = λ e. cc
kind_not_memory line reason.ValueOutOfRange = λ e. cc
kind_not_memory line reason.NotRelocatable = λ e. cc
kind_not_memory line reason.TooLarge = λ e. cc

reported_not_memory : (o : Option LineFault) (made : AssemblyParts) → option_map_or (λ (first : LineFault). Err (fault_on first.line first.kind)) o (Ok made) ≢ Err asm.Memory
reported_not_memory None made = λ e. cc
reported_not_memory (Some first) made = λ e. let same : fault_on first.line first.kind ≡ asm.Memory = cc in kind_not_memory first.line first.kind same

assembly_not_memory : (s : Source) → assembly_of s ≢ Err asm.Memory
unfolding assembly_of
assembly_not_memory s = reported_not_memory (slice_get (assembly_faults s) 0) (assembly_parts s)

translation_fault_sound : (fault : TransFault) → sound_statement (Some fault) → Sound (Err (of_translation fault))
unfolding of_translation
translation_fault_sound (trans.UnknownCommand n) h = tt
translation_fault_sound (trans.UnknownOption n) h = tt
translation_fault_sound (trans.MissingOption n) h = tt
translation_fault_sound (trans.Conflict n) h = tt
translation_fault_sound (trans.TooManyConditions n) h = tt
translation_fault_sound (trans.BadArgument n) h = tt
translation_fault_sound trans.Memory h = absurd h

judged_sound : (listing disassembly : Bool) (fault : Option TransFault) (made : Source) → sound_statement fault → Sound (by_translation listing disassembly (judged fault made))
judged_sound listing disassembly None made h = by_assembly_sound listing disassembly (assembly_of made) (assembly_not_memory made)
judged_sound listing disassembly (Some fault) made h = translation_fault_sound fault h

translation_sound : (listing disassembly : Bool) (s : Source) → Sound (by_translation listing disassembly (translation.translation_of s))
unfolding translation.translation_of
translation_sound listing disassembly s =
    judged_sound listing disassembly (slice_get (translation.statement_faults s.items) 0) (translation.made_source s) (statements_sound s.items)

source_fault_sound : (fault : SourceFault) → sound_line (Some fault) → Sound (Err (of_source fault))
unfolding of_source
source_fault_sound (source.BadCharacter n) h = tt
source_fault_sound (source.BadName n) h = tt
source_fault_sound (source.BadContinuation n) h = tt
source_fault_sound (source.TooLong n) h = tt
source_fault_sound (source.NoEnd n) h = tt
source_fault_sound source.Memory h = absurd h

read_sound : (listing disassembly : Bool) (fault : Option SourceFault) (s : Source) → sound_line fault → Sound (by_source listing disassembly (option_map_or Err fault (Ok s)))
read_sound listing disassembly None s h = translation_sound listing disassembly s
read_sound listing disassembly (Some fault) s h = source_fault_sound fault h

prepared_sound : (listing disassembly : Bool) (all : List (List ℕ)) → Sound (prepared_of listing disassembly all)
unfolding prepared_of lines.source_in
prepared_sound listing disassembly all =
    read_sound listing disassembly (slice_get (lines.line_faults false 1 all) 0) (lines.source_from (up_to_end false (map text_of all)))
    (subst sound_line (sym (first_of_faults false 1 all)) (lines_sound false 1 all))

sound_not : (due : Result Prepared PrepareFault) → Sound due → due ≢ Err Memory
sound_not (Ok prepared) h = λ e. cc
sound_not (Err (At n kind)) h = λ e. cc
sound_not (Err Memory) h = absurd h

pub prepared_not_memory : (listing disassembly : Bool) (all : List (List ℕ)) → prepared_of listing disassembly all ≢ Err Memory
prepared_not_memory listing disassembly all = sound_not (prepared_of listing disassembly all) (prepared_sound listing disassembly all)
