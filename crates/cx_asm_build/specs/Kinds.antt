-- Why a source gives no program: the faults of its lines, of its translation and of its assembly (own).
use Rattle.std.specs.Prelude.{ℕ, List, codes}
use Rattle.cx_asm.specs.declared.faults.AsmFault.{AsmFault}
use Rattle.cx_asm.specs.declared.faults.AsmFault.TheVariants as asm
use Rattle.cx_source.specs.declared.source.SourceFault.{SourceFault}
use Rattle.cx_source.specs.declared.source.SourceFault.TheVariants as source
use Rattle.cx_translate.specs.declared.faults.TransFault.{TransFault}
use Rattle.cx_translate.specs.declared.faults.TransFault.TheVariants as trans
use Rattle.cx_asm_build.specs.declared.faults.PrepareFault.{PrepareFault}
use Rattle.cx_asm_build.specs.declared.faults.PrepareFault.TheVariants.{At, Memory}
use Rattle.cx_asm_build.specs.declared.faults.SourceKind.{SourceKind}
use Rattle.cx_asm_build.specs.declared.faults.SourceKind.TheVariants as kind

-- a kind's name
abbrev pub kind_name : SourceKind → List ℕ
kind_name kind.BadCharacter = codes "BadCharacter"
kind_name kind.BadName = codes "BadName"
kind_name kind.BadContinuation = codes "BadContinuation"
kind_name kind.TooLong = codes "TooLong"
kind_name kind.NoEnd = codes "NoEnd"
kind_name kind.UnknownCommand = codes "UnknownCommand"
kind_name kind.UnknownOption = codes "UnknownOption"
kind_name kind.MissingOption = codes "MissingOption"
kind_name kind.Conflict = codes "Conflict"
kind_name kind.TooManyConditions = codes "TooManyConditions"
kind_name kind.BadArgument = codes "BadArgument"
kind_name kind.UnknownOperation = codes "UnknownOperation"
kind_name kind.UndefinedSymbol = codes "UndefinedSymbol"
kind_name kind.DuplicateSymbol = codes "DuplicateSymbol"
kind_name kind.NoAddressability = codes "NoAddressability"
kind_name kind.BadOperand = codes "BadOperand"
kind_name kind.ValueOutOfRange = codes "ValueOutOfRange"
kind_name kind.NotRelocatable = codes "NotRelocatable"
kind_name kind.TooLarge = codes "TooLarge"

-- a fault of the source's lines
unfoldable pub of_source : SourceFault → PrepareFault
of_source (source.BadCharacter line) = At line kind.BadCharacter
of_source (source.BadName line) = At line kind.BadName
of_source (source.BadContinuation line) = At line kind.BadContinuation
of_source (source.TooLong line) = At line kind.TooLong
of_source (source.NoEnd line) = At line kind.NoEnd
of_source source.Memory = Memory

-- a fault of its translation
unfoldable pub of_translation : TransFault → PrepareFault
of_translation (trans.UnknownCommand line) = At line kind.UnknownCommand
of_translation (trans.UnknownOption line) = At line kind.UnknownOption
of_translation (trans.MissingOption line) = At line kind.MissingOption
of_translation (trans.Conflict line) = At line kind.Conflict
of_translation (trans.TooManyConditions line) = At line kind.TooManyConditions
of_translation (trans.BadArgument line) = At line kind.BadArgument
of_translation trans.Memory = Memory

-- a fault of its assembly
unfoldable pub of_assembly : AsmFault → PrepareFault
of_assembly (asm.UnknownOperation line) = At line kind.UnknownOperation
of_assembly (asm.UndefinedSymbol line) = At line kind.UndefinedSymbol
of_assembly (asm.DuplicateSymbol line) = At line kind.DuplicateSymbol
of_assembly (asm.NoAddressability line) = At line kind.NoAddressability
of_assembly (asm.BadOperand line) = At line kind.BadOperand
of_assembly (asm.ValueOutOfRange line) = At line kind.ValueOutOfRange
of_assembly (asm.NotRelocatable line) = At line kind.NotRelocatable
of_assembly (asm.TooLarge line) = At line kind.TooLarge
of_assembly asm.Memory = Memory
