-- What operations do in the first pass (GC33-4010, "Assembler Instructions").
use Rattle.std.specs.Prelude.{true, false, Option, Some, None}
use Rattle.cx_code.specs.Table.{length_of}
use Rattle.cx_code.specs.declared.table.Op.TheVariants.{Bc, Bcr}
use Rattle.cx_asm_operations.specs.declared.operations.Operation.{Operation}
use Rattle.cx_asm_operations.specs.declared.operations.Operation.TheVariants.{Machine, Branch, RegisterBranch, Directive as Other}
use Rattle.cx_asm_operations.specs.declared.operations.Directive.{Directive}
use Rattle.cx_asm_operations.specs.declared.operations.Directive.TheVariants as is
use Rattle.cx_asm_pass1.specs.declared.roles.Role.{Role}
use Rattle.cx_asm_pass1.specs.declared.roles.Role.TheVariants.{Unknown, Instruction, Control, Dummy, Equate, Storage, Pool, Registers, Member, Nothing}

abbrev pub directive_role : Directive → Role
directive_role is.Csect = Control
directive_role is.Start = Control
directive_role is.Dsect = Dummy
directive_role is.Equ = Equate
directive_role is.Ds = Storage true
directive_role is.Dc = Storage false
directive_role is.Ltorg = Pool
directive_role is.Dfhregs = Registers
directive_role is.Copy = Member
directive_role _ = Nothing

-- what an operation does: a branch is an instruction of its base row
abbrev pub role_of : Option Operation → Role
role_of None = Unknown
role_of (Some (Machine op)) = Instruction (length_of op)
role_of (Some (Branch b)) = Instruction (length_of Bc)
role_of (Some (RegisterBranch b)) = Instruction (length_of Bcr)
role_of (Some (Other d)) = directive_role d
