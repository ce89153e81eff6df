-- The names of refusals and replies, as a transcript has them (this product's own).
use Rattle.std.specs.Prelude.{ℕ, List, codes}
use Rattle.cx_region.specs.declared.changes.AlterReply.{AlterReply}
use Rattle.cx_region.specs.declared.changes.AlterReply.TheVariants as alter
use Rattle.cx_region.specs.declared.replies.DefineFault.{DefineFault}
use Rattle.cx_region.specs.declared.replies.DefineFault.TheVariants as define
use Rattle.cx_region.specs.declared.replies.KeyReply.{KeyReply}
use Rattle.cx_region.specs.declared.replies.KeyReply.TheVariants as key
use Rattle.cx_load.specs.declared.program.LoadFault.{LoadFault}
use Rattle.cx_load.specs.declared.program.LoadFault.TheVariants as load

abbrev pub define_fault_name : DefineFault → List ℕ
define_fault_name define.Duplicate = codes "Duplicate"
define_fault_name define.Full = codes "Full"
define_fault_name define.NoProgram = codes "NoProgram"
define_fault_name define.NoRoom = codes "NoRoom"
define_fault_name define.Memory = codes "Memory"

abbrev pub key_reply_name : KeyReply → List ℕ
key_reply_name key.Attached = codes "Attached"
key_reply_name key.Given = codes "Given"
key_reply_name key.AlreadyHeldInput = codes "AlreadyHeldInput"
key_reply_name key.NoSuchTransaction = codes "NoSuchTransaction"
key_reply_name key.NoStorage = codes "NoStorage"
key_reply_name key.NoSuchTerminal = codes "NoSuchTerminal"

abbrev pub alter_reply_name : AlterReply → List ℕ
alter_reply_name alter.Altered = codes "Altered"
alter_reply_name alter.NoSuchTerminal = codes "NoSuchTerminal"
alter_reply_name alter.NoTask = codes "NoTask"
alter_reply_name alter.NotDue = codes "NotDue"
alter_reply_name alter.NoByte = codes "NoByte"

-- a program's refused load, as a refused definition
abbrev pub fault_from : LoadFault → DefineFault
fault_from load.NoRoom = define.NoRoom
fault_from load.Memory = define.Memory
