-- The condition that a service would meet, as a command's (this product's own).
use Rattle.std.specs.Prelude.{Option, Some}
use Rattle.cx_base.specs.declared.conditions.Condition.TheVariants as condition
use Rattle.cx_service.specs.declared.faults.ServiceFault.{ServiceFault}
use Rattle.cx_service.specs.declared.faults.ServiceFault.TheVariants as fault
use Rattle.cx_region_state.specs.declared.verdict.Verdict.{Verdict}
use Rattle.cx_region_commands.specs.Common.{condition_alone}

-- the fault's condition alone, where there is one, and else the verdict; Memory is no condition
abbrev pub fault_or_verdict : Option ServiceFault → Verdict → Verdict
fault_or_verdict (Some fault.Lengerr) verdict = condition_alone condition.Lengerr
fault_or_verdict (Some fault.Itemerr) verdict = condition_alone condition.Itemerr
fault_or_verdict (Some fault.Nospace) verdict = condition_alone condition.Nospace
fault_or_verdict (Some fault.Qiderr) verdict = condition_alone condition.Qiderr
fault_or_verdict (Some fault.Enqbusy) verdict = condition_alone condition.Enqbusy
fault_or_verdict (Some fault.Invreq) verdict = condition_alone condition.Invreq
fault_or_verdict _ verdict = verdict
