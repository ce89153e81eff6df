use Rattle.cx_look_faults.proofs.judging.Case.instruction_fault.Goals as goal

pub returns : goal.returns
returns c = c.fault_in.ensures _ (rw (c.new-context.ensures, c.counter_of-here.ensures, c.absolute.ensures) at c.resolve.ensures.resolved)
