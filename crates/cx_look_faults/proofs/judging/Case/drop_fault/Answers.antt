use Rattle.cx_look_faults.proofs.judging.Case.drop_fault.Goals as goal

pub returns : goal.returns
returns c = c.fault_in.ensures _ (rw (c.new-context.ensures, c.counter_of-here.ensures) at c.read_drop.ensures.drop)
