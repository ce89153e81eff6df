use Rattle.cx_look_faults.proofs.judging.Case.end_fault.Goals as goal

pub returns : goal.returns
returns c = c.fault_in.ensures _ (rw (c.new-context.ensures, c.counter_of-here.ensures, c.new-bases.ensures, c.control_name.ensures) at c.read_entry.ensures.entry)
