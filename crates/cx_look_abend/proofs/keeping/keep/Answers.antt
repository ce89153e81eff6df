use Rattle.cx_look_abend.proofs.keeping.keep.Goals as goal

pub returns-in-Terminal : goal.returns-in-Terminal
returns-in-Terminal g c =
    let them = c.args.outcome in
    rw (c.in-Plain.is, c.in-Terminal.is) (c.keep_terminal.ensures them.ends them.task them.dump them.abend_record.now c.args.region.now)

pub returns-in-Alter : goal.returns-in-Alter
returns-in-Alter g c =
    let them = c.args.outcome in
    rw (c.in-Plain.is, c.in-Alter.is) (c.keep_alter.ensures them.ends them.dump them.abend_record.now c.args.region.now)
