use Rattle.cx_region_state.specs.State.{context}
use Rattle.cx_region_task.proofs.WayLemmas.{way_stays}
use Rattle.cx_region_task.proofs.performing.perform.Goals as goal

pub go-requires : goal.go-requires
go-requires g c =
    way_stays c.args.act.now.continuation c.args.act.now.call c.args.act.now.condition c.args.act.now.outputs c.args.act.now.change
    (context c.args.shared.now c.args.terminal_entry.now c.args.task.now) (context c.commit.new.shared c.commit.new.terminal_entry c.commit.new.task)
    c.requires.way c.in_ok-commit.ensures.ok
