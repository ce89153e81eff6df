use Rattle.cx_region_state.specs.State.{context}
use Rattle.cx_region_task.proofs.SettleLemmas.{fits_finished}
use Rattle.cx_region_task.proofs.performing.commit.Goals as goal

pub apply_after-requires : goal.apply_after-requires
apply_after-requires g c =
    fits_finished c.args.act.now.call c.args.act.now.outputs c.args.act.now.change c.report_of-answer.result
    (context c.args.shared.now c.args.terminal_entry.now c.args.task.now) (context c.apply_before.new.shared c.apply_before.new.terminal_entry c.apply_before.new.task)
    (context c.write_outputs.new.shared c.apply_before.new.terminal_entry c.apply_before.new.task) (context c.write_report.new.shared c.apply_before.new.terminal_entry c.apply_before.new.task)
    c.requires c.in_ok-apply_before.ensures.ok c.write_outputs.ensures c.write_report.ensures
