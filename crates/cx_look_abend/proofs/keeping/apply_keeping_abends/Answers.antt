use Rattle.cx_look_abend.proofs.KeptLemmas.{noted_by}
use Rattle.cx_look_abend.proofs.keeping.apply_keeping_abends.Goals as goal

pub returns-clause-applies : goal.returns-clause-applies
returns-clause-applies g c =
    noted_by _ c.args.state.now c.apply_with_cause.new.self c.args.abends.now.entries _ _ c.args.event.now c.in_ok-answer.answer _ _ _ _ _ _ _ _
    c.keep.ensures c.region-3.ensures.region c.make_room.ensures.same c.is_ending_key-ends.ensures c.in_ok-task.ensures.value c.region.ensures.region
    c.in_ok-answer.ensures.applies c.in_ok-answer.ensures.abend_record c.dump_of-dump.ensures c.in_ok-source.ensures.value c.region-2.ensures.region
