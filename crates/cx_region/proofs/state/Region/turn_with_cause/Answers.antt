use Rattle.std.proofs.Common.{sym}
use Rattle.cx_region.proofs.TurnLemmas.{memory_seen, same_seen, sound_turn, abend_record_seen, turned_seen}
use Rattle.cx_region.proofs.state.Region.turn_with_cause.Goals as goal

pub invariant_of-self-2 : goal.invariant_of-self-2
invariant_of-self-2 g c =
    sound_turn c.half_turns_keep.ensures _ c.args.name c.in-Some.terminal.now c.turn_terminal-both.new.terminal c.turn_terminal-both.result c.turn_terminal-both.new.shared _
    (sym c.in-Some.ensures.value, (c.get_mut.follows.holds c.turn_terminal-both.new.terminal).0) c.self.invariant c.turn_terminal-both.ensures.turned c.turn_terminal-both.ensures.err
    c.services_are_sound.ensures.storage c.services_are_sound.ensures.queues c.services_are_sound.ensures.resources

pub returns-clause-turned : goal.returns-clause-turned
returns-clause-turned g c =
    turned_seen _ _ c.args.name c.in-Some.terminal.now c.turn_terminal-both.new.terminal c.turn_terminal-both.result c.turn_terminal-both.new.shared _
    (sym c.in-Some.ensures.value, (c.get_mut.follows.holds c.turn_terminal-both.new.terminal).0) c.self.view_is c.turn_terminal-both.ensures.turned

pub returns-clause-abend_record : goal.returns-clause-abend_record
returns-clause-abend_record g c =
    abend_record_seen _ _ c.args.name c.in-Some.terminal.now c.turn_terminal-both.result (sym c.in-Some.ensures.value) c.self.view_is c.turn_terminal-both.ensures.abend_record

pub returns-clause-memory : goal.returns-clause-memory
returns-clause-memory g c =
    memory_seen _ _ c.args.name c.in-Some.terminal.now c.turn_terminal-both.result (sym c.in-Some.ensures.value) c.self.view_is c.turn_terminal-both.ensures.memory

pub returns-clause-err : goal.returns-clause-err
returns-clause-err g c =
    same_seen _ _ c.args.name c.in-Some.terminal.now c.turn_terminal-both.new.terminal c.turn_terminal-both.result c.turn_terminal-both.new.shared _
    (sym c.in-Some.ensures.value, (c.get_mut.follows.holds c.turn_terminal-both.new.terminal).0) c.self.view_is c.turn_terminal-both.ensures.err

pub returns-clause-sound : goal.returns-clause-sound
returns-clause-sound g c = invariant_of-self-2 g c
