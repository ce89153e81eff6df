use Rattle.std.proofs.Common.{sym, ◌∙◌}
use Rattle.cx_region.proofs.AlterLemmas.{alters_done, alters_refused, alters_there, sound_alter}
use Rattle.cx_region.proofs.state.Region.alter.Goals as goal

pub returns-in-Some-clause-alters : goal.returns-in-Some-clause-alters
returns-in-Some-clause-alters g c = alters_refused _ c.args.name c.args.change c.in-Some.refusal (sym c.alter_refusal.ensures ∙ c.in-Some.is)

pub returns-in_default-get_mut-clause-alters : goal.returns-in_default-get_mut-clause-alters
returns-in_default-get_mut-clause-alters g c =
    alters_there _ _ c.args.name c.args.change c.self.view_is (sym c.alter_refusal.ensures ∙ c.in_default.is) (sym c.in_default-get_mut.ensures.value)

pub invariant_of-self-2 : goal.invariant_of-self-2
invariant_of-self-2 g c =
    sound_alter _ c.args.name c.args.change c.in-Some-get_mut.terminal.now c.alter_terminal.new.terminal c.alter_terminal.new.shared _
    (sym c.in-Some-get_mut.ensures.value, (c.get_mut.follows.holds c.alter_terminal.new.terminal).0) c.self.invariant c.alter_terminal.ensures
    c.services_are_sound.ensures.storage c.services_are_sound.ensures.queues c.services_are_sound.ensures.resources

pub returns-clause-alters : goal.returns-clause-alters
returns-clause-alters g c =
    alters_done _ _ c.args.name c.args.change c.in-Some-get_mut.terminal.now c.alter_terminal.new.terminal c.alter_terminal.new.shared _
    (sym c.in-Some-get_mut.ensures.value, (c.get_mut.follows.holds c.alter_terminal.new.terminal).0) c.self.view_is (sym c.alter_refusal.ensures ∙ c.in_default.is) c.alter_terminal.ensures

pub returns-clause-sound : goal.returns-clause-sound
returns-clause-sound g c = invariant_of-self-2 g c
