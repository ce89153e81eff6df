use Rattle.std.proofs.Common.{rules}
use Rattle.cx_region.specs.Parts.Asking.{input_with}
use Rattle.cx_region.specs.Facts.SoundAttach.{start_free, start_program}
use Rattle.cx_region.proofs.EventLemmas.{on_err}
use Rattle.cx_region.proofs.KeyLemmas.{from_some, memory_seen, keyed_attach, keyed_seen, keyed_unplaced, sound_attach, start_grows}
use Rattle.cx_region.proofs.state.Region.attach_task.Goals as goal

pub prepare-requires-clause-program : goal.prepare-requires-clause-program
prepare-requires-clause-program g c =
    start_program _ c.args.name c.args.bytes.now c.args.start.now c.self.invariant (rw c.self.view_is c.requires.starting)

pub prepare-requires-clause-free : goal.prepare-requires-clause-free
prepare-requires-clause-free g c =
    start_free _ c.args.name c.args.bytes.now c.args.start.now c.self.invariant (rw c.self.view_is c.requires.starting)

pub returns-in_default-clause-keyed : goal.returns-in_default-clause-keyed
returns-in_default-clause-keyed g c =
    keyed_seen _ _ c.args.name _ _ _ c.self.view_is
    (keyed_unplaced _ c.args.name c.args.start.now (input_with c.args.aid c.args.bytes.now) (rw c.self.view_is c.requires.starting) _ (search rules) c.prepare.ensures.rest)

pub returns-in_err-prepared-clause-memory : goal.returns-in_err-prepared-clause-memory
returns-in_err-prepared-clause-memory g c =
    on_err _ _ (memory_seen _ _ c.args.name (input_with c.args.aid c.args.bytes.now) c.self.view_is
    (start_grows _ c.args.name _ c.args.start.now (rw c.self.view_is c.requires.starting) (search rules)))

pub invariant_of-self-2 : goal.invariant_of-self-2
invariant_of-self-2 g c =
    sound_attach _ c.args.name c.args.bytes.now c.args.start.now (rw c.self.view_is c.requires.starting)
    (input_with c.args.aid c.args.bytes.now) _ _ c.in-Some.ready.places c.in-Some.ready.level _ _ _ c.fill_from.new.shared _ c.self.invariant c.fill_from.ensures.sound (from_some _ _ _ _ c.in-Some.is c.in_ok-prepared.ensures.ready) c.next_number-number.ensures
    c.prepare.ensures.rest c.fill_from.ensures.rest c.fill_from.ensures.filled c.start_at.ensures

pub returns-clause-keyed : goal.returns-clause-keyed
returns-clause-keyed g c =
    keyed_seen _ _ c.args.name _ _ _ c.self.view_is
    (keyed_attach _ c.args.name c.args.start.now (input_with c.args.aid c.args.bytes.now) _ (rw c.self.view_is c.requires.starting)
    _ _ _ c.in-Some.ready.places c.in-Some.ready.level _ _ _ c.fill_from.new.shared _ (from_some _ _ _ _ c.in-Some.is c.in_ok-prepared.ensures.ready) c.next_number-number.ensures
    c.bytes.ensures.value c.bytes-2.ensures.value c.code.ensures
    c.prepare.ensures.rest c.fill_from.ensures.rest c.fill_from.ensures.filled c.start_at.ensures)

pub returns-clause-sound : goal.returns-clause-sound
returns-clause-sound g c = invariant_of-self-2 g c
