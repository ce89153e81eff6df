use Rattle.std.proofs.Common.{◌≡◌, ◌∙◌, Some, ap, sym}
use Rattle.std.specs.Map.{set_value}
use Rattle.cx_service.specs.Resources.{is_resource, hold_of}
use Rattle.cx_service.proofs.ResourceSound.{dequeued_more}
use Rattle.cx_service.proofs.enqueues.take_off.Goals as goal

pub returns : goal.returns
returns c =
    let there : hold_of c.args.resources.now.entries c.args.name.now ≡ Some c.in-Some.hold.now = sym c.in-Some.ensures.value in
    c.set_count.ensures c.in-Some.hold.now there
    ∙ ap (λ n. set_value (is_resource c.args.name.now) c.args.resources.now.entries (record c.in-Some.hold.now { count = n })) c.saturating_sub.ensures
    ∙ sym (dequeued_more c.args.resources.now.entries c.args.slot c.args.name.now c.in-Some.hold.now there c.if-hold-slot.false c.if-hold-eq1.false)
