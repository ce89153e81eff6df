use Rattle.std.proofs.Common.{◌≡◌, ◌∙◌, ◌<◌, true, ap, List, get_or, length, slice_get, arith, rules}
use Rattle.std.specs.Prelude.{is_some}
use Rattle.std.proofs.lemmas.Grind.{common_steps}
use Rattle.cx_asm_pass1.specs.declared.place.Place.{Place}
use Rattle.cx_asm_pass2.proofs.PlaceLemmas.{placed_item_more}
use Rattle.cx_asm_pass2.proofs.statements.placed_lines.Goals as goal

pub loop-item-preserved : goal.loop-item-preserved
loop-item-preserved c =
    let within : c.loop-item.item-index < length c.args.source.now.items = rw c.as_slice-item-items.ensures at c.loop-item-test.true in
    let is : c.item-item.result ≡ get_or c.args.source.now.items c.loop-item.item-index c.item-item.result = rw c.as_slice-item-items.ensures at c.item-item.is in
    let some : is_some c.item-item.result.stmt ≡ true = first_of (search rules, grind (arith, common_steps)) in
    let one = placed_item_more c.args.source.now.items c.item-item.result c.loop-item.item-index c.loop-item.placed.items c.push-in-loop-item.new.self.items _ c.loop-item.next within
    is some c.loop-item.invariant.placed c.loop-item.invariant.next
    (c.place_at.ensures ∙ ap (λ (l : List Place). slice_get l c.loop-item.next) c.requires) c.in_ok-push-2.ensures.items in
    record { placed = one.0; next = one.1; few = omega (arith, c.loop-item.invariant.few) }
