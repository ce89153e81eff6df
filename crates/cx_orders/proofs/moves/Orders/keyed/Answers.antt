use Rattle.std.proofs.Common.{◌∙◌, ap, arith, length, subst, sym}
use Rattle.std.proofs.lemmas.Option.{slice_get_within}
use Rattle.cx_region.specs.Attach.{TakesKey, input_from}
use Rattle.cx_orders.specs.Facts.Keys.{of_terminal}
use Rattle.cx_orders.specs.Moves.{IsFew, Moves, key_number, keys_of}
use Rattle.cx_orders.proofs.KeyLemmas.{few_keys}
use Rattle.cx_orders.proofs.MoveLemmas.{goes_to_none, goes_to_some, key_goes, pressed_moves, untaken_goes}
use Rattle.cx_orders.proofs.moves.Orders.keyed.Goals as goal

pub key-requires : goal.key-requires
key-requires g c =
    let few = of_terminal IsFew c.args.asked.now.name c.args.key.now c.args.self.now.keys.lines c.args.asked.now.came c.args.self.now.few c.requires.next in
    omega (arith, few, ap length c.as_slice.ensures)

pub pressed-requires : goal.pressed-requires
pressed-requires g c =
    let lines = c.args.self.now.keys.lines in
    let name = c.args.asked.now.name in
    record {
      asked = c.requires.asked.come;
      left = omega (arith, few_keys lines name, slice_get_within (keys_of lines name) c.args.asked.now.came c.args.key.now c.requires.next);
    }

pub returns-then-has_come : goal.returns-then-has_come
returns-then-has_come g c =
    let keys = c.args.self.now.keys in
    let from = c.args.from.now in
    let it = c.args.asked.now in
    let key = c.args.key.now in
    let reply = c.in_ok-reply.reply in
    let takes = subst (λ r. TakesKey r it.name (input_from key.aid key.bytes) reply c.key.new.self) c.requires.given
    (subst (λ b. TakesKey c.args.region.now it.name (input_from key.aid b) reply c.key.new.self) c.as_slice.ensures c.in_ok-reply.ensures.keyed) in
    goes_to_some (Moves keys) from (key_number it.number) c.in_ok-to.to
    (key_goes keys from it.number c.calls_decide.ensures.turns c.calls_decide.ensures.keys it c.requires.asked c.in_ok-to.to
    (pressed_moves keys from it.number c.calls_decide.ensures.keys it c.requires.asked key c.requires.next reply c.key.new.self takes c.requires.may
    (sym c.has_come.ensures ∙ c.if-has_come.true) c.in_ok-to.to c.in_ok-to.ensures.region c.in_ok-to.ensures.come c.in_ok-to.ensures.incidents))

pub returns : goal.returns
returns g c =
    let keys = c.args.self.now.keys in
    let from = c.args.from.now in
    let it = c.args.asked.now in
    let key = c.args.key.now in
    let reply = c.in_ok-reply.reply in
    let takes = subst (λ r. TakesKey r it.name (input_from key.aid key.bytes) reply c.key.new.self) c.requires.given
    (subst (λ b. TakesKey c.args.region.now it.name (input_from key.aid b) reply c.key.new.self) c.as_slice.ensures c.in_ok-reply.ensures.keyed) in
    goes_to_none (Moves keys) from (key_number it.number)
    (untaken_goes keys from it.number c.calls_decide.ensures.keys it c.requires.asked key c.requires.next reply c.key.new.self takes
    (sym c.has_come.ensures ∙ c.if-has_come.false))
