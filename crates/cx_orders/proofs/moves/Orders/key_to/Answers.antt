use Rattle.std.proofs.Common.{◌∙◌, ◌||◌, ap, inr, length, refl, sym}
use Rattle.std.specs.Prelude.{slice_get}
use Rattle.std.specs.Option.{option_copied}
use Rattle.std.proofs.lemmas.Bool.{eqb-true}
use Rattle.cx_orders.specs.Moves.{Moves, is_ready, key_number, keys_of}
use Rattle.cx_orders.proofs.MoveLemmas.{goes_to_none, key_none, no_key_goes, none_left_goes, nowhere_goes}
use Rattle.cx_orders.proofs.moves.Orders.key_to.Goals as goal

pub returns-then-is_empty : goal.returns-then-is_empty
returns-then-is_empty g c =
    let keys = c.args.self.now.keys in
    goes_to_none (Moves keys) c.args.from.now (key_number c.args.number)
    (no_key_goes keys c.args.from.now c.args.number
    (ap length (sym c.as_slice.ensures) ∙ eqb-true (length c.as_slice.result.now) 0 (sym c.is_empty.ensures ∙ c.if-is_empty.true)))

pub returns-in_default : goal.returns-in_default
returns-in_default g c =
    let keys = c.args.self.now.keys in
    let number = c.args.number in
    goes_to_none (Moves keys) c.args.from.now (key_number number)
    (nowhere_goes keys c.args.from.now number c.in_default.ensures.none (key_number number) (inr refl))

pub returns-in_default-next_key : goal.returns-in_default-next_key
returns-in_default-next_key g c =
    let keys = c.args.self.now.keys in
    let it = c.in-Some.asked in
    goes_to_none (Moves keys) c.args.from.now (key_number c.args.number)
    (none_left_goes keys c.args.from.now c.args.number c.activities_decide.ensures it c.in-Some.ensures.asked
    (key_none (keys.typed_ahead || is_ready it.doing) (slice_get (keys_of keys.lines it.name) it.came)
    (sym (ap option_copied c.in_default-next_key.is) ∙ c.next_key.ensures)))
