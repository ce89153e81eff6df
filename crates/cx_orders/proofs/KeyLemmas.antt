-- The keys of a terminal.
use Rattle.std.proofs.Common.{ℕ, suc, ◌≤◌, Bool, true, false, List, [], ◌∷◌, length, arith, cond}
use Rattle.cx_ebcdic.specs.Names.{is_name}
use Rattle.cx_orders.specs.Moves.{keys_of}
use Rattle.cx_orders.specs.declared.states.KeyLine.{KeyLine}

fewer : (b : Bool) (key : KeyLine) (some all : List KeyLine) → length some ≤ length all → length (cond b (key ∷ some) some) ≤ suc (length all)
fewer true key some all few = omega (arith, few)
fewer false key some all few = omega (arith, few)

-- they are no more than all keys
pub few_keys : (keys : List KeyLine) (name : List ℕ) → length (keys_of keys name) ≤ length keys
few_keys [] name = omega arith
few_keys (key ∷ keys) name = fewer (is_name key.name name) key (keys_of keys name) keys (few_keys keys name)
