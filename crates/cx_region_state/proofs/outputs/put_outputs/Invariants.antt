use Rattle.std.proofs.Common.{◌≡◌, drop}
use Rattle.cx_region_state.specs.Outputs.{put_out}
use Rattle.cx_region_state.proofs.outputs.put_outputs.Given as goal

-- the outputs written, and those in the rest of the list
abbrev pub invariant-loop-output : goal.invariant-loop-output
invariant-loop-output g l =
    put_out (g.S.Store.storage l.store) l.call l.text (drop l.output-index l.outputs) ≡ put_out (g.S.Store.storage l.initial.store) l.call l.text l.outputs
