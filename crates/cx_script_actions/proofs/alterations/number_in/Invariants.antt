use Rattle.std.proofs.Common.{◌≡◌, ◌<◌, ◌^◌, take}
use Rattle.cx_script_actions.specs.Alterations.{number_in}
use Rattle.cx_script_actions.proofs.alterations.number_in.Given as goal

abbrev pub invariant-loop-byte : goal.invariant-loop-byte
invariant-loop-byte l = (l.number ≡ number_in (take l.byte-index l.bytes)) × (l.number < 256 ^ l.byte-index)
