use Rattle.cx_script_actions.specs.Alterations.{hex_number}
use Rattle.cx_script_actions.proofs.HexLemmas.{one_byte}
use Rattle.cx_script_actions.proofs.alterations.hex_byte.Goals as goal

pub returns-then-decode : goal.returns-then-decode
returns-then-decode c = one_byte c.decode.new.bytes (hex_number 1 c.args.word.now) c.decode.result c.decode.ensures.length c.if-decode.true c.decode.ensures.number
