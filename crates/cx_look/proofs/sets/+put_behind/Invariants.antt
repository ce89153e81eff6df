use Rattle.std.proofs.Common.{length}
use Rattle.cx_look.proofs.sets.+put_behind.Given as goal

abbrev pub decreases-put_behind : goal.decreases-put_behind
decreases-put_behind l = length l.text.now
