use Rattle.std.proofs.Common.{length}
use Rattle.cx_look.proofs.sets.+put_set.Given as goal

abbrev pub decreases-put_set : goal.decreases-put_set
decreases-put_set l = length l.inside.now
