use Rattle.std.proofs.Common.{length}
use Rattle.cx_edf_display.proofs.main_page.+put_arguments.Given as goal

abbrev pub decreases-put_arguments : goal.decreases-put_arguments
decreases-put_arguments g l = length l.numbers.now
