use Rattle.cx_script_main.proofs.KeepLemmas.{runs_kept, runs_unkept}
use Rattle.cx_script_main.proofs.program.run_keeping.Goals as goal

pub returns-clause-ran : goal.returns-clause-ran
returns-clause-ran g c =
    runs_kept _ _ _ _ _ _ _ _ _ _ _ c.new-devices.ensures.devices c.new-devices.ensures.kept c.into_kept-read.ensures c.run_reader-answer.ensures.ran

pub returns-clause-unkept : goal.returns-clause-unkept
returns-clause-unkept g c =
    runs_unkept _ _ _ _ _ _ _ _ _ _ c.new-devices.ensures.kept c.into_kept-read.ensures c.run_reader-answer.ensures.ran c.run_reader-answer.ensures.unmade
