use Rattle.cx_script_main.proofs.StartLemmas.{runs_file}
use Rattle.cx_script_main.proofs.starting.run_file.Goals as goal

pub returns : goal.returns
returns g c =
    runs_file _ _ _ _ _ _ _ _ _ _ _ _ c.open-opened.ensures.opened c.run_opened.ensures.ran c.run_opened.ensures.unmade
    c.run_opened.ensures.unkept c.run_opened.ensures.unopened
