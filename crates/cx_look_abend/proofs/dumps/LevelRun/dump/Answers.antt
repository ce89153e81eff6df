use Rattle.std.proofs.Common.{◌≡◌}
use Rattle.cx_look_abend.proofs.DumpLemmas.{run_gives}
use Rattle.cx_look_abend.proofs.dumps.LevelRun.dump.Goals as goal

pub returns : goal.returns
returns c =
    let view = c.self.view_is in
    let same : c.args.self ≡ record { machine = c.self.inside.machine; room = c.self.inside.room } = cc in
    run_gives c.args.self c.self.inside.machine c.self.inside.room _ _ _ _ same c.run-halt.ensures c.store.ensures c.filled.ensures
