use Rattle.std.proofs.Common.{◌≡◌, rules}
use Rattle.cx_source.specs.declared.reader.Progress.TheVariants.{Ended, Faulty}
use Rattle.cx_source.proofs.ReaderLemmas.{ended_keeps_line, refuses_kept_line}
use Rattle.cx_source.proofs.reader.SourceReader.feed_line.Goals as goal

pub returns-in-Ended-clause-taken : goal.returns-in-Ended-clause-taken
returns-in-Ended-clause-taken c =
    let ended : c.args.self.now.progress ≡ Ended = search rules in
    ended_keeps_line c.args.self.now c.args.line.now ended

pub returns-in-Faulty-clause-refused : goal.returns-in-Faulty-clause-refused
returns-in-Faulty-clause-refused c =
    let faulty : c.args.self.now.progress ≡ Faulty c.in-Faulty.met = search rules in
    refuses_kept_line c.in-Faulty.met c.args.self.now c.args.line.now faulty
