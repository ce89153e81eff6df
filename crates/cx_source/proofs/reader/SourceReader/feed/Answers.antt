use Rattle.std.proofs.Common.{◌≡◌, rules}
use Rattle.cx_source.specs.declared.reader.Progress.TheVariants.{Ended, Faulty}
use Rattle.cx_source.proofs.ReaderLemmas.{ended_keeps, refuses_kept}
use Rattle.cx_source.proofs.reader.SourceReader.feed.Goals as goal

pub returns-in-Ended-clause-taken : goal.returns-in-Ended-clause-taken
returns-in-Ended-clause-taken c =
    let ended : c.args.self.now.progress ≡ Ended = search rules in
    ended_keeps c.args.self.now c.args.piece.now ended

pub returns-in-Faulty-clause-refused : goal.returns-in-Faulty-clause-refused
returns-in-Faulty-clause-refused c =
    let faulty : c.args.self.now.progress ≡ Faulty c.in-Faulty.kept = search rules in
    refuses_kept c.in-Faulty.kept c.args.self.now c.args.piece.now faulty
