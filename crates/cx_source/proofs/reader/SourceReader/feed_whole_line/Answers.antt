use Rattle.std.proofs.Common.{◌≡◌, arith, rules}
use Rattle.std.proofs.lemmas.Grind.{common_steps}
use Rattle.cx_source.specs.Reader.{take_line}
use Rattle.cx_source.specs.declared.reader.Progress.TheVariants.{Faulty}
use Rattle.cx_source.proofs.ReaderLemmas.{refuses_line}
use Rattle.cx_source.proofs.reader.SourceReader.feed_whole_line.Goals as goal

pub returns-in-Faulty-clause-refused : goal.returns-in-Faulty-clause-refused
returns-in-Faulty-clause-refused c =
    let taken : c.end_line.new.self ≡ take_line c.args.self.now c.args.line.now = grind (arith, common_steps) in
    let faulty : c.end_line.new.self.progress ≡ Faulty c.in-Faulty.fault = search rules in
    refuses_line c.in-Faulty.fault c.args.self.now c.end_line.new.self c.args.continues c.args.line.now c.requires taken faulty
