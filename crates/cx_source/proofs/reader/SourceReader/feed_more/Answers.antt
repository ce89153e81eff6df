use Rattle.std.proofs.Common.{◌≡◌, arith, fold, rules}
use Rattle.std.proofs.lemmas.Grind.{common_steps}
use Rattle.cx_source.specs.Reader.{take_byte}
use Rattle.cx_source.specs.declared.reader.Progress.TheVariants.{Faulty}
use Rattle.cx_source.proofs.ReaderLemmas.{refuses_new}
use Rattle.cx_source.proofs.reader.SourceReader.feed_more.Goals as goal

pub returns-in-Faulty-clause-refused : goal.returns-in-Faulty-clause-refused
returns-in-Faulty-clause-refused c =
    let taken : c.take_bytes.new.self ≡ fold take_byte c.args.self.now c.args.piece.now = grind (arith, common_steps) in
    let faulty : c.take_bytes.new.self.progress ≡ Faulty c.in-Faulty.fault = search rules in
    refuses_new c.in-Faulty.fault c.args.self.now c.take_bytes.new.self c.args.piece.now c.requires taken faulty
