use Rattle.std.proofs.lemmas.Result.{err_from_is_err_and}
use Rattle.cx_source.proofs.ReaderLemmas.{reads_refused}
use Rattle.cx_source.proofs.reader.read_source.Goals as goal

pub returns-in_err-feed : goal.returns-in_err-feed
returns-in_err-feed c =
    let p = err_from_is_err_and c.from_residual.result c.from_residual.ensures.1 in
    rw (p.1, p.2) (reads_refused _ c.args.bytes.now c.feed.new.self (rw c.new-reader.ensures at c.in_err-feed.ensures.refused))
