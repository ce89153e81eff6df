use Rattle.std.proofs.Common.{◌≡◌, Some, arith}
use Rattle.cx_storage.specs.Storage.{span}
use Rattle.cx_storage.specs.Facts.Spans.{span_length}
use Rattle.cx_storage_snapshot.proofs.CopyLemmas.{some_gives}
use Rattle.cx_storage_snapshot.proofs.reading.part_at.Goals as goal

pub returns-clause-nonempty : goal.returns-clause-nonempty
returns-clause-nonempty g c =
    let s = g.S.Store.storage c.args.store.now in
    let got : span s c.args.at c.piece.result ≡ Some c.unwrap.result.now = some_gives c.slice.result c.unwrap.result (λ part. span s c.args.at c.piece.result ≡ Some part.now) c.unwrap.ensures c.slice.ensures.bytes in
    let len = span_length s c.args.at c.piece.result c.unwrap.result.now got in
    omega (arith, len)

pub returns-clause-within : goal.returns-clause-within
returns-clause-within g c =
    let s = g.S.Store.storage c.args.store.now in
    let got : span s c.args.at c.piece.result ≡ Some c.unwrap.result.now = some_gives c.slice.result c.unwrap.result (λ part. span s c.args.at c.piece.result ≡ Some part.now) c.unwrap.ensures c.slice.ensures.bytes in
    let len = span_length s c.args.at c.piece.result c.unwrap.result.now got in
    omega (arith, len)

pub returns-clause-bytes : goal.returns-clause-bytes
returns-clause-bytes g c =
    let s = g.S.Store.storage c.args.store.now in
    let got : span s c.args.at c.piece.result ≡ Some c.unwrap.result.now = some_gives c.slice.result c.unwrap.result (λ part. span s c.args.at c.piece.result ≡ Some part.now) c.unwrap.ensures c.slice.ensures.bytes in
    let len = span_length s c.args.at c.piece.result c.unwrap.result.now got in
    rw len got
