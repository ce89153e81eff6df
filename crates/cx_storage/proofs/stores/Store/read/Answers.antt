use Rattle.std.proofs.Common.{◌≡◌, ◌-◌, ◌+◌, is_some, true, sym, refl, ◌∙◌, arith, length, length-set, unwrap_or}
use Rattle.cx_storage.specs.Storage.{byte_at, span}
use Rattle.cx_storage.specs.Facts.Spans.{span_present, span_first}
use Rattle.cx_storage.proofs.Filling.{joined_nil, joined_more}
use Rattle.cx_storage.proofs.stores.Store.read.Goals as goal

pub filled-preserved : goal.filled-preserved
filled-preserved g c =
    let s = g.Self.Store.storage c.args.self.now in
    let k = c.filled.value-index in
    let n = length c.filled.buffer in
    let there : is_some (byte_at s c.filled.at) ≡ true = span_first s c.filled.at (n - k) c.filled.invariant.1 (omega arith) in
    let value : c.unwrap_or.result ≡ unwrap_or (byte_at s c.filled.at) 0 = cc in
    let next = c.next_address-at.ensures.value in
    let more : n - (k + 1) ≡ n - k - 1 = omega arith in
    let same = length-set c.filled.buffer k c.unwrap_or.result in (
      omega arith,
      rw (same, more, next) (sym (span_present s c.filled.at (n - k) there (omega arith)) ∙ c.filled.invariant.1),
      rw (same, more, next, value) (c.filled.invariant.2 ∙ sym (joined_more s c.filled.at k (n - k) c.filled.buffer (omega arith) there (omega arith))),
    )

pub filled-init : goal.filled-init
filled-init g c =
    let s = g.Self.Store.storage c.args.self.now in
    let n = length c.args.buffer.now in
    let whole : is_some (span s c.args.a n) ≡ true = cc in
    let all : n - 0 ≡ n = omega arith in
    (c.requires.address, rw all whole, rw (joined_nil, all) refl)
