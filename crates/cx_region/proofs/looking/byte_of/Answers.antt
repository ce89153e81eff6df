use Rattle.std.proofs.Common.{sym}
use Rattle.cx_storage.specs.Facts.Sound.{byte_beyond}
use Rattle.cx_region.proofs.looking.byte_of.Goals as goal

pub returns-then-address-ge16777216 : goal.returns-then-address-ge16777216
returns-then-address-ge16777216 g c =
    sym (byte_beyond _ c.args.address (g.met.S.Store.sound c.args.store.now) c.if-address-ge16777216.true)
