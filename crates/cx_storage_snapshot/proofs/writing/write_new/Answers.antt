use Rattle.std.proofs.Common.{◌≡◌, sym, length, Some}
use Rattle.std.proofs.lemmas.Bool.Decides.{Decides-eqb}
use Rattle.std.proofs.lemmas.Slice.Eq.{slice_eq-Decides}
use Rattle.cx_storage.specs.Storage.{span}
use Rattle.cx_storage_snapshot.proofs.SameLemmas.{same_write}
use Rattle.cx_storage_snapshot.proofs.writing.write_new.Goals as goal

pub returns-then-is_there : goal.returns-then-is_there
returns-then-is_there g c =
    let s = g.S.Store.storage c.args.store.now in
    let bytes = c.args.bytes.now in
    let same : c.in-Some.part.now ≡ bytes = (slice_eq-Decides Decides-eqb _ _ _ c.eq-is_there.ensures).0 c.if-is_there.true in
    let there : span s c.args.at (length bytes) ≡ Some bytes = rw same at c.in-Some.ensures.bytes in
    sym (same_write s c.args.at bytes c.store_is_sound.ensures there)
