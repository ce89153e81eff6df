use Rattle.std.proofs.Common.{◌≡◌, ℕ, Option, Result, Ok, Err, IfOk, OnErr}
use Rattle.cx_storage.specs.Aligned.{AreAligned}
use Rattle.cx_storage.specs.Place.{IsLeastPlace}
use Rattle.cx_storage.specs.Storage.{Storage, with_area}
use Rattle.cx_storage.specs.Facts.Aligned.{aligned_with_area}
use Rattle.cx_storage.specs.declared.areas.Owner.{Owner}
use Rattle.cx_storage.proofs.flat.FlatStoreStore.get_area.Goals as goal

after_get : {E : Type 0} (r : Result (Option ℕ) E) (old new : Storage) (first last len : ℕ) (owner : Owner) → IfOk r (IsLeastPlace old first last len)
    → IfOk r (λ start. new ≡ with_area old start len owner) → OnErr r (new ≡ old) → AreAligned old → AreAligned new
after_get (Ok start) old new first last len owner least is err all = rw is (aligned_with_area old first last len start owner least all)
after_get (Err e) old new first last len owner least is err all = rw err all

pub invariant_of-self-clause-at_multiples : goal.invariant_of-self-clause-at_multiples
invariant_of-self-clause-at_multiples c =
    let self = c.args.self.now in
    after_get c.get_in.result self.blocks.items c.get_in.new.blocks.items c.args.first c.args.last c.args.len c.args.owner c.get_in.ensures.placed c.get_in.ensures.after c.get_in.ensures.err self.at_multiples
