use Rattle.std.proofs.Common.{◌≡◌, ◌<◌, true, None, length, sym, ◌∙◌, arith}
use Rattle.std.proofs.lemmas.List.{get_or_default}
use Rattle.cx_storage.specs.Storage.{byte_at, covers}
use Rattle.cx_storage.proofs.WriteLemmas.{with_byte_absent}
use Rattle.cx_storage.specs.Facts.Sound.{sound_with_byte}
use Rattle.cx_storage.proofs.Walks.{present_found, set_found, byte_end}
use Rattle.cx_storage.proofs.flat.set_in.Goals as goal

pub returns-then-covers-clause-present : goal.returns-then-covers-clause-present
returns-then-covers-clause-present c =
    let at = rw c.loop-i.invariant.0 at c.index.ensures in
    let there : covers c.index.result.now.area c.args.a ≡ true = sym c.covers.ensures ∙ c.if-covers.true in
    let within : c.loop-i.i < length c.args.blocks.now.items = omega (arith, c.args.blocks.now.ok.0) in
    sym (present_found c.args.blocks.now.items c.loop-i.i c.args.a c.index.result.now c.requires within at there)

pub returns-then-covers-clause-after : goal.returns-then-covers-clause-after
returns-then-covers-clause-after c =
    let at = rw c.loop-i.invariant.0 at c.index.ensures in
    let at_mut = rw c.loop-i.invariant.0 at c.index_mut-block.ensures.value in
    let there : covers c.index.result.now.area c.args.a ≡ true = sym c.covers.ensures ∙ c.if-covers.true in
    let within : c.loop-i.i < length c.args.blocks.now.items = omega (arith, c.args.blocks.now.ok.0) in
    let same : c.index_mut-block.result.now ≡ c.index.result.now = at_mut ∙ get_or_default c.args.blocks.now.items c.loop-i.i c.index_mut-block.result.now c.index.result.now within ∙ sym at in
    rw (c.loop-i.invariant.0, c.put.ensures, same) (set_found c.args.blocks.now.items c.loop-i.i c.args.a c.args.value c.index.result.now c.requires within at there)

pub returns-then-covers-clause-sound : goal.returns-then-covers-clause-sound
returns-then-covers-clause-sound c = rw (returns-then-covers-clause-after c) (sound_with_byte _ _ _ c.requires c.ranges.value.fits)

pub returns-clause-after : goal.returns-clause-after
returns-clause-after c =
    let s = c.args.blocks.now.items in
    let gone = rw c.loop-i.invariant.0 at c.loop-i.invariant.1 in
    let absent : byte_at s c.args.a ≡ None = sym gone ∙ byte_end s c.loop-i.i c.args.a (omega (arith, c.args.blocks.now.ok.0)) in
    c.loop-i.invariant.0 ∙ sym (with_byte_absent s c.args.a c.args.value c.requires absent)
