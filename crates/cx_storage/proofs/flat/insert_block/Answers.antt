use Rattle.std.proofs.Common.{◌≡◌, sym, ap, ◌∙◌}
use Rattle.std.specs.List.{insert}
use Rattle.cx_storage.specs.Parts.Flat.{spot}
use Rattle.cx_storage.proofs.Walks.{put_held_spot}
use Rattle.cx_storage.proofs.flat.insert_block.Goals as goal

pub returns-clause-ok : goal.returns-clause-ok
returns-clause-ok c =
    let s = c.args.blocks.now.items in
    let at : c.spot_of-i.result ≡ spot c.args.block.area.start s = c.spot_of-i.ensures.value ∙ ap (λ area. spot area.start s) c.area.ensures in
    c.in_ok-insert.ensures.items ∙ ap (λ i. insert s i c.args.block) at ∙ sym (put_held_spot c.args.block s)
