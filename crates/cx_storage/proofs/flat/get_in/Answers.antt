use Rattle.std.proofs.Common.{◌≡◌, sym, ◌∙◌, Some, replicate, refl, rules}
use Rattle.cx_storage.specs.Facts.Sound.{sound_with_area}
use Rattle.cx_storage.proofs.Walks.{place_is_some, with_area_none, with_area_some}
use Rattle.cx_storage.proofs.flat.get_in.Goals as goal
use Rattle.cx_storage.proofs.flat.get_in.Goals.{In_ok-bytes}

pub returns-in_default-clause-after : goal.returns-in_default-clause-after
returns-in_default-clause-after c = sym (with_area_none c.args.blocks.now.items c.args.len c.args.owner)

pub returns-in_err-bytes-clause-no_place : goal.returns-in_err-bytes-clause-no_place
returns-in_err-bytes-clause-no_place c = λ none. absurd (place_is_some _ _ _ _ _ c.in-Some.ensures none)

-- the new area's bytes are zero
fresh : (c : In_ok-bytes) → c.in_ok-bytes.bytes.items ≡ replicate c.args.len 0
fresh c = search rules

pub returns-in_err-insert_block-clause-no_place : goal.returns-in_err-insert_block-clause-no_place
returns-in_err-insert_block-clause-no_place c = λ none. absurd (place_is_some _ _ _ _ _ c.in-Some.ensures none)

pub returns-clause-after : goal.returns-clause-after
returns-clause-after c =
    let s = c.args.blocks.now.items in
    let made = fresh (goal.at.returns-clause-after c).In_ok-bytes in
    c.in_ok-insert_block.ensures.ok ∙ rw made refl ∙ sym (with_area_some s c.in-Some.start c.args.len c.args.owner)

pub returns-clause-no_place : goal.returns-clause-no_place
returns-clause-no_place c = λ none. absurd (place_is_some _ _ _ _ _ c.in-Some.ensures none)

pub returns-clause-sound : goal.returns-clause-sound
returns-clause-sound c =
    rw (returns-clause-after c) (sound_with_area c.args.blocks.now.items c.args.first c.args.last c.args.len (Some c.in-Some.start) c.args.owner c.requires.sound c.requires.last c.requires.len c.in-Some.ensures)
