use Rattle.std.proofs.Common.{◌≡◌, ◌∙◌, ap, length, Some, sym}
use Rattle.cx_storage.specs.Facts.Places.{place_decides}
use Rattle.cx_storage.specs.Storage.{with_area, after_write}
use Rattle.cx_load.specs.Program.{IsProgramPlace, program_owner, text_at}
use Rattle.cx_load.proofs.RelocateLemmas.{length-relocated}
use Rattle.cx_load.proofs.LoadLemmas.{whole_list, loaded_from}
use Rattle.cx_load.proofs.program.load.Goals as goal

pub returns-clause-loaded : goal.returns-clause-loaded
returns-clause-loaded g c =
    let before = g.S.Store.storage c.args.store.now in
    let image = c.args.image.now in
    let at = c.in-Some.at in
    let same : c.image-checked.result.now ≡ image = c.image-checked.ensures.value in
    let text : c.as_slice-text.result.now ≡ image.text = cc (c.as_slice-text.ensures, same) in
    let place : IsProgramPlace before (length image.text) (Some at) = rw text at c.in-Some.ensures in
    let chosen : c.in_ok-get_area.field-0 ≡ Some at =
    place_decides before 65536 2097151 (length c.as_slice-text.result.now) _ _ c.in_ok-get_area.ensures.placed c.in-Some.ensures in
    let copied : c.in_ok-bytes.bytes.items ≡ c.as_slice-text.result.now = c.in_ok-bytes.ensures.items_if_clones_equal (λ x y e. e) in
    let moved : c.relocate.new.bytes ≡ text_at at image =
    cc (c.relocate.ensures, c.as_slice.ensures, c.as_mut_slice.ensures.value, copied, text, same) in
    let size : length (text_at at image) ≡ length image.text = length-relocated at image.relocs image.text c.image-checked.ensures.facts.inside in
    let many : c.in_ok-bytes.bytes.len ≡ length c.relocate.new.bytes =
    c.in_ok-bytes.bytes.ok.0 ∙ ap length copied ∙ ap length text ∙ sym size ∙ ap length (sym moved) in
    let bytes : c.as_slice-2.result.now ≡ text_at at image =
    c.as_slice-2.ensures.value ∙ whole_list c.relocate.new.bytes c.in_ok-bytes.bytes.items c.in_ok-bytes.bytes.len many ∙ moved in
    let after : g.S.Store.storage c.write.new.self ≡ after_write (with_area before (Some at) (length image.text) program_owner) at (text_at at image) =
    cc (c.write.ensures.after, c.in_ok-get_area.ensures.after, chosen, text, bytes) in
    let loaded = loaded_from before (g.S.Store.storage c.write.new.self) image at c.image-checked.ensures.fit place after in
    rw (text, same) loaded
