use Rattle.std.proofs.Common.{◌≡◌, ◌+◌, ◌/◌, ◌∙◌, inl, refl, arith}
use Rattle.cx_storage_pages.specs.Parts.Change.{zero_to}
use Rattle.cx_storage_pages.specs.Pages.{byte_in_pages}
use Rattle.cx_storage_pages.proofs.DirectoryLemmas.{fills_none, fills_more, zero_near}
use Rattle.cx_storage_pages.proofs.directory.zero_in.Goals as goal

pub loop-g-init : goal.loop-g-init
loop-g-init c = (omega arith, omega arith, fills_none (c.args.start / 16) (zero_to c.args.end) (byte_in_pages c.args.pages.now.items), λ i. refl)

pub loop-g-preserved : goal.loop-g-preserved
loop-g-preserved c =
    let holds = c.loop-g.invariant in
    let made = holds.3 (c.loop-g.g / 256) ∙ c.requires.made (c.loop-g.g / 256) (omega (arith, holds.0)) (omega arith) in (
      omega (arith, holds.0),
      omega arith,
      fills_more (c.args.start / 16) c.loop-g.g c.min-next.result (zero_to c.args.end) (zero_to c.min.result) (byte_in_pages c.args.pages.now.items) (byte_in_pages c.loop-g.pages.items) (byte_in_pages c.mark_in.new.pages.items) holds.0 (omega arith)
          (λ x near. zero_near c.min-next.result c.args.end c.min.result x (omega arith) near) holds.2 (c.mark_in.ensures.set (inl made)),
      λ i. c.mark_in.ensures.pages i ∙ holds.3 i,
    )

pub returns-clause-filled : goal.returns-clause-filled
returns-clause-filled c = λ x. let holds = c.loop-g.invariant in let done : c.loop-g.g ≡ (c.args.end + 15) / 16 = omega (arith, holds.1) in rw done at (holds.2 x)

pub returns-clause-pages : goal.returns-clause-pages
returns-clause-pages c = c.loop-g.invariant.3
