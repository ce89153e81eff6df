use Rattle.std.proofs.Common.{◌≡◌, ◌+◌, ◌/◌, None, inr, refl, arith}
use Rattle.cx_storage_pages.specs.Parts.Change.{zero_to}
use Rattle.cx_storage_pages.specs.Pages.{byte_in_pages}
use Rattle.cx_storage_pages.proofs.DirectoryLemmas.{fills_none, fills_more, zero_none}
use Rattle.cx_storage_pages.proofs.directory.clear_in.Goals as goal

pub loop-g-init : goal.loop-g-init
loop-g-init c = (omega arith, omega arith, fills_none (c.args.start / 16) (λ _. None) (byte_in_pages c.args.pages.now.items))

pub loop-g-preserved : goal.loop-g-preserved
loop-g-preserved c =
    let holds = c.loop-g.invariant in (
      omega (arith, holds.0),
      omega arith,
      fills_more (c.args.start / 16) c.loop-g.g c.min-next.result (λ _. None) (zero_to 0) (byte_in_pages c.args.pages.now.items) (byte_in_pages c.loop-g.pages.items) (byte_in_pages c.mark_in.new.pages.items) holds.0 (omega arith)
          (λ x _. zero_none x) holds.2 (c.mark_in.ensures.set (inr refl)),
    )

pub returns : goal.returns
returns c = λ x. let holds = c.loop-g.invariant in let done : c.loop-g.g ≡ (c.args.end + 15) / 16 = omega (arith, holds.1) in rw done at (holds.2 x)
