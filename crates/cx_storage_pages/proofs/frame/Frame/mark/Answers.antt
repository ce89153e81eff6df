use Rattle.cx_storage_pages.specs.Pages.{frame_byte}
use Rattle.cx_storage_pages.proofs.ReachLemmas.{counts_marked, marked_shows}
use Rattle.cx_storage_pages.proofs.frame.Frame.mark.Goals as goal

pub returns : goal.returns
unfolding frame_byte
returns c =
    marked_shows c.args.self.now.bytes c.zero_bytes.new.bytes c.args.self.now.counts c.count.new.counts c.args.first c.args.end c.args.to
    (counts_marked c.args.self.now.counts c.cut.new.counts c.count.new.counts c.args.first c.args.end c.args.to c.cut.ensures c.count.ensures) c.zero_bytes.ensures c.requires.in_granules
