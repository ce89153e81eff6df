use Rattle.cx_asm_image.proofs.WordLemmas.{word_pushed}
use Rattle.cx_asm_image.proofs.relocated.push_words.Goals as goal

pub loop-copy-preserved : goal.loop-copy-preserved
loop-copy-preserved c =
    word_pushed c.args.relocs.now.items c.loop-copy.relocs.items c.push.new.self.items c.args.at c.loop-copy.copy c.loop-copy.invariant c.in_ok-push.ensures.items
