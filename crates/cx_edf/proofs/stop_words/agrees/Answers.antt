use Rattle.std.proofs.Common.{◌==◌, rules}
use Rattle.std.proofs.lemmas.Iterator.{YieldsList-from_slice, YieldsList-from_zip}
use Rattle.std.proofs.lemmas.Iterator.Search.{all_from_yields_List}
use borrow.Author.Tests.{tests}
use Rattle.cx_ebcdic.specs.Characters.{shown_as}
use Rattle.cx_edf.proofs.stop_words.agrees.Goals as goal

pub returns : goal.returns
returns c =
    all_from_yields_List (λ p. shown_as p.0 == p.1) c.all.new.self _ c.all.result c.all.ensures.ran
    (YieldsList-from_zip (YieldsList-from_slice c.args.bytes.now cc) (YieldsList-from_slice c.args.text.now cc))
    (λ x b q k. search (rules, tests))
