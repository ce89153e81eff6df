use Rattle.std.proofs.Common.{◌==◌, Some, rules}
use Rattle.std.proofs.lemmas.Iterator.Consumers.{fold_from_yields_List}
use Rattle.std.proofs.lemmas.Iterator.Splits.{YieldsList-from_slice_split}
use Rattle.cx_edf.specs.Stops.{no_stops, stops_named, with_part}
use Rattle.cx_edf.proofs.stop_words.Stops.named.Goals as goal

pub returns : goal.returns
unfolding stops_named
returns c =
    fold_from_yields_List _ with_part (Some no_stops) c.fold.result c.fold.ensures.ran
    (YieldsList-from_slice_split _ (λ byte. byte == 0x40) c.args.text.now c.split.ensures.rest c.split.ensures.done c.split.ensures.closure (λ x b q call. search rules))
    (λ a x b q call. search rules)
