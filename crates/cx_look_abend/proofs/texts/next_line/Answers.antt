use Rattle.std.proofs.Common.{◌∙◌, ap}
use Rattle.cx_look_symbols.specs.Places.{place_word}
use Rattle.cx_look_abend.proofs.texts.next_line.Goals as goal

pub returns : goal.returns
returns c =
    let place =
    c.deref.ensures.value ∙ c.in_ok-place.ensures ∙ ap (λ places. place_word places c.args.it.now.place) c.places.ensures in
    let instruction = c.deref-2.ensures.value ∙ c.in_ok-instruction.ensures in
    rw (← place, ← instruction) c.line.ensures
