use Rattle.std.proofs.Common.{ap, length, sym, ◌∙◌}
use Rattle.cx_look.specs.Parts.{few}
use Rattle.cx_look.specs.Sets.{set_texts}
use Rattle.cx_look.proofs.SetLemmas.{piece_none, piece_some}
use Rattle.cx_look.proofs.sets.count_of_piece.Goals as goal

pub returns-in-Some : goal.returns-in-Some
returns-in-Some c =
    c.count_of_set.ensures ∙ ap (λ inside. few (length (set_texts inside))) c.split_at.ensures.front
    ∙ piece_some c.args.piece.now c.in-Some.place (sym c.place_of.ensures ∙ c.in-Some.is)

pub returns-in-None : goal.returns-in-None
returns-in-None c = piece_none c.args.piece.now (sym c.place_of.ensures ∙ c.in-None.is)
