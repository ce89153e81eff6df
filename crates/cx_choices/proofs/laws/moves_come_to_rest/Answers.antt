use Rattle.cx_choices.proofs.MoveLemmas as lemmas
use Rattle.cx_choices.proofs.laws.moves_come_to_rest.Goals as goal

pub returns : goal.returns
returns c = lemmas.come_to_rest
