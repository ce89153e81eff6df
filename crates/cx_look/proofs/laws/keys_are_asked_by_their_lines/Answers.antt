use Rattle.cx_look.proofs.ReadLemmas.{choices_are_asked, keys_are_asked}
use Rattle.cx_look.proofs.laws.keys_are_asked_by_their_lines.Goals as goal

pub returns : goal.returns
returns c = record { orders = keys_are_asked; choices = choices_are_asked }
