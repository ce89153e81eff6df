use Rattle.cx_asm_laws.proofs.LiteralLemmas.{all_within_control}
use Rattle.cx_asm_laws.proofs.StandingLemmas.{each_stands, nothing_else_stands}
use Rattle.cx_asm_laws.proofs.laws.statements_stand_at_their_places.Goals as goal

pub returns-clause-stand : goal.returns-clause-stand
returns-clause-stand c = each_stands

pub returns-clause-only : goal.returns-clause-only
returns-clause-only c = nothing_else_stands

pub returns-clause-control : goal.returns-clause-control
returns-clause-control c = all_within_control
