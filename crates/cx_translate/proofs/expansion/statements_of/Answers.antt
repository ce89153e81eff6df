use Rattle.std.proofs.Common.{rules}
use Rattle.cx_base.specs.Commands as X2
use Rattle.cx_translate.specs.Pieces.{pieces_of}
use Rattle.cx_translate.specs.Words.{words_of}
use Rattle.cx_translate.specs.Refusals.{command_in, refusal_of}
use Rattle.cx_translate.proofs.expansion.statements_of.Goals as goal

pub returns-in-Some-fault_in-clause-fault : goal.returns-in-Some-fault_in-clause-fault
unfolding refusal_of command_in words_of pieces_of X2.command_named
returns-in-Some-fault_in-clause-fault c = λ n. search rules
