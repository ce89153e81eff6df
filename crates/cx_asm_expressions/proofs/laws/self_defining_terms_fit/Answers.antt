use Rattle.cx_asm_expressions.proofs.DigitLemmas.{digits_fit, characters_fit}
use Rattle.cx_asm_expressions.proofs.laws.self_defining_terms_fit.Goals as goal

pub returns-clause-digits : goal.returns-clause-digits
returns-clause-digits c = digits_fit

pub returns-clause-characters : goal.returns-clause-characters
returns-clause-characters c = characters_fit
