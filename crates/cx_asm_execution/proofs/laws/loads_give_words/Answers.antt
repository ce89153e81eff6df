-- Loads after a call.
use Rattle.cx_asm_execution.proofs.LoadLemmas.{Fetching, loads_give_words}
use Rattle.cx_asm_execution.proofs.laws.loads_give_words.Goals as goal

pub returns : goal.returns
returns c =
    let known : Fetching = record { spells = c.every_spelling.ensures.spells; size = c.every_spelling.ensures.length; fetched = c.spelled_is_fetched.ensures } in
    loads_give_words known
