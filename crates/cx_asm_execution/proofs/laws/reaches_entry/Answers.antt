-- The instructions made, from the first of them to the entry.
use Rattle.cx_asm_execution.proofs.Ready.{Known}
use Rattle.cx_asm_execution.proofs.ArrivalLemmas.{arrives}
use Rattle.cx_asm_execution.proofs.laws.reaches_entry.Goals as goal

pub returns : goal.returns
returns c =
    let known : Known = record {
      spells = c.every_spelling.ensures.spells;
      size = c.every_spelling.ensures.length;
      fetched = c.spelled_is_fetched.ensures;
      joined = c.runs_join.ensures.steps;
      sound = c.sound_kept.ensures;
      words = c.word_after_write.ensures;
    } in
    arrives known c.call_is_read.ensures
