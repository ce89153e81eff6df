use Rattle.cx_service.proofs.LawLemmas.{write_no_memory, rewrite_no_memory, enq_no_memory}
use Rattle.cx_service.proofs.laws.memory_is_no_condition.Goals as goal

pub returns : goal.returns
returns c = record { write = write_no_memory; rewrite = rewrite_no_memory; enq = enq_no_memory }
