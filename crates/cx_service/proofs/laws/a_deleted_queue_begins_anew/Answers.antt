use Rattle.cx_service.proofs.LawLemmas.{begins_anew}
use Rattle.cx_service.proofs.laws.a_deleted_queue_begins_anew.Goals as goal

pub returns : goal.returns
returns c = begins_anew
