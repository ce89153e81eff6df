use Rattle.std.proofs.Common.{◌≡◌, ◌∙◌, true, false, sym}
use Rattle.std.proofs.lemmas.Bool.{true≢false}
use Rattle.cx_service.specs.declared.faults.ServiceFault.TheVariants.{Itemerr, Qiderr}
use Rattle.cx_region_commands.proofs.ReadingLemmas.{by_answer}
use Rattle.cx_region_commands.proofs.readq_ts.reads_queue.Goals as goal

pub returns-in-Ok : goal.returns-in-Ok
returns-in-Ok g c =
    rw (← c.item_asked.ensures)
    (by_answer c.args.queues.now c.args.name c.item_asked.result c.reading.result c.reading.ensures.reading (λ e. cc) (λ e. cc)
    (λ reading e. let same : reading ≡ c.in-Ok.reading = cc in rw same c.reads.ensures))

pub returns-in-Err : goal.returns-in-Err
returns-in-Err g c =
    rw (← c.item_asked.ensures)
    (by_answer c.args.queues.now c.args.name c.item_asked.result c.reading.result c.reading.ensures.reading (λ e. c.condition_alone.ensures)
    (λ e.
    let fault : c.in-Err.fault ≡ Itemerr = cc in
    let other : c.eq.result ≡ false = rw fault at c.eq.ensures in
    absurd (true≢false (sym c.if-eq.true ∙ other)))
    (λ reading e. cc))

pub returns-in-Err-2 : goal.returns-in-Err-2
returns-in-Err-2 g c =
    rw (← c.item_asked.ensures)
    (by_answer c.args.queues.now c.args.name c.item_asked.result c.reading.result c.reading.ensures.reading
    (λ e.
    let fault : c.in-Err.fault ≡ Qiderr = cc in
    let same : c.eq.result ≡ true = rw fault at c.eq.ensures in
    absurd (true≢false (sym same ∙ c.if-eq.false)))
    (λ e. c.condition_alone-in-Err-2.ensures) (λ reading e. cc))
