use Rattle.std.proofs.Common.{◌≡◌, ℕ, ◌≤◌, ◌∙◌, Option, Some, None, IfOk, ok_or, ap, sym}
use Rattle.std.specs.Option.{option_copied}
use Rattle.std.specs.Result.{result_ok}
use Rattle.cx_ebcdic.specs.Names.{is_name}
use Rattle.cx_base.specs.Facts.Tables.{found_meets}
use Rattle.cx_service.specs.declared.faults.ServiceFault.TheVariants.{Itemerr}
use Rattle.cx_service.specs.declared.queues.Reading.{Reading}
use Rattle.cx_service.specs.Facts.Readings.{reading_is}
use Rattle.cx_service.specs.Queues.{Queue, queue_of, reading_of_queue, IsSoundQueue}
use Rattle.cx_service.proofs.queues.Queues.reading.Goals as goal

some : (asked : Option ℕ) (queue : Queue) → IsSoundQueue queue → (o : Option Reading) → o ≡ reading_of_queue asked queue → IfOk (ok_or o Itemerr) (λ reading. 1 ≤ reading.len)
some asked queue sound None is = tt
some asked queue sound (Some reading) is = (reading_is asked queue reading sound (sym is)).some

few : (asked : Option ℕ) (queue : Queue) → IsSoundQueue queue → (o : Option Reading) → o ≡ reading_of_queue asked queue → IfOk (ok_or o Itemerr) (λ reading. (reading.len ≤ 32767) × (reading.count ≤ 32767))
few asked queue sound None is = tt
few asked queue sound (Some reading) is = let it = reading_is asked queue reading sound (sym is) in (it.few, it.count)

pub reading-requires : goal.reading-requires
reading-requires c =
    let there : queue_of c.self.inside.queues.entries c.args.name ≡ Some c.in_ok-queue.queue.now = sym c.get.ensures.value ∙ ap option_copied (c.ok_or.ensures.ok_part ∙ ap result_ok c.in_ok-queue.was) in
    found_meets IsSoundQueue (is_name c.args.name) c.self.inside.queues.entries c.in_ok-queue.queue.now c.self.invariant.0.each there

pub returns-clause-some : goal.returns-clause-some
returns-clause-some c =
    let there : queue_of c.self.inside.queues.entries c.args.name ≡ Some c.in_ok-queue.queue.now = sym c.get.ensures.value ∙ ap option_copied (c.ok_or.ensures.ok_part ∙ ap result_ok c.in_ok-queue.was) in
    let sound = found_meets IsSoundQueue (is_name c.args.name) c.self.inside.queues.entries c.in_ok-queue.queue.now c.self.invariant.0.each there in
    rw c.ok_or-2.ensures.value (some c.args.asked c.in_ok-queue.queue.now sound c.reading.result c.reading.ensures.reading)

pub returns-clause-at_most_32767 : goal.returns-clause-at_most_32767
returns-clause-at_most_32767 c =
    let there : queue_of c.self.inside.queues.entries c.args.name ≡ Some c.in_ok-queue.queue.now = sym c.get.ensures.value ∙ ap option_copied (c.ok_or.ensures.ok_part ∙ ap result_ok c.in_ok-queue.was) in
    let sound = found_meets IsSoundQueue (is_name c.args.name) c.self.inside.queues.entries c.in_ok-queue.queue.now c.self.invariant.0.each there in
    rw c.ok_or-2.ensures.value (few c.args.asked c.in_ok-queue.queue.now sound c.reading.result c.reading.ensures.reading)
