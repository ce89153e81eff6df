use Rattle.std.proofs.Common.{◌≤◌, ℕ, List, length, subst, sym, ap, ◌∙◌}
use Rattle.std.specs.Map.{lookup}
use Rattle.cx_ebcdic.specs.Names.{is_name}
use Rattle.cx_look_tables.proofs.ItemLemmas.{few_bytes}
use Rattle.cx_look_tables.proofs.queues.item_of.Goals as goal

-- the queue found is one of a sound list of queues
pub returns-clause-at_most_32767 : goal.returns-clause-at_most_32767
returns-clause-at_most_32767 c =
    let P : List ℕ → Type 0 = λ bytes. length bytes ≤ 32767 in
    subst P (sym c.as_slice.ensures)
    (few_bytes c.args.queues.now c.args.name c.args.n c.in_ok-queue.queue.now c.in_ok-item.item.now c.all.ensures.sound
    (ap (λ queues. lookup (is_name c.args.name) queues) (sym c.all.ensures.queues) ∙ sym c.in_ok-queue.ensures.value)
    (sym c.in_ok-item.ensures))
