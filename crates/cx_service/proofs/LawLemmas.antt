-- For the laws.
use Rattle.std.proofs.Common.{◌≡◌, ℕ, zero, suc, ◌<◌, ◌≤◌, Bool, true, false, cond, Option, Some, None, List, [], ◌∷◌, ◌++◌, length, refl, sym, ◌∙◌, ap, arith}
use Rattle.std.specs.Prelude.{slice_get, MatchOption, position, unwrap_or, ◌==◌, ◌≢◌}
use Rattle.std.specs.Option.{option_map}
use Rattle.std.specs.Map.{remove_entry}
use Rattle.std.proofs.lemmas.Bool.{cond-true}
use Rattle.std.proofs.lemmas.Option.{none-some, same_Some}
use Rattle.std.proofs.lemmas.Map.{lookup-remove_entry}
use Rattle.cx_service.specs.Lines.{parts_of, AreLinesOf, new_line}
use Rattle.cx_service.specs.Screen.{full_line, with_lines, screen_before_text, ShowsText}
use Rattle.cx_ebcdic.specs.Names.{is_name}
use Rattle.cx_service.specs.Queues.{Queue, Queues, AreSoundQueues, queue_of, queue_or_empty, write_fault, rewrite_fault, with_item, without_queue}
use Rattle.cx_service.specs.Resources.{Resources, hold_of, hold_fault, enq_fault}
use Rattle.cx_service.specs.declared.resources.ResourceName.{ResourceName}
use Rattle.cx_service.specs.declared.resources.Hold.{Hold}
use Rattle.cx_service.specs.declared.faults.ServiceFault.{ServiceFault}
use Rattle.cx_service.specs.declared.faults.ServiceFault.TheVariants.{Lengerr, Itemerr, Nospace, Qiderr, Enqbusy, Invreq, Memory}
use Rattle.cx_service.proofs.LineLemmas.{one_lines, short_first, parts_whole}
use Rattle.cx_ebcdic.specs.Facts.Names.{is_name-laws}
use Rattle.cx_base.specs.Facts.Lookups.{lookup-insert_entry-same}

pub short_text : (text : List ℕ) → position (λ byte. byte == new_line) text ≡ None → length text ≤ 80 → AreLinesOf text (text ∷ [])
short_text text none short = short_first text text None [] (parts_whole text none) short refl

pub one_shown : (old : List (List ℕ)) (text : List ℕ) (erase : Bool) (one other : List (List ℕ)) → ShowsText old text erase one → ShowsText old text erase other → one ≡ other
one_shown old text erase one other p q =
    p.over ∙ ap (with_lines (screen_before_text old erase)) (one_lines (parts_of text) p.lines q.lines p.are_lines q.are_lines) ∙ sym q.over

pub in_place : (screen lines : List (List ℕ)) (row : ℕ) → row < length screen → MatchOption (slice_get lines row) (slice_get (with_lines screen lines) row ≡ slice_get screen row) (λ line. slice_get (with_lines screen lines) row ≡ Some (full_line line))
unfolding with_lines
in_place [] lines row within = absurd (omega arith)
in_place (top ∷ rest) [] row within = refl
in_place (top ∷ rest) (line ∷ lines) zero within = refl
in_place (top ∷ rest) (line ∷ lines) (suc row) within = in_place rest lines row (omega arith)

-- ---- a queue that is made anew
last_of : Option Queue → Option ℕ
last_of o = let queue : Queue = unwrap_or o (record { items = []; last_read = 0 }) in Some queue.last_read

pub begins_anew : (queues : Queues) (name bytes : List ℕ) → AreSoundQueues queues → option_map (λ (q : Queue). q.last_read) (queue_of (with_item (without_queue queues name) name bytes) name) ≡ Some 0
unfolding with_item without_queue last_of
begins_anew queues name bytes sound =
    let gone : queue_of (remove_entry (is_name name) queues) name ≡ None =
    lookup-remove_entry is_name-laws (is_name name) (is_name-laws.congr name) name queues sound.distinct
    ∙ cond-true (is_name name name) None (queue_of queues name) (is_name-laws.refl name) in
    let queue : Queue = queue_or_empty (remove_entry (is_name name) queues) name in
    ap (option_map (λ (q : Queue). q.last_read)) (lookup-insert_entry-same is_name is_name-laws (remove_entry (is_name name) queues) name (record queue { items = queue.items ++ bytes ∷ [] }))
    ∙ ap last_of gone

-- ---- Memory is none of the conditions
no_memory : (b : Bool) (fault : ServiceFault) (others : Option ServiceFault) → (fault ≡ Memory → ⊥) → (others ≡ Some Memory → ⊥) → cond b (Some fault) others ≡ Some Memory → ⊥
no_memory true fault others other none e = other (same_Some _ _ e)
no_memory false fault others other none e = none e

pub write_no_memory : (queues : Queues) (name : List ℕ) (len : ℕ) → write_fault queues name len ≢ Some Memory
unfolding write_fault
write_no_memory queues name len =
    no_memory _ Lengerr _ (λ e. cc) (no_memory _ Itemerr _ (λ e. cc) (no_memory _ Nospace _ (λ e. cc) (no_memory _ Nospace _ (λ e. cc) (λ e. none-some Memory e))))

pub rewrite_no_memory : (queues : Queues) (name : List ℕ) (n len : ℕ) → rewrite_fault queues name n len ≢ Some Memory
unfolding rewrite_fault
rewrite_no_memory queues name n len =
    no_memory _ Lengerr _ (λ e. cc) (no_memory _ Qiderr _ (λ e. cc) (no_memory _ Itemerr _ (λ e. cc) (no_memory _ Nospace _ (λ e. cc) (λ e. none-some Memory e))))

hold_no_memory : (resources : Resources) (slot : ℕ) (o : Option Hold) → hold_fault resources slot o ≢ Some Memory
hold_no_memory resources slot None = no_memory _ Enqbusy _ (λ e. cc) (λ e. none-some Memory e)
hold_no_memory resources slot (Some hold) = no_memory _ Enqbusy _ (λ e. cc) (no_memory _ Invreq _ (λ e. cc) (λ e. none-some Memory e))

pub enq_no_memory : (resources : Resources) (slot : ℕ) (name : ResourceName) → enq_fault resources slot name ≢ Some Memory
unfolding enq_fault
enq_no_memory resources slot name = hold_no_memory resources slot (hold_of resources name)
