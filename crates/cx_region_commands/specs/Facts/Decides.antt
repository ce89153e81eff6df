-- Each row decides.
use Rattle.std.proofs.Common.{◌≡◌, ℕ, Bool, true, false, List, Option, Some, None, sym, ap, ◌∙◌}
use Rattle.std.specs.Prelude.{◌&&◌, MatchBool, MatchOption, nat_lt, length}
use Rattle.cx_base.specs.declared.commands.Command.{Command}
use Rattle.cx_base.specs.declared.commands.Command.TheVariants as command
use Rattle.cx_base.specs.declared.abends.Abend.TheVariants as abend
use Rattle.cx_base.specs.declared.options.OptionName.TheVariants as option
use Rattle.cx_load.specs.declared.program.Loaded.{Loaded}
use Rattle.cx_program.specs.Levels.{Levels}
use Rattle.cx_service.specs.Queues.{Queues, queue_of, reading_of_queue}
use Rattle.cx_storage.specs.Facts.Places.{place_decides}
use Rattle.cx_storage.specs.Storage.{Storage}
use Rattle.cx_region_state.specs.Call.{Call}
use Rattle.cx_region_state.specs.Inputs.{halfword_of, is_length_negative}
use Rattle.cx_region_state.specs.declared.inputs.StorageSpan.{StorageSpan}
use Rattle.cx_region_state.specs.State.{TaskContext}
use Rattle.cx_region_state.specs.declared.verdict.Verdict.{Verdict}
use Rattle.cx_region_state.specs.declared.verdict.Verdict.TheVariants.{Refuses}
use Rattle.cx_region_commands.specs.declared.common.Called.{Called}
use Rattle.cx_region_commands.specs.Common.{AtPlace, commarea_of, has, name_at, named_program}
use Rattle.cx_region_commands.specs.Getmain.{GetmainRow, asked_len, is_area_length}
use Rattle.cx_region_commands.specs.CommandVerdicts.{HasVerdict, JudgedBy}
use Rattle.cx_region_commands.specs.Link.{LinkRow, Links}
use Rattle.cx_region_commands.specs.ReadqTs.{ReadsQueueItem, ReadqRow}
use Rattle.cx_region_commands.specs.Xctl.{Copies, Transfers, XctlRow, XctlTo, copying_to}

both_tests : {A B A2 B2 C : Type 0} (b : Bool) → MatchBool b A B → MatchBool b A2 B2 → (A → A2 → C) → (B → B2 → C) → C
both_tests true m n f g = f m n
both_tests false m n f g = g m n

both_options : {X A A2 C : Type 0} {B B2 : X → Type 0} (o : Option X) → MatchOption o A B → MatchOption o A2 B2 → (A → A2 → C) → ((x : X) → B x → B2 x → C) → C
both_options None m n f g = f m n
both_options (Some x) m n f g = g x m n

-- two equal to one
same : {v w x : Verdict} → v ≡ x → w ≡ x → v ≡ w
same e f = e ∙ sym f

at_place : (s : Storage) (len : ℕ) (row : Option ℕ → Verdict) (v w : Verdict) → AtPlace s len row v → AtPlace s len row w → v ≡ w
at_place s len row v w one other =
    one.is ∙ ap row (place_decides s _ _ len one.place other.place one.least other.least) ∙ sym other.is

link_once : (s : Storage) (programs : List (List ℕ × Loaded)) (levels : Levels) (call : Call) (v w : Verdict)
    → LinkRow s programs levels call v → LinkRow s programs levels call w → v ≡ w
unfolding LinkRow Links
link_once s programs levels call v w one other =
    both_tests (is_length_negative s call) one other same
    (λ m n. both_options (named_program s call programs) m n same
    (λ called l k. both_tests (nat_lt (length levels.callers) 15) l k (at_place s _ _ v w) same))

copies_once : (s : Storage) (slot : ℕ) (called : Called) (piece : StorageSpan) (v w : Verdict) → Copies s slot called piece v → Copies s slot called piece w → v ≡ w
copies_once s slot called piece v w one other =
    go one.place other.place (place_decides s _ _ piece.len one.place other.place one.least other.least) one.goes other.goes
  where
    go : (p q : Option ℕ) → p ≡ q
        → MatchOption p (v ≡ Refuses abend.Xstg) (λ to. Transfers s slot called (Some (copying_to piece to)) v)
        → MatchOption q (w ≡ Refuses abend.Xstg) (λ to. Transfers s slot called (Some (copying_to piece to)) w) → v ≡ w
    go None None e m n = same m n
    go None (Some b) e m n = cc
    go (Some a) None e m n = cc
    go (Some a) (Some b) e m n =
        let here : a ≡ b = cc in
        let moved = rw here at m in
        at_place _ _ _ v w moved n

xctl_once : (s : Storage) (slot : ℕ) (programs : List (List ℕ × Loaded)) (call : Call) (v w : Verdict)
    → XctlRow s slot programs call v → XctlRow s slot programs call w → v ≡ w
unfolding XctlRow XctlTo
xctl_once s slot programs call v w one other =
    both_tests (is_length_negative s call) one other same
    (λ m n. both_options (named_program s call programs) m n same
    (λ called l k. both_options (commarea_of s call) l k (at_place _ _ _ v w) (λ piece c d. copies_once s slot called piece v w c d)))

getmain_once : (s : Storage) (call : Call) (v w : Verdict) → GetmainRow s call v → GetmainRow s call w → v ≡ w
unfolding GetmainRow
getmain_once s call v w one other = both_tests (is_area_length (asked_len s call)) one other (at_place s _ _ v w) same

readq_once : (s : Storage) (queues : Queues) (call : Call) (v w : Verdict) → ReadqRow s queues call v → ReadqRow s queues call w → v ≡ w
unfolding ReadqRow ReadsQueueItem
readq_once s queues call v w one other =
    both_tests (has call option.Into && is_length_negative s call) one other same
    (λ l k. both_options (queue_of queues (name_at s call option.Queue)) l k same
    (λ queue l k. both_options (reading_of_queue (halfword_of s call option.Item) queue) l k same
    (λ reading l k. both_tests (has call option.Set) l k (at_place s _ _ v w) same)))

pub judged_once : (call : Call) (r : TaskContext) (one other : Verdict) → HasVerdict call r one → HasVerdict call r other → one ≡ other
unfolding HasVerdict
judged_once call r v w one other = go call.command one other
  where
    go : (c : Command) → JudgedBy c call r v → JudgedBy c call r w → v ≡ w
    go command.ReadqTs m n = readq_once r.shared.storage r.shared.queues call v w m n
    go command.Getmain m n = getmain_once r.shared.storage call v w m n
    go command.Link m n = link_once r.shared.storage r.shared.programs r.task.levels call v w m n
    go command.Xctl m n = xctl_once r.shared.storage r.terminal_entry.slot r.shared.programs call v w m n
    go _ m n = same m n
