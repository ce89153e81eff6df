-- The command that was due, of a half-turn that isn't answered by a wait: it was refused, or has met a condition.
use Rattle.std.proofs.Common.{◌≡◌, ℕ, Bool, true, false, Option, Some, None, List, [], ◌∷◌, refl, sym, ◌∙◌, ap, subst, arith, inl, inr}
use Rattle.std.specs.Prelude.{◌⊎◌, MatchBool, if◌then◌else◌}
use Rattle.std.proofs.lemmas.Bool.{cases_Bool, true≢false}
use Rattle.std.proofs.lemmas.Option.{same_Some}
use Rattle.cx_base.specs.Abends.{abend_code}
use Rattle.cx_base.specs.declared.abends.Abend.TheVariants as abend
use Rattle.cx_base.specs.declared.commands.Command.TheVariants as command
use Rattle.cx_base.specs.declared.conditions.Condition.{Condition}
use Rattle.cx_base.specs.declared.conditions.Condition.TheVariants.{Normal}
use Rattle.cx_base.specs.Commands.{row_of}
use Rattle.cx_base.specs.Conditions.{entry_of}
use Rattle.cx_exec.specs.declared.machine.Halt.{Halt}
use Rattle.cx_exec.specs.declared.machine.Halt.TheVariants as halt
use Rattle.cx_program.specs.declared.choice.Choice.{Choice}
use Rattle.cx_program.specs.declared.choice.Choice.TheVariants as choice
use Rattle.cx_program.specs.declared.level.Level.{Level}
use Rattle.cx_storage.specs.Address.{address_in}
use Rattle.cx_storage.specs.Storage.{starts_elsewhere}
use Rattle.cx_region_state.specs.declared.outputs.Output.{Output}
use Rattle.cx_region_state.specs.Call.{Call}
use Rattle.cx_region_state.specs.State.{TaskContext}
use Rattle.cx_region_state.specs.declared.replies.TurnReply.{TurnReply}
use Rattle.cx_region_state.specs.declared.replies.TurnReply.TheVariants as turn
use Rattle.cx_region_state.specs.declared.verdict.AfterOutputs.{AfterOutputs}
use Rattle.cx_region_state.specs.declared.verdict.AfterOutputs.TheVariants.{TakesInput, MarksRead, QueueGone, Dequeues, Frees}
use Rattle.cx_region_state.specs.declared.verdict.Fill.{Fill}
use Rattle.cx_region_state.specs.declared.verdict.Fill.TheVariants.{Byte, Item}
use Rattle.cx_region_state.specs.declared.verdict.NewLevel.{NewLevel}
use Rattle.cx_region_state.specs.declared.verdict.TaskChange.{TaskChange}
use Rattle.cx_region_state.specs.declared.verdict.TaskChange.TheVariants.{Nothing, Before, After, Gets, Enters, Replaces, LevelEnds, TaskEnds, AbendsWith}
use Rattle.cx_region_state.specs.declared.verdict.Verdict.TheVariants.{Meets}
use Rattle.cx_region_commands.specs.CommandVerdicts.{HasVerdict}
use Rattle.cx_region_task.specs.declared.continuation.Continuation.{Continuation}
use Rattle.cx_region_task.specs.declared.continuation.Continuation.TheVariants as continuation
use Rattle.cx_region_task.specs.Abends.{Abends, AbendsAt}
use Rattle.cx_region_task.specs.Decisions.{continuation_at}
use Rattle.cx_region_task.specs.Changes.{apply_after, read_for, report_of}
use Rattle.cx_region_task.specs.Facts.Met.{IsMet, by_decision}
use Rattle.cx_region_task.specs.declared.cause.AbendRecord.{AbendRecord}
use Rattle.cx_region_task.specs.Turn.{HalfTurn, HalfTurnWith, PerformsCommand, EndsRun, RunsOn}
use Rattle.cx_region_task.specs.Continuations.{Goes, choice_for, is_normal, continuation_by, continuation_chosen, continuation_of, replace_level, return_to_caller, returned_to, enter_level}
use Rattle.cx_region_laws.specs.Laws.Reports.{condition_of, function_after}
use Rattle.cx_region_laws.proofs.ReturnLemmas.{ends_level, goes_ends, judged_ends, way_ends}
use Rattle.cx_region_laws.proofs.RowLemmas.{passes}
use Rattle.cx_region_laws.proofs.StayingLemmas.{IsFreed, none_freed}

-- ---- a condition that is met
pub record IsRefused (reply : TurnReply) (before after : TaskContext) : Type 0 where
  pub code : List ℕ
  pub abends : Abends code false before reply after

is_waiting : TurnReply → Bool
is_waiting turn.Waiting = true
is_waiting _ = false

commanded_met : (reply : TurnReply) (abend_record : Option AbendRecord) (before after : TaskContext) → is_waiting reply ≡ false → PerformsCommand before reply abend_record after
    → IsRefused reply before after ⊎ IsMet reply before after
unfolding is_waiting
commanded_met reply abend_record before after busy it =
    by_decision before after reply abend_record it (λ refusal abends. inl (record { code = abend_code refusal; abends = abends }))
    (λ leaves. absurd (true≢false (sym (ap is_waiting leaves.waiting) ∙ busy))) (λ met. inr met)

-- where an exit takes the abend of a command
pub exits_met : (code : List ℕ) (before after : TaskContext) → before.task.due ≡ true → HalfTurn before (turn.TookExit code) after
    → IsRefused (turn.TookExit code) before after ⊎ IsMet (turn.TookExit code) before after
unfolding HalfTurnWith is_waiting
exits_met code before after due half = by_due before.task.due due half.turns
  where
    by_due : (b : Bool) → b ≡ true → MatchBool b (PerformsCommand before (turn.TookExit code) half.abend_record after) (RunsOn before (turn.TookExit code) half.abend_record after)
        → IsRefused (turn.TookExit code) before after ⊎ IsMet (turn.TookExit code) before after
    by_due true e commanded = commanded_met (turn.TookExit code) half.abend_record before after refl commanded
    by_due false e runs = cc

-- a reply with a condition is no abend, no wait and no end
abends_not : {P : Type 0} (code : List ℕ) (cancel : Bool) (condition : Condition) (reply : TurnReply) (before after : TaskContext) → condition_of reply ≡ Some condition
    → Abends code cancel before reply after → P
unfolding AbendsAt
abends_not {P} code cancel condition reply before after e it = go it.exit it.ends
  where
    go : (o : Option ℕ) → AbendsAt o code before reply after → P
    go None over = let no : condition_of (turn.Abended code) ≡ Some condition = ap condition_of (sym over.0) ∙ e in cc
    go (Some index) over = let no : condition_of (turn.TookExit code) ≡ Some condition = ap condition_of (sym over.0) ∙ e in cc

busy_with : (condition : Condition) (reply : TurnReply) → condition_of reply ≡ Some condition → is_waiting reply ≡ false
unfolding is_waiting
busy_with condition turn.Idle e = refl
busy_with condition turn.NoSuchTerminal e = refl
busy_with condition turn.AtCommand e = refl
busy_with condition (turn.Performed met) e = refl
busy_with condition turn.Entered e = refl
busy_with condition turn.Returned e = refl
busy_with condition turn.Waiting e = cc
busy_with condition (turn.TookLabel met) e = refl
busy_with condition (turn.TookExit code) e = refl
busy_with condition (turn.Abended code) e = refl
busy_with condition turn.Ended e = refl

runs_not : {P : Type 0} (condition : Condition) (reply : TurnReply) (abend_record : Option AbendRecord) (before after : TaskContext) → condition_of reply ≡ Some condition
    → RunsOn before reply abend_record after → P
unfolding EndsRun
runs_not {P} condition reply abend_record before after e it = by_halt it.how it.ends
  where
    by_halt : (how : Halt) → EndsRun how it.between reply after → P
    by_halt halt.AtEntry over = let no : condition_of turn.AtCommand ≡ Some condition = ap condition_of (sym over.0) ∙ e in cc
    by_halt (halt.Interrupt cause place) abends = abends_not (abend_code abend.Asra) false condition reply it.between after e abends
    by_halt halt.Limit abends = abends_not (abend_code abend.Aica) false condition reply it.between after e abends

pub replies_met : (condition : Condition) (reply : TurnReply) (before after : TaskContext) → condition_of reply ≡ Some condition → HalfTurn before reply after → IsMet reply before after
unfolding HalfTurnWith
replies_met condition reply before after e half = by_due before.task.due half.turns
  where
    by_due : (b : Bool) → MatchBool b (PerformsCommand before reply half.abend_record after) (RunsOn before reply half.abend_record after) → IsMet reply before after
    by_due true commanded = elim (commanded_met reply half.abend_record before after (busy_with condition reply e) commanded) [
      | inl refused ↦ abends_not refused.code false condition reply before after e refused.abends
      | inr met ↦ met
    ]
    by_due false runs = runs_not condition reply half.abend_record before after e runs

-- ---- the function value that is reported
function_own : (call : Call) (condition : Condition) (change : TaskChange) (r : TaskContext) → ends_level change ≡ false
    → (report_of call condition change r).function ≡ (row_of call.command).function
unfolding report_of ends_level
function_own call condition Nothing r e = refl
function_own call condition (Before it) r e = refl
function_own call condition (After TakesInput) r e = refl
function_own call condition (After (MarksRead name n)) r e = refl
function_own call condition (After (QueueGone name)) r e = refl
function_own call condition (After (Dequeues resource)) r e = refl
function_own call condition (After (Frees place)) r e = refl
function_own call condition (Gets got) r e = refl
function_own call condition (Enters level) r e = refl
function_own call condition (Replaces copying level) r e = refl
function_own call condition LevelEnds r e = cc
function_own call condition (TaskEnds next) r e = refl
function_own call condition (AbendsWith code cancel) r e = refl

function_links : (call : Call) (condition : Condition) (change : TaskChange) (r : TaskContext) → ends_level change ≡ true
    → (report_of call condition change r).function ≡ (row_of command.Link).function
unfolding report_of ends_level
function_links call condition Nothing r e = cc
function_links call condition (Before it) r e = cc
function_links call condition (After it) r e = cc
function_links call condition (Gets got) r e = cc
function_links call condition (Enters level) r e = cc
function_links call condition (Replaces copying level) r e = cc
function_links call condition LevelEnds r e = refl
function_links call condition (TaskEnds next) r e = cc
function_links call condition (AbendsWith code cancel) r e = cc

pub number_reported : (call : Call) (condition : Condition) (change : TaskChange) (r : TaskContext) → (report_of call condition change r).condition ≡ (entry_of condition).number
unfolding report_of
number_reported call condition Nothing r = refl
number_reported call condition (Before it) r = refl
number_reported call condition (After TakesInput) r = refl
number_reported call condition (After (MarksRead name n)) r = refl
number_reported call condition (After (QueueGone name)) r = refl
number_reported call condition (After (Dequeues resource)) r = refl
number_reported call condition (After (Frees place)) r = refl
number_reported call condition (Gets got) r = refl
number_reported call condition (Enters level) r = refl
number_reported call condition (Replaces copying level) r = refl
number_reported call condition LevelEnds r = refl
number_reported call condition (TaskEnds next) r = refl
number_reported call condition (AbendsWith code cancel) r = refl

ends_change : (change : TaskChange) → ends_level change ≡ true → continuation_by change ≡ continuation.LevelEnds
unfolding ends_level
ends_change Nothing e = cc
ends_change (Before it) e = cc
ends_change (After it) e = cc
ends_change (Gets got) e = cc
ends_change (Enters level) e = cc
ends_change (Replaces copying level) e = cc
ends_change LevelEnds e = refl
ends_change (TaskEnds next) e = cc
ends_change (AbendsWith code cancel) e = cc

function_other : (reply : TurnReply) (call : Call) (n : ℕ) → n ≡ (row_of call.command).function → (reply ≡ turn.Returned → n ≡ (row_of command.Link).function) → n ≡ function_after reply call
function_other turn.Idle call n own links = own
function_other turn.NoSuchTerminal call n own links = own
function_other turn.AtCommand call n own links = own
function_other (turn.Performed met) call n own links = own
function_other turn.Entered call n own links = own
function_other turn.Returned call n own links = links refl
function_other turn.Waiting call n own links = own
function_other (turn.TookLabel met) call n own links = own
function_other (turn.TookExit code) call n own links = own
function_other (turn.Abended code) call n own links = own
function_other turn.Ended call n own links = own

pub function_reported : (reply : TurnReply) (call : Call) (condition : Condition) (outputs : List Output) (change : TaskChange) (before committed after : TaskContext)
    → HasVerdict call before (Meets condition outputs change) → Goes (continuation_at call condition change before) condition committed reply after
    → (report_of call condition change before).function ≡ function_after reply call
unfolding continuation_of passes Goes
function_reported reply call condition outputs change before committed after judged goes = elim (cases_Bool (ends_level change)) [
  | inl ends ↦
      let normal = (judged_ends call before (Meets condition outputs change) judged ends).1 in
      let gone : continuation_at call condition change before ≡ continuation.LevelEnds = rw normal (ends_change change ends) in
      let returned : Goes continuation.LevelEnds condition committed reply after = subst (λ (c : Continuation). Goes c condition committed reply after) gone goes in
      function_links call condition change before ends ∙ sym (ap (λ (r : TurnReply). function_after r call) returned.0)
  | inr goes_on ↦
      function_other reply call (report_of call condition change before).function (function_own call condition change before goes_on)
      (λ is.
      let way = goes_ends (continuation_at call condition change before) condition committed after (subst (λ (r : TurnReply). Goes (continuation_at call condition change before) condition committed r after) is goes) in
      absurd (true≢false (sym (way_ends call condition change before way) ∙ goes_on)))
]

-- ---- what is freed when all is done, and on the way
pub ended_freed : (it : AfterOutputs) (r : TaskContext) → IsFreed r.shared.storage (apply_after (After it) r).shared.storage
unfolding apply_after
ended_freed TakesInput r = none_freed _ _ refl
ended_freed (MarksRead name n) r = none_freed _ _ refl
ended_freed (QueueGone name) r = none_freed _ _ refl
ended_freed (Dequeues resource) r = none_freed _ _ refl
ended_freed (Frees place) r = record { keeps = starts_elsewhere place; is = refl }

read_freed : (fill : Fill) (r : TaskContext) → IsFreed r.shared.storage (read_for fill r).shared.storage
read_freed (Byte b) r = none_freed _ _ refl
read_freed (Item name n) r = none_freed _ _ refl

pub finished_freed : (change : TaskChange) (r : TaskContext) → IsFreed r.shared.storage (apply_after change r).shared.storage
unfolding apply_after
finished_freed Nothing r = none_freed _ _ refl
finished_freed (Before it) r = none_freed _ _ refl
finished_freed (After it) r = ended_freed it r
finished_freed (Gets got) r = read_freed got.fill r
finished_freed (Enters level) r = none_freed _ _ refl
finished_freed (Replaces copying level) r = none_freed _ _ refl
finished_freed LevelEnds r = none_freed _ _ refl
finished_freed (TaskEnds next) r = none_freed _ _ refl
finished_freed (AbendsWith code cancel) r = none_freed _ _ refl

-- what goes on from where all is done: its storage, its EIB, and the condition that it has met
pub record GoesFrom (reply : TurnReply) (met : Condition) (committed after : TaskContext) : Type 0 where
  pub freed : IsFreed committed.shared.storage after.shared.storage
  pub eib : after.task.eib ≡ committed.task.eib
  pub condition : (c : Condition) → condition_of reply ≡ Some c → met ≡ c

at_reply : (reply own : TurnReply) (met condition : Condition) → reply ≡ own → condition_of own ≡ Some met → condition_of reply ≡ Some condition → met ≡ condition
at_reply reply own met condition is own_has given = same_Some met condition (sym own_has ∙ ap condition_of (sym is) ∙ given)

goes_same : (reply own : TurnReply) (met : Condition) (committed after to : TaskContext) → reply ≡ own → condition_of own ≡ Some met → after ≡ to → to.shared.storage ≡ committed.shared.storage → to.task.eib ≡ committed.task.eib
    → GoesFrom reply met committed after
goes_same reply own met committed after to is own_has e storage eib =
    record {
      freed = none_freed committed.shared.storage after.shared.storage (ap (λ (r : TaskContext). r.shared.storage) e ∙ storage);
      eib = ap (λ (r : TaskContext). r.task.eib) e ∙ eib;
      condition = λ c given. at_reply reply own met c is own_has given;
    }

normal_is : (condition : Condition) → is_normal condition ≡ true → condition ≡ Normal
normal_is condition e = grind (arith, e)

-- a level begins or ends where the condition is NORMAL
unfoldable pub is_of_levels : Continuation → Bool
is_of_levels (continuation.Enters level) = true
is_of_levels (continuation.Replaces level) = true
is_of_levels continuation.LevelEnds = true
is_of_levels _ = false

chosen_none : (chosen : Choice) → is_of_levels (continuation_chosen chosen) ≡ false
unfolding is_of_levels
chosen_none (choice.Label label) = refl
chosen_none choice.GoOn = refl
chosen_none choice.Wait = refl
chosen_none (choice.Abend code) = refl

pub levels_normal : (call : Call) (condition : Condition) (change : TaskChange) (r : TaskContext) (gone : Continuation) → continuation_at call condition change r ≡ gone → is_of_levels gone ≡ true
    → (condition ≡ Normal) × (continuation_by change ≡ gone)
unfolding continuation_of
levels_normal call condition change r gone is levels = either (is_normal condition) refl is
  where
    chosen : Choice
    chosen = choice_for call r.task.levels.current.handles.active.entries condition

    either : (normal : Bool) → is_normal condition ≡ normal → (if normal then continuation_by change else continuation_chosen chosen) ≡ gone → (condition ≡ Normal) × (continuation_by change ≡ gone)
    either true e is = (normal_is condition e, is)
    either false e is = absurd (true≢false (sym levels ∙ ap is_of_levels (sym is) ∙ chosen_none chosen))

-- a level that begins or ends
level_gone : (reply own : TurnReply) (met : Condition) (committed after to : TaskContext) → met ≡ Normal → reply ≡ own → condition_of own ≡ Some Normal → after ≡ to
    → IsFreed committed.shared.storage to.shared.storage → to.task.eib ≡ committed.task.eib → GoesFrom reply met committed after
level_gone reply own met committed after to normal is own_has e freed eib =
    record {
      freed = subst (λ (r : TaskContext). IsFreed committed.shared.storage r.shared.storage) (sym e) freed;
      eib = ap (λ (r : TaskContext). r.task.eib) e ∙ eib;
      condition = λ c given. at_reply reply own met c is (own_has ∙ ap Some (sym normal)) given;
    }

replaced_freed : (level : NewLevel) (r : TaskContext) → IsFreed r.shared.storage (replace_level level r).shared.storage
unfolding replace_level
replaced_freed level r = record { keeps = starts_elsewhere (address_in r.task.levels.current.stg); is = refl }

replaced_eib : (level : NewLevel) (r : TaskContext) → (replace_level level r).task.eib ≡ r.task.eib
unfolding replace_level
replaced_eib level r = refl

entered_storage : (level : NewLevel) (r : TaskContext) → (enter_level level r).shared.storage ≡ r.shared.storage
unfolding enter_level
entered_storage level r = refl

entered_eib : (level : NewLevel) (r : TaskContext) → (enter_level level r).task.eib ≡ r.task.eib
unfolding enter_level
entered_eib level r = refl

returned_freed : (r : TaskContext) → IsFreed r.shared.storage (return_to_caller r).shared.storage
unfolding return_to_caller
returned_freed r = go r.task.levels.callers
  where
    go : (callers : List Level) → IsFreed r.shared.storage (returned_to callers r).shared.storage
    go [] = none_freed _ _ refl
    go (caller ∷ callers) = record { keeps = starts_elsewhere (address_in r.task.levels.current.stg); is = refl }

returned_eib : (r : TaskContext) → (return_to_caller r).task.eib ≡ r.task.eib
unfolding return_to_caller
returned_eib r = go r.task.levels.callers
  where
    go : (callers : List Level) → (returned_to callers r).task.eib ≡ r.task.eib
    go [] = refl
    go (caller ∷ callers) = refl

pub goes_from : (reply : TurnReply) (call : Call) (met condition : Condition) (change : TaskChange) (before committed after : TaskContext) → condition_of reply ≡ Some condition
    → Goes (continuation_at call met change before) met committed reply after → GoesFrom reply met committed after
unfolding Goes is_of_levels
goes_from reply call met condition change before committed after given goes = go (continuation_at call met change before) refl goes
  where
    none : {P : Type 0} (own : TurnReply) → reply ≡ own → condition_of own ≡ None → P
    none own is without = let never : None ≡ Some condition = sym without ∙ ap condition_of (sym is) ∙ given in cc

    go : (gone : Continuation) → continuation_at call met change before ≡ gone → Goes gone met committed reply after → GoesFrom reply met committed after
    go continuation.GoesOn is it = goes_same reply (turn.Performed met) met committed after _ it.0 refl it.1 refl refl
    go (continuation.TakesLabel label) is it = goes_same reply (turn.TookLabel met) met committed after _ it.0 refl it.1 refl refl
    go continuation.Waits is it = none turn.Waiting it.0 refl
    go (continuation.Abends code cancel) is it = abends_not code cancel condition reply committed after given it
    go (continuation.Enters level) is it =
        level_gone reply turn.Entered met committed after _ (levels_normal call met change before _ is refl).0 it.0 refl it.1
        (none_freed committed.shared.storage (enter_level level committed).shared.storage (entered_storage level committed)) (entered_eib level committed)
    go (continuation.Replaces level) is it =
        level_gone reply turn.Entered met committed after _ (levels_normal call met change before _ is refl).0 it.0 refl it.1 (replaced_freed level committed) (replaced_eib level committed)
    go continuation.LevelEnds is it =
        level_gone reply turn.Returned met committed after _ (levels_normal call met change before _ is refl).0 it.0 refl it.1 (returned_freed committed) (returned_eib committed)
    go continuation.TaskEnds is it = none turn.Ended it.0 refl
