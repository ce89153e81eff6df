-- A LINK and the RETURN from it; PUSH and POP; registers at a command.
use Rattle.std.proofs.Common.{◌≡◌, ℕ, zero, suc, ◌-◌, ◌≤◌, Bool, true, false, Option, Some, None, List, [], ◌∷◌, ◌++◌, length, drop, refl, sym, ◌∙◌, ap, subst, arith, inl, inr}
use Rattle.cx_program.specs.declared.entries.Handler.TheVariants.{Label, NoEntry}
use Rattle.std.specs.Option.{option_map_or}
use Rattle.std.specs.Prelude.{MatchBool, unwrap_or}
use Rattle.std.proofs.lemmas.List.{length-drop}
use Rattle.cx_base.specs.Abends.{abend_code}
use Rattle.cx_base.specs.declared.abends.Abend.TheVariants as abend
use Rattle.cx_exec.specs.declared.machine.Halt.{Halt}
use Rattle.cx_exec.specs.declared.machine.Halt.TheVariants as halt
use Rattle.cx_region_state.specs.declared.listed.Listed.{Listed}
use Rattle.cx_program.specs.declared.entries.Handling.{Handling}
use Rattle.cx_program.specs.declared.level.Level.{Level}
use Rattle.cx_program.specs.Handles.{Handles, after_pop, put_entry}
use Rattle.cx_program.specs.Levels.{Levels}
use Rattle.cx_program.specs.declared.entries.Handler.TheVariants as entry
use Rattle.cx_region_state.specs.declared.replies.TurnReply.{TurnReply}
use Rattle.cx_region_state.specs.declared.replies.TurnReply.TheVariants as turn
use Rattle.cx_region_state.specs.declared.verdict.Request.{Request}
use Rattle.cx_region_state.specs.declared.verdict.Request.TheVariants as request
use Rattle.cx_region_state.specs.State.{TaskContext, TaskState}
use Rattle.cx_region_task.specs.Abends.{Abends, AbendsAt}
use Rattle.cx_region_task.specs.Changes.{after_request, with_ignored, with_labels}
use Rattle.cx_region_task.specs.Turn.{HalfTurnWith, PerformsCommand, EndsRun, RunsOn}
use Rattle.cx_region_laws.specs.Laws.Levels.{CommandsAreKept, HasBegun, IsBack, IsBalanced, Keeps, LeavesCallers, HasLinked, LinksAreReturned, PopsRestore, RunsBelow, Turned, handled_all}
use Rattle.cx_region_laws.proofs.CallerLemmas.{half_turns_leave_callers}

-- ---- the last levels of a list
abbrev last_of : ℕ → List Level → List Level
last_of n levels = drop (length levels - n) levels

last_of_cons : (n : ℕ) (level : Level) (levels : List Level) → n ≤ length levels → last_of n (level ∷ levels) ≡ last_of n levels
last_of_cons n level levels few =
    let more : suc (length levels) - n ≡ suc (length levels - n) = omega (arith, few) in
    ap (λ (k : ℕ). drop k (level ∷ levels)) more

last_of_drop : (n count : ℕ) (levels : List Level) → suc n ≤ length (drop count levels) → last_of (suc n) (drop count levels) ≡ last_of (suc n) levels
last_of_drop n zero levels few = refl
last_of_drop n (suc count) [] few = absurd (omega (arith, few))
last_of_drop n (suc count) (level ∷ levels) few =
    let long = length-drop count levels in
    last_of_drop n count levels few ∙ sym (last_of_cons (suc n) level levels (omega (arith, long, few)))

last_whole : (n : ℕ) (levels : List Level) → length levels ≡ n → last_of n levels ≡ levels
last_whole n levels e = let none : length levels - n ≡ 0 = omega (arith, e) in ap (λ (k : ℕ). drop k levels) none

-- what comes after a level that comes after `count` others
after_drop : (count : ℕ) (xs ys : List Level) (level : Level) → drop count xs ≡ level ∷ ys → ys ≡ drop (suc count) xs
after_drop zero [] ys level e = cc
after_drop zero (x ∷ xs) ys level e = cc
after_drop (suc count) [] ys level e = cc
after_drop (suc count) (x ∷ xs) ys level e = after_drop count xs ys level e

after_dropped : (count : ℕ) (current level : Level) (callers left : List Level) → drop count (current ∷ callers) ≡ level ∷ left → left ≡ drop count callers
after_dropped count current level callers left e = after_drop count (current ∷ callers) left level e

-- ---- half-turns below a depth
returned_keeps : (depth : ℕ) (befores afters : List Level) (after : TaskState) → after.levels.callers ≡ afters
    → ((caller : Level) (callers : List Level) → befores ≡ caller ∷ callers → IsBack caller callers after) → suc depth ≤ length befores → suc depth ≤ length afters
    → last_of (suc depth) afters ≡ last_of (suc depth) befores
returned_keeps depth [] afters after is law deep still = absurd (omega (arith, deep))
returned_keeps depth (caller ∷ callers) afters after is law deep still =
    let same : afters ≡ callers = sym is ∙ ap (λ (l : Levels). l.callers) (law caller callers refl).levels in
    let few : suc depth ≤ length callers = subst (λ (l : List Level). suc depth ≤ length l) same still in
    ap (last_of (suc depth)) same ∙ sym (last_of_cons (suc depth) caller callers few)

step_keeps : (reply : TurnReply) (depth : ℕ) (before after : TaskState) → LeavesCallers reply before after → suc depth ≤ length before.levels.callers → suc depth ≤ length after.levels.callers
    → last_of (suc depth) after.levels.callers ≡ last_of (suc depth) before.levels.callers
unfolding LeavesCallers
step_keeps turn.Idle depth before after law deep still = ap (last_of (suc depth)) law
step_keeps turn.NoSuchTerminal depth before after law deep still = ap (last_of (suc depth)) law
step_keeps turn.AtCommand depth before after law deep still = ap (last_of (suc depth)) law
step_keeps (turn.Performed condition) depth before after law deep still = ap (last_of (suc depth)) law
step_keeps turn.Entered depth before after law deep still = elim law.callers [
  | inl e ↦ ap (last_of (suc depth)) e ∙ last_of_cons (suc depth) before.levels.current before.levels.callers deep
  | inr e ↦ ap (last_of (suc depth)) e
]
step_keeps turn.Returned depth before after law deep still = returned_keeps depth before.levels.callers after.levels.callers after refl law deep still
step_keeps turn.Waiting depth before after law deep still = ap (last_of (suc depth)) law
step_keeps (turn.TookLabel condition) depth before after law deep still = ap (last_of (suc depth)) law
step_keeps (turn.TookExit code) depth before after law deep still =
    let left = after_dropped law.count before.levels.current law.level before.levels.callers after.levels.callers law.left in
    let few : suc depth ≤ length (drop law.count before.levels.callers) = subst (λ (l : List Level). suc depth ≤ length l) left still in
    ap (last_of (suc depth)) left ∙ last_of_drop depth law.count before.levels.callers few
step_keeps (turn.Abended code) depth before after law deep still = ap (last_of (suc depth)) law
step_keeps turn.Ended depth before after law deep still = ap (last_of (suc depth)) law

runs_keep : (depth : ℕ) (turns : List Turned) (from to : TaskState) → RunsBelow (suc depth) from turns to → suc depth ≤ length from.levels.callers
    → last_of (suc depth) to.levels.callers ≡ last_of (suc depth) from.levels.callers
unfolding RunsBelow
runs_keep depth [] from to run deep = ap (last_of (suc depth)) run
runs_keep depth (turned ∷ rest) from to run deep =
    let here : suc depth ≤ length turned.before.task.levels.callers = subst (λ (levels : List Level). suc depth ≤ length levels) (sym run.0) deep in
    runs_keep depth rest turned.after.task to run.3 run.2
    ∙ step_keeps turned.reply depth turned.before.task turned.after.task (half_turns_leave_callers turned.before turned.after turned.reply run.1) here run.2
    ∙ ap (last_of (suc depth)) run.0

-- ---- a LINK and its RETURN
link_callers : (linking entered : TaskContext) → HasLinked linking entered → entered.task.levels.callers ≡ linking.task.levels.current ∷ linking.task.levels.callers
unfolding LeavesCallers
link_callers linking entered link =
    let begun : HasBegun linking.task entered.task = half_turns_leave_callers linking entered turn.Entered link.enters in
    elim begun.callers [
      | inl e ↦ e
      | inr e ↦
          let under = link.under in
          let long : length entered.task.levels.callers ≡ length linking.task.levels.callers = ap (λ (l : List Level). length l) e in
          absurd (omega (arith, under, long))
    ]

pub links_are_returned : LinksAreReturned
unfolding LeavesCallers
links_are_returned linking entered returning returned link back =
    let depth = length linking.task.levels.callers in
    let under = link.under in
    let kept = runs_keep depth back.turns entered.task returning.task back.runs (omega (arith, under)) in
    let same : returning.task.levels.callers ≡ linking.task.levels.current ∷ linking.task.levels.callers =
    sym (last_whole (suc depth) returning.task.levels.callers back.nearest) ∙ kept ∙ last_whole (suc depth) entered.task.levels.callers under ∙ link_callers linking entered link in
    half_turns_leave_callers returning returned turn.Returned back.returns linking.task.levels.current linking.task.levels.callers same

-- ---- registers at a command
pub commands_are_kept : CommandsAreKept
unfolding HalfTurnWith EndsRun AbendsAt
commands_are_kept before after none half = runs (by_due before.task.due none half.turns)
  where
    by_due : (b : Bool) → b ≡ false → MatchBool b (PerformsCommand before turn.AtCommand half.abend_record after) (RunsOn before turn.AtCommand half.abend_record after) → RunsOn before turn.AtCommand half.abend_record after
    by_due true e it = cc
    by_due false e it = it

    no_abend : (code : List ℕ) (mid : TaskContext) → Abends code false mid turn.AtCommand after → Keeps after.task
    no_abend code mid it = go it.exit it.ends
      where
        go : (o : Option ℕ) → AbendsAt o code mid turn.AtCommand after → Keeps after.task
        go None over = absurd (let never : turn.AtCommand ≡ turn.Abended code = over.0 in cc)
        go (Some index) over = absurd (let never : turn.AtCommand ≡ turn.TookExit code = over.0 in cc)

    runs : RunsOn before turn.AtCommand half.abend_record after → Keeps after.task
    runs it = by_halt it.how it.ends
      where
        by_halt : (how : Halt) → EndsRun how it.between turn.AtCommand after → Keeps after.task
        by_halt halt.AtEntry over = rw (over.1) (record { regs = refl; cc = refl })
        by_halt (halt.Interrupt cause place) abends = no_abend (abend_code abend.Asra) it.between abends
        by_halt halt.Limit abends = no_abend (abend_code abend.Aica) it.between abends

-- ---- PUSH and POP
labels_kept : (listed : List Listed) (handles : Handles) → (with_labels listed handles).kept ≡ handles.kept
unfolding with_labels
labels_kept [] handles = refl
labels_kept (one ∷ rest) handles = labels_kept rest (put_entry handles one.condition (option_map_or Label one.label NoEntry))

ignored_kept : (listed : List Listed) (handles : Handles) → (with_ignored listed handles).kept ≡ handles.kept
unfolding with_ignored
ignored_kept [] handles = refl
ignored_kept (one ∷ rest) handles = ignored_kept rest (put_entry handles one.condition entry.Ignored)

-- handles whose kept ones are `pushed` in number, and these after them
abbrev HasKept : ℕ → List Handling → Handles → Type 0
HasKept pushed base handles = (front : List Handling) × (length front ≡ pushed) × (handles.kept ≡ front ++ base)

kept_on : (pushed : ℕ) (base : List Handling) (handles next : Handles) → next.kept ≡ handles.kept → HasKept pushed base handles → HasKept pushed base next
kept_on pushed base handles next e has = (has.0, has.1, e ∙ has.2)

popped : (pushed : ℕ) (base front : List Handling) (handles : Handles) → length front ≡ suc pushed → handles.kept ≡ front ++ base → HasKept pushed base (after_request request.Pop handles)
unfolding after_request
popped pushed base [] handles long e = absurd (omega (arith, long))
popped pushed base (last ∷ rest) handles long e = (rest, omega (arith, long), ap (λ (l : List Handling). (unwrap_or (after_pop l) handles).kept) e)

all_kept : (between : List Request) (pushed : ℕ) (base : List Handling) (handles : Handles) → IsBalanced pushed between → HasKept pushed base handles → (handled_all between handles).kept ≡ base
unfolding handled_all after_request IsBalanced
all_kept [] pushed base handles balanced has = none has.0 (has.1 ∙ balanced) has.2
  where
    none : (front : List Handling) → length front ≡ 0 → handles.kept ≡ front ++ base → handles.kept ≡ base
    none [] long e = e
    none (one ∷ rest) long e = absurd (omega (arith, long))
all_kept (request.Handle listed ∷ rest) pushed base handles balanced has =
    all_kept rest pushed base _ balanced (kept_on pushed base handles (with_labels listed handles) (labels_kept listed handles) has)
all_kept (request.Ignore listed ∷ rest) pushed base handles balanced has =
    all_kept rest pushed base _ balanced (kept_on pushed base handles (with_ignored listed handles) (ignored_kept listed handles) has)
all_kept (request.Push ∷ rest) pushed base handles balanced has =
    all_kept rest (suc pushed) base _ balanced (handles.active ∷ has.0, ap suc has.1, ap (λ (l : List Handling). handles.active ∷ l) has.2)
all_kept (request.Pop ∷ rest) zero base handles balanced has = absurd balanced
all_kept (request.Pop ∷ rest) (suc pushed) base handles balanced has = all_kept rest pushed base _ balanced (popped pushed base has.0 handles has.1 has.2)
all_kept (request.SetExit label ∷ rest) pushed base handles balanced has =
    let next = after_request (request.SetExit label) handles in all_kept rest pushed base next balanced (kept_on pushed base handles next refl has)
all_kept (request.ExitOff ∷ rest) pushed base handles balanced has =
    let next = after_request request.ExitOff handles in all_kept rest pushed base next balanced (kept_on pushed base handles next refl has)
all_kept (request.ExitOn ∷ rest) pushed base handles balanced has =
    let next = after_request request.ExitOn handles in all_kept rest pushed base next balanced (kept_on pushed base handles next refl has)

pub pops_restore : PopsRestore
unfolding after_request
pops_restore handles between balanced =
    let last = handled_all between (after_request request.Push handles) in
    let kept : last.kept ≡ handles.active ∷ handles.kept = all_kept between 0 (handles.active ∷ handles.kept) (after_request request.Push handles) balanced ([], refl, refl) in
    ap (λ (l : List Handling). unwrap_or (after_pop l) last) kept
