-- What is counted adds up.
use Rattle.std.proofs.Common.{◌≡◌, ℕ, zero, suc, Bool, true, false, MatchBool, Option, Some, None, List, [], ◌∷◌, ◌++◌, length, arith, refl, sym, subst, ap, ◌∙◌, true≢false}
use Rattle.std.specs.Prelude.{⊤, MatchOption}
use Rattle.std.specs.List.{AllByRecursion, fold}
use Rattle.cx_edf.specs.Steps.{DisplayMaker}
use Rattle.cx_edf.specs.declared.answers.EdfEvent.{EdfEvent}
use Rattle.cx_exec.specs.Machine.{Machine}
use Rattle.cx_exec.specs.Tallies.{with_passage}
use Rattle.cx_exec.specs.declared.tallied.Tally.{Tally}
use Rattle.cx_script_actions.specs.declared.actions.Action.{Action}
use Rattle.cx_script_actions.specs.declared.actions.Action.TheVariants as edf_action
use Rattle.cx_script.specs.Transcript.{PerformsAll}
use Rattle.cx_look_cover.specs.Laws.{AreCounted, CountedRun, RunsAddUp}
use Rattle.cx_look_cover.specs.Tallies.{programs_end, reaching}
use Rattle.cx_look_script.specs.Covered.{Covers, IsTalliedBy, machine_run}
use Rattle.cx_look_script.specs.Laws.Covers.{AreRunsOf, CoverAddsUp, IsActionRun, IsMachineRun, IsPartRun, IsRunOfAction, is_cover}
use Rattle.cx_look_script.specs.Laws.Looks.{ActionPart, IsMoreOfRun, IsPart, IsTurnOfRun, after_turns, state_kept_after, turn_action}
use Rattle.cx_look_script.specs.Looking.{LookPerforms, NotedPerforms}
use Rattle.cx_look_script.specs.State.{LookState}
use Rattle.cx_look_script.specs.declared.action.LookAction.{LookAction}
use Rattle.cx_look_script.specs.declared.action.LookAction.TheVariants as action
use Rattle.cx_look_script.specs.declared.action.Stop.{Stop}
use Rattle.cx_look_script.proofs.LawLemmas.{Did, did}

-- ---- runs one after another
both_counted : (first later : List CountedRun) (old mid new : List Tally) → AreCounted first old mid → AreCounted later mid new → AreCounted (first ++ later) old new
both_counted [] later old mid new p q = subst (λ (t : List Tally). AreCounted later t new) p q
both_counted (run ∷ first) later old mid new p q = both_counted first later (fold with_passage (reaching old run.end) run.passages) mid new p q

-- ---- the run of an action of `cicsedf`
record MachineRan (m : Option Machine) (end : ℕ) (before after : List Tally) : Type 0 where
  runs : List CountedRun
  are : IsMachineRun m end runs
  counted : AreCounted runs before after

machine_ran : (m : Option Machine) (end : ℕ) (before after : List Tally) → IsTalliedBy m end before after → MachineRan m end before after
machine_ran None end before after p = record { runs = []; are = refl; counted = p }
machine_ran (Some m) end before after p =
    let run : CountedRun = record { end = end; passages = p.passages } in
    record { runs = run ∷ []; are = (p.passages, p.are, refl); counted = p.is }

record ActionRan (old : LookState) (a : Action) (before : List Tally) (new : LookState) : Type 0 where
  runs : List CountedRun
  are : IsActionRun old a runs
  after : List Tally
  is : new.covered ≡ Some after
  counted : AreCounted runs before after

covers_some : (m : Option Machine) (end : ℕ) (before : List Tally) (old new : Option (List Tally)) → old ≡ Some before → Covers m end old new
    → (after : List Tally) × IsTalliedBy m end before after × (new ≡ Some after)
unfolding Covers
covers_some m end before old new e p = subst (λ (c : Option (List Tally)). Covers m end c new) e p

event_ran : (old new : LookState) (e : EdfEvent) (before : List Tally) → (after : List Tally) → new.covered ≡ Some after
    → MachineRan (machine_run old.edf e) (programs_end old.edf.region.shared.programs) before after → ActionRan old (edf_action.Event e) before new
event_ran old new e before after is ran = record { runs = ran.runs; are = ran.are; after = after; is = is; counted = ran.counted }

action_ran : (make : DisplayMaker) (old : LookState) (a : Action) (text : List ℕ) (new : LookState) (before : List Tally) → old.covered ≡ Some before
    → NotedPerforms make old a text new → ActionRan old a before new
unfolding NotedPerforms
action_ran make old (edf_action.Event e) text new before is p =
    let by = covers_some (machine_run old.edf e) (programs_end old.edf.region.shared.programs) before old.covered new.covered is p.1.covered in
    event_ran old new e before by.0 by.2 (machine_ran (machine_run old.edf e) (programs_end old.edf.region.shared.programs) before by.0 by.1)
action_ran make old (edf_action.Image name image) text new before is p = record { runs = []; are = refl; after = before; is = p.4 ∙ is; counted = refl }
action_ran make old (edf_action.Source name own image) text new before is p = record { runs = []; are = refl; after = before; is = p.4 ∙ is; counted = refl }
action_ran make old (edf_action.Screen name) text new before is p = record { runs = []; are = refl; after = before; is = p.4 ∙ is; counted = refl }
action_ran make old (edf_action.Display name) text new before is p = record { runs = []; are = refl; after = before; is = p.4 ∙ is; counted = refl }
action_ran make old (edf_action.Previous name k) text new before is p = record { runs = []; are = refl; after = before; is = p.4 ∙ is; counted = refl }

-- ---- the run of a part, which has one action of `cicsedf` at most
abbrev IsShort : List Action → Type 0
IsShort [] = ⊤
IsShort (a ∷ actions) = actions ≡ []

short_none : (plain : List Action) → plain ≡ [] → IsShort plain
short_none plain e = subst (λ (l : List Action). IsShort l) (sym e) tt

short_one : (plain : List Action) (a : Action) → plain ≡ a ∷ [] → IsShort plain
short_one plain a e = subst (λ (l : List Action). IsShort l) (sym e) refl

short_turn : (name : List ℕ) (part : ActionPart) (line : Option (List ℕ))
    → MatchOption line ((part.plain ≡ turn_action name ∷ []) × (part.looked ≡ [])) (λ l. (part.plain ≡ []) × (part.looked ≡ l)) → IsShort part.plain
short_turn name part None p = short_one part.plain (turn_action name) p.0
short_turn name part (Some l) p = short_none part.plain p.0

short_more : (old : LookState) (name : List ℕ) (n : ℕ) (s : Stop) (part : ActionPart) (on : Bool)
    → MatchBool on (IsMoreOfRun old name n s part) ((part.plain ≡ []) × (part.looked ≡ [])) → IsShort part.plain
short_more old name zero s part true p = short_none part.plain p.0
short_more old name (suc n) s part true p = short_turn name part p.line p.is
short_more old name n s part false p = short_none part.plain p.0

short : (old : LookState) (a : LookAction) (part : ActionPart) → IsPart old a part → IsShort part.plain
short old (action.Script a) part p = short_one part.plain a p.0
short old (action.Source name lines a) part p = short_one part.plain a p.0
short old (action.Run name n s) part p = short_turn name part p.line p.is
short old (action.RunOn name n s) part p = short_more old name n s part old.goes_on p
short old (action.Watch w) part p = short_none part.plain p.0
short old (action.Cover on) part p = short_none part.plain p.0
short old (action.Look l) part p = short_none part.plain p.0
short old (action.Orders block) part p = short_none part.plain p.0
short old (action.Choices block) part p = short_none part.plain p.0
short old (action.BadLook number s) part p = short_none part.plain p.0

record PartRan (old : LookState) (plain : List Action) (before : List Tally) (new : LookState) : Type 0 where
  runs : List CountedRun
  are : IsPartRun old plain runs
  after : List Tally
  is : new.covered ≡ Some after
  counted : AreCounted runs before after

part_ran : (make : DisplayMaker) (old : LookState) (plain : List Action) (text : List ℕ) (new : LookState) (before : List Tally) → old.covered ≡ Some before → IsShort plain
    → PerformsAll (NotedPerforms make) old plain text new → PartRan old plain before new
unfolding PerformsAll
part_ran make old [] text new before is few p =
    record { runs = []; are = refl; after = before; is = ap (λ (s : LookState). s.covered) p.1 ∙ is; counted = refl }
part_ran make old (a ∷ []) text new before is few p =
    let one = action_ran make old a p.1 p.0 before is p.3 in
    record { runs = one.runs; are = one.are; after = one.after; is = ap (λ (s : LookState). s.covered) p.4.1 ∙ one.is; counted = one.counted }
part_ran make old (a ∷ b ∷ more) text new before is few p = absurd (omega (arith, ap (λ (l : List Action). length l) few))

-- ---- an action of `cicslook`
turns_kept : (plain : List Action) (done : LookState) → (after_turns plain done).covered ≡ done.covered
turns_kept [] done = refl
turns_kept (turn ∷ turns) done = refl

kept : (old : LookState) (a : LookAction) (plain : List Action) (done : LookState) → is_cover a ≡ false → (state_kept_after old a plain done).covered ≡ done.covered
kept old (action.Script a) plain done e = refl
kept old (action.Source name lines a) plain done e = refl
kept old (action.Run name n s) plain done e = turns_kept plain done
kept old (action.RunOn name n s) plain done e = turns_kept plain done
kept old (action.Watch w) plain done e = refl
kept old (action.Cover on) plain done e = absurd (true≢false e)
kept old (action.Look l) plain done e = refl
kept old (action.Orders block) plain done e = refl
kept old (action.Choices block) plain done e = refl
kept old (action.BadLook number s) plain done e = refl

record Stepped (old : LookState) (a : LookAction) (before : List Tally) (new : LookState) : Type 0 where
  runs : List CountedRun
  is_run : IsRunOfAction old a runs
  after : List Tally
  is : new.covered ≡ Some after
  counted : AreCounted runs before after

stepped : (make : DisplayMaker) (old : LookState) (a : LookAction) (own watched : List ℕ) (new : LookState) (before : List Tally) → old.covered ≡ Some before → is_cover a ≡ false
    → Did make old a own watched new → Stepped old a before new
stepped make old a own watched new before is others d =
    let ran = part_ran make old d.part.plain d.part.written d.done before is (short old a d.part d.is) d.runs in
    record {
      runs = ran.runs;
      is_run = record { part = d.part; is = d.is; ran = ran.are };
      after = ran.after;
      is = ap (λ (s : LookState). s.covered) d.kept ∙ kept old a d.part.plain d.done others ∙ ran.is;
      counted = ran.counted;
    }

-- ---- all of them
record AllRan (make : DisplayMaker) (old : LookState) (actions : List LookAction) (before : List Tally) (new : LookState) : Type 0 where
  runs : List CountedRun
  are : AreRunsOf make old actions runs new
  after : List Tally
  is : new.covered ≡ Some after
  counted : AreCounted runs before after

all_ran : (make : DisplayMaker) (old : LookState) (actions : List LookAction) (text : List ℕ) (new : LookState) (before : List Tally) → old.covered ≡ Some before
    → AllByRecursion (λ a. is_cover a ≡ false) actions → PerformsAll (LookPerforms make) old actions text new → AllRan make old actions before new
unfolding PerformsAll AreRunsOf
all_ran make old [] text new before is others p =
    record { runs = []; are = (refl, p.1); after = before; is = ap (λ (s : LookState). s.covered) p.1 ∙ is; counted = refl }
all_ran make old (a ∷ actions) text new before is others p =
    let one = stepped make old a p.3.own p.3.watched p.0 before is others.0 (did make old a p.3.own p.3.watched p.0 p.3.acts) in
    let rest = all_ran make p.0 actions p.2 new one.after one.is others.1 p.4 in
    record {
      runs = one.runs ++ rest.runs;
      are = (p.0, p.1, one.runs, rest.runs, p.3, one.is_run, rest.are, refl);
      after = rest.after;
      is = rest.is;
      counted = both_counted one.runs rest.runs before one.after rest.after one.counted rest.counted;
    }

pub cover_adds_up : RunsAddUp → CoverAddsUp
cover_adds_up add make old new actions text before is others p =
    let all = all_ran make old actions text new before is others p in
    record {
      runs = all.runs;
      are = all.are;
      after = all.after;
      is = all.is;
      counts = λ address range. add all.runs before all.after address all.counted range;
    }
