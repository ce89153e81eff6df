-- What is decided can be carried out.
use Rattle.std.proofs.Common.{◌≡◌, ℕ, ◌<◌, ◌^◌, ◌+◌, Bool, true, false, Option, Some, None, List, [], ◌∷◌, map, refl, sym, ap, subst, arith}
use Rattle.std.specs.Prelude.{Result, Ok, Err, drop}
use Rattle.std.specs.List.{AllByRecursion}
use Rattle.std.specs.Option.{ok_or}
use Rattle.cx_base.specs.declared.commands.Command.{Command}
use Rattle.cx_base.specs.declared.legal.ListedCondition.{ListedCondition}
use Rattle.cx_storage.specs.Address.{address_in}
use Rattle.cx_storage.specs.Storage.{Storage}
use Rattle.cx_service.specs.Queues.{AreSoundQueues}
use Rattle.cx_region_state.specs.declared.call.CallFault.{CallFault}
use Rattle.cx_region_state.specs.declared.call.CallFault.TheVariants.{Xarg}
use Rattle.cx_region_state.specs.Call.{ArgumentBlock, Call, argument_count, block_of, call_of, command_of, conditions_of, marks_last_alone, only_if, places_of, then_result, words_from}
use Rattle.cx_region_commands.specs.Common.{AreSoundPrograms}
use Rattle.cx_region_commands.specs.Facts.Fits.{judged_fits}
use Rattle.cx_region_state.specs.declared.verdict.Verdict.TheVariants.{Meets}
use Rattle.cx_region_state.specs.State.{TaskContext}
use Rattle.cx_region_state.specs.Parts.Fits.{FitsChange}
use Rattle.cx_region_task.specs.declared.continuation.Continuation.{Continuation}
use Rattle.cx_region_task.specs.declared.decision.Act.{Act}
use Rattle.cx_region_task.specs.declared.decision.Decision.{Decision}
use Rattle.cx_region_task.specs.declared.decision.Decision.TheVariants as decision
use Rattle.cx_region_task.specs.Facts.Met.{to_be_done}
use Rattle.cx_region_task.specs.Parts.Making.{MatchWay}
use Rattle.cx_region_task.specs.Parts.Performing.{FitsDecision, decision_takes_memory}
use Rattle.cx_region_task.specs.Performing.{Decides, argument_list}
use Rattle.cx_region_task.specs.Turn.{TakesMemory}
use Rattle.cx_region_task.proofs.WayLemmas.{way_fits}

-- ---- the addresses of a call's arguments
abbrev AreLow : List ℕ → Type 0
AreLow places = AllByRecursion (λ place. place < 2 ^ 24) places

addresses_low : (words : List ℕ) → AreLow (map address_in words)
addresses_low [] = tt
addresses_low (w ∷ words) = (omega arith, addresses_low words)

same_Ok : {A : Type 0} → (a b : A) (r : Result A CallFault) → r ≡ Ok a → r ≡ Ok b → a ≡ b
same_Ok a b r one two = cc

places_low : (s : Storage) (list n : ℕ) (places : List ℕ) → places_of s list n ≡ Ok places → AreLow places
unfolding places_of
places_low s list n places is = go (words_from s list (1 + n)) is
  where
    marked : (b : Bool) (words : List ℕ) → only_if b (map address_in (drop 1 words)) Xarg ≡ Ok places → AreLow places
    marked true words e = subst AreLow (same_Ok (map address_in (drop 1 words)) places (Ok (map address_in (drop 1 words))) refl e) (addresses_low (drop 1 words))
    marked false words e = cc

    go : (o : Option (List ℕ)) → then_result (ok_or o Xarg) (λ words. only_if (marks_last_alone words) (map address_in (drop 1 words)) Xarg) ≡ Ok places → AreLow places
    go None e = cc
    go (Some words) e = marked (marks_last_alone words) words e

pub call_low : (s : Storage) (list : ℕ) (call : Call) → call_of s list ≡ Ok call → AreLow call.places
unfolding call_of
call_low s list call is = by_block (block_of s list) is
  where
    read : Command → ArgumentBlock → List ListedCondition → List ℕ → Call
    read command block conditions places = record { command = command; first = block.first; second = block.second; conditions = conditions; places = places }

    by_places : (command : Command) (block : ArgumentBlock) (conditions : List ListedCondition) (r : Result (List ℕ) CallFault) → places_of s list (argument_count command block conditions) ≡ r
        → then_result r (λ places. Ok (read command block conditions places)) ≡ Ok call → AreLow call.places
    by_places command block conditions (Ok places) at e =
        subst AreLow (ap (λ (c : Call). c.places) (same_Ok (read command block conditions places) call (Ok (read command block conditions places)) refl e)) (places_low s list (argument_count command block conditions) places at)
    by_places command block conditions (Err fault) at e = cc

    by_conditions : (command : Command) (block : ArgumentBlock) (r : Result (List ListedCondition) CallFault)
        → then_result r (λ conditions. then_result (places_of s list (argument_count command block conditions)) (λ places. Ok (read command block conditions places))) ≡ Ok call → AreLow call.places
    by_conditions command block (Ok conditions) e = by_places command block conditions (places_of s list (argument_count command block conditions)) refl e
    by_conditions command block (Err fault) e = cc

    by_command : (block : ArgumentBlock) (r : Result Command CallFault)
        → then_result r (λ command. then_result (conditions_of s command block) (λ conditions. then_result (places_of s list (argument_count command block conditions)) (λ places. Ok (read command block conditions places)))) ≡ Ok call
        → AreLow call.places
    by_command block (Ok command) e = by_conditions command block (conditions_of s command block) e
    by_command block (Err fault) e = cc

    by_block : (r : Result ArgumentBlock CallFault)
        → then_result r (λ block. then_result (command_of block) (λ command. then_result (conditions_of s command block) (λ conditions. then_result (places_of s list (argument_count command block conditions)) (λ places. Ok (read command block conditions places))))) ≡ Ok call
        → AreLow call.places
    by_block (Ok block) e = by_command block (command_of block) e
    by_block (Err fault) e = cc

-- ---- a decision
pub act_fits : (act : Act) (r : TaskContext) → AreSoundPrograms r.shared.programs → AreSoundQueues r.shared.queues → Decides r (decision.Act act) → FitsChange act.change r
act_fits act r programs queues decides =
    let known = to_be_done act r decides in
    (judged_fits act.call r (Meets act.condition act.outputs act.change) queues (call_low r.shared.storage (argument_list r.task) act.call known.reads) programs known.inputs known.judged).1

pub decided_fits : (decided : Decision) (r : TaskContext) → AreSoundPrograms r.shared.programs → AreSoundQueues r.shared.queues → Decides r decided → FitsDecision decided r
unfolding FitsDecision
decided_fits (decision.Refuse call refusal) r programs queues decides = tt
decided_fits (decision.Wait call wait) r programs queues decides = tt
decided_fits (decision.Act act) r programs queues decides =
    let known = to_be_done act r decides in
    let fits = act_fits act r programs queues decides in
    let way = way_fits act.call r.task.levels.current.handles.active.entries act.condition act.change r fits in
    (fits, subst (λ (gone : Continuation). MatchWay gone r.task.levels) (sym known.way) way)

pub decided_takes : (decided : Decision) (r : TaskContext) → r.task.due ≡ true → Decides r decided → decision_takes_memory decided ≡ true → TakesMemory r
decided_takes (decision.Refuse call refusal) r due decides takes = absurd (let no : false ≡ true = takes in cc)
decided_takes (decision.Wait call wait) r due decides takes = absurd (let no : false ≡ true = takes in cc)
decided_takes (decision.Act act) r due decides takes = record { due = due; act = act; decides = decides; takes = takes }
