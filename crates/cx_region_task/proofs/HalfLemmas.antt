-- What a half-turn keeps, by the command that is due or the instructions that run.
use Rattle.std.proofs.Common.{◌≡◌, Bool, true, false, Option, refl}
use Rattle.std.specs.Prelude.{MatchBool}
use Rattle.cx_base.specs.Abends.{abend_code}
use Rattle.cx_base.specs.declared.abends.Abend.TheVariants as abend
use Rattle.cx_exec.specs.declared.machine.Halt.{Halt}
use Rattle.cx_exec.specs.declared.machine.Halt.TheVariants as halt
use Rattle.cx_exec_laws.specs.Facts.Keeps.{runs_keep_areas}
use Rattle.cx_storage.specs.Storage.{areas_of, IsSoundStorage}
use Rattle.cx_service.specs.Queues.{AreSoundQueues}
use Rattle.cx_region_commands.specs.Common.{AreSoundPrograms}
use Rattle.cx_region_state.specs.declared.replies.TurnReply.{TurnReply}
use Rattle.cx_region_state.specs.declared.replies.TurnReply.TheVariants as turn
use Rattle.cx_region_state.specs.State.{TaskContext}
use Rattle.cx_region_task.specs.declared.cause.AbendRecord.{AbendRecord}
use Rattle.cx_region_task.specs.declared.decision.Decision.{Decision}
use Rattle.cx_region_task.specs.declared.decision.Decision.TheVariants as decision
use Rattle.cx_region_task.specs.Facts.Met.{to_be_done}
use Rattle.cx_region_task.specs.Laws.HalfTurns.{HalfTurnKeeps}
use Rattle.cx_region_task.specs.Performing.{CarriesOut, Decides}
use Rattle.cx_region_task.specs.Sound.{IsSoundTask}
use Rattle.cx_region_task.specs.Turn.{HalfTurn, HalfTurnWith, PerformsCommand, EndsRun, RunsOn, after_machine, at_command, machine_of, most_steps}
use Rattle.cx_region_task.proofs.DecisionLemmas.{act_fits}
use Rattle.cx_region_task.proofs.MidLemmas.{Mid, abend_keeps, begins, goes_on}
use Rattle.cx_region_task.proofs.SoundSteps.{Owns}
use Rattle.cx_region_task.proofs.TurnLemmas.{acts_keep, waits_keeps}

-- ---- a command
carried_keeps : (decided : Decision) (before after : TaskContext) (reply : TurnReply) → IsSoundStorage before.shared.storage → AreSoundPrograms before.shared.programs → AreSoundQueues before.shared.queues
    → IsSoundTask before.shared.storage before.terminal_entry.slot before.task → Decides before decided → CarriesOut decided before reply after → HalfTurnKeeps before reply after
unfolding CarriesOut
carried_keeps (decision.Refuse call refusal) before after reply ok programs queues own decides abends =
    abend_keeps (abend_code refusal) false before before after reply (begins before ok own) abends
carried_keeps (decision.Wait call wait) before after reply ok programs queues own decides leaves = waits_keeps before after reply (begins before ok own) leaves
carried_keeps (decision.Act act) before after reply ok programs queues own decides does =
    acts_keep act before after reply ok own (act_fits act before programs queues decides) (to_be_done act before decides) does

-- ---- instructions
runs_keep : (before after : TaskContext) (reply : TurnReply) (abend_record : Option AbendRecord) → IsSoundStorage before.shared.storage
    → IsSoundTask before.shared.storage before.terminal_entry.slot before.task → RunsOn before reply abend_record after → HalfTurnKeeps before reply after
unfolding EndsRun
runs_keep before after reply abend_record ok own runs = by_halt runs.how (rw (runs.rest) at runs.ends)
  where
    mid : TaskContext
    mid = after_machine before (machine_of runs.between)

    areas : areas_of mid.shared.storage ≡ areas_of before.shared.storage
    areas = runs_keep_areas most_steps (machine_of before) runs.how (machine_of runs.between) runs.advances

    held : Mid before mid
    held =
        record {
          slot = refl;
          programs = refl;
          resources = refl;
          storage = before.shared.storage;
          sound = ok;
          same = areas;
          others = refl;
          task = record { eib = own.eib; current = own.current; callers = own.callers; few = own.few; apart = own.apart };
        }

    stopped : Owns 15 before.terminal_entry.slot before.shared.storage mid.task.eib (record mid { task = at_command mid.task }).task.levels.callers (record mid { task = at_command mid.task }).task.levels.current
    stopped =
        record {
          eib_there = own.eib;
          current_there = record { stg = own.current.stg; pushes = own.current.pushes };
          callers_there = own.callers;
          few = own.few;
          apart = own.apart;
        }

    by_halt : (how : Halt) → EndsRun how mid reply after → HalfTurnKeeps before reply after
    by_halt halt.AtEntry it = rw (it.0, it.1) (goes_on before mid (record mid { task = at_command mid.task }) turn.AtCommand held refl refl refl refl before.shared.storage areas refl stopped)
    by_halt (halt.Interrupt cause place) abends = abend_keeps (abend_code abend.Asra) false before mid after reply held abends
    by_halt halt.Limit abends = abend_keeps (abend_code abend.Aica) false before mid after reply held abends

pub half_turn_keeps : (before after : TaskContext) (reply : TurnReply) → IsSoundStorage before.shared.storage → AreSoundPrograms before.shared.programs → AreSoundQueues before.shared.queues
    → IsSoundTask before.shared.storage before.terminal_entry.slot before.task → HalfTurn before reply after → HalfTurnKeeps before reply after
unfolding HalfTurnWith
half_turn_keeps before after reply ok programs queues own half = by_due before.task.due half.turns
  where
    by_due : (b : Bool) → MatchBool b (PerformsCommand before reply half.abend_record after) (RunsOn before reply half.abend_record after) → HalfTurnKeeps before reply after
    by_due true it = carried_keeps it.decided before after reply ok programs queues own it.decides it.carries
    by_due false runs = runs_keep before after reply half.abend_record ok own runs
