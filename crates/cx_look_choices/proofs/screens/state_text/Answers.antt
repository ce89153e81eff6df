use Rattle.std.proofs.Common.{subst}
use Rattle.std.specs.Prelude.{MatchBool, not}
use Rattle.cx_look_tasks.specs.Tasks.{WaitsText}
use Rattle.cx_choices.specs.Settling.{IsAtRest}
use Rattle.cx_region.specs.State.{RegionState}
use Rattle.cx_look_choices.specs.States.{running_line}
use Rattle.cx_look_choices.proofs.ScreenLemmas.{not_still, three_parts}
use Rattle.cx_look_choices.proofs.screens.state_text.Goals as goal

pub returns : goal.returns
returns g c =
    let there = c.in_ok-restore.ensures.ok in
    let waits = c.in_ok-waits.waits in
    let sight = c.in_ok-sight.sight in
    let running = not c.is_at_rest-is_running.result in
    record {
      waits = waits;
      waiting = subst (λ (r : RegionState). WaitsText r waits) there c.in_ok-waits.ensures;
      is_running = running;
      running = not_still (IsAtRest c.args.state.now.region) (IsAtRest c.args.state.now.region → ⊥) c.is_at_rest-is_running.result
          (subst (λ (r : RegionState). MatchBool c.is_at_rest-is_running.result (IsAtRest r) (IsAtRest r → ⊥)) there c.is_at_rest-is_running.ensures);
      sight = sight;
      seen = subst (λ (r : RegionState). g.V.Seen.shows c.args.seen.now r sight) there c.in_ok-sight.ensures;
      is = three_parts c.new-report.result c.append.new.self c.running_line.new.report c.append-2.new.self waits (running_line running) sight
          c.new-report.ensures c.in_ok-append.ensures c.in_ok-running_line.ensures c.in_ok-append-2.ensures;
    }
