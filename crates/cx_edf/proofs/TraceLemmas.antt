-- Runs under EDF from their states.
use Rattle.std.proofs.Common.{◌≡◌, zero, suc, List, [], ◌∷◌, ◌++◌, refl, sym, subst}
use Rattle.cx_region.specs.State.{RegionState}
use Rattle.cx_region.specs.declared.replies.Event.{Event}
use Rattle.cx_region.specs.declared.replies.Reply.{Reply}
use Rattle.cx_region.specs.Events.{Run}
use Rattle.cx_edf.specs.declared.answers.EdfEvent.{EdfEvent}
use Rattle.cx_edf.specs.declared.answers.Answer.{Answer}
use Rattle.cx_edf.specs.State.{EdfState}
use Rattle.cx_edf.specs.Steps.{DisplayMaker, EdfApplies}
use Rattle.cx_edf.specs.Erasure.{erasure, region_replies}
use Rattle.cx_edf.specs.Runs.{EdfRun, Trace, last_state}
use Rattle.cx_edf.specs.Laws.Displays.{LastDisplaysAreKept, displays_after, history}
use Rattle.cx_edf.specs.Laws.Edf.{EventsAreSteps, FrontsAreTraces, WhatIsLeftIsARun}
use Rattle.cx_edf.proofs.StepLemmas.{left_runs}
use Rattle.cx_edf.proofs.KeptLemmas.{kept_after}

-- runs of the region one after another
joined : (old between new : RegionState) (events more : List Event) (replies others : List Reply)
    → Run old events replies between → Run between more others new → Run old (events ++ more) (replies ++ others) new
unfolding Run
joined old between new [] more [] others first second = subst (λ (r : RegionState). Run r more others new) first second
joined old between new [] more (r ∷ rs) others first second = absurd first
joined old between new (e ∷ es) more [] others first second = absurd first
joined old between new (e ∷ es) more (r ∷ rs) others first second = (first.0, first.1, joined first.0 between new es more rs others first.2 second)

nothing : (r : RegionState) → Run r [] [] r
unfolding Run
nothing r = refl

-- what is left of a trace is a run
pub what_is_left_is_a_run : WhatIsLeftIsARun
unfolding Trace erasure region_replies last_state
what_is_left_is_a_run make old [] [] [] trace = nothing old.region
what_is_left_is_a_run make old [] [] (s ∷ ss) trace = absurd trace
what_is_left_is_a_run make old [] (a ∷ gs) ss trace = absurd trace
what_is_left_is_a_run make old (e ∷ es) [] ss trace = absurd trace
what_is_left_is_a_run make old (e ∷ es) (a ∷ gs) [] trace = absurd trace
what_is_left_is_a_run make old (e ∷ es) (a ∷ gs) (s ∷ ss) trace =
    joined old.region s.region (last_state s ss).region _ _ _ _ (left_runs make old e a s trace.0) (what_is_left_is_a_run make s es gs ss trace.1)

-- a front of a trace
pub fronts_are_traces : FrontsAreTraces
unfolding Trace
fronts_are_traces make old es gs ss zero trace = tt
fronts_are_traces make old [] [] [] (suc n) trace = tt
fronts_are_traces make old [] [] (s ∷ ss) (suc n) trace = absurd trace
fronts_are_traces make old [] (a ∷ gs) ss (suc n) trace = absurd trace
fronts_are_traces make old (e ∷ es) [] ss (suc n) trace = absurd trace
fronts_are_traces make old (e ∷ es) (a ∷ gs) [] (suc n) trace = absurd trace
fronts_are_traces make old (e ∷ es) (a ∷ gs) (s ∷ ss) (suc n) trace = (trace.0, fronts_are_traces make s es gs ss n trace.1)

-- what is kept after a trace
pub last_displays_are_kept : LastDisplaysAreKept
unfolding Trace history last_state
last_displays_are_kept make old [] [] [] q all trace kept = kept
last_displays_are_kept make old [] [] (s ∷ ss) q all trace kept = absurd trace
last_displays_are_kept make old [] (a ∷ gs) ss q all trace kept = absurd trace
last_displays_are_kept make old (e ∷ es) [] ss q all trace kept = absurd trace
last_displays_are_kept make old (e ∷ es) (a ∷ gs) [] q all trace kept = absurd trace
last_displays_are_kept make old (e ∷ es) (a ∷ gs) (s ∷ ss) q all trace kept =
    last_displays_are_kept make s es gs ss q (displays_after make old e a s q all) trace.1 (kept_after make old e a s q all trace.0 kept)

-- one more event
trace_more : (make : DisplayMaker) (old : EdfState) (events : List EdfEvent) (answers : List Answer) (states : List EdfState) (e : EdfEvent) (given : Answer) (new : EdfState)
    → Trace make old events answers states → EdfApplies make (last_state old states) e given new
    → Trace make old (events ++ e ∷ []) (answers ++ given ∷ []) (states ++ new ∷ [])
unfolding Trace last_state
trace_more make old [] [] [] e given new trace row = (row, tt)
trace_more make old [] [] (s ∷ ss) e given new trace row = absurd trace
trace_more make old [] (a ∷ gs) ss e given new trace row = absurd trace
trace_more make old (x ∷ es) [] ss e given new trace row = absurd trace
trace_more make old (x ∷ es) (a ∷ gs) [] e given new trace row = absurd trace
trace_more make old (x ∷ es) (a ∷ gs) (s ∷ ss) e given new trace row = (trace.0, trace_more make s es gs ss e given new trace.1 row)

last_more : (old : EdfState) (states : List EdfState) (new : EdfState) → last_state old (states ++ new ∷ []) ≡ new
unfolding last_state
last_more old [] new = refl
last_more old (s ∷ ss) new = last_more s ss new

pub events_are_steps : EventsAreSteps
events_are_steps make old events answers states e given new trace row = (trace_more make old events answers states e given new trace row, last_more old states new)

pub run_empty : (make : DisplayMaker) (old : EdfState) → EdfRun make old [] [] old
unfolding Trace last_state
run_empty make old = record { states = []; trace = tt; ends = refl }

pub run_last : (make : DisplayMaker) (old mid new : EdfState) (events : List EdfEvent) (e : EdfEvent) (answers : List Answer) (given : Answer) → EdfRun make old events answers mid → EdfApplies make mid e given new
    → EdfRun make old (events ++ e ∷ []) (answers ++ given ∷ []) new
run_last make old mid new events e answers given run row =
    let more = events_are_steps make old events answers run.states e given new run.trace (subst (λ (s : EdfState). EdfApplies make s e given new) (sym run.ends) row) in
    record { states = run.states ++ new ∷ []; trace = more.0; ends = more.1 }
