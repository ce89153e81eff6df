-- What an event under EDF is for the region.
use Rattle.std.proofs.Common.{◌≡◌, Bool, true, false, [], ◌∷◌, map, Option, Some, None, refl, sym, ◌∙◌, ap, subst}
use Rattle.std.specs.Prelude.{if◌then◌else◌}
use Rattle.std.proofs.lemmas.Bool.{true≢false}
use Rattle.cx_region.specs.State.{RegionState}
use Rattle.cx_region_laws.specs.Facts.Alterations.{alter_reply, refused_alterations_leave}
use Rattle.cx_region.specs.Events.{Applies, Run}
use Rattle.cx_region.specs.declared.replies.Event.{Event}
use Rattle.cx_region.specs.declared.replies.Event.TheVariants as event
use Rattle.cx_region.specs.declared.replies.Reply.{Reply}
use Rattle.cx_region.specs.declared.replies.Reply.TheVariants as reply
use Rattle.cx_edf.specs.declared.answers.EdfEvent.{EdfEvent}
use Rattle.cx_edf.specs.declared.answers.Answer.{Answer}
use Rattle.cx_edf.specs.State.{EdfState}
use Rattle.cx_edf.specs.Steps.{DisplayMaker, DoorAnswers, Door, EdfApplies, Keeps, PassesOn, Passes, door_of}
use Rattle.cx_edf.specs.Erasure.{is_refused, left_in, left_of, reply_in}
use Rattle.cx_edf.proofs.DoorLemmas.{Fits, fits}
use Rattle.cx_edf.proofs.EndLemmas.{ended_reply}

-- no event of the region
none : (old new : RegionState) → new ≡ old → Run old [] [] new
unfolding Run
none old new same = same

-- one event of the region
one : (old : RegionState) (e : Event) (r : Reply) (new : RegionState) → Applies old e r new → Run old (e ∷ []) (r ∷ []) new
unfolding Run
one old e r new applies = (new, applies, refl)

-- a refused alteration leaves the region
refused_stays : (old : RegionState) (e : Event) (r : Reply) (new : RegionState) → is_refused e r ≡ true → Applies old e r new → new ≡ old
refused_stays old (event.Alter name c) r new is h =
    let altered = alter_reply old name c r new h in
    refused_alterations_leave old name c altered.0 new altered.2
    (λ done. true≢false (sym is ∙ ap (is_refused (event.Alter name c)) (altered.1 ∙ ap (λ x. reply.Alter x) done)))
refused_stays old _ r new is h = absurd (true≢false (sym is))

-- what was passed, except a refused alteration
left_runs_in : (old : RegionState) (e : Event) (r : Reply) (new : RegionState) → Applies old e r new
    → Run old (map (λ (p : Event × Reply). p.0) (if is_refused e r then [] else (e, r) ∷ [])) (map (λ (p : Event × Reply). p.1) (if is_refused e r then [] else (e, r) ∷ [])) new
left_runs_in old e r new h = go (is_refused e r) refl
  where
    go : (b : Bool) → is_refused e r ≡ b
        → Run old (map (λ (p : Event × Reply). p.0) (if b then [] else (e, r) ∷ [])) (map (λ (p : Event × Reply). p.1) (if b then [] else (e, r) ∷ [])) new
    go true is = none old new (refused_stays old e r new is h)
    go false is = one old e r new h

-- the answer has the region's reply
pub reported_reply : (make : DisplayMaker) (old : EdfState) (e : EdfEvent) (x : Event) (own : Option Answer) (given : Answer) (new : EdfState) → Fits old e (Passes x own) → (row : PassesOn make old x own given new)
    → reply_in given ≡ row.reply
unfolding Fits
reported_reply make old e x None given new fit row = ap reply_in row.answers
reported_reply make old e x (Some own) given new fit row =
    ap reply_in (row.answers ∙ fit.1.own_answer)
    ∙ sym (ended_reply old.region fit.1.name row.reply new.region fit.1.live (subst (λ (y : Event). Applies old.region y row.reply new.region) fit.1.abend row.applies))

left_at : (make : DisplayMaker) (old : EdfState) (e : EdfEvent) (door : Door) (given : Answer) (new : EdfState) → Fits old e door → DoorAnswers make old door given new
    → Run old.region (map (λ (p : Event × Reply). p.0) (left_in door given)) (map (λ (p : Event × Reply). p.1) (left_in door given)) new.region
left_at make old e (Keeps own sessions) given new fit row = none old.region new.region (ap (λ (s : EdfState). s.region) row.1)
left_at make old e (Passes x own) given new fit row =
    subst (λ (r : Reply). Run old.region (map (λ (p : Event × Reply). p.0) (if is_refused x r then [] else (x, r) ∷ [])) (map (λ (p : Event × Reply). p.1) (if is_refused x r then [] else (x, r) ∷ [])) new.region)
    (sym (reported_reply make old e x own given new fit row)) (left_runs_in old.region x row.reply new.region row.applies)

-- what is left of one event is a run of the region
pub left_runs : (make : DisplayMaker) (old : EdfState) (e : EdfEvent) (given : Answer) (new : EdfState) → EdfApplies make old e given new
    → Run old.region (map (λ (p : Event × Reply). p.0) (left_of old e given)) (map (λ (p : Event × Reply). p.1) (left_of old e given)) new.region
unfolding EdfApplies left_of
left_runs make old e given new row = left_at make old e (door_of old e) given new (fits old e) row
