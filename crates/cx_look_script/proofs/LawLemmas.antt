-- A look changes nothing.
use Rattle.std.proofs.Common.{◌≡◌, ℕ, zero, suc, Bool, true, false, MatchBool, Option, Some, None, List, [], ◌∷◌, ◌++◌, refl, sym, ap, ◌∙◌, subst, append-nil, append_assoc}
use Rattle.std.specs.Prelude.{MatchOption}
use Rattle.std.specs.List.{flat_map}
use Rattle.cx_edf.specs.State.{EdfState}
use Rattle.cx_edf.specs.Steps.{DisplayMaker}
use Rattle.cx_script_actions.specs.Effects.{Performs, Replies}
use Rattle.cx_script_actions.specs.declared.actions.Action.{Action}
use Rattle.cx_script_actions.specs.declared.actions.Action.TheVariants as edf_action
use Rattle.cx_script.specs.Transcript.{PerformsAll}
use Rattle.cx_look_script.specs.Looking.{Acts, NotedPerforms, RunsTurn, TakesOneMore}
use Rattle.cx_look_script.specs.Runs.{StopsWith, run_over}
use Rattle.cx_look_script.specs.State.{LookState}
use Rattle.cx_look_script.specs.Watched.{IsWatchedText, cause_of}
use Rattle.cx_look_script.specs.Laws.Looks.{ArePartsOf, ChangesNothing, IsMoreOfRun, IsPart, IsTurnOfRun, LooksChangeNothing, ActionPart, after_turns, state_kept_after, plain_of, text_of_part, turn_action, written_of}
use Rattle.cx_look_script.specs.declared.action.LookAction.{LookAction}
use Rattle.cx_look_script.specs.declared.action.LookAction.TheVariants as action
use Rattle.cx_look_script.specs.declared.action.Stop.{Stop}

runs_one : (make : DisplayMaker) (old : LookState) (a : Action) (text : List ℕ) (new : LookState) → NotedPerforms make old a text new → PerformsAll (NotedPerforms make) old (a ∷ []) text new
unfolding PerformsAll
runs_one make old a text new p = (new, text, [], p, (refl, refl), sym (append-nil text))

-- what `cicsedf` does and writes of an action
pub performs : (make : DisplayMaker) (old : LookState) (a : Action) (text : List ℕ) (new : LookState) → NotedPerforms make old a text new → Performs make old.edf a text new.edf
unfolding NotedPerforms Performs Replies
performs make old (edf_action.Event e) text new p = (p.0, p.1.noted.applies, p.2)
performs make old (edf_action.Image name image) text new p = p.0
performs make old (edf_action.Source name before image) text new p = p.0
performs make old (edf_action.Screen name) text new p = p.0
performs make old (edf_action.Display name) text new p = p.0
performs make old (edf_action.Previous name k) text new p = p.0

-- ---- parts
-- what became of an action, where this is written of what is watched
pub record Did (make : DisplayMaker) (old : LookState) (a : LookAction) (own watched : List ℕ) (new : LookState) : Type 0 where
  pub part : ActionPart
  pub is : IsPart old a part
  pub done : LookState
  pub runs : PerformsAll (NotedPerforms make) old part.plain part.written done
  pub kept : new ≡ state_kept_after old a part.plain done
  pub whole : own ≡ part.written ++ part.looked
  pub shown : part.watched ≡ watched

-- an action that is done as one of `cicsedf`
did_action : (make : DisplayMaker) (old : LookState) (a : LookAction) (done : Action) (text watched : List ℕ) (new : LookState) → IsPart old a (let part : ActionPart = record { plain = done ∷ []; written = text; looked = []; watched = watched } in part)
    → new ≡ state_kept_after old a (done ∷ []) new → NotedPerforms make old done text new → Did make old a text watched new
did_action make old a done text watched new is kept p =
    record {
      part = record { plain = done ∷ []; written = text; looked = []; watched = watched };
      is = is;
      done = new;
      runs = runs_one make old done text new p;
      kept = kept;
      whole = sym (append-nil text);
      shown = refl;
    }

-- an action that does none
did_nothing : (make : DisplayMaker) (old : LookState) (a : LookAction) (text watched : List ℕ) (new : LookState) → IsPart old a (let part : ActionPart = record { plain = []; written = []; looked = text; watched = watched } in part)
    → new ≡ state_kept_after old a [] old → Did make old a text watched new
unfolding PerformsAll
did_nothing make old a text watched new is kept =
    record {
      part = record { plain = []; written = []; looked = text; watched = watched };
      is = is;
      done = old;
      runs = (refl, refl);
      kept = kept;
      whole = refl;
      shown = refl;
    }

-- a turn of RUN, or the line in its place
record Turned (make : DisplayMaker) (old : LookState) (name : List ℕ) (s : Stop) (own watched : List ℕ) (new : LookState) : Type 0 where
  part : ActionPart
  is : IsTurnOfRun old name s part
  done : LookState
  runs : PerformsAll (NotedPerforms make) old part.plain part.written done
  kept : new ≡ after_turns part.plain done
  whole : own ≡ part.written ++ part.looked
  shown : part.watched ≡ watched

turned : (make : DisplayMaker) (old : LookState) (name : List ℕ) (s : Stop) (text watched : List ℕ) (new : LookState) (line : Option (List ℕ)) → StopsWith s old.sources old.edf name line
    → MatchOption line (NotedPerforms make old (turn_action name) text new) (λ l. (text ≡ l) × (new ≡ run_over old)) → Turned make old name s text watched new
unfolding PerformsAll
turned make old name s text watched new None stops p =
    record {
      part = record { plain = turn_action name ∷ []; written = text; looked = []; watched = watched };
      is = record { line = None; stops = stops; is = (refl, refl) };
      done = new;
      runs = runs_one make old (turn_action name) text new p;
      kept = refl;
      whole = sym (append-nil text);
      shown = refl;
    }
turned make old name s text watched new (Some l) stops p =
    record {
      part = record { plain = []; written = []; looked = text; watched = watched };
      is = record { line = Some l; stops = stops; is = (refl, p.0) };
      done = old;
      runs = (refl, refl);
      kept = p.1;
      whole = refl;
      shown = refl;
    }

did_turn : (make : DisplayMaker) (old : LookState) (name : List ℕ) (n : ℕ) (s : Stop) (text watched : List ℕ) (new : LookState) → RunsTurn make old name s text new → Did make old (action.Run name n s) text watched new
did_turn make old name n s text watched new p =
    let t = turned make old name s text watched new p.line p.stops p.does in
    record { part = t.part; is = t.is; done = t.done; runs = t.runs; kept = t.kept; whole = t.whole; shown = t.shown }

-- one more turn of RUN, or its last line
same_over : (old : LookState) → old.goes_on ≡ false → old ≡ run_over old
same_over old e = ap (λ (b : Bool). let s : LookState = record old { goes_on = b } in s) e

did_more : (make : DisplayMaker) (old : LookState) (name : List ℕ) (n : ℕ) (s : Stop) (text watched : List ℕ) (new : LookState) (on : Bool) → old.goes_on ≡ on
    → MatchBool on (TakesOneMore make old name n s text new) ((text ≡ []) × (new ≡ old)) → Did make old (action.RunOn name n s) text watched new
did_more make old name zero s text watched new true e p =
    let last : ActionPart = record { plain = []; written = []; looked = text; watched = watched } in
    did_nothing make old (action.RunOn name zero s) text watched new
    (subst (λ (on : Bool). MatchBool on (IsMoreOfRun old name zero s last) ((last.plain ≡ []) × (last.looked ≡ []))) (sym e) (refl, p.0)) p.1
did_more make old name (suc n) s text watched new true e p =
    let t = turned make old name s text watched new p.line p.stops p.does in
    record {
      part = t.part;
      is = subst (λ (on : Bool). MatchBool on (IsTurnOfRun old name s t.part) ((t.part.plain ≡ []) × (t.part.looked ≡ []))) (sym e) t.is;
      done = t.done;
      runs = t.runs;
      kept = t.kept;
      whole = t.whole;
      shown = t.shown;
    }
did_more make old name n s text watched new false e p =
    let none : ActionPart = record { plain = []; written = []; looked = text; watched = watched } in
    did_nothing make old (action.RunOn name n s) text watched new
    (subst (λ (on : Bool). MatchBool on (IsMoreOfRun old name n s none) ((none.plain ≡ []) × (none.looked ≡ []))) (sym e) (refl, p.0)) (p.1 ∙ same_over old e)

pub did : (make : DisplayMaker) (old : LookState) (a : LookAction) (text watched : List ℕ) (new : LookState) → Acts make old a text new → Did make old a text watched new
unfolding Acts
did make old (action.Script a) text watched new p = did_action make old (action.Script a) a text watched new (refl, refl) refl p
did make old (action.Source name lines a) text watched new p =
    record {
      part = record { plain = a ∷ []; written = text; looked = []; watched = watched };
      is = (refl, refl);
      done = p.done;
      runs = runs_one make old a text p.done p.performs;
      kept = p.keeps;
      whole = sym (append-nil text);
      shown = refl;
    }
did make old (action.Run name n s) text watched new p = did_turn make old name n s text watched new p
did make old (action.RunOn name n s) text watched new p = did_more make old name n s text watched new old.goes_on refl p
did make old (action.Watch w) text watched new p = did_nothing make old (action.Watch w) text watched new (refl, p.0) p.1
did make old (action.Cover on) text watched new p = did_nothing make old (action.Cover on) text watched new (refl, p.0) p.1
did make old (action.Look l) text watched new p = did_nothing make old (action.Look l) text watched new (refl, p.0) p.1
did make old (action.Orders block) text watched new p = did_nothing make old (action.Orders block) text watched new (refl, p.0) p.1
did make old (action.Choices block) text watched new p = did_nothing make old (action.Choices block) text watched new (refl, p.0) p.1
did make old (action.BadLook number s) text watched new p = did_nothing make old (action.BadLook number s) text watched new (refl, p.0) p.1

append_plain : (make : DisplayMaker) (old : LookState) (xs : List Action) (s : List ℕ) (mid : LookState) (ys : List Action) (t : List ℕ) (new : LookState)
    → PerformsAll (NotedPerforms make) old xs s mid → PerformsAll (Performs make) mid.edf ys t new.edf → PerformsAll (Performs make) old.edf (xs ++ ys) (s ++ t) new.edf
unfolding PerformsAll
append_plain make old [] s mid ys t new p q =
    subst (λ (m : LookState). PerformsAll (Performs make) m.edf ys (s ++ t) new.edf) p.1 (subst (λ l. PerformsAll (Performs make) mid.edf ys (l ++ t) new.edf) (sym p.0) q)
append_plain make old (x ∷ xs) s mid ys t new p q =
    (p.0.edf, p.1, p.2 ++ t, performs make old x p.1 p.0 p.3, append_plain make p.0 xs p.2 mid ys t new p.4 q, ap (λ l. l ++ t) p.5 ∙ append_assoc p.1 p.2 t)

-- what is kept of sources, and whether RUN is over, is no part of the region under EDF
after_same : (plain : List Action) (done : LookState) → (after_turns plain done).edf ≡ done.edf
after_same [] done = refl
after_same (turn ∷ turns) done = refl

kept_same : (old : LookState) (a : LookAction) (plain : List Action) (done : LookState) → (state_kept_after old a plain done).edf ≡ done.edf
kept_same old (action.Script a) plain done = refl
kept_same old (action.Source name lines a) plain done = refl
kept_same old (action.Run name n s) plain done = after_same plain done
kept_same old (action.RunOn name n s) plain done = after_same plain done
kept_same old (action.BadLook number s) plain done = refl
kept_same old (action.Watch w) plain done = refl
kept_same old (action.Cover on) plain done = refl
kept_same old (action.Look l) plain done = refl
kept_same old (action.Orders block) plain done = refl
kept_same old (action.Choices block) plain done = refl

in_front : (make : DisplayMaker) (old : LookState) (a : LookAction) (own first watched : List ℕ) (between : LookState) (actions : List LookAction) (rest text : List ℕ) (new : LookState)
    → Did make old a own watched between → IsWatchedText old (cause_of a) between watched → first ≡ own ++ watched → ChangesNothing make between actions rest new → text ≡ first ++ rest → ChangesNothing make old (a ∷ actions) text new
unfolding ArePartsOf
in_front make old a own first watched between actions rest text new d seen is r e =
    let plain : List Action = flat_map plain_of r.parts in
    let written : List ℕ = flat_map written_of r.parts in
    let shown : own ++ watched ≡ text_of_part d.part =
    ap (λ l. l ++ watched) d.whole ∙ ap (λ w. d.part.written ++ d.part.looked ++ w) (sym d.shown) in
    let same : between.edf ≡ d.done.edf = ap (λ (s : LookState). s.edf) d.kept ∙ kept_same old a d.part.plain d.done in
    record {
      parts = d.part ∷ r.parts;
      each = (d.done, between, d.is, d.runs, d.kept, subst (λ (w : List ℕ). IsWatchedText old (cause_of a) between w) (sym d.shown) seen, r.each);
      runs = append_plain make old d.part.plain d.part.written d.done plain written new d.runs
          (subst (λ (s : EdfState). PerformsAll (Performs make) s plain written new.edf) same r.runs);
      whole = e ∙ ap (λ l. l ++ rest) (is ∙ shown) ∙ ap (λ l. text_of_part d.part ++ l) r.whole;
    }

pub looks_change_nothing : LooksChangeNothing
unfolding PerformsAll ArePartsOf
looks_change_nothing make old [] text new p = record { parts = []; each = p.1; runs = (refl, ap (λ (s : LookState). s.edf) p.1); whole = p.0 }
looks_change_nothing make old (a ∷ actions) text new p =
    in_front make old a p.3.own p.1 p.3.watched p.0 actions p.2 text new (did make old a p.3.own p.3.watched p.0 p.3.acts) p.3.shown p.3.is (looks_change_nothing make p.0 actions p.2 new p.4) p.5
