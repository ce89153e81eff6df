-- The turns that RUN asks, and what they do one after another.
use Rattle.std.proofs.Common.{◌≡◌, ℕ, zero, suc, ◌-◌, ◌<◌, Bool, true, false, MatchBool, Option, Some, None, List, [], ◌∷◌, ◌++◌, refl, sym, ap, ◌∙◌, subst, append-nil, arith}
use Rattle.std.specs.Prelude.{MatchOption}
use Rattle.cx_edf.specs.declared.answers.Answer.{Answer}
use Rattle.cx_edf.specs.Steps.{DisplayMaker}
use Rattle.cx_look_ahead.specs.declared.watching.Cause.TheVariants as cause
use Rattle.cx_script.specs.Transcript.{PerformsAll}
use Rattle.cx_look_script.specs.Looking.{Acts, LookPerforms, NotedPerforms}
use Rattle.cx_look_script.specs.Laws.Looks.{turn_action}
use Rattle.cx_look_script.specs.Laws.Turns.{TakesTurns, RunsTakeTurns}
use Rattle.cx_look_script.specs.Runs.{StopsWith, turn_goes_on, run_over, turn_of, turns_left}
use Rattle.cx_look_script.specs.State.{LookState}
use Rattle.cx_look_script.specs.Watched.{IsWatchedText}
use Rattle.cx_look_script.proofs.WatchLemmas.{alone}
use Rattle.cx_look_script.specs.declared.action.LookAction.TheVariants as action
use Rattle.cx_look_script.specs.declared.action.Stop.{Stop}

pub one_left : (name : List ℕ) (s : Stop) (n : ℕ) → 0 < n → turns_left name s n ≡ action.RunOn name n s ∷ turns_left name s (n - 1)
unfolding turns_left
one_left name s zero h = let none : ⊥ = omega (arith, h) in absurd none
one_left name s (suc n) h =
    let same : n ≡ suc n - 1 = omega arith in ap (λ (k : ℕ). action.RunOn name (suc n) s ∷ turns_left name s k) same

pub by_bool : (b : Bool) (X Y : Type 0) → MatchBool b X Y → b ≡ true → X
by_bool true X Y h e = h
by_bool false X Y h e = cc

by_other : (b : Bool) (X Y : Type 0) → MatchBool b X Y → b ≡ false → Y
by_other true X Y h e = cc
by_other false X Y h e = h

-- nothing is written where nothing is done
written_none : (old new : LookState) (name own text watched : List ℕ) → IsWatchedText old (cause.Turn name) new watched → text ≡ own ++ watched → own ≡ [] → new ≡ old → text ≡ []
written_none old new name own text watched shown is none same =
    alone old new (cause.Turn name) own text watched shown is (ap (λ (s : LookState). s.edf) same) ∙ none

-- where the last turn isn't to be followed by one more, none of them does anything
nothing_more : (make : DisplayMaker) (old : LookState) (name : List ℕ) (s : Stop) (n : ℕ) (text : List ℕ) (new : LookState) → PerformsAll (LookPerforms make) old (turns_left name s n) text new → old.goes_on ≡ false → (text ≡ []) × (new ≡ old)
unfolding PerformsAll turns_left Acts
nothing_more make old name s zero text new p e =
    let first = by_other old.goes_on _ _ p.3.acts e in
    let none = written_none old p.0 name p.3.own p.1 p.3.watched p.3.shown p.3.is first.0 first.1 in
    (p.5 ∙ ap (λ l. l ++ p.2) none ∙ p.4.0, p.4.1 ∙ first.1)
nothing_more make old name s (suc n) text new p e =
    let first = by_other old.goes_on _ _ p.3.acts e in
    let none = written_none old p.0 name p.3.own p.1 p.3.watched p.3.shown p.3.is first.0 first.1 in
    let still : p.0.goes_on ≡ false = ap (λ (s : LookState). s.goes_on) first.1 ∙ e in
    let rest = nothing_more make p.0 name s n p.2 new p.4 still in
    (p.5 ∙ ap (λ l. l ++ p.2) none ∙ rest.0, rest.1 ∙ first.1)

-- a turn, and what comes after it
after_turn : (make : DisplayMaker) (between : LookState) (name : List ℕ) (s : Stop) (n : ℕ) (given : Answer) (rest : List ℕ) (new : LookState) (on : Bool) → on ≡ between.goes_on → on ≡ turn_goes_on between.edf (turn_of name) given
    → PerformsAll (LookPerforms make) between (turns_left name s n) rest new → (between.goes_on ≡ true → TakesTurns make between name s n rest new) → MatchBool (turn_goes_on between.edf (turn_of name) given) (TakesTurns make between name s n rest new) ((rest ≡ []) × (new ≡ between))
after_turn make between name s n given rest new true e f p law =
    subst (λ b. MatchBool b (TakesTurns make between name s n rest new) ((rest ≡ []) × (new ≡ between))) f (law (sym e))
after_turn make between name s n given rest new false e f p law =
    subst (λ b. MatchBool b (TakesTurns make between name s n rest new) ((rest ≡ []) × (new ≡ between))) f (nothing_more make between name s n rest new p (sym e))

-- a turn or the line in its place, and what comes after it
turn_first : (make : DisplayMaker) (old between : LookState) (name : List ℕ) (s : Stop) (n : ℕ) (own first watched rest text : List ℕ) (new : LookState) (line : Option (List ℕ)) → StopsWith s old.sources old.edf name line
    → MatchOption line (NotedPerforms make old (turn_action name) own between) (λ l. (own ≡ l) × (between ≡ run_over old))
    → IsWatchedText old (cause.Turn name) between watched → first ≡ own ++ watched
    → PerformsAll (LookPerforms make) between (turns_left name s n) rest new → (between.goes_on ≡ true → TakesTurns make between name s n rest new) → text ≡ first ++ rest → TakesTurns make old name s (suc n) text new
unfolding NotedPerforms TakesTurns
turn_first make old between name s n own first watched rest text new None stops p shown is more law e =
    let written = ap (λ l. l ++ rest) (is ∙ ap (λ l. l ++ watched) p.2) in
    (None, stops, (p.0, between, watched, rest, p.1, shown, after_turn make between name s n p.0 rest new between.goes_on refl p.1.goes_on more law, e ∙ written))
turn_first make old between name s n own first watched rest text new (Some l) stops p shown is more law e =
    let over : between.goes_on ≡ false = ap (λ (s : LookState). s.goes_on) p.1 in
    let left = nothing_more make between name s n rest new more over in
    let line = alone old between (cause.Turn name) own first watched shown is (ap (λ (s : LookState). s.edf) p.1) ∙ p.0 in
    (Some l, stops, (e ∙ ap (λ r. first ++ r) left.0 ∙ append-nil first ∙ line, left.1 ∙ p.1))

goes : (make : DisplayMaker) (old : LookState) (name : List ℕ) (s : Stop) (n : ℕ) (text : List ℕ) (new : LookState) → PerformsAll (LookPerforms make) old (turns_left name s n) text new → old.goes_on ≡ true → TakesTurns make old name s n text new
unfolding PerformsAll turns_left Acts TakesTurns
goes make old name s zero text new p e =
    let last = by_bool old.goes_on _ _ p.3.acts e in
    let line = alone old p.0 (cause.Turn name) p.3.own p.1 p.3.watched p.3.shown p.3.is (ap (λ (s : LookState). s.edf) last.1) ∙ last.0 in
    (p.5 ∙ ap (λ l. p.1 ++ l) p.4.0 ∙ append-nil p.1 ∙ line, p.4.1 ∙ last.1)
goes make old name s (suc n) text new p e =
    let turn = by_bool old.goes_on _ _ p.3.acts e in
    turn_first make old p.0 name s n p.3.own p.1 p.3.watched p.2 text new turn.line turn.stops turn.does p.3.shown p.3.is p.4 (goes make p.0 name s n p.2 new p.4) p.5

pub runs_take_turns : RunsTakeTurns
unfolding PerformsAll Acts
runs_take_turns make old name s n text new p =
    let same : suc n - 1 ≡ n = omega arith in
    let rest : PerformsAll (LookPerforms make) p.0 (turns_left name s n) p.2 new = subst (λ (k : ℕ). PerformsAll (LookPerforms make) p.0 (turns_left name s k) p.2 new) same p.4 in
    turn_first make old p.0 name s n p.3.own p.1 p.3.watched p.2 text new p.3.acts.line p.3.acts.stops p.3.acts.does p.3.shown p.3.is rest (goes make p.0 name s n p.2 new rest) p.5
