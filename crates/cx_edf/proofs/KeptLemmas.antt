-- What is kept of a terminal's displays after one event.
use Rattle.std.proofs.Common.{◌≡◌, ℕ, Bool, true, false, List, [], ◌∷◌, ◌++◌, map, Option, Some, None, refl, sym, ap, ◌∙◌, subst, is_some}
use Rattle.std.specs.Prelude.{◌&&◌, if◌then◌else◌, length, not, unwrap_or}
use Rattle.std.proofs.lemmas.Bool.{true≢false}
use Rattle.std.specs.List.{cons_option, filter_map}
use Rattle.std.specs.Option.{option_and_then, option_map_or}
use Rattle.std.proofs.lemmas.List.{append-nil}
use Rattle.std.proofs.lemmas.Option.{none-some}
use Rattle.circular_buffer.specs.Buffer.{keep_last}
use Rattle.cx_edf.specs.declared.displays.Display.{Display}
use Rattle.cx_edf.specs.declared.stops.StopPoint.{StopPoint}
use Rattle.cx_ebcdic.specs.declared.aids.Aid.{Aid}
use Rattle.cx_ebcdic.specs.declared.aids.Aid.TheVariants as aid
use Rattle.cx_region.specs.State.{RegionState}
use Rattle.cx_region.specs.Tables.{terminal_of}
use Rattle.cx_ebcdic.specs.Names.{is_name}
use Rattle.cx_region.specs.declared.changes.AlterReply.TheVariants as alter
use Rattle.cx_region.specs.declared.changes.Change.{Change}
use Rattle.cx_region.specs.declared.changes.Change.TheVariants as change
use Rattle.cx_region.specs.declared.replies.Event.{Event}
use Rattle.cx_region.specs.declared.replies.Event.TheVariants as event
use Rattle.cx_region.specs.declared.replies.Reply.{Reply}
use Rattle.cx_region.specs.declared.replies.Reply.TheVariants as reply
use Rattle.cx_region_state.specs.declared.replies.TurnReply.{TurnReply}
use Rattle.cx_edf.specs.declared.answers.EdfEvent.{EdfEvent}
use Rattle.cx_edf.specs.declared.answers.EdfEvent.TheVariants as edf_event
use Rattle.cx_edf.specs.declared.answers.EdfReply.TheVariants as edf
use Rattle.cx_edf.specs.declared.answers.Answer.{Answer}
use Rattle.cx_edf.specs.declared.answers.Answer.TheVariants as answer
use Rattle.cx_edf.specs.declared.modes.Mode.TheVariants as mode
use Rattle.cx_edf.specs.declared.modes.PageName.TheVariants as page
use Rattle.cx_edf.specs.Sessions.{SessionState, Sessions, session_after_change, after_key, after_reply, fresh_session, older, operators_end, session_in, stop_of_turn, stop_session, turned_to, with_session}
use Rattle.cx_edf.specs.Stops.{stops_named}
use Rattle.cx_edf.specs.State.{EdfState, ends_by_key, holds, session_at, stopped_at}
use Rattle.cx_edf.specs.Steps.{DisplayMaker, DoorAnswers, Door, EdfApplies, Keeps, Passes, with_session_changed, door_of, sessions_after}
use Rattle.cx_edf.specs.Erasure.{is_refused, left_in, left_of}
use Rattle.cx_edf.specs.Laws.Displays.{IsKept, displays_after, stop_taken}
use Rattle.cx_edf.proofs.DoorLemmas.{Fits, by_test, by_tests, fits}
use Rattle.cx_edf.proofs.LookupLemmas.{at_other, at_same, same_name}
use Rattle.cx_edf.proofs.KeepLemmas.{keep_one_more}
use Rattle.cx_edf.proofs.StepLemmas.{reported_reply}

-- a session that there is has kept the last ten
abbrev Had : Option SessionState → List Display → Type 0
Had o all = (s : SessionState) → o ≡ Some s → s.displays ≡ keep_last 10 all

had : (o : Option SessionState) (all : List Display) → IsKept o all → Had o all
had None all kept s is = absurd (none-some s is)
had (Some t) all kept s is = subst (λ (x : SessionState). x.displays ≡ keep_last 10 all) (let e : t ≡ s = cc in e) kept

had_kept : (o : Option SessionState) (all : List Display) → Had o all → IsKept o (if is_some o then all else [])
had_kept None all h = refl
had_kept (Some s) all h = h s refl

-- one session set
had_set : (old : Sessions) (name q : List ℕ) (to : Option SessionState) (all : List Display)
    → (is_name name q ≡ true → Had to all) → (is_name name q ≡ false → Had (session_in old q) all) → Had (session_in (with_session old name to) q) all
had_set old name q to all here there = go (is_name name q) refl
  where
    go : (b : Bool) → is_name name q ≡ b → Had (session_in (with_session old name to) q) all
    go true is =
        subst (λ (x : List ℕ). Had (session_in (with_session old name to) x) all) (same_name name q is)
        (subst (λ (o : Option SessionState). Had o all) (sym (at_same old name to)) (here is))
    go false is = subst (λ (o : Option SessionState). Had o all) (sym (at_other old name q to is)) (there is)

-- one session changed
had_changed : (old : Sessions) (name q : List ℕ) (to : SessionState → Option SessionState) (all : List Display)
    → ((s : SessionState) → is_name name q ≡ true → session_in old q ≡ Some s → Had (to s) all) → (is_name name q ≡ false → Had (session_in old q) all)
    → Had (session_in (with_session_changed old name to) q) all
had_changed old name q to all here there = by_session (session_in old name) refl
  where
    found : (o : Option SessionState) → session_in old name ≡ o → is_name name q ≡ true → session_in old q ≡ o
    found o is same = subst (λ (x : List ℕ). session_in old x ≡ o) (same_name name q same) is

    nowhere : (b : Bool) → session_in old name ≡ None → is_name name q ≡ b → Had (session_in old q) all
    nowhere true is same = λ s here_too. absurd (none-some s (sym (found None is same) ∙ here_too))
    nowhere false is same = there same

    by_session : (o : Option SessionState) → session_in old name ≡ o → Had (session_in (option_map_or (λ s. with_session old name (to s)) o old) q) all
    by_session None is = nowhere (is_name name q) is refl
    by_session (Some s) is = had_set old name q (to s) all (λ same. here s same (found (Some s) is same)) there

-- a session that keeps its displays
had_alike : (s : SessionState) (to : Option SessionState) (all : List Display) → ((t : SessionState) → to ≡ Some t → t.displays ≡ s.displays) → s.displays ≡ keep_last 10 all → Had to all
had_alike s to all same kept t is = same t is ∙ kept

-- ---- EDF's own
alike : (a t : SessionState) → Some a ≡ Some t → t.displays ≡ a.displays
alike a t is = ap (λ (x : SessionState). x.displays) (let e : t ≡ a = cc in e)

key_alike : (s : SessionState) (a : Aid) (bytes : List ℕ) (t : SessionState) → after_key s a bytes ≡ Some t → t.displays ≡ s.displays
unfolding after_key
key_alike s aid.Pf3 bytes t is = absurd (none-some t is)
key_alike s aid.Enter bytes t is = alike (record s { mode = mode.Free }) t is
key_alike s aid.Pf4 bytes t is = alike (record s { mode = mode.Suppressed }) t is
key_alike s aid.Pf5 bytes t is = alike (record s { view = record s.view { page = turned_to page.Storage s.view.page } }) t is
key_alike s aid.Pf6 bytes t is = alike (record s { view = record s.view { page = turned_to page.User s.view.page } }) t is
key_alike s aid.Pf9 bytes t is = alike (record s { stops = unwrap_or (stops_named bytes) s.stops }) t is
key_alike s aid.Pf10 bytes t is = alike (record s { view = older s.view (length s.displays) }) t is
key_alike s _ bytes t is = alike s t is

-- what EDF keeps
Keeping : EdfState → List ℕ → List Display → Door → Type 0
Keeping old q all (Keeps own sessions) = Had (session_in sessions q) all
Keeping old q all (Passes x own) = Unit {0}

fresh_had : (old : Sessions) (name q : List ℕ) (all : List Display) → is_some (session_in old name) ≡ false → IsKept (session_in old q) all
    → Had (session_in (with_session old name (Some fresh_session)) q) all
fresh_had old name q all off kept = had_set old name q (Some fresh_session) all
    (λ same. go (session_in old q) (subst (λ (x : List ℕ). is_some (session_in old x) ≡ false) (same_name name q same) off) kept)
    (λ other. had (session_in old q) all kept)
  where
    go : (o : Option SessionState) → is_some o ≡ false → IsKept o all → Had (Some fresh_session) all
    go None none none_kept = λ s is. (let e : fresh_session ≡ s = cc in subst (λ (x : SessionState). x.displays ≡ keep_last 10 all) e (rw none_kept refl))
    go (Some t) none some_kept = absurd (true≢false none)

keeping : (old : EdfState) (e : EdfEvent) (q : List ℕ) (all : List Display) → IsKept (session_at old q) all → Keeping old q all (door_of old e)
unfolding door_of Keeping
keeping old (edf_event.On name) q all kept =
    by_tests (Keeping old q all) (not (is_some (terminal_of old.region name))) (is_some (session_at old name))
    (Keeps (answer.Edf edf.NoSuchTerminal) old.sessions) (Keeps (answer.Edf edf.AlreadyOn) old.sessions) (Keeps (answer.Edf edf.Started) (with_session old.sessions name (Some fresh_session)))
    (λ _. had (session_at old q) all kept) (λ _ _. had (session_at old q) all kept) (λ _ off. fresh_had old.sessions name q all off kept)
keeping old (edf_event.Off name) q all kept =
    by_tests (Keeping old q all) (not (is_some (terminal_of old.region name))) (is_some (session_at old name))
    (Keeps (answer.Edf edf.NoSuchTerminal) old.sessions) (Keeps (answer.Edf edf.Closed) (with_session old.sessions name None)) (Keeps (answer.Edf edf.NotOn) old.sessions)
    (λ _. had (session_at old q) all kept)
    (λ _ _. had_set old.sessions name q None all (λ _ s is. absurd (none-some s is)) (λ _. had (session_at old q) all kept))
    (λ _ _. had (session_at old q) all kept)
keeping old (edf_event.Plain (event.Key name a bytes)) q all kept =
    by_tests (Keeping old q all) (ends_by_key old name a) (stopped_at old name)
    (Passes (event.Alter name change.Abend) (Some answer.ToEdf)) (Keeps answer.ToEdf (with_session_changed old.sessions name (λ session. after_key session a bytes))) (Passes (event.Key name a bytes) None)
    (λ _. tt)
    (λ _ _. had_changed old.sessions name q (λ s. after_key s a bytes) all
    (λ s _ there. had_alike s (after_key s a bytes) all (key_alike s a bytes) (had (session_at old q) all kept s there)) (λ _. had (session_at old q) all kept))
    (λ _ _. tt)
keeping old (edf_event.Plain (event.Turn name)) q all kept =
    by_test (Keeping old q all) (holds old name) (Keeps answer.Held old.sessions) (Passes (event.Turn name) None) (λ _. had (session_at old q) all kept) (λ _. tt)
keeping old (edf_event.Plain (event.Alter name c)) q all kept =
    by_test (Keeping old q all) (is_some (terminal_of old.region name) && not (stopped_at old name)) (Keeps answer.NotStopped old.sessions) (Passes (event.Alter name c) None) (λ _. had (session_at old q) all kept) (λ _. tt)
keeping old (edf_event.Plain (event.Program name image)) q all kept = tt
keeping old (edf_event.Plain (event.Transaction tran program)) q all kept = tt
keeping old (edf_event.Plain (event.Terminal name)) q all kept = tt
keeping old (edf_event.Plain (event.Clock time date)) q all kept = tt

-- ---- what the region does
taken : (make : DisplayMaker) → EdfState → RegionState → List ℕ → List (Event × Reply) → List Display
taken make old region q left = map (make region q) (filter_map (λ (p : Event × Reply). stop_taken old q p.0 p.1) left)

-- a session stopped
had_stopped : (s : SessionState) (stop : StopPoint) (display : Display) (all : List Display) → s.displays ≡ keep_last 10 all → Had (Some (stop_session s stop display)) (all ++ display ∷ [])
had_stopped s stop display all kept t is =
    subst (λ (x : SessionState). x.displays ≡ keep_last 10 (all ++ display ∷ [])) (let e : stop_session s stop display ≡ t = cc in e)
    (ap (λ ds. keep_last 10 (ds ++ display ∷ [])) kept ∙ keep_one_more 10 all display)

none_more : (o : Option SessionState) (all : List Display) → Had o all → Had o (all ++ [])
none_more o all h = subst (Had o) (sym (append-nil all)) h

had_replied : (make : DisplayMaker) (s : SessionState) (r : TurnReply) (region : RegionState) (name q : List ℕ) (all : List Display) → name ≡ q → s.displays ≡ keep_last 10 all
    → Had (Some (after_reply s r (make region name))) (all ++ map (make region q) (cons_option (stop_of_turn s r) []))
unfolding after_reply
had_replied make s r region name q all same kept = subst (λ (x : List ℕ). Had (Some (after_reply s r (make region x))) (all ++ map (make region q) (cons_option (stop_of_turn s r) []))) (sym same) (go (stop_of_turn s r))
  where
    go : (o : Option StopPoint) → Had (Some (option_map_or (λ stop. stop_session s stop (make region q stop)) o s)) (all ++ map (make region q) (cons_option o []))
    go None = none_more (Some s) all (had (Some s) all kept)
    go (Some stop) = had_stopped s stop (make region q stop) all kept

-- the list of one stop, by the name and the session
turn_stops : (old : EdfState) (name q : List ℕ) (r : TurnReply) (s : SessionState) → is_name name q ≡ true → session_at old q ≡ Some s
    → cons_option (stop_taken old q (event.Turn name) (reply.Turn r)) [] ≡ cons_option (stop_of_turn s r) []
turn_stops old name q r s is there =
    ap (λ (b : Bool). cons_option (if b then option_and_then (λ x. stop_of_turn x r) (session_at old q) else None) []) is
    ∙ ap (λ (o : Option SessionState). cons_option (option_and_then (λ x. stop_of_turn x r) o) []) there

turn_elsewhere : (old : EdfState) (name q : List ℕ) (r : TurnReply) → is_name name q ≡ false → cons_option (stop_taken old q (event.Turn name) (reply.Turn r)) [] ≡ []
turn_elsewhere old name q r is = ap (λ (b : Bool). cons_option (if b then option_and_then (λ x. stop_of_turn x r) (session_at old q) else None) []) is

end_stops : (b c : Bool) → b ≡ c → cons_option (if b then Some operators_end else None) [] ≡ cons_option (if c then Some operators_end else None) []
end_stops b c is = ap (λ (d : Bool). cons_option (if d then Some operators_end else None) []) is

had_altered : (make : DisplayMaker) (s : SessionState) (c : Change) (region : RegionState) (name q : List ℕ) (all : List Display) → name ≡ q → s.displays ≡ keep_last 10 all
    → (old : EdfState) → is_name name q ≡ true
    → Had (Some (session_after_change s c (make region name))) (all ++ map (make region q) (cons_option (stop_taken old q (event.Alter name c) (reply.Alter alter.Altered)) []))
unfolding session_after_change
had_altered make s change.Abend region name q all same kept old is =
    subst (λ (ks : List StopPoint). Had (Some (stop_session s operators_end (make region name operators_end))) (all ++ map (make region q) ks)) (sym (end_stops (is_name name q) true is))
    (subst (λ (x : List ℕ). Had (Some (stop_session s operators_end (make region x operators_end))) (all ++ make region q operators_end ∷ [])) (sym same)
    (had_stopped s operators_end (make region q operators_end) all kept))
had_altered make s change.Nop region name q all same kept old is =
    none_more (Some (record s { mode = mode.Free })) all (λ t e. alike (record s { mode = mode.Free }) t e ∙ kept)
had_altered make s (change.Register r v) region name q all same kept old is = none_more (Some s) all (had (Some s) all kept)
had_altered make s (change.Byte a v) region name q all same kept old is = none_more (Some s) all (had (Some s) all kept)

alter_elsewhere : (c : Change) (old : EdfState) (name q : List ℕ) → is_name name q ≡ false → cons_option (stop_taken old q (event.Alter name c) (reply.Alter alter.Altered)) [] ≡ []
alter_elsewhere change.Abend old name q is = end_stops (is_name name q) false is
alter_elsewhere change.Nop old name q is = refl
alter_elsewhere (change.Register r v) old name q is = refl
alter_elsewhere (change.Byte a v) old name q is = refl

passing : (make : DisplayMaker) (old : EdfState) (x : Event) (r : Reply) (region : RegionState) (q : List ℕ) (all : List Display) → IsKept (session_at old q) all
    → Had (session_in (sessions_after old.sessions x r (make region)) q) (all ++ taken make old region q (if is_refused x r then [] else (x, r) ∷ []))
unfolding taken
passing make old (event.Turn name) (reply.Turn r) region q all kept =
    had_changed old.sessions name q (λ s. Some (after_reply s r (make region name))) (all ++ map (make region q) (cons_option (stop_taken old q (event.Turn name) (reply.Turn r)) []))
    (λ s is there. subst (λ (ks : List StopPoint). Had (Some (after_reply s r (make region name))) (all ++ map (make region q) ks)) (sym (turn_stops old name q r s is there))
    (had_replied make s r region name q all (same_name name q is) (had (session_at old q) all kept s there)))
    (λ is. subst (λ (ks : List StopPoint). Had (session_at old q) (all ++ map (make region q) ks)) (sym (turn_elsewhere old name q r is)) (none_more (session_at old q) all (had (session_at old q) all kept)))
passing make old (event.Turn name) _ region q all kept = none_more (session_at old q) all (had (session_at old q) all kept)
passing make old (event.Alter name c) (reply.Alter alter.Altered) region q all kept =
    had_changed old.sessions name q (λ s. Some (session_after_change s c (make region name)))
    (all ++ map (make region q) (cons_option (stop_taken old q (event.Alter name c) (reply.Alter alter.Altered)) []))
    (λ s is there. had_altered make s c region name q all (same_name name q is) (had (session_at old q) all kept s there) old is)
    (λ is. subst (λ (ks : List StopPoint). Had (session_at old q) (all ++ map (make region q) ks)) (sym (alter_elsewhere c old name q is)) (none_more (session_at old q) all (had (session_at old q) all kept)))
passing make old (event.Alter name c) (reply.Alter _) region q all kept = none_more (session_at old q) all (had (session_at old q) all kept)
passing make old (event.Alter name c) _ region q all kept = none_more (session_at old q) all (had (session_at old q) all kept)
passing make old _ r region q all kept = none_more (session_at old q) all (had (session_at old q) all kept)

-- ---- both
after_door : (make : DisplayMaker) (old : EdfState) (e : EdfEvent) (door : Door) (given : Answer) (new : EdfState) (q : List ℕ) (all : List Display) → Fits old e door → Keeping old q all door → DoorAnswers make old door given new
    → IsKept (session_at old q) all → Had (session_at new q) (all ++ taken make old new.region q (left_in door given))
unfolding Keeping taken
after_door make old e (Keeps own sessions) given new q all fit keeps row kept =
    none_more (session_at new q) all (subst (λ (s : EdfState). Had (session_at s q) all) (sym row.1) keeps)
after_door make old e (Passes x own) given new q all fit keeps row kept =
    subst (λ (r : Reply). Had (session_at new q) (all ++ taken make old new.region q (if is_refused x r then [] else (x, r) ∷ []))) (sym (reported_reply make old e x own given new fit row))
    (subst (λ (s : Sessions). Had (session_in s q) (all ++ taken make old new.region q (if is_refused x row.reply then [] else (x, row.reply) ∷ []))) (sym row.table)
    (passing make old x row.reply new.region q all kept))

pub kept_after : (make : DisplayMaker) (old : EdfState) (e : EdfEvent) (given : Answer) (new : EdfState) (q : List ℕ) (all : List Display) → EdfApplies make old e given new → IsKept (session_at old q) all
    → IsKept (session_at new q) (displays_after make old e given new q all)
unfolding EdfApplies displays_after left_of taken
kept_after make old e given new q all row kept =
    had_kept (session_at new q) (all ++ taken make old new.region q (left_in (door_of old e) given))
    (after_door make old e (door_of old e) given new q all (fits old e) (keeping old e q all kept) row kept)
