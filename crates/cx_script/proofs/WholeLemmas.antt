-- Whole scripts, and that a transcript is one.
use Rattle.std.proofs.Common.{◌≡◌, ℕ, inl, inr, take, List, [], ◌∷◌, ◌++◌, length, Ok, ◌==◌, refl, sym, ap, ◌∙◌, subst}
use Rattle.std.specs.List.{slice_split}
use Rattle.std.specs.Str.Lines.{lines, lines_of_parts as std_lines_of_parts, strip_carriage_return}
use Rattle.cx_script_io.specs.Lines.{lines_met, lines_of_parts}
use Rattle.cx_script.specs.Session.{IsScriptSession}
use Rattle.cx_script.specs.Transcript.{PerformsAll, EndsScript}
use Rattle.cx_script_io.specs.Calls.{DeviceCall, given, taken}
use Rattle.cx_script_io.specs.Input.{IsEnding, most_bytes}
use Rattle.cx_script.proofs.EndingLemmas.{Endings, ended_within, ending_of, read_ended, read_open, read_whole}
use Rattle.cx_script_actions.specs.Language.{edf_language}
use Rattle.cx_script_actions.specs.Effects.{Performs, fresh_state}
use Rattle.cx_script.specs.Laws.WholeScripts.{IsTranscribed, OkIsTheWholeScript}
use Rattle.cx_script.proofs.FaultLemmas.{never_faultless}
use Rattle.cx_script_blocks.specs.declared.faults.Summary.{Summary}
use Rattle.cx_script_io.specs.declared.input.Ending.{Ending}
use Rattle.cx_script_io.specs.declared.input.Ending.TheVariants.{AtEnd, Failed, PastBound}
use Rattle.cx_edf.specs.Steps.{DisplayMaker}

same_parts : (parts : List (List ℕ)) → lines_of_parts AtEnd parts ≡ std_lines_of_parts parts
same_parts [] = refl
same_parts (part ∷ []) = refl
same_parts (part ∷ next ∷ more) = ap (λ l. strip_carriage_return part ∷ l) (same_parts (next ∷ more))

pub same_lines_met : (bytes : List ℕ) → lines_met AtEnd bytes ≡ lines bytes
unfolding lines_met
same_lines_met bytes = same_parts (slice_split (λ b. b == 10) bytes)

-- an Ok is the whole script
whole_by : (make : DisplayMaker) (calls : List DeviceCall) (summary : Summary) (s : IsScriptSession make calls (Ok summary)) (why : Ending) → IsEnding calls why → IsEnding calls AtEnd × IsTranscribed make (given calls) summary.lines (taken calls)
unfolding EndsScript
whole_by make calls summary s AtEnd h =
    let e = s.ends AtEnd (given calls) (read_whole edf_language (Performs make) fresh_state calls s.in_time AtEnd h refl) in
    (h, record { within = ended_within edf_language (Performs make) fresh_state calls s.in_time AtEnd h refl; faultless = e.0; count = e.1 ∙ ap length (same_lines_met (given calls)); transcript = e.2 })
whole_by make calls summary s Failed h =
    let e = s.ends Failed (take most_bytes (given calls)) (read_ended edf_language (Performs make) fresh_state calls s.in_time Failed h) in
    absurd (never_faultless edf_language Failed (take most_bytes (given calls)) refl e.0)
whole_by make calls summary s PastBound h =
    let e = s.ends PastBound (take most_bytes (given calls)) (read_ended edf_language (Performs make) fresh_state calls s.in_time PastBound h) in
    absurd (never_faultless edf_language PastBound (take most_bytes (given calls)) refl e.0)

whole_in : (make : DisplayMaker) (calls : List DeviceCall) (summary : Summary) (s : IsScriptSession make calls (Ok summary)) → Endings calls → IsEnding calls AtEnd × IsTranscribed make (given calls) summary.lines (taken calls)
unfolding EndsScript
whole_in make calls summary s (inl w) = whole_by make calls summary s w.0 w.1
whole_in make calls summary s (inr none) =
    let e = s.ends Failed (take most_bytes (given calls)) (read_open calls none Failed) in
    absurd (never_faultless edf_language Failed (take most_bytes (given calls)) refl e.0)

pub ok_whole : OkIsTheWholeScript
ok_whole make calls summary s = whole_in make calls summary s (ending_of calls)

-- two runs of the same actions are one
module _ {A S : Type 0} (performs : S → A → List ℕ → S → Type 0)
    (decides : (old : S) (action : A) (text other : List ℕ) (new another : S) → performs old action text new → performs old action other another → (text ≡ other) × (new ≡ another)) where
  pub one_transcript : (old : S) (actions : List A) (text other : List ℕ) (new another : S)
      → PerformsAll performs old actions text new → PerformsAll performs old actions other another → (text ≡ other) × (new ≡ another)
  unfolding PerformsAll
  one_transcript old [] text other new another p q = (p.0 ∙ sym q.0, p.1 ∙ sym q.1)
  one_transcript old (action ∷ actions) text other new another p q =
      let head = decides old action p.1 q.1 p.0 q.0 p.3 q.3 in
      let moved = subst (λ s. PerformsAll performs s actions p.2 new) head.1 p.4 in
      let rest = one_transcript q.0 actions p.2 q.2 new another moved q.4 in
      (p.5 ∙ ap (λ l. l ++ p.2) head.0 ∙ ap (λ l. q.1 ++ l) rest.0 ∙ sym q.5, rest.1)
