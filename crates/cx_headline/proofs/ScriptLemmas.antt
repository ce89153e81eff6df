-- What was done of a script that ran.
use Rattle.std.proofs.Common.{◌≡◌, ℕ, false, List, ◌++◌, length, take, take_all, le_refl, Result, Ok, Err, refl, sym}
use Rattle.std.specs.List.{flat_map}
use Rattle.cx_edf.specs.declared.answers.Answer.{Answer}
use Rattle.cx_edf.specs.declared.answers.EdfEvent.{EdfEvent}
use Rattle.cx_edf.specs.State.{EdfState}
use Rattle.cx_edf.specs.Steps.{DisplayMaker}
use Rattle.cx_script_actions.specs.Effects.{Performs, fresh_state}
use Rattle.cx_script_actions.specs.Language.{Language, edf_language}
use Rattle.cx_script_blocks.specs.declared.faults.RunFault.{RunFault}
use Rattle.cx_script_blocks.specs.declared.faults.RunFault.TheVariants.{BadLine, BadLook, Source, Read, Write, Memory, ReadBound}
use Rattle.cx_script_blocks.specs.declared.faults.Summary.{Summary}
use Rattle.cx_script_io.specs.Calls.{taken}
use Rattle.cx_script_io.specs.Lines.{lines_met}
use Rattle.cx_script_io.specs.declared.input.Ending.{Ending}
use Rattle.cx_script.specs.Facts.Fronts.{part_first}
use Rattle.cx_script.specs.Script.{Script, first_place, script_in}
use Rattle.cx_script.specs.Transcript.{EndsScript, PerformsAll, Wrote, front_of}
use Rattle.cx_script.specs.Laws.Events.{ScriptsRunTheirEvents, events_of}
use Rattle.cx_script.specs.Laws.Inputs.{was_stopped}
use Rattle.cx_look_script.specs.Laws.Looks.{LooksChangeNothing, plain_of, written_of}
use Rattle.cx_look_script.specs.Looking.{LookPerforms}
use Rattle.cx_look_script.specs.Reading.{look_language}
use Rattle.cx_look_script.specs.State.{fresh_look_state}
use Rattle.cx_headline.specs.Laws.Looks.{ScriptsAreLookedOver}
use Rattle.cx_headline.specs.Laws.Runs.{IsDoneOf, OfEachRun, OfEachScript, WasWritten}

-- what was done of a script of a language: the first of its actions, and what these wrote
record Done {A S : Type 0} (performs : S → A → List ℕ → S → Type 0) (begin : S) (script : Script A) (answer : Result Summary RunFault) (wrote : List ℕ) : Type 0 where
  count : ℕ
  actions : List A
  first : actions ≡ take count script.actions
  all : was_stopped answer ≡ false → actions ≡ script.actions
  text : List ℕ
  written : WasWritten answer wrote text
  new : S
  runs : PerformsAll performs begin actions text new

-- all of its actions
of_whole : {A S : Type 0} (performs : S → A → List ℕ → S → Type 0) (begin : S) (script : Script A) (answer : Result Summary RunFault) (wrote : List ℕ)
    (w : Wrote (◌≡◌ wrote) performs begin script.actions) → WasWritten answer wrote w.text → Done performs begin script answer wrote
of_whole performs begin script answer wrote w written =
    record {
      count = length script.actions;
      actions = script.actions;
      first = sym (take_all (length script.actions) script.actions (le_refl (length script.actions)));
      all = λ e. refl;
      text = w.text;
      written = written;
      new = w.new;
      runs = w.runs;
    }

done_in : {A H S : Type 0} (language : Language A H) (performs : S → A → List ℕ → S → Type 0) (begin : S) (ending : Ending) (bytes : List ℕ) (answer : Result Summary RunFault)
    (wrote : List ℕ) → EndsScript language performs begin ending bytes answer wrote → Done performs begin (script_in language ending bytes) answer wrote
unfolding EndsScript script_in
done_in language performs begin ending bytes (Ok summary) wrote e = of_whole performs begin (script_in language ending bytes) (Ok summary) wrote e.2 e.2.written
done_in language performs begin ending bytes (Err (BadLine n)) wrote e = of_whole performs begin (script_in language ending bytes) (Err (BadLine n)) wrote e.1 e.1.written
done_in language performs begin ending bytes (Err (BadLook n)) wrote e = of_whole performs begin (script_in language ending bytes) (Err (BadLook n)) wrote e.1 e.1.written
done_in language performs begin ending bytes (Err (Source n which)) wrote e =
    of_whole performs begin (script_in language ending bytes) (Err (Source n which)) wrote e.1 e.1.written
done_in language performs begin ending bytes (Err Read) wrote e = of_whole performs begin (script_in language ending bytes) (Err Read) wrote e.1 e.1.written
done_in language performs begin ending bytes (Err ReadBound) wrote e = of_whole performs begin (script_in language ending bytes) (Err ReadBound) wrote e.1 e.1.written
done_in {A} language performs begin ending bytes (Err Memory) wrote e =
    let actions : List A = (front_of language (lines_met ending bytes) e.line).actions ++ e.own in
    record {
      count = length actions;
      actions = actions;
      first = sym (part_first language ending 1 first_place (lines_met ending bytes) e.line e.own e.left e.asked);
      all = λ stopped. cc;
      text = e.done.text;
      written = e.done.written;
      new = e.done.new;
      runs = e.done.runs;
    }
done_in {A} language performs begin ending bytes (Err Write) wrote e =
    let actions : List A = take e.0 (script_in language ending bytes).actions in
    record {
      count = e.0;
      actions = actions;
      first = refl;
      all = λ stopped. cc;
      text = e.1.text;
      written = e.1.written;
      new = e.1.new;
      runs = e.1.runs;
    }

done_of : (make : DisplayMaker) → ScriptsRunTheirEvents → (ending : Ending) (bytes : List ℕ) (answer : Result Summary RunFault) (wrote : List ℕ)
    → EndsScript edf_language (Performs make) fresh_state ending bytes answer wrote → IsDoneOf make (script_in edf_language ending bytes) answer wrote
done_of make law ending bytes answer wrote e =
    let d = done_in edf_language (Performs make) fresh_state ending bytes answer wrote e in
    record {
      count = d.count;
      actions = d.actions;
      first = d.first;
      all = d.all;
      text = d.text;
      was_written = d.written;
      new = d.new;
      did = law make fresh_state d.actions d.text d.new d.runs;
    }

-- what holds of each run holds of what each script did
pub of_scripts : ScriptsRunTheirEvents → (Holds : EdfState → List EdfEvent → List Answer → List EdfState → Type 0) → OfEachRun Holds → OfEachScript Holds
of_scripts law Holds each make calls answer session ending bytes read =
    let done = done_of make law ending bytes answer (taken calls) (session.ends ending bytes read) in
    (done, each make fresh_state (events_of done.actions) done.did.answers done.did.run.states done.did.run.trace)

-- ---- scripts with looks
pub looked_over : ScriptsRunTheirEvents → LooksChangeNothing → ScriptsAreLookedOver
looked_over law change make calls answer session ending bytes read =
    let d = done_in look_language (LookPerforms make) fresh_look_state ending bytes answer (taken calls) (session.ends ending bytes read) in
    let c = change make fresh_look_state d.actions d.text d.new d.runs in
    record {
      count = d.count;
      actions = d.actions;
      first = d.first;
      all = d.all;
      text = d.text;
      was_written = d.written;
      new = d.new;
      unchanged = c;
      did = law make fresh_state (flat_map plain_of c.parts) (flat_map written_of c.parts) d.new.edf c.runs;
    }
