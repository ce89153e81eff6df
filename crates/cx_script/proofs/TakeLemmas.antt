-- What becomes of one line.
use Rattle.std.proofs.Common.{◌≡◌, ℕ, true, false, List, ◌∷◌, ◌++◌, None, Some, Option, Result, Ok, Err, refl, sym, ap, ◌∙◌, subst, append-nil, append_assoc, []}
use Rattle.std.specs.Prelude.{IsErrAnd}
use Rattle.std.specs.Result.{result_map_both}
use Rattle.cx_script_io.specs.Devices.{DeviceOutput, Sends, Takes, TakesFront, device_output}
use Rattle.cx_script_io.specs.Facts.Devices.{front_flushed, sends_flushed, sends_front, sends_nil, sends_trans}
use Rattle.cx_script_actions.specs.Language.{Language}
use Rattle.cx_script.specs.declared.run.Place.{Place}
use Rattle.cx_script.specs.Parts.Progress.{Acted, Acting, ActsOnce, Calling, DoneOf, SentAll, SentSome, TakesLine, actions_due, logs}
use Rattle.cx_script.specs.Script.{Step, actions_of, step_from, stepped}
use Rattle.cx_script.specs.Transcript.{PerformsAll}
use Rattle.cx_script.proofs.CallingLemmas.{calling_front, calling_none, calling_sends, calling_so, calling_takes, calling_then, log_is}
use Rattle.cx_script.proofs.RunLemmas.{runs_append, runs_one}
use Rattle.cx_script_blocks.specs.Blocks.{step_at}
use Rattle.cx_script_blocks.specs.Faults.{is_memory, is_write}
use Rattle.cx_script_blocks.specs.declared.blocks.LineStep.{LineStep}
use Rattle.cx_script_blocks.specs.declared.faults.RunFault.{RunFault}
use Rattle.cx_script_blocks.specs.declared.faults.RunFault.TheVariants.{BadLine, BadLook, Source, Read, Write, Memory, ReadBound}

-- where nothing waited before, and the same device is there after: what waits then was taken
nothing : (before mid after waits : List ℕ) → device_output mid waits ≡ device_output before [] → Takes logs mid after waits → device_output after [] ≡ device_output before []
nothing before mid after waits e t =
    let none : waits ≡ [] = ap (λ (d : DeviceOutput (List ℕ)). d.waits) e in
    let same : mid ≡ before = ap (λ (d : DeviceOutput (List ℕ)). d.writer) e in
    let all : after ≡ before = log_is mid after waits t ∙ ap (λ l. mid ++ l) none ∙ append-nil mid ∙ same in
    ap (λ w. device_output w []) all

-- the faults of a step are those of the line
abbrev led : {A H : Type 0} → (LineStep A H → Step A H) → Result (LineStep A H) RunFault → Result (Step A H) RunFault
led f due = result_map_both f (λ fault. fault) due

not_led : {A H : Type 0} (f : LineStep A H → Step A H) (due : Result (LineStep A H) RunFault) (fault : RunFault) → led f due ≡ Err fault → due ≡ Err fault
not_led f (Ok step) fault e = cc
not_led f (Err own) fault e = let same : own ≡ fault = cc in ap Err same

module _ {A S : Type 0} (performs : S → A → List ℕ → S → Type 0) where
  none_done : (old : S) (before : DeviceOutput (List ℕ)) → SentAll performs old [] before before
  unfolding PerformsAll
  none_done old before = record { text = []; new = old; runs = (refl, refl); written = sends_nil logs before }

  own : {H : Type 0} (number : ℕ) (due : Result (Step A H) RunFault) (met fault : RunFault) (old : S) (before : DeviceOutput (List ℕ)) (block : Place H)
      → met ≡ fault → TakesLine performs number due old before (Err met) old before block → TakesLine performs number due old before (Err fault) old before block
  own number due met fault old before block e t = subst (λ f. TakesLine performs number due old before (Err f) old before block) e t

  -- a line's own fault, or Memory where it isn't a bad one
  pub line_faulty : {H : Type 0} (number : ℕ) (f : LineStep A H → Step A H) (due r : Result (LineStep A H) RunFault) (fault : RunFault) (old : S) (before : DeviceOutput (List ℕ)) (block : Place H)
      → r ≡ Err fault → (is_memory r ≡ false → r ≡ due) → (due ≡ Err (BadLine number) → r ≡ Err (BadLine number)) → is_write r ≡ false
      → TakesLine performs number (led f due) old before (Err fault) old before block
  unfolding TakesLine
  line_faulty number f due (Ok step) fault old before block e h bad w = cc
  line_faulty number f due (Err (BadLine m)) fault old before block e h bad w =
      let same : (BadLine m) ≡ fault = cc in own number (led f due) (BadLine m) fault old before block same (ap (led f) (sym (h refl)), refl)
  line_faulty number f due (Err (BadLook m)) fault old before block e h bad w =
      let same : (BadLook m) ≡ fault = cc in own number (led f due) (BadLook m) fault old before block same (ap (led f) (sym (h refl)), refl)
  line_faulty number f due (Err (Source m which)) fault old before block e h bad w =
      let same : (Source m which) ≡ fault = cc in own number (led f due) (Source m which) fault old before block same (ap (led f) (sym (h refl)), refl)
  line_faulty number f due (Err Read) fault old before block e h bad w = let same : Read ≡ fault = cc in own number (led f due) Read fault old before block same (ap (led f) (sym (h refl)), refl)
  line_faulty number f due (Err ReadBound) fault old before block e h bad w =
      let same : ReadBound ≡ fault = cc in own number (led f due) ReadBound fault old before block same (ap (led f) (sym (h refl)), refl)
  line_faulty number f due (Err Write) fault old before block e h bad w = cc
  line_faulty number f due (Err Memory) fault old before block e h bad w =
      let same : Memory ≡ fault = cc in
      own number (led f due) Memory fault old before block same
      ((λ is. let reported = bad (not_led f due (BadLine number) is) in cc), record { own = []; left = actions_due (led f due); asked = refl; sent = none_done old before })

  -- ---- a line after which what waits is written
  pub line_written : {H : Type 0} (number : ℕ) (due : Result (Step A H) RunFault) (old new : S) (before after : List ℕ) (mid : List ℕ) (waits : List ℕ) (block : Place H)
      → TakesLine performs number due old (device_output before []) (Ok tt) new (device_output mid waits) block → Takes logs mid after waits
      → TakesLine performs number due old (device_output before []) (Ok tt) new (device_output after []) block
  unfolding TakesLine
  line_written number due old new before after mid waits block t w = (t.0, t.1, t.2, t.3, t.4, sends_flushed logs (device_output before []) mid after waits t.3 t.5 w)

  line_flushed : {H : Type 0} (number : ℕ) (due : Result (Step A H) RunFault) (fault : RunFault) (old new : S) (before after : List ℕ) (mid : List ℕ) (waits : List ℕ) (block : Place H)
      → is_write (let r : Result (Unit {0}) RunFault = Err fault in r) ≡ false
      → TakesLine performs number due old (device_output before []) (Err fault) new (device_output mid waits) block → Takes logs mid after waits
      → TakesLine performs number due old (device_output before []) (Err fault) new (device_output after []) block
  unfolding TakesLine
  line_flushed number due (BadLine n) old new before after mid waits block e t w = (t.0, nothing before mid after waits t.1 w)
  line_flushed number due (BadLook n) old new before after mid waits block e t w = (t.0, nothing before mid after waits t.1 w)
  line_flushed number due (Source n which) old new before after mid waits block e t w = (t.0, nothing before mid after waits t.1 w)
  line_flushed number due Read old new before after mid waits block e t w = (t.0, nothing before mid after waits t.1 w)
  line_flushed number due ReadBound old new before after mid waits block e t w = (t.0, nothing before mid after waits t.1 w)
  line_flushed number due Write old new before after mid waits block e t w = cc
  line_flushed number due Memory old new before after mid waits block e t w =
      let d = t.1.sent in (
        t.0,
        record {
          own = t.1.own;
          left = t.1.left;
          asked = t.1.asked;
          sent = record { text = d.text; new = d.new; runs = d.runs; written = sends_flushed logs (device_output before []) mid after waits d.text d.written w };
        },
      )

  pub line_served : {H : Type 0} (number : ℕ) (due : Result (Step A H) RunFault) (r : Result (Unit {0}) RunFault) (old new : S) (before after : List ℕ) (mid : List ℕ) (waits : List ℕ) (block : Place H)
      → is_write r ≡ false → TakesLine performs number due old (device_output before []) r new (device_output mid waits) block → Takes logs mid after waits
      → TakesLine performs number due old (device_output before []) r new (device_output after []) block
  line_served number due (Ok done) old new before after mid waits block e t w = line_written number due old new before after mid waits block t w
  line_served number due (Err fault) old new before after mid waits block e t w = line_flushed number due fault old new before after mid waits block e t w

  none_written : {H : Type 0} (number : ℕ) (due : Result (Step A H) RunFault) (old : S) (before after : List ℕ) (mid : List ℕ) (waits : List ℕ) → device_output mid waits ≡ device_output before [] → TakesFront logs mid after waits
      → DoneOf (λ own. SentSome performs old own (device_output before []) (device_output after [])) (actions_due due)
  unfolding PerformsAll
  none_written number due old before after mid waits e w =
      record {
        own = [];
        left = actions_due due;
        asked = refl;
        sent = record {
          text = [];
          new = old;
          runs = (refl, refl);
          written = front_flushed logs (device_output before []) mid after waits [] []
              (subst (λ (d : DeviceOutput (List ℕ)). Sends logs (device_output before []) d []) (sym e) (sends_nil logs (device_output before []))) w;
        };
      }

  pub line_unwritten : {H : Type 0} (number : ℕ) (due : Result (Step A H) RunFault) (r : Result (Unit {0}) RunFault) (old new : S) (before after : List ℕ) (mid : List ℕ) (waits : List ℕ) (block : Place H)
      → is_write r ≡ false → TakesLine performs number due old (device_output before []) r new (device_output mid waits) block → TakesFront logs mid after waits
      → TakesLine performs number due old (device_output before []) (Err Write) new (device_output after []) block
  unfolding TakesLine
  line_unwritten number due (Ok done) old new before after mid waits block e t w =
      record {
        own = t.0.actions;
        left = [];
        asked = ap actions_due t.1 ∙ sym (append-nil t.0.actions);
        sent = record { text = t.3; new = new; runs = t.4; written = front_flushed logs (device_output before []) mid after waits [] t.3 t.5 w };
      }
  line_unwritten number due (Err Memory) old new before after mid waits block e t w =
      let d = t.1.sent in
      record {
        own = t.1.own;
        left = t.1.left;
        asked = t.1.asked;
        sent = record { text = d.text; new = d.new; runs = d.runs; written = front_flushed logs (device_output before []) mid after waits [] d.text d.written w };
      }
  line_unwritten number due (Err (BadLine n)) old new before after mid waits block e t w = none_written number due old before after mid waits t.1 w
  line_unwritten number due (Err (BadLook n)) old new before after mid waits block e t w = none_written number due old before after mid waits t.1 w
  line_unwritten number due (Err (Source n which)) old new before after mid waits block e t w = none_written number due old before after mid waits t.1 w
  line_unwritten number due (Err Read) old new before after mid waits block e t w = none_written number due old before after mid waits t.1 w
  line_unwritten number due (Err ReadBound) old new before after mid waits block e t w = none_written number due old before after mid waits t.1 w
  line_unwritten number due (Err Write) old new before after mid waits block e t w = cc

  -- after a failed write it doesn't matter what waits
  pub line_failed : {H : Type 0} (number : ℕ) (due : Result (Step A H) RunFault) (r : Result (Unit {0}) RunFault) (old new : S) (before after : List ℕ) (waits : List ℕ) (block : Place H)
      → is_write r ≡ true → TakesLine performs number due old (device_output before []) r new (device_output after waits) block
      → TakesLine performs number due old (device_output before []) r new (device_output after []) block
  unfolding TakesLine
  line_failed number due (Ok done) old new before after waits block e t = cc
  line_failed number due (Err (BadLine n)) old new before after waits block e t = cc
  line_failed number due (Err (BadLook n)) old new before after waits block e t = cc
  line_failed number due (Err (Source n which)) old new before after waits block e t = cc
  line_failed number due (Err Read) old new before after waits block e t = cc
  line_failed number due (Err ReadBound) old new before after waits block e t = cc
  line_failed number due (Err Memory) old new before after waits block e t = cc
  line_failed number due (Err Write) old new before after waits block e t =
      let d = t.sent in
      record { own = t.own; left = t.left; asked = t.asked; sent = record { text = d.text; new = d.new; runs = d.runs; written = d.written } }

  -- ---- actions, one after another
  module _ {H : Type 0} (language : Language A H) (refused : S → A → S → Type 0) where
    pub line_acted : (number : ℕ) (f : LineStep A H → Step A H) (due : Result (LineStep A H) RunFault) (step : LineStep A H) (old new : S) (before after : DeviceOutput (List ℕ)) (r : Result (Unit {0}) RunFault)
        → due ≡ Ok step → Acted performs refused (f step).actions old before r new after
        → TakesLine performs number (led f due) old before r new after (f step).place
    unfolding TakesLine Acted
    line_acted number f due step old new before after (Ok done) e a = (f step, ap (led f) e, refl, a.0, a.1, a.2)
    line_acted number f due step old new before after (Err Memory) e a =
        let good : led f due ≡ Ok (f step) = ap (led f) e in (
          (λ bad. cc),
          record {
            own = a.done;
            left = a.action ∷ a.left;
            asked = ap actions_due good ∙ a.asked;
            sent = record { text = a.text; new = a.mid; runs = a.runs; written = a.written };
          },
        )
    line_acted number f due step old new before after (Err Write) e a =
        let good : led f due ≡ Ok (f step) = ap (led f) e in
        record { own = a.done; left = a.left; asked = ap actions_due good ∙ a.asked; sent = record { text = a.text; new = new; runs = a.runs; written = a.written } }
    line_acted number f due step old new before after (Err (BadLine m)) e a = absurd a
    line_acted number f due step old new before after (Err (BadLook m)) e a = absurd a
    line_acted number f due step old new before after (Err (Source m which)) e a = absurd a
    line_acted number f due step old new before after (Err Read) e a = absurd a
    line_acted number f due step old new before after (Err ReadBound) e a = absurd a

    step_on : (first due next : Option A) (action : A) (old mid new : S) (before after end : DeviceOutput (List ℕ)) → Acting language performs first old before due mid after → due ≡ Some action
        → language.actions_of action ≡ action ∷ actions_of language next → ActsOnce performs refused action mid after (Ok tt) new end → Acting language performs first old before next new end
    unfolding ActsOnce
    step_on first due next action old mid new before after end g e n o =
        let same : actions_of language due ≡ action ∷ actions_of language next = ap (actions_of language) e ∙ n in
        record {
          done = g.done ++ action ∷ [];
          asked = g.asked ∙ ap (λ (l : List A). g.done ++ l) same ∙ sym (append_assoc g.done (action ∷ []) (actions_of language next));
          text = g.text ++ o.0;
          runs = runs_append language performs old g.done g.text mid (action ∷ []) o.0 new g.runs (runs_one language performs mid action o.0 new o.1);
          written = sends_trans logs before after end g.text o.0 g.written o.2;
        }

    step_stopped : (first due next : Option A) (action : A) (fault : RunFault) (old mid new : S) (before after end : DeviceOutput (List ℕ)) → Acting language performs first old before due mid after → due ≡ Some action
        → language.actions_of action ≡ action ∷ actions_of language next → ActsOnce performs refused action mid after (Err fault) new end
        → Acted performs refused (actions_of language first) old before (Err fault) new end
    unfolding ActsOnce Acted
    step_stopped first due next action Memory old mid new before after end g e n o =
        let same : actions_of language due ≡ action ∷ actions_of language next = ap (actions_of language) e ∙ n in
        record {
          done = g.done;
          action = action;
          left = actions_of language next;
          asked = g.asked ∙ ap (λ (l : List A). g.done ++ l) same;
          mid = mid;
          text = g.text;
          runs = g.runs;
          is = o.0;
          written = subst (λ (d : DeviceOutput (List ℕ)). Sends logs before d g.text) (sym o.1) g.written;
        }
    step_stopped first due next action Write old mid new before after end g e n o =
        let same : actions_of language due ≡ action ∷ actions_of language next = ap (actions_of language) e ∙ n in
        record {
          done = g.done ++ action ∷ [];
          left = actions_of language next;
          asked = g.asked ∙ ap (λ (l : List A). g.done ++ l) same ∙ sym (append_assoc g.done (action ∷ []) (actions_of language next));
          text = g.text ++ o.0;
          runs = runs_append language performs old g.done g.text mid (action ∷ []) o.0 new g.runs (runs_one language performs mid action o.0 new o.1);
          written = sends_front logs before after end g.text o.0 g.written o.2;
        }
    step_stopped first due next action (BadLine m) old mid new before after end g e n o = absurd o
    step_stopped first due next action (BadLook m) old mid new before after end g e n o = absurd o
    step_stopped first due next action (Source m which) old mid new before after end g e n o = absurd o
    step_stopped first due next action Read old mid new before after end g e n o = absurd o
    step_stopped first due next action ReadBound old mid new before after end g e n o = absurd o

    all_acted : (first due : Option A) (old new : S) (before after : DeviceOutput (List ℕ)) → Acting language performs first old before due new after → due ≡ None
        → Acted performs refused (actions_of language first) old before (Ok tt) new after
    unfolding Acted
    all_acted first due old new before after g e =
        let same : actions_of language first ≡ g.done = g.asked ∙ ap (λ (o : Option A). g.done ++ actions_of language o) e ∙ append-nil g.done in
        (g.text, subst (λ (l : List A). PerformsAll performs old l g.text new) (sym same) g.runs, g.written)

  -- ---- the same, whatever was written before
  module _ {W : Type 0} (writes : W → Option (List ℕ) → W → Type 0) where
    module _ (refused : S → A → S → Type 0) where
      pub act_memory : (a : W) (action : A) (waits : List ℕ) (old new : S) (r : Result (Unit {0}) RunFault) → IsErrAnd r (λ fault. fault ≡ Memory) → refused old action new
          → Calling writes a a (λ x y. ActsOnce performs refused action old (device_output x waits) r new (device_output y waits))
      unfolding ActsOnce
      act_memory a action waits old new (Ok done) h refusal = absurd h
      act_memory a action waits old new (Err fault) h refusal =
          subst (λ (f : RunFault). Calling writes a a (λ x y. ActsOnce performs refused action old (device_output x waits) (Err f) new (device_output y waits))) (sym h)
          (calling_none writes a (λ x y. ActsOnce performs refused action old (device_output x waits) (Err Memory) new (device_output y waits)) (λ x. (refusal, refl)))

      pub act_put : (a b : W) (action : A) (waits left text shown : List ℕ) (old new : S) → performs old action text new → shown ≡ text
          → Sends writes (device_output a waits) (device_output b left) shown → Calling writes a b (λ x y. ActsOnce performs refused action old (device_output x waits) (Ok tt) new (device_output y left))
      unfolding ActsOnce
      act_put a b action waits left text shown old new p same s =
          calling_so writes a b (λ x y. Sends logs (device_output x waits) (device_output y left) shown) (λ x y. ActsOnce performs refused action old (device_output x waits) (Ok tt) new (device_output y left))
          (calling_sends writes a b waits left shown s) (λ x y h. (shown, subst (λ (l : List ℕ). performs old action l new) (sym same) p, h))

      pub act_unwritten : (a b : W) (action : A) (waits left text shown : List ℕ) (old new : S) → performs old action text new → shown ≡ text
          → TakesFront writes a b (waits ++ shown) → Calling writes a b (λ x y. ActsOnce performs refused action old (device_output x waits) (Err Write) new (device_output y left))
      unfolding ActsOnce
      act_unwritten a b action waits left text shown old new p same s =
          calling_so writes a b (λ x y. TakesFront logs x y (waits ++ shown)) (λ x y. ActsOnce performs refused action old (device_output x waits) (Err Write) new (device_output y left))
          (calling_front writes a b (waits ++ shown) s) (λ x y h. (shown, subst (λ (l : List ℕ). performs old action l new) (sym same) p, h))

    pub acts_first : {H : Type 0} (language : Language A H) (a : W) (first : Option A) (waits : List ℕ) (old : S)
        → Calling writes a a (λ x y. Acting language performs first old (device_output x waits) first old (device_output y waits))
    unfolding PerformsAll
    acts_first language a first waits old =
        calling_none writes a (λ x y. Acting language performs first old (device_output x waits) first old (device_output y waits))
        (λ x. record { done = []; asked = refl; text = []; runs = (refl, refl); written = sends_nil logs (device_output x waits) })

    pub acts_on : {H : Type 0} (language : Language A H) (refused : S → A → S → Type 0) (a b c : W) (first due next : Option A) (action : A) (waits left last : List ℕ) (old mid new : S)
        → Calling writes a b (λ x y. Acting language performs first old (device_output x waits) due mid (device_output y left)) → due ≡ Some action
        → language.actions_of action ≡ action ∷ actions_of language next
        → Calling writes b c (λ x y. ActsOnce performs refused action mid (device_output x left) (Ok tt) new (device_output y last))
        → Calling writes a c (λ x y. Acting language performs first old (device_output x waits) next new (device_output y last))
    acts_on language refused a b c first due next action waits left last old mid new p e n q =
        calling_then writes a b c (λ x y. Acting language performs first old (device_output x waits) due mid (device_output y left))
        (λ x y. ActsOnce performs refused action mid (device_output x left) (Ok tt) new (device_output y last))
        (λ x y. Acting language performs first old (device_output x waits) next new (device_output y last)) p q
        (λ x y z g o. step_on language refused first due next action old mid new (device_output x waits) (device_output y left) (device_output z last) g e n o)

    pub acts_stopped : {H : Type 0} (language : Language A H) (refused : S → A → S → Type 0) (a b c : W) (first due next : Option A) (action : A) (fault : RunFault) (waits left last : List ℕ) (old mid new : S)
        → Calling writes a b (λ x y. Acting language performs first old (device_output x waits) due mid (device_output y left)) → due ≡ Some action
        → language.actions_of action ≡ action ∷ actions_of language next
        → Calling writes b c (λ x y. ActsOnce performs refused action mid (device_output x left) (Err fault) new (device_output y last))
        → Calling writes a c (λ x y. Acted performs refused (actions_of language first) old (device_output x waits) (Err fault) new (device_output y last))
    acts_stopped language refused a b c first due next action fault waits left last old mid new p e n q =
        calling_then writes a b c (λ x y. Acting language performs first old (device_output x waits) due mid (device_output y left))
        (λ x y. ActsOnce performs refused action mid (device_output x left) (Err fault) new (device_output y last))
        (λ x y. Acted performs refused (actions_of language first) old (device_output x waits) (Err fault) new (device_output y last)) p q
        (λ x y z g o. step_stopped language refused first due next action fault old mid new (device_output x waits) (device_output y left) (device_output z last) g e n o)

    pub acts_done : {H : Type 0} (language : Language A H) (refused : S → A → S → Type 0) (a b : W) (first due : Option A) (waits left : List ℕ) (old new : S)
        → Calling writes a b (λ x y. Acting language performs first old (device_output x waits) due new (device_output y left)) → due ≡ None
        → Calling writes a b (λ x y. Acted performs refused (actions_of language first) old (device_output x waits) (Ok tt) new (device_output y left))
    acts_done language refused a b first due waits left old new p e =
        calling_so writes a b (λ x y. Acting language performs first old (device_output x waits) due new (device_output y left))
        (λ x y. Acted performs refused (actions_of language first) old (device_output x waits) (Ok tt) new (device_output y left)) p
        (λ x y g. all_acted language refused first due old new (device_output x waits) (device_output y left) g e)

    abbrev LineIs : {H : Type 0} → ℕ → Result (Step A H) RunFault → S → List ℕ → Result (Unit {0}) RunFault → S → List ℕ → Place H → List ℕ → List ℕ → Type 0
    LineIs number due old waits r new left block x y = TakesLine performs number due old (device_output x waits) r new (device_output y left) block

    pub take_faulty : {H : Type 0} (language : Language A H) (a : W) (number : ℕ) (place : Place H) (line : List ℕ) (r : Result (LineStep A H) RunFault) (fault : RunFault) (old : S) (waits : List ℕ) (block : Place H)
        → r ≡ Err fault → (is_memory r ≡ false → r ≡ step_at language number place.block line) → (step_at language number place.block line ≡ Err (BadLine number) → r ≡ Err (BadLine number)) → is_write r ≡ false
        → Calling writes a a (λ x y. TakesLine performs number (step_from language number place line) old (device_output x waits) (Err fault) old (device_output y waits) block)
    unfolding step_from
    take_faulty language a number place line r fault old waits block e h bad w =
        calling_none writes a (LineIs number (step_from language number place line) old waits (Err fault) old waits block)
        (λ x. line_faulty number (stepped language number place) (step_at language number place.block line) r fault old (device_output x waits) block e h bad w)

    pub take_acted : {H : Type 0} (language : Language A H) (refused : S → A → S → Type 0) (a b : W) (number : ℕ) (place : Place H) (line : List ℕ) (step : LineStep A H) (old new : S) (waits left : List ℕ) (r : Result (Unit {0}) RunFault)
        → step_at language number place.block line ≡ Ok step
        → Calling writes a b (λ x y. Acted performs refused (actions_of language step.action) old (device_output x waits) r new (device_output y left))
        → Calling writes a b (λ x y. TakesLine performs number (step_from language number place line) old (device_output x waits) r new (device_output y left) (stepped language number place step).place)
    unfolding step_from
    take_acted language refused a b number place line step old new waits left r e c =
        calling_so writes a b (λ x y. Acted performs refused (actions_of language step.action) old (device_output x waits) r new (device_output y left))
        (LineIs number (step_from language number place line) old waits r new left (stepped language number place step).place) c
        (λ x y h. line_acted language refused number (stepped language number place) (step_at language number place.block line) step old new (device_output x waits) (device_output y left) r e h)

    pub take_long : {H : Type 0} (a : W) (number : ℕ) (due : Result (Step A H) RunFault) (old : S) (waits : List ℕ) (block : Place H) → due ≡ Err (BadLine number)
        → Calling writes a a (λ x y. TakesLine performs number due old (device_output x waits) (Err (BadLine number)) old (device_output y waits) block)
    unfolding TakesLine
    take_long a number due old waits block e = calling_none writes a (LineIs number due old waits (Err (BadLine number)) old waits block) (λ x. (e, refl))

    pub take_served : {H : Type 0} (a b c : W) (number : ℕ) (due : Result (Step A H) RunFault) (r : Result (Unit {0}) RunFault) (old new : S) (waits : List ℕ) (block : Place H) → is_write r ≡ false
        → Calling writes a b (λ x y. TakesLine performs number due old (device_output x []) r new (device_output y waits) block) → Takes writes b c waits
        → Calling writes a c (λ x y. TakesLine performs number due old (device_output x []) r new (device_output y []) block)
    take_served a b c number due r old new waits block e p t =
        calling_then writes a b c (LineIs number due old [] r new waits block) (λ x y. Takes logs x y waits) (LineIs number due old [] r new [] block) p (calling_takes writes b c waits t)
        (λ x y z h k. line_served number due r old new x z y waits block e h k)

    pub take_unwritten : {H : Type 0} (a b c : W) (number : ℕ) (due : Result (Step A H) RunFault) (r : Result (Unit {0}) RunFault) (old new : S) (waits : List ℕ) (block : Place H) → is_write r ≡ false
        → Calling writes a b (λ x y. TakesLine performs number due old (device_output x []) r new (device_output y waits) block) → TakesFront writes b c waits
        → Calling writes a c (λ x y. TakesLine performs number due old (device_output x []) (Err Write) new (device_output y []) block)
    take_unwritten a b c number due r old new waits block e p t =
        calling_then writes a b c (LineIs number due old [] r new waits block) (λ x y. TakesFront logs x y waits) (LineIs number due old [] (Err Write) new [] block) p (calling_front writes b c waits t)
        (λ x y z h k. line_unwritten number due r old new x z y waits block e h k)

    pub take_failed : {H : Type 0} (a b : W) (number : ℕ) (due : Result (Step A H) RunFault) (r : Result (Unit {0}) RunFault) (old new : S) (waits : List ℕ) (block : Place H)
        → Calling writes a b (λ x y. TakesLine performs number due old (device_output x []) r new (device_output y waits) block) → is_write r ≡ true
        → Calling writes a b (λ x y. TakesLine performs number due old (device_output x []) r new (device_output y []) block)
    take_failed a b number due r old new waits block p e =
        calling_so writes a b (LineIs number due old [] r new waits block) (LineIs number due old [] r new [] block) p
        (λ x y h. line_failed number due r old new x y waits block e h)
