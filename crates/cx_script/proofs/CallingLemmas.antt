-- Writes one after another, and what they took.
use Rattle.std.proofs.Common.{◌≡◌, ℕ, List, [], ◌∷◌, ◌++◌, map, take, None, Some, Option, refl, sym, ap, ◌∙◌, subst, append-nil, append_assoc}
use Rattle.std.specs.List.{FoldsTo}
use Rattle.cx_script_io.specs.Calls.{Writing, taken}
use Rattle.cx_script_io.specs.Devices.{Sends, Takes, TakesFront, device_output}
use Rattle.cx_script_io.specs.Facts.Calls.{folds_append, taken_writes}
use Rattle.cx_script.specs.Parts.Progress.{Calling, logs}

-- ---- what was written as a list
logged : (a b : List ℕ) (ms : List (Option (List ℕ))) → FoldsTo logs a ms b → b ≡ a ++ taken (map Writing ms)
logged a b [] f = sym f ∙ sym (append-nil a)
logged a b (Some bytes ∷ ms) f = logged f.0 b ms f.2 ∙ ap (λ l. l ++ taken (map Writing ms)) f.1 ∙ append_assoc a bytes (taken (map Writing ms))
logged a b (None ∷ ms) f = logged f.0 b ms f.2 ∙ ap (λ l. l ++ taken (map Writing ms)) f.1

pub log_is : (a b bytes : List ℕ) → Takes logs a b bytes → b ≡ a ++ bytes
log_is a b bytes t = logged a b t.calls t.made ∙ ap (λ l. a ++ l) t.whole

is_log : (a bytes more : List ℕ) → more ≡ bytes → Takes logs a (a ++ more) bytes
is_log a bytes more e = record { calls = Some more ∷ []; made = (a ++ more, refl, refl); whole = append-nil more ∙ e }

module _ {W : Type 0} (writes : W → Option (List ℕ) → W → Type 0) where
  pub calling_none : (a : W) (P : List ℕ → List ℕ → Type 0) → ((log : List ℕ) → P log log) → Calling writes a a P
  calling_none a P h = record { calls = []; made = refl; does = λ log. subst (P log) (sym (append-nil log)) (h log) }

  pub calling_so : (a b : W) (P Q : List ℕ → List ℕ → Type 0) → Calling writes a b P → ((x y : List ℕ) → P x y → Q x y) → Calling writes a b Q
  calling_so a b P Q c f = record { calls = c.calls; made = c.made; does = λ log. f log (log ++ taken (map Writing c.calls)) (c.does log) }

  pub calling_then : (a b c : W) (P Q R : List ℕ → List ℕ → Type 0) → Calling writes a b P → Calling writes b c Q
      → ((x y z : List ℕ) → P x y → Q y z → R x z) → Calling writes a c R
  calling_then a b c P Q R p q f =
      let first = taken (map Writing p.calls) in
      let second = taken (map Writing q.calls) in
      record {
        calls = p.calls ++ q.calls;
        made = folds_append writes a b c p.calls q.calls p.made q.made;
        does = λ log. subst (R log) (append_assoc log first second ∙ ap (λ l. log ++ l) (sym (taken_writes p.calls q.calls)))
            (f log (log ++ first) ((log ++ first) ++ second) (p.does log) (q.does (log ++ first)));
      }

  -- ---- what was written of a text and of what waits
  pub calling_takes : (a b : W) (bytes : List ℕ) → Takes writes a b bytes → Calling writes a b (λ x y. Takes logs x y bytes)
  calling_takes a b bytes t = record { calls = t.calls; made = t.made; does = λ log. is_log log bytes (taken (map Writing t.calls)) t.whole }

  pub calling_front : (a b : W) (bytes : List ℕ) → TakesFront writes a b bytes → Calling writes a b (λ x y. TakesFront logs x y bytes)
  unfolding TakesFront
  calling_front a b bytes t =
      record { calls = t.1.calls; made = t.1.made; does = λ log. (t.0, is_log log (take t.0 bytes) (taken (map Writing t.1.calls)) t.1.whole) }

  pub calling_sends : (a b : W) (waits left text : List ℕ) → Sends writes (device_output a waits) (device_output b left) text
      → Calling writes a b (λ x y. Sends logs (device_output x waits) (device_output y left) text)
  calling_sends a b waits left text s =
      record {
        calls = s.written.calls;
        made = s.written.made;
        does = λ log. record { sent = s.sent; written = is_log log s.sent (taken (map Writing s.written.calls)) s.written.whole; whole = s.whole };
      }

  -- what no write changes
  folds_keep : {X : Type 0} (f : W → X) → ((a b : W) (m : Option (List ℕ)) → writes a m b → f b ≡ f a) → (a b : W) (ms : List (Option (List ℕ))) → FoldsTo writes a ms b → f b ≡ f a
  folds_keep f keeps a b [] h = ap f (sym h)
  folds_keep f keeps a b (m ∷ ms) h = folds_keep f keeps h.0 b ms h.2 ∙ keeps a h.0 m h.1

  pub calling_keeps : {X : Type 0} (f : W → X) → ((a b : W) (m : Option (List ℕ)) → writes a m b → f b ≡ f a) → (a b : W) (P : List ℕ → List ℕ → Type 0) → Calling writes a b P → f b ≡ f a
  calling_keeps f keeps a b P c = folds_keep f keeps a b c.calls c.made
