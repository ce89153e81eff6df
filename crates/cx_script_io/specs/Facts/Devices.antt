-- Several reads or writes, one after the other.
use Rattle.std.proofs.Common.{◌≡◌, ℕ, ◌+◌, ◌-◌, ◌<◌, ◌≤◌, List, [], ◌∷◌, ◌++◌, length, map, min, take, drop, None, Some, Option, Result, Ok, Err, IfOk, refl, sym, ap, ◌∙◌, subst, append-nil, arith}
use Rattle.std.specs.Io.KnownBytes.{ReadConsumes, WriteAppends}
use Rattle.std.proofs.lemmas.List.{append_assoc, length-take-le, take_rest, take_all, take_min, take-append-le}
use Rattle.std.proofs.Math.Seq.{take-add, take-append-add, take-append_seam}
use Rattle.cx_script_io.specs.Calls.{Writing, moved, taken}
use Rattle.cx_script_io.specs.Devices.{DeviceOutput, ReadsKnown, Sends, SentFront, Takes, TakesFront, WritesKnown, device_output}
use Rattle.cx_script_io.specs.Facts.Calls.{folds_append, taken_writes}

-- what a read says of known bytes, where its buffer had room
pub read_known : {E : Type 0} (a b : Option (List ℕ)) (r : Result ℕ E) (buffer : List ℕ) → ReadConsumes a b r buffer → IfOk r (λ n. n ≤ length buffer) → 0 < length buffer → ReadsKnown a (moved r buffer) b
read_known a b (Ok n) buffer h few room =
    (h.0, λ none. h.1 (sym (length-take-le n buffer few) ∙ ap length none) room)
read_known a b (Err fault) buffer h few room = h

pub write_known : {E : Type 0} (a b : Option (List ℕ)) (r : Result ℕ E) (bytes : List ℕ) → WriteAppends a b r bytes → WritesKnown a (moved r bytes) b
write_known a b (Ok n) bytes h = h
write_known a b (Err fault) bytes h = h

module _ {W : Type 0} (writes : W → Option (List ℕ) → W → Type 0) where
  -- ---- writes one after another
  pub takes_nil : (a : W) → Takes writes a a []
  takes_nil a = record { calls = []; made = refl; whole = refl }

  pub takes_trans : (a b c : W) (s t : List ℕ) → Takes writes a b s → Takes writes b c t → Takes writes a c (s ++ t)
  takes_trans a b c s t p q =
      record {
        calls = p.calls ++ q.calls;
        made = folds_append writes a b c p.calls q.calls p.made q.made;
        whole = taken_writes p.calls q.calls ∙ ap (λ l. l ++ taken (map Writing q.calls)) p.whole ∙ ap (λ l. s ++ l) q.whole;
      }

  -- a write that took some bytes, and one that failed
  takes_some : (a b : W) (bytes : List ℕ) → writes a (Some bytes) b → Takes writes a b bytes
  takes_some a b bytes h = record { calls = Some bytes ∷ []; made = (b, h, refl); whole = append-nil bytes }

  takes_none : (a b : W) → writes a None b → Takes writes a b []
  takes_none a b h = record { calls = None ∷ []; made = (b, h, refl); whole = refl }

  -- a front, and what is written of the rest
  pub wrote_more : (a b c : W) (bytes : List ℕ) (at n : ℕ) → Takes writes a b (take at bytes) → writes b (Some (take n (take (length bytes - at) (drop at bytes)))) c
      → Takes writes a c (take (at + n) bytes)
  wrote_more a b c bytes at n p q =
      let rest : take n (take (length bytes - at) (drop at bytes)) ≡ take n (drop at bytes) = ap (take n) (take_rest bytes at) in
      subst (Takes writes a c) (ap (λ l. take at bytes ++ l) rest ∙ sym (take-add at n bytes)) (takes_trans a b c _ _ p (takes_some b c _ q))

  pub wrote_all : (a b : W) (bytes : List ℕ) (at : ℕ) → length bytes ≤ at → Takes writes a b (take at bytes) → Takes writes a b bytes
  wrote_all a b bytes at full p = subst (Takes writes a b) (take_all at bytes full) p

  pub wrote_front : (a b : W) (bytes : List ℕ) (n : ℕ) → Takes writes a b (take n bytes) → TakesFront writes a b bytes
  unfolding TakesFront
  wrote_front a b bytes n p = (n, p)

  pub wrote_kept : (a b c : W) (bytes : List ℕ) (n : ℕ) → Takes writes a b (take n bytes) → writes b None c → TakesFront writes a c bytes
  unfolding TakesFront
  wrote_kept a b c bytes n p q = (n, subst (Takes writes a c) (append-nil (take n bytes)) (takes_trans a b c _ _ p (takes_none b c q)))

  pub wrote_none : (a b c : W) (bytes rest : List ℕ) (n m : ℕ) → m ≡ 0 → Takes writes a b (take n bytes) → writes b (Some (take m rest)) c → TakesFront writes a c bytes
  unfolding TakesFront
  wrote_none a b c bytes rest n m e p q =
      let nothing : take m rest ≡ [] = ap (λ k. take k rest) e in
      (n, subst (Takes writes a c) (ap (λ l. take n bytes ++ l) nothing ∙ append-nil (take n bytes)) (takes_trans a b c _ _ p (takes_some b c _ q)))

  -- ---- texts that wait
  pub sends_nil : (a : DeviceOutput W) → Sends writes a a []
  sends_nil a = record { sent = []; written = takes_nil a.writer; whole = append-nil a.waits }

  pub sends_trans : (a b c : DeviceOutput W) (s t : List ℕ) → Sends writes a b s → Sends writes b c t → Sends writes a c (s ++ t)
  sends_trans a b c s t p q =
      record {
        sent = p.sent ++ q.sent;
        written = takes_trans a.writer b.writer c.writer p.sent q.sent p.written q.written;
        whole = sym (append_assoc a.waits s t) ∙ ap (λ l. l ++ t) p.whole ∙ append_assoc p.sent b.waits t ∙ ap (λ l. p.sent ++ l) q.whole ∙ sym (append_assoc p.sent q.sent c.waits);
      }

  -- a front of what was written before and of some more
  wrote_after : (a b c : W) (s t : List ℕ) → Takes writes a b s → TakesFront writes b c t → TakesFront writes a c (s ++ t)
  unfolding TakesFront
  wrote_after a b c s t p w = (length s + w.0, subst (Takes writes a c) (sym (take-append-add s t w.0)) (takes_trans a b c s (take w.0 t) p w.1))

  -- all of it is a front of it and of some more
  wrote_part : (a b : W) (s t : List ℕ) → Takes writes a b s → TakesFront writes a b (s ++ t)
  unfolding TakesFront
  wrote_part a b s t p = (length s, subst (Takes writes a b) (sym (take-append_seam s t)) p)

  pub sends_front : (a b c : DeviceOutput W) (s t : List ℕ) → Sends writes a b s → SentFront writes b c t → SentFront writes a c (s ++ t)
  sends_front a b c s t p w =
      let all : a.waits ++ (s ++ t) ≡ p.sent ++ (b.waits ++ t) = sym (append_assoc a.waits s t) ∙ ap (λ l. l ++ t) p.whole ∙ append_assoc p.sent b.waits t in
      subst (TakesFront writes a.writer c.writer) (sym all) (wrote_after a.writer b.writer c.writer p.sent (b.waits ++ t) p.written w)

  pub sends_all : (a b : DeviceOutput W) (s : List ℕ) → Sends writes a b s → SentFront writes a b s
  sends_all a b s p = subst (TakesFront writes a.writer b.writer) (sym p.whole) (wrote_part a.writer b.writer p.sent b.waits p.written)

  -- what waited was written
  pub sends_flushed : (a : DeviceOutput W) (b c : W) (waits s : List ℕ) → Sends writes a (device_output b waits) s → Takes writes b c waits → Sends writes a (device_output c []) s
  sends_flushed a b c waits s p w =
      record {
        sent = p.sent ++ waits;
        written = takes_trans a.writer b c p.sent waits p.written w;
        whole = p.whole ∙ sym (append-nil (p.sent ++ waits));
      }

  -- a front of it was
  pub front_flushed : (a : DeviceOutput W) (b c : W) (waits last s : List ℕ) → Sends writes a (device_output b waits) s → TakesFront writes b c waits → SentFront writes a (device_output c last) s
  front_flushed a b c waits last s p w = subst (TakesFront writes a.writer c) (sym p.whole) (wrote_after a.writer b c p.sent waits p.written w)

  -- where nothing waits any more
  pub sends_written : (a b : W) (s : List ℕ) → Sends writes (device_output a []) (device_output b []) s → Takes writes a b s
  sends_written a b s p = subst (Takes writes a b) (sym (p.whole ∙ append-nil p.sent)) p.written

  -- ---- a text that is put after what waits
  pub sends_put : (a : W) (waits left text : List ℕ) → left ≡ waits ++ text → Sends writes (device_output a waits) (device_output a left) text
  sends_put a waits left text e = record { sent = []; written = takes_nil a; whole = sym e }

  pub sends_after : (a b : W) (waits left text : List ℕ) → Takes writes a b waits → left ≡ text → Sends writes (device_output a waits) (device_output b left) text
  sends_after a b waits left text p e = record { sent = waits; written = p; whole = ap (λ l. waits ++ l) (sym e) }

  pub sends_past : (a b c : W) (waits left text : List ℕ) → Takes writes a b waits → Takes writes b c text → left ≡ [] → Sends writes (device_output a waits) (device_output c left) text
  sends_past a b c waits left text p q e = record { sent = waits ++ text; written = takes_trans a b c waits text p q; whole = sym (ap (λ l. (waits ++ text) ++ l) e ∙ append-nil (waits ++ text)) }

  pub front_more : (a b : W) (waits text : List ℕ) → TakesFront writes a b waits → TakesFront writes a b (waits ++ text)
  unfolding TakesFront
  front_more a b waits text w = (min w.0 (length waits), subst (Takes writes a b) (front_same waits text w.0) w.1)
    where
      front_same : (l more : List ℕ) (n : ℕ) → take n l ≡ take (min n (length l)) (l ++ more)
      front_same l more n = sym (take_min n l) ∙ sym (take-append-le (min n (length l)) l more (omega arith))

  pub front_after : (a b c : W) (waits text : List ℕ) → Takes writes a b waits → TakesFront writes b c text → TakesFront writes a c (waits ++ text)
  front_after a b c waits text p w = wrote_after a b c waits text p w
