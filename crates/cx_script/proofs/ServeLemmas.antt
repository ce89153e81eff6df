-- A piece of a script, whatever was written before.
use Rattle.std.proofs.Common.{◌≡◌, ℕ, ◌+◌, false, true, List, [], ◌∷◌, ◌++◌, Option, Result, Ok, Err, MatchOption, IsOkAnd, IfErr, OnErr, OnOk, subst, sym}
use Rattle.std.specs.Str.Lines.{strip_carriage_return}
use Rattle.cx_script_actions.specs.Language.{Language}
use Rattle.cx_script_blocks.specs.Faults.{is_write}
use Rattle.cx_script.specs.declared.run.Place.{Place}
use Rattle.cx_script_blocks.specs.declared.faults.RunFault.{RunFault}
use Rattle.cx_script_blocks.specs.declared.faults.RunFault.TheVariants.{BadLine, BadLook, Source, Read, Write, Memory, ReadBound}
use Rattle.cx_script_blocks.specs.declared.faults.Summary.{Summary}
use Rattle.cx_script_io.specs.Devices.{Takes, TakesFront, device_output}
use Rattle.cx_script_io.specs.Lines.{is_too_long, last_met, lines_met}
use Rattle.cx_script_io.specs.Unbroken.{IsUnbroken}
use Rattle.cx_script_io.specs.declared.input.Ending.{Ending}
use Rattle.cx_script.specs.Parts.Progress.{Calling, Came, Closes, Stopped, TakesLine, logs}
use Rattle.cx_script.specs.Script.{fault_at_ending, step_from}
use Rattle.cx_script.proofs.CallingLemmas.{calling_front, calling_none, calling_so, calling_takes, calling_then}
use Rattle.cx_script.proofs.PieceLemmas.{came_flushed, came_front, came_start, came_stopped, finished, finished_badly, finished_line, long_stopped, piece_line, piece_line_stopped, stopped_flushed, stopped_front, stopped_write}
use Rattle.cx_script_io.specs.Facts.Lines.{unbroken_append}

module _ {A H S : Type 0} (language : Language A H) (performs : S → A → List ℕ → S → Type 0) {W : Type 0} (writes : W → Option (List ℕ) → W → Type 0) where
  -- the words of the contracts, of what was written before and after
  abbrev CameIs : S → ℕ → Place H → List ℕ → List ℕ → S → ℕ → Place H → List ℕ → List ℕ → List ℕ → List ℕ → Type 0
  CameIs old n block ahead waits new m next left waited x y = Came language performs old n block ahead (device_output x waits) new m next left (device_output y waited)

  abbrev StoppedIs : S → ℕ → Place H → List ℕ → RunFault → List ℕ → List ℕ → List ℕ → List ℕ → Type 0
  StoppedIs old n block ahead fault waits waited x y = Stopped language performs old n block ahead fault (device_output x waits) (device_output y waited)

  abbrev LineIs : ℕ → Place H → List ℕ → S → List ℕ → Result (Unit {0}) RunFault → S → List ℕ → Place H → List ℕ → List ℕ → Type 0
  LineIs m next line old waits r new waited last x y =
      TakesLine performs (m + 1) (step_from language (m + 1) next line) old (device_output x waits) r new (device_output y waited) last

  -- ---- lines of a piece
  pub piece_start : (a : W) (old : S) (n : ℕ) (block : Place H) (ahead waits : List ℕ) → Calling writes a a (λ x y. Came language performs old n block ahead (device_output x waits) old n block ahead (device_output y waits))
  piece_start a old n block ahead waits = calling_none writes a (CameIs old n block ahead waits old n block ahead waits) (λ x. came_start language performs old n block ahead (device_output x waits))

  pub piece_on : (a b c : W) (old mid new : S) (n m k : ℕ) (block next last : Place H) (ahead part rest bytes following empty waits between waited : List ℕ)
      → Calling writes a b (λ x y. Came language performs old n block ahead (device_output x waits) mid m next (part ++ rest) (device_output y between))
      → rest ≡ bytes ++ 10 ∷ following → IsUnbroken part → IsUnbroken bytes
      → Calling writes b c (λ x y. TakesLine performs (m + 1) (step_from language (m + 1) next (strip_carriage_return (part ++ bytes))) mid (device_output x between) (Ok tt) new (device_output y waited) last)
      → k ≡ m + 1 → empty ≡ []
      → Calling writes a c (λ x y. Came language performs old n block ahead (device_output x waits) new k last (empty ++ following) (device_output y waited))
  piece_on a b c old mid new n m k block next last ahead part rest bytes following empty waits between waited p e u v q lines none =
      calling_then writes a b c (CameIs old n block ahead waits mid m next (part ++ rest) between) (LineIs m next (strip_carriage_return (part ++ bytes)) mid between (Ok tt) new waited last)
      (CameIs old n block ahead waits new k last (empty ++ following) waited) p q
      (λ x y z h t. piece_line language performs old mid new n m k block next last ahead part rest bytes following empty (device_output x waits) (device_output y between) (device_output z waited) h e u v t lines none)

  pub piece_stopped : (a b c : W) (old mid new : S) (n m : ℕ) (block next last : Place H) (ahead part rest bytes following waits between waited : List ℕ) (fault : RunFault)
      → Calling writes a b (λ x y. Came language performs old n block ahead (device_output x waits) mid m next (part ++ rest) (device_output y between))
      → rest ≡ bytes ++ 10 ∷ following → IsUnbroken part → IsUnbroken bytes
      → Calling writes b c (λ x y. TakesLine performs (m + 1) (step_from language (m + 1) next (strip_carriage_return (part ++ bytes))) mid (device_output x between) (Err fault) new (device_output y waited) last)
      → Calling writes a c (λ x y. Stopped language performs old n block ahead fault (device_output x waits) (device_output y waited))
  piece_stopped a b c old mid new n m block next last ahead part rest bytes following waits between waited fault p e u v q =
      calling_then writes a b c (CameIs old n block ahead waits mid m next (part ++ rest) between) (LineIs m next (strip_carriage_return (part ++ bytes)) mid between (Err fault) new waited last)
      (StoppedIs old n block ahead fault waits waited) p q
      (λ x y z h t. piece_line_stopped language performs old mid new n m block next last ahead part rest bytes following fault (device_output x waits) (device_output y between) (device_output z waited) h e u v t)

  pub piece_kept : (a b : W) (old mid : S) (n m : ℕ) (block next : Place H) (ahead part rest waits waited : List ℕ) (r : Result (Unit {0}) RunFault)
      → Calling writes a b (λ x y. Came language performs old n block ahead (device_output x waits) mid m next (part ++ rest) (device_output y waited)) → IsUnbroken part → IsUnbroken rest
      → IfErr r (λ fault. fault ≡ BadLine (m + 1)) → OnErr r (is_too_long (strip_carriage_return (part ++ rest)) ≡ true)
      → IfErr r (λ fault. Calling writes a b (λ x y. Stopped language performs old n block ahead fault (device_output x waits) (device_output y waited)))
  piece_kept a b old mid n m block next ahead part rest waits waited (Ok done) p u v e h = tt
  piece_kept a b old mid n m block next ahead part rest waits waited (Err fault) p u v e h =
      calling_so writes a b (CameIs old n block ahead waits mid m next (part ++ rest) waited) (StoppedIs old n block ahead fault waits waited) p
      (λ x y c. came_stopped language performs old mid n m block next ahead (part ++ rest) fault (device_output x waits) (device_output y waited) (device_output y waited) c
      (subst (λ (f : RunFault). Stopped language performs mid m next (part ++ rest) f (device_output y waited) (device_output y waited)) (sym e)
      (long_stopped language performs mid m next (part ++ rest) (device_output y waited) (unbroken_append part rest u v) h)))

  -- ---- what waits is written, or a front of it
  abbrev failed_with : RunFault → Result (Unit {0}) RunFault
  failed_with fault = Err fault

  unwritten : (fault : RunFault) → is_write (failed_with fault) ≡ false → fault ≡ Write → ⊥
  unwritten fault e w = let wrote : is_write (failed_with Write) ≡ false = subst (λ f. is_write (failed_with f) ≡ false) w e in cc

  pub serve_failed : (a b : W) (r : Result (Unit {0}) RunFault) (old : S) (n : ℕ) (block : Place H) (ahead waits : List ℕ)
      → IfErr r (λ fault. Calling writes a b (λ x y. Stopped language performs old n block ahead fault (device_output x []) (device_output y waits))) → is_write r ≡ true
      → IfErr r (λ fault. Calling writes a b (λ x y. Stopped language performs old n block ahead fault (device_output x []) (device_output y [])))
  serve_failed a b (Ok done) old n block ahead waits s w = tt
  serve_failed a b (Err Write) old n block ahead waits s w =
      calling_so writes a b (StoppedIs old n block ahead Write [] waits) (StoppedIs old n block ahead Write [] []) s (λ x y h. stopped_write language performs old n block ahead (device_output x []) y waits h)
  serve_failed a b (Err (BadLine m)) old n block ahead waits s w = cc
  serve_failed a b (Err (BadLook m)) old n block ahead waits s w = cc
  serve_failed a b (Err (Source m which)) old n block ahead waits s w = cc
  serve_failed a b (Err Read) old n block ahead waits s w = cc
  serve_failed a b (Err Memory) old n block ahead waits s w = cc
  serve_failed a b (Err ReadBound) old n block ahead waits s w = cc

  pub serve_front : (a b c : W) (r : Result (Unit {0}) RunFault) (old mid : S) (n m : ℕ) (block next : Place H) (ahead left waits : List ℕ)
      → OnOk r (Calling writes a b (λ x y. Came language performs old n block ahead (device_output x []) mid m next left (device_output y waits)))
      → IfErr r (λ fault. Calling writes a b (λ x y. Stopped language performs old n block ahead fault (device_output x []) (device_output y waits))) → is_write r ≡ false → TakesFront writes b c waits
      → Calling writes a c (λ x y. Stopped language performs old n block ahead Write (device_output x []) (device_output y []))
  serve_front a b c (Ok done) old mid n m block next ahead left waits d s e w =
      calling_then writes a b c (CameIs old n block ahead [] mid m next left waits) (λ x y. TakesFront logs x y waits) (StoppedIs old n block ahead Write [] []) d (calling_front writes b c waits w)
      (λ x y z h k. came_front language performs old mid n m block next ahead left (device_output x []) y z waits h k)
  serve_front a b c (Err fault) old mid n m block next ahead left waits d s e w =
      calling_then writes a b c (StoppedIs old n block ahead fault [] waits) (λ x y. TakesFront logs x y waits) (StoppedIs old n block ahead Write [] []) s (calling_front writes b c waits w)
      (λ x y z h k. stopped_front language performs old n block ahead fault (device_output x []) y z waits (unwritten fault e) h k)

  pub serve_came : (a b c : W) (r : Result (Unit {0}) RunFault) (old mid : S) (n m : ℕ) (block next : Place H) (ahead left waits : List ℕ)
      → OnOk r (Calling writes a b (λ x y. Came language performs old n block ahead (device_output x []) mid m next left (device_output y waits))) → Takes writes b c waits
      → OnOk r (Calling writes a c (λ x y. Came language performs old n block ahead (device_output x []) mid m next left (device_output y [])))
  serve_came a b c (Err fault) old mid n m block next ahead left waits d w = tt
  serve_came a b c (Ok done) old mid n m block next ahead left waits d w =
      calling_then writes a b c (CameIs old n block ahead [] mid m next left waits) (λ x y. Takes logs x y waits) (CameIs old n block ahead [] mid m next left []) d (calling_takes writes b c waits w)
      (λ x y z h k. came_flushed language performs old mid n m block next ahead left (device_output x []) y z waits h k)

  pub serve_stopped : (a b c : W) (r : Result (Unit {0}) RunFault) (old : S) (n : ℕ) (block : Place H) (ahead waits : List ℕ)
      → IfErr r (λ fault. Calling writes a b (λ x y. Stopped language performs old n block ahead fault (device_output x []) (device_output y waits))) → is_write r ≡ false → Takes writes b c waits
      → IfErr r (λ fault. Calling writes a c (λ x y. Stopped language performs old n block ahead fault (device_output x []) (device_output y [])))
  serve_stopped a b c (Ok done) old n block ahead waits s e w = tt
  serve_stopped a b c (Err fault) old n block ahead waits s e w =
      calling_then writes a b c (StoppedIs old n block ahead fault [] waits) (λ x y. Takes logs x y waits) (StoppedIs old n block ahead fault [] []) s (calling_takes writes b c waits w)
      (λ x y z h k. stopped_flushed language performs old n block ahead fault (device_output x []) y z waits (unwritten fault e) h k)

  -- ---- the end
  abbrev ClosesIs : S → ℕ → Place H → List ℕ → Ending → Result Summary RunFault → List ℕ → List ℕ → Type 0
  ClosesIs old n block part ending r x y = Closes language performs old ending n block (lines_met ending part) r (device_output x []) (device_output y [])

  pub finish_none : (a : W) (old : S) (n : ℕ) (block : Place H) (part : List ℕ) (ending : Ending) (r : Result Summary RunFault) → IsUnbroken part → last_met ending part ≡ []
      → MatchOption (fault_at_ending ending block) (IsOkAnd r (λ s. s.lines ≡ n)) (λ f. r ≡ Err f)
      → Calling writes a a (λ x y. Closes language performs old ending n block (lines_met ending part) r (device_output x []) (device_output y []))
  finish_none a old n block part ending r u e h =
      calling_none writes a (ClosesIs old n block part ending r) (λ x. finished language performs old n block part ending (device_output x []) r u e h)

  pub finish_line : (a b : W) (old new : S) (n m : ℕ) (block next : Place H) (part line : List ℕ) (ending : Ending) (r : Result Summary RunFault) → IsUnbroken part → last_met ending part ≡ line ∷ []
      → Calling writes a b (λ x y. TakesLine performs (n + 1) (step_from language (n + 1) block line) old (device_output x []) (Ok tt) new (device_output y []) next) → m ≡ n + 1
      → MatchOption (fault_at_ending ending next) (IsOkAnd r (λ s. s.lines ≡ m)) (λ f. r ≡ Err f)
      → Calling writes a b (λ x y. Closes language performs old ending n block (lines_met ending part) r (device_output x []) (device_output y []))
  finish_line a b old new n m block next part line ending r u e t k h =
      calling_so writes a b (LineIs n block line old [] (Ok tt) new [] next) (ClosesIs old n block part ending r) t
      (λ x y q. finished_line language performs old new n m block next part line ending (device_output x []) (device_output y []) r u e q k h)

  pub finish_badly : (a b : W) (old new : S) (n : ℕ) (block next : Place H) (part line : List ℕ) (ending : Ending) (fault : RunFault) → IsUnbroken part → last_met ending part ≡ line ∷ []
      → Calling writes a b (λ x y. TakesLine performs (n + 1) (step_from language (n + 1) block line) old (device_output x []) (Err fault) new (device_output y []) next)
      → Calling writes a b (λ x y. Closes language performs old ending n block (lines_met ending part) (Err fault) (device_output x []) (device_output y []))
  finish_badly a b old new n block next part line ending fault u e t =
      calling_so writes a b (LineIs n block line old [] (Err fault) new [] next) (ClosesIs old n block part ending (Err fault)) t
      (λ x y q. finished_badly language performs old new n block next part line ending (device_output x []) (device_output y []) fault u e q)

  -- the lines of a last piece, and the end
  pub serve_finish : (a b c : W) (old mid : S) (n m : ℕ) (block next : Place H) (ahead last : List ℕ) (ending : Ending) (r : Result Summary RunFault)
      → Calling writes a b (λ x y. Came language performs old n block ahead (device_output x []) mid m next last (device_output y []))
      → Calling writes b c (λ x y. Closes language performs mid ending m next (lines_met ending last) r (device_output x []) (device_output y []))
      → Calling writes a c (λ x z. (y : List ℕ) × Came language performs old n block ahead (device_output x []) mid m next last (device_output y [])
      × Closes language performs mid ending m next (lines_met ending last) r (device_output y []) (device_output z []))
  serve_finish a b c old mid n m block next ahead last ending r p q =
      calling_then writes a b c (CameIs old n block ahead [] mid m next last []) (ClosesIs mid m next last ending r)
      (λ x z. (y : List ℕ) × Came language performs old n block ahead (device_output x []) mid m next last (device_output y [])
      × Closes language performs mid ending m next (lines_met ending last) r (device_output y []) (device_output z [])) p q (λ x y z h k. (y, h, k))
