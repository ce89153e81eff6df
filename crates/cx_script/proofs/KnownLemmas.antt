-- Bytes that a reader has, and what was read of them.
use Rattle.std.proofs.Common.{◌≡◌, ℕ, ◌+◌, ◌-◌, ◌<◌, ◌≤◌, Bool, true, false, cond, nat_lt, List, [], ◌++◌, length, take, None, Some, Option, Result, refl, sym, ap, ◌∙◌, append-nil, length-append, arith}
use borrow.Author.Tests.{ltb-true, ltb-false, lt-ltb}
use Rattle.std.specs.Io.KnownBytes.{Consumes, IsAtEnd}
use Rattle.std.proofs.lemmas.Bool.{le-ltb}
use Rattle.std.proofs.lemmas.List.{take_all, take-append-le}
use Rattle.std.proofs.Math.Seq.{take-append-add, take-nil}
use Rattle.cx_script_actions.specs.Language.{Language}
use Rattle.cx_script_io.specs.Calls.{DeviceCall, given, last_read}
use Rattle.cx_script_io.specs.Input.{IsEnding, IsReadOf, most_bytes}
use Rattle.cx_script_io.specs.Laws.Known.{CallsMoveKnown}
use Rattle.cx_script_io.specs.declared.input.Ending.{Ending}
use Rattle.cx_script_io.specs.declared.input.Ending.TheVariants.{AtEnd, Failed, PastBound}
use Rattle.cx_script_blocks.specs.declared.faults.RunFault.{RunFault}
use Rattle.cx_script_blocks.specs.declared.faults.Summary.{Summary}
use Rattle.cx_script.specs.Session.{IsScriptSession, IsSession}
use Rattle.cx_script.specs.Laws.Inputs.{InputsDecide}
use Rattle.cx_script.specs.Laws.KnownBytes.{AreCallsOver, KnownBytesAreRead, KnownBytesDecide, ending_of}
use Rattle.cx_script.proofs.EndingLemmas.{ended_within}
use Rattle.cx_script.proofs.InputLemmas.{unfailed}
use Rattle.cx_edf.specs.Steps.{DisplayMaker}

-- ---- known bytes of which some were read
left_known : (a b : Option (List ℕ)) (first bytes : List ℕ) → a ≡ Some bytes → Consumes a b first → (rest : List ℕ) × (b ≡ Some rest) × (bytes ≡ first ++ rest)
left_known None b first bytes e h = cc
left_known (Some xs) None first bytes e h = absurd h
left_known (Some xs) (Some ys) first bytes e h = let same : xs ≡ bytes = cc in (ys, refl, sym same ∙ h)

none_left : (b : Option (List ℕ)) (rest : List ℕ) → b ≡ Some rest → IsAtEnd b → rest ≡ []
none_left None rest e h = cc
none_left (Some ys) rest e h = let same : ys ≡ rest = cc in sym same ∙ h

by_length : (bytes : List ℕ) (long : Bool) → nat_lt most_bytes (length bytes) ≡ long → ending_of bytes ≡ cond long PastBound AtEnd
by_length bytes long e = ap (λ (b : Bool). cond b PastBound AtEnd) e

nothing : (k : ℕ) (rest : List ℕ) → rest ≡ [] → take k rest ≡ []
nothing k rest none = ap (take k) none ∙ take-nil k

-- ---- the script of these bytes
module _ {A H S : Type 0} (language : Language A H) (performs : S → A → List ℕ → S → Type 0) (start : S) (calls : List DeviceCall) (answer : Result Summary RunFault)
    (s : IsSession language performs start calls answer) (bytes rest : List ℕ) (split : bytes ≡ given calls ++ rest)
    (ended : last_read calls ≡ Some (Some []) → rest ≡ []) (whole : IsEnding calls Failed → ⊥) where
  sum : length bytes ≡ length (given calls) + length rest
  sum = ap length split ∙ length-append (given calls) rest

  -- at most as many were given as a script may have
  few_due : length (given calls) ≤ most_bytes → (why : Ending) → IsEnding calls why → (ending_of bytes ≡ why) × (take (most_bytes - length (given calls)) rest ≡ [])
  few_due few AtEnd h =
      let none = ended h in
      let zero_left : length rest ≡ 0 = ap length none in
      (by_length bytes false (le-ltb most_bytes (length bytes) (omega (arith, sum, zero_left, few))), nothing (most_bytes - length (given calls)) rest none)
  few_due few Failed h = absurd (whole h)
  few_due few PastBound h = absurd (omega (arith, few, h))

  few_read : length (given calls) ≤ most_bytes → IsReadOf calls (ending_of bytes) (take most_bytes bytes)
  few_read few =
      let all : length (given calls) + (most_bytes - length (given calls)) ≡ most_bytes = omega (arith, few) in
      record {
        rest = take (most_bytes - length (given calls)) rest;
        whole = ap (take most_bytes) split ∙ ap (λ n. take n (given calls ++ rest)) (sym all) ∙ take-append-add (given calls) rest (most_bytes - length (given calls))
            ∙ ap (λ l. l ++ take (most_bytes - length (given calls)) rest) (sym (take_all most_bytes (given calls) few));
        ended = few_due few;
      }

  many_due : most_bytes < length (given calls) → (why : Ending) → IsEnding calls why → (ending_of bytes ≡ why) × ◌≡◌ {A = List ℕ} [] []
  many_due many AtEnd h = let few = ended_within language performs start calls s.in_time AtEnd h refl in absurd (omega (arith, few, many))
  many_due many Failed h = absurd (whole h)
  many_due many PastBound h = (by_length bytes true (lt-ltb most_bytes (length bytes) (omega (arith, sum, many))), refl)

  many_read : most_bytes < length (given calls) → IsReadOf calls (ending_of bytes) (take most_bytes bytes)
  many_read many =
      record {
        rest = [];
        whole = ap (take most_bytes) split ∙ take-append-le most_bytes (given calls) rest (omega (arith, many)) ∙ sym (append-nil (take most_bytes (given calls)));
        ended = many_due many;
      }

  read_by : (long : Bool) → nat_lt most_bytes (length (given calls)) ≡ long → IsReadOf calls (ending_of bytes) (take most_bytes bytes)
  read_by true e = many_read (ltb-true most_bytes (length (given calls)) e)
  read_by false e = few_read (ltb-false most_bytes (length (given calls)) e)

module _ {D : Type 0} (reads writes : D → Option (List ℕ) → D → Type 0) (left written : D → Option (List ℕ)) (moves : CallsMoveKnown reads writes left written) where
  pub known_bytes_are_read : {A H S : Type 0} (language : Language A H) (performs : S → A → List ℕ → S → Type 0) → KnownBytesAreRead language performs (AreCallsOver reads writes left)
  known_bytes_are_read language performs start calls answer bytes s over whole =
      let m = moves over.before over.after calls over.made in
      let l = left_known (left over.before) (left over.after) (given calls) bytes over.had m.read in
      read_by language performs start calls answer s bytes l.0 l.2 (λ e. none_left (left over.after) l.0 l.1 (m.ended e)) whole
      (nat_lt most_bytes (length (given calls))) refl

pub known_bytes_decide : (make : DisplayMaker) (AreOver AreOverToo : List ℕ → List DeviceCall → Type 0) → InputsDecide
    → ((calls : List DeviceCall) (answer : Result Summary RunFault) (bytes : List ℕ) → IsScriptSession make calls answer → AreOver bytes calls → (IsEnding calls Failed → ⊥) → IsReadOf calls (ending_of bytes) (take most_bytes bytes))
    → ((calls : List DeviceCall) (answer : Result Summary RunFault) (bytes : List ℕ) → IsScriptSession make calls answer → AreOverToo bytes calls → (IsEnding calls Failed → ⊥) → IsReadOf calls (ending_of bytes) (take most_bytes bytes))
    → KnownBytesDecide make AreOver AreOverToo
known_bytes_decide make AreOver AreOverToo decide first second calls others answer other bytes s t over over_too e f r q =
    decide make (ending_of bytes) (take most_bytes bytes) calls others answer other s t
    (first calls answer bytes s over (unfailed make calls answer s e r)) (second others other bytes t over_too (unfailed make others other t f q)) e f
