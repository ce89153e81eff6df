-- Why no more was read, by the calls.
use Rattle.std.proofs.Common.{◌≡◌, ℕ, ◌<◌, ◌≤◌, ◌⊎◌, inl, inr, Bool, true, false, List, [], ◌∷◌, ◌++◌, length, take, None, Some, Option, Err, nat_lt, refl, sym, ap, ◌∙◌, subst, append-nil, arith}
use Rattle.std.specs.Option.{option_or}
use Rattle.std.proofs.lemmas.List.{take_all}
use borrow.Author.Tests.{ltb-true, ltb-false}
use Rattle.cx_script_actions.specs.Language.{Language}
use Rattle.cx_script_io.specs.Calls.{DeviceCall, Reading, Writing, given, last_read, taken}
use Rattle.cx_script_io.specs.Facts.Calls.{given_append}
use Rattle.cx_script_io.specs.Input.{IsEnding, IsReadOf, most_bytes}
use Rattle.cx_script_io.specs.declared.input.Ending.{Ending}
use Rattle.cx_script_io.specs.declared.input.Ending.TheVariants.{AtEnd, Failed, PastBound}
use Rattle.cx_script_blocks.specs.declared.faults.RunFault.TheVariants.{Read}
use Rattle.cx_script.specs.Transcript.{EndsScript}
use Rattle.cx_script.specs.Parts.Progress.{InTime}

-- whether the reads say why no more was read
abbrev pub Endings : List DeviceCall → Type 0
Endings calls = ((why : Ending) × IsEnding calls why) ⊎ ((why : Ending) → IsEnding calls why → ⊥)

unsaid : (calls : List DeviceCall) (last : Option (Option (List ℕ))) → last_read calls ≡ last → (last ≡ Some None → ⊥) → (last ≡ Some (Some []) → ⊥) → length (given calls) ≤ most_bytes
    → (why : Ending) → IsEnding calls why → ⊥
unsaid calls last l failed ended few AtEnd h = ended (sym l ∙ h)
unsaid calls last l failed ended few Failed h = failed (sym l ∙ h)
unsaid calls last l failed ended few PastBound h = omega (arith, h, few)

by_last : (calls : List DeviceCall) (last : Option (Option (List ℕ))) → last_read calls ≡ last → length (given calls) ≤ most_bytes → Endings calls
by_last calls (Some None) l few = inl (Failed, l)
by_last calls (Some (Some [])) l few = inl (AtEnd, l)
by_last calls None l few = inr (unsaid calls None l (λ e. cc) (λ e. cc) few)
by_last calls (Some (Some (x ∷ xs))) l few = inr (unsaid calls (Some (Some (x ∷ xs))) l (λ e. cc) (λ e. cc) few)

by_length : (calls : List DeviceCall) (long : Bool) → nat_lt most_bytes (length (given calls)) ≡ long → Endings calls
by_length calls true b = inl (PastBound, ltb-true most_bytes (length (given calls)) b)
by_length calls false b = by_last calls (last_read calls) refl (ltb-false most_bytes (length (given calls)) b)

pub ending_of : (calls : List DeviceCall) → Endings calls
ending_of calls = by_length calls (nat_lt most_bytes (length (given calls))) refl

-- ---- the last read, among the calls
record LastRead (calls : List DeviceCall) (bytes : Option (List ℕ)) : Type 0 where
  before : List DeviceCall
  after : List DeviceCall
  at : calls ≡ before ++ Reading bytes ∷ after
  rest : given after ≡ []

some_read : (o : Option (Option (List ℕ))) (m : Option (List ℕ)) → option_or o (Some m) ≡ None → ⊥
some_read None m e = cc
some_read (Some x) m e = cc

none_given : (calls : List DeviceCall) → last_read calls ≡ None → given calls ≡ []
none_given [] e = refl
none_given (Reading bytes ∷ calls) e = absurd (some_read (last_read calls) bytes e)
none_given (Writing bytes ∷ calls) e = none_given calls e

read_here : (calls : List DeviceCall) (m bytes : Option (List ℕ)) → m ≡ bytes → last_read calls ≡ None → LastRead (Reading m ∷ calls) bytes
read_here calls m bytes same l = record { before = []; after = calls; at = ap (λ b. Reading b ∷ calls) same; rest = none_given calls l }

read_behind : (first : DeviceCall) (calls : List DeviceCall) (bytes : Option (List ℕ)) → LastRead calls bytes → LastRead (first ∷ calls) bytes
read_behind first calls bytes r = record { before = first ∷ r.before; after = r.after; at = ap (λ (c : List DeviceCall). first ∷ c) r.at; rest = r.rest }

last_by : (calls : List DeviceCall) (m bytes : Option (List ℕ)) (o : Option (Option (List ℕ))) → last_read calls ≡ o → (last_read calls ≡ Some bytes → LastRead calls bytes) → option_or o (Some m) ≡ Some bytes
    → LastRead (Reading m ∷ calls) bytes
last_by calls m bytes (Some x) l more h = read_behind (Reading m) calls bytes (more (l ∙ h))
last_by calls m bytes None l more h = let same : m ≡ bytes = cc in read_here calls m bytes same l

last_of : (calls : List DeviceCall) (bytes : Option (List ℕ)) → last_read calls ≡ Some bytes → LastRead calls bytes
last_of [] bytes e = cc
last_of (Writing m ∷ calls) bytes e = read_behind (Writing m) calls bytes (last_of calls bytes e)
last_of (Reading m ∷ calls) bytes e = last_by calls m bytes (last_read calls) refl (last_of calls bytes) e

-- whether it is that more was given than a script may have
abbrev pub is_past : Ending → Bool
is_past PastBound = true
is_past _ = false

module _ {A H S : Type 0} (language : Language A H) (performs : S → A → List ℕ → S → Type 0) (start : S) (calls : List DeviceCall) (t : InTime language performs start calls) where
  -- a read that gave none, or failed, added nothing
  within : (bytes : Option (List ℕ)) (l : LastRead calls bytes) (b : Bool) → nat_lt most_bytes (length (given calls)) ≡ b → given calls ≡ given l.before → length (given calls) ≤ most_bytes
  within bytes l false b same = ltb-false most_bytes (length (given calls)) b
  within bytes l true b same =
      let long : most_bytes < length (given l.before) = subst (λ (x : List ℕ). most_bytes < length x) same (ltb-true most_bytes (length (given calls)) b) in
      absurd ((t l.before l.after bytes l.at).0 PastBound long)

  nothing_more : (bytes : Option (List ℕ)) (l : LastRead calls bytes) → given (Reading bytes ∷ l.after) ≡ [] → length (given calls) ≤ most_bytes
  nothing_more bytes l none =
      let same : given calls ≡ given l.before = ap given l.at ∙ given_append l.before (Reading bytes ∷ l.after) ∙ ap (λ r. given l.before ++ r) none ∙ append-nil (given l.before) in
      within bytes l (nat_lt most_bytes (length (given calls))) refl same

  pub ended_within : (why : Ending) → IsEnding calls why → is_past why ≡ false → length (given calls) ≤ most_bytes
  ended_within AtEnd h p = let l = last_of calls (Some []) h in nothing_more (Some []) l l.rest
  ended_within Failed h p = let l = last_of calls None h in nothing_more None l l.rest
  ended_within PastBound h p = cc

  one_ending : (why other : Ending) → IsEnding calls why → IsEnding calls other → why ≡ other
  one_ending AtEnd AtEnd h k = refl
  one_ending Failed Failed h k = refl
  one_ending PastBound PastBound h k = refl
  one_ending AtEnd Failed h k = let same = sym h ∙ k in cc
  one_ending Failed AtEnd h k = let same = sym h ∙ k in cc
  one_ending AtEnd PastBound h k = let few = ended_within AtEnd h refl in absurd (omega (arith, few, k))
  one_ending Failed PastBound h k = let few = ended_within Failed h refl in absurd (omega (arith, few, k))
  one_ending PastBound AtEnd h k = let few = ended_within AtEnd k refl in absurd (omega (arith, few, h))
  one_ending PastBound Failed h k = let few = ended_within Failed k refl in absurd (omega (arith, few, h))

  -- ---- the script that the calls read
  pub read_ended : (why : Ending) → IsEnding calls why → IsReadOf calls why (take most_bytes (given calls))
  read_ended why h = record { rest = []; whole = sym (append-nil (take most_bytes (given calls))); ended = λ other k. (one_ending why other h k, refl) }

  pub read_whole : (why : Ending) → IsEnding calls why → is_past why ≡ false → IsReadOf calls why (given calls)
  read_whole why h p = subst (IsReadOf calls why) (take_all most_bytes (given calls) (ended_within why h p)) (read_ended why h)

  -- a read failed after all that was given
  pub failed_front : IsEnding calls Failed → (front : List DeviceCall) × (given calls ≡ given front) × EndsScript language performs start Failed (given front) (Err Read) (taken front)
  failed_front h =
      let l = last_of calls None h in
      let same : given calls ≡ given l.before = ap given l.at ∙ given_append l.before (Reading None ∷ l.after) ∙ ap (λ r. given l.before ++ r) l.rest ∙ append-nil (given l.before) in
      (l.before, same, (t l.before l.after None l.at).1)

-- where they don't say why no more was read
pub read_open : (calls : List DeviceCall) → ((why : Ending) → IsEnding calls why → ⊥) → (ending : Ending) → IsReadOf calls ending (take most_bytes (given calls))
read_open calls none ending = record { rest = []; whole = sym (append-nil (take most_bytes (given calls))); ended = λ why h. absurd (none why h) }
