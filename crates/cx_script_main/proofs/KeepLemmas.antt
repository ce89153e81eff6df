-- A run over devices of which what was read is kept is one over the devices, and what is kept is what the reads gave.
use Rattle.std.proofs.Common.{◌≡◌, ℕ, Bool, true, false, List, [], ◌∷◌, ◌++◌, Option, None, Some, Result, Ok, Err, refl, sym, ap, ◌∙◌, subst, append-nil, append_assoc}
use Rattle.std.specs.Prelude.{IfOk, IfSome, OnErr, if◌then◌else◌}
use Rattle.std.specs.declared.alloc.AllocError.{AllocError}
use Rattle.std.specs.List.{FoldsTo}
use Rattle.std.specs.Option.{option_map}
use Rattle.cx_script.specs.Language.{Language}
use Rattle.cx_script.specs.Session.{RanIn}
use Rattle.cx_script_io.specs.Calls.{DeviceCall, Reading, Writing, did, given}
use Rattle.cx_script_blocks.specs.declared.faults.RunFault.{RunFault}
use Rattle.cx_script_blocks.specs.declared.faults.RunFault.TheVariants as fault
use Rattle.cx_script_blocks.specs.declared.faults.Summary.{Summary}
use Rattle.cx_script_main.specs.Parts.Keeping.{KeepsRead, LeavesKept}
use Rattle.cx_script_main.specs.Program.{RanFrom}
use Rattle.cx_script_main.specs.declared.keeping.Keeping.{Keeping}

-- what is kept after more bytes, if anything is
abbrev Kept : Option (List ℕ) → List ℕ → Option (List ℕ) → Type 0
Kept before bytes after = IfSome after (λ all. option_map (λ kept. kept ++ bytes) before ≡ Some all)

kept_nil : (o : Option (List ℕ)) → Kept o [] o
kept_nil None = tt
kept_nil (Some kept) = ap Some (append-nil kept)

kept_step : (before mid after : Option (List ℕ)) (bytes more : List ℕ) → Kept before bytes mid → Kept mid more after → Kept before (bytes ++ more) after
kept_step before mid None bytes more h k = tt
kept_step before None (Some all) bytes more h k = cc
kept_step None (Some part) (Some all) bytes more h k = cc
kept_step (Some kept) (Some part) (Some all) bytes more h k =
    let e : kept ++ bytes ≡ part = cc in ap Some (sym (append_assoc kept bytes more)) ∙ ap (λ l. Some (l ++ more)) e ∙ k

kept_same : (before mid after : Option (List ℕ)) (bytes : List ℕ) → mid ≡ before → Kept mid bytes after → Kept before bytes after
kept_same before mid after bytes e h = subst (λ o. Kept o bytes after) e h

module _ {D : Type 0} (reads writes : D → Option (List ℕ) → D → Type 0) where
  abbrev Folds : Keeping D → List DeviceCall → Keeping D → Type 0
  Folds before calls after = FoldsTo (did (KeepsRead reads) (LeavesKept writes)) before calls after

  inner : (before : Keeping D) (calls : List DeviceCall) (after : Keeping D) → Folds before calls after
      → FoldsTo (did reads writes) before.devices calls after.devices
  inner before [] after f = ap (λ (it : Keeping D). it.devices) f
  inner before (Reading bytes ∷ calls) after f = (f.0.devices, f.1.0, inner f.0 calls after f.2)
  inner before (Writing bytes ∷ calls) after f = (f.0.devices, f.1.0, inner f.0 calls after f.2)

  kept_all : (before : Keeping D) (calls : List DeviceCall) (after : Keeping D) → Folds before calls after → Kept before.kept (given calls) after.kept
  kept_all before [] after f = subst (λ (it : Keeping D). Kept before.kept [] it.kept) f (kept_nil before.kept)
  kept_all before (Reading None ∷ calls) after f =
      kept_step before.kept f.0.kept after.kept [] (given calls) f.1.1 (kept_all f.0 calls after f.2)
  kept_all before (Reading (Some bytes) ∷ calls) after f =
      kept_step before.kept f.0.kept after.kept bytes (given calls) f.1.1 (kept_all f.0 calls after f.2)
  kept_all before (Writing bytes ∷ calls) after f =
      kept_same before.kept f.0.kept after.kept (given calls) f.1.1 (kept_all f.0 calls after f.2)

  -- nothing was kept at first, or nothing is
  from_nothing : (keeps : Bool) (bytes : List ℕ) (before after : Option (List ℕ)) → before ≡ (if keeps then Some [] else None) → Kept before bytes after
      → IfSome after (λ all. all ≡ bytes)
  from_nothing keeps bytes before None e h = tt
  from_nothing true bytes before (Some all) e h = let k = rw e at h in cc
  from_nothing false bytes before (Some all) e h = let k = rw e at h in cc

  none_kept : (bytes : List ℕ) (before after : Option (List ℕ)) → before ≡ None → Kept before bytes after → after ≡ None
  none_kept bytes before None e h = refl
  none_kept bytes before (Some all) e h = let k = rw e at h in cc

  ran_kept : {A B S : Type 0} (language : Language A B) (performs : S → A → List ℕ → S → Type 0) (start : S) (keeps : Bool)
      (before after : Keeping D) (answer : Result Summary RunFault) → before.kept ≡ (if keeps then Some [] else None)
      → RanIn language performs start (KeepsRead reads) (LeavesKept writes) before answer after
      → RanFrom language performs start reads writes before.devices (record { answer = answer; read = after.kept })
  ran_kept language performs start keeps before after answer e h =
      record {
        after = after.devices;
        ran = record { calls = h.calls; made = inner before h.calls after h.made; session = h.session };
        kept = from_nothing keeps (given h.calls) before.kept after.kept e (kept_all before h.calls after h.made);
      }

  -- a run on a performer that was to be made
  pub runs_kept : {A B S : Type 0} (language : Language A B) (performs : S → A → List ℕ → S → Type 0) (performer : Result S AllocError) (keeps : Bool)
      (devices : D) (before after : Keeping D) (answer : Result Summary RunFault) (read : Option (List ℕ)) → before.devices ≡ devices
      → before.kept ≡ (if keeps then Some [] else None) → read ≡ after.kept
      → IfOk performer (λ start. RanIn language performs start (KeepsRead reads) (LeavesKept writes) before answer after)
      → IfOk performer (λ start. RanFrom language performs start reads writes devices (record { answer = answer; read = read }))
  runs_kept language performs (Ok start) keeps devices before after answer read e k r h =
      subst (λ (d : D). RanFrom language performs start reads writes d (record { answer = answer; read = read })) e
      (subst (λ (o : Option (List ℕ)). RanFrom language performs start reads writes before.devices (record { answer = answer; read = o })) (sym r)
      (ran_kept language performs start keeps before after answer k h))
  runs_kept language performs (Err why) keeps devices before after answer read e k r h = tt

  pub runs_unkept : {A B S : Type 0} (language : Language A B) (performs : S → A → List ℕ → S → Type 0) (performer : Result S AllocError) (keeps : Bool)
      (before after : Keeping D) (answer : Result Summary RunFault) (read : Option (List ℕ)) → before.kept ≡ (if keeps then Some [] else None)
      → read ≡ after.kept → IfOk performer (λ start. RanIn language performs start (KeepsRead reads) (LeavesKept writes) before answer after)
      → OnErr performer ((answer ≡ Err fault.Memory) × (after ≡ before)) → keeps ≡ false → read ≡ None
  runs_unkept language performs (Ok start) keeps before after answer read k r h u off =
      let none : before.kept ≡ None = rw off at k in r ∙ none_kept (given h.calls) before.kept after.kept none (kept_all before h.calls after h.made)
  runs_unkept language performs (Err why) keeps before after answer read k r h u off =
      let none : before.kept ≡ None = rw off at k in r ∙ ap (λ (it : Keeping D). it.kept) u.1 ∙ none
