-- The entries that a program asks for in turn.
use Rattle.std.proofs.Common.{◌≡◌, ℕ, zero, suc, ◌+◌, ◌≤◌, List, [], ◌∷◌, length, drop, refl, arith, slice_get, Some}
use Rattle.std.specs.Option.{option_map_or}
use Rattle.cx_program.specs.declared.entries.Handler.TheVariants.{Ignored, Label, NoEntry}
use Rattle.cx_program.specs.Handles.{Handles, put_entry}
use Rattle.cx_region_state.specs.declared.listed.Listed.{Listed}
use Rattle.cx_region_task.specs.Changes.{with_ignored, with_labels}

labels_suc : (handles : Handles) (all : List Listed) (k : ℕ) (listed : Listed) → slice_get all k ≡ Some listed
    → with_labels (drop (suc k) all) (put_entry handles listed.condition (option_map_or Label listed.label NoEntry)) ≡ with_labels (drop k all) handles
unfolding with_labels
labels_suc handles [] k listed e = cc
labels_suc handles (first ∷ rest) zero listed e = let same : first ≡ listed = cc in rw (← same) refl
labels_suc handles (first ∷ rest) (suc k) listed e = labels_suc handles rest k listed e

pub labels_step : (handles after : Handles) (all : List Listed) (k : ℕ) (listed : Listed) → slice_get all k ≡ Some listed
    → after ≡ put_entry handles listed.condition (option_map_or Label listed.label NoEntry) → with_labels (drop (k + 1) all) after ≡ with_labels (drop k all) handles
labels_step handles after all k listed e is = let one : k + 1 ≡ suc k = omega arith in rw (one, is) (labels_suc handles all k listed e)

pub labels_end : (handles : Handles) (all : List Listed) (k : ℕ) → length all ≤ k → with_labels (drop k all) handles ≡ handles
unfolding with_labels
labels_end handles [] zero l = refl
labels_end handles [] (suc k) l = refl
labels_end handles (first ∷ rest) zero l = absurd (omega arith)
labels_end handles (first ∷ rest) (suc k) l = labels_end handles rest k (omega arith)

ignored_suc : (handles : Handles) (all : List Listed) (k : ℕ) (listed : Listed) → slice_get all k ≡ Some listed
    → with_ignored (drop (suc k) all) (put_entry handles listed.condition Ignored) ≡ with_ignored (drop k all) handles
unfolding with_ignored
ignored_suc handles [] k listed e = cc
ignored_suc handles (first ∷ rest) zero listed e = let same : first ≡ listed = cc in rw (← same) refl
ignored_suc handles (first ∷ rest) (suc k) listed e = ignored_suc handles rest k listed e

pub ignored_step : (handles after : Handles) (all : List Listed) (k : ℕ) (listed : Listed) → slice_get all k ≡ Some listed
    → after ≡ put_entry handles listed.condition Ignored → with_ignored (drop (k + 1) all) after ≡ with_ignored (drop k all) handles
ignored_step handles after all k listed e is = let one : k + 1 ≡ suc k = omega arith in rw (one, is) (ignored_suc handles all k listed e)

pub ignored_end : (handles : Handles) (all : List Listed) (k : ℕ) → length all ≤ k → with_ignored (drop k all) handles ≡ handles
unfolding with_ignored
ignored_end handles [] zero l = refl
ignored_end handles [] (suc k) l = refl
ignored_end handles (first ∷ rest) zero l = absurd (omega arith)
ignored_end handles (first ∷ rest) (suc k) l = ignored_end handles rest k (omega arith)
