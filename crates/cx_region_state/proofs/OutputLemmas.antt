-- The outputs written in turn.
use Rattle.std.proofs.Common.{◌≡◌, ℕ, zero, suc, ◌+◌, ◌≤◌, List, [], ◌∷◌, length, drop, refl, arith, slice_get, Some}
use Rattle.cx_storage.specs.Storage.{Storage}
use Rattle.cx_region_state.specs.Call.{Call, place_of}
use Rattle.cx_region_state.specs.Outputs.{bytes_from, put_out, with_output}
use Rattle.cx_region_state.specs.declared.outputs.Output.{Output}

put_suc : (s : Storage) (call : Call) (text : List ℕ) (outputs : List Output) (k : ℕ) (output : Output) → slice_get outputs k ≡ Some output
    → put_out (with_output s (place_of call output.option) (bytes_from text output.source)) call text (drop (suc k) outputs) ≡ put_out s call text (drop k outputs)
unfolding put_out
put_suc s call text [] k output e = cc
put_suc s call text (first ∷ rest) zero output e = let same : first ≡ output = cc in rw (← same) refl
put_suc s call text (first ∷ rest) (suc k) output e = put_suc s call text rest k output e

-- one more output written
pub put_step : (s : Storage) (call : Call) (text : List ℕ) (outputs : List Output) (k : ℕ) (output : Output) → slice_get outputs k ≡ Some output
    → put_out (with_output s (place_of call output.option) (bytes_from text output.source)) call text (drop (k + 1) outputs) ≡ put_out s call text (drop k outputs)
put_step s call text outputs k output e = let one : k + 1 ≡ suc k = omega arith in rw (one) (put_suc s call text outputs k output e)

-- all outputs written
pub put_end : (s : Storage) (call : Call) (text : List ℕ) (outputs : List Output) (k : ℕ) → length outputs ≤ k → put_out s call text (drop k outputs) ≡ s
unfolding put_out
put_end s call text [] zero l = refl
put_end s call text [] (suc k) l = refl
put_end s call text (first ∷ rest) zero l = absurd (omega arith)
put_end s call text (first ∷ rest) (suc k) l = put_end s call text rest k (omega arith)
