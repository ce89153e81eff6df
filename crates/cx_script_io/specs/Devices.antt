-- What becomes of a device (this product's own, as all of scripts and transcripts).
use Rattle.std.specs.Prelude.{◌≡◌, ℕ, Bool, ◌++◌, true, ◌&&◌, ◌==◌, nat_lt, List, [], length, map, take, Result, Ok, Err, Option, Some, None}
use Rattle.std.specs.List.{FoldsTo}
use Rattle.std.specs.Io.KnownBytes.{Appends, Consumes, IsAtEnd, Keeps}
use Rattle.cx_script_io.specs.Calls.{Writing, taken}

-- what a read did to the bytes that a reader has, where these are known: a read that gives none is at their end
abbrev pub ReadsKnown : Option (List ℕ) → Option (List ℕ) → Option (List ℕ) → Type 0
ReadsKnown before (Some bytes) after = Consumes before after bytes × (bytes ≡ [] → IsAtEnd after)
ReadsKnown before None after = Keeps before after

-- what a write did to the bytes that a writer holds, where these are known
abbrev pub WritesKnown : Option (List ℕ) → Option (List ℕ) → Option (List ℕ) → Type 0
WritesKnown before (Some bytes) after = Appends before after bytes
WritesKnown before None after = Keeps before after

-- a write that failed, or took no byte of some
abbrev pub is_refused : {E : Type 0} → Result ℕ E → List ℕ → Bool
is_refused (Ok n) bytes = n == 0 && nat_lt 0 (length bytes)
is_refused (Err fault) bytes = true

-- some writes, one after another, took these bytes
pub record Takes {W : Type 0} (writes : W → Option (List ℕ) → W → Type 0) (before after : W) (bytes : List ℕ)
    : Type 0 where
  pub calls : List (Option (List ℕ))
  pub made : FoldsTo writes before calls after
  pub whole : taken (map Writing calls) ≡ bytes

-- they took some of these from the front
unfoldable pub TakesFront : {W : Type 0} → (W → Option (List ℕ) → W → Type 0) → W → W → List ℕ → Type 0
TakesFront writes before after bytes = (n : ℕ) × Takes writes before after (take n bytes)

-- ---- texts that wait to be written in one
-- a writer, and what waits
pub record DeviceOutput (W : Type 0) : Type 0 where
  pub writer : W
  pub waits : List ℕ

abbrev pub device_output : {W : Type 0} → W → List ℕ → DeviceOutput W
device_output writer waits = record { writer = writer; waits = waits }

-- a text was written or waits, after what was written and waited before
pub record Sends {W : Type 0} (writes : W → Option (List ℕ) → W → Type 0) (before after : DeviceOutput W)
    (text : List ℕ) : Type 0 where
  pub sent : List ℕ
  pub written : Takes writes before.writer after.writer sent
  pub whole : before.waits ++ text ≡ sent ++ after.waits

-- a front of what waited and the text was written
abbrev pub SentFront : {W : Type 0} → (W → Option (List ℕ) → W → Type 0) → DeviceOutput W → DeviceOutput W → List ℕ
    → Type 0
SentFront writes before after text = TakesFront writes before.writer after.writer (before.waits ++ text)
