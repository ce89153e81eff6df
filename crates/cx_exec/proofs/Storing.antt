-- What a write that fails leaves.
use Rattle.std.proofs.Common.{◌≡◌, ℕ, false, List, length, is_some, refl, subst}
use Rattle.cx_storage.specs.Storage.{Storage, span, after_write}
use Rattle.cx_exec.specs.declared.machine.Updated.{Updated}
use Rattle.cx_exec.specs.Machine.{Machine}
use Rattle.cx_exec.specs.Outcome.{Outcome}
use Rattle.cx_exec.specs.Operands.{Stores}
use Rattle.cx_exec.specs.Masks.{StcmEffect}
use Rattle.cx_exec.specs.Strings.{MvcEffect}

-- where a byte is absent, a write changes nothing
pub not_written : (s : Storage) (a : ℕ) (bytes : List ℕ) → is_some (span s a (length bytes)) ≡ false → after_write s a bytes ≡ s
unfolding after_write
not_written s a bytes absent = rw absent refl

-- bytes that are stored on a machine which nothing has changed
pub stored_as_before : (before m after : Machine) (a : ℕ) (bytes : List ℕ) (updated : Updated) (outcome : Outcome) → m ≡ before
    → Stores a bytes m.cc updated m outcome after → Stores a bytes before.cc updated before outcome after
stored_as_before before m after a bytes updated outcome same stores =
    subst (λ (x : Machine). Stores a bytes x.cc updated x outcome after) same stores

pub moved_as_before : (before m after : Machine) (n a1 a2 : ℕ) (updated : Updated) (outcome : Outcome) → m ≡ before
    → MvcEffect n a1 a2 updated m outcome after → MvcEffect n a1 a2 updated before outcome after
moved_as_before before m after n a1 a2 updated outcome same moves =
    subst (λ (x : Machine). MvcEffect n a1 a2 updated x outcome after) same moves

pub coded_as_before : (before m after : Machine) (a cc : ℕ) (bytes : List ℕ) (updated : Updated) (outcome : Outcome) → m ≡ before
    → Stores a bytes cc updated m outcome after → Stores a bytes cc updated before outcome after
coded_as_before before m after a cc bytes updated outcome same stores =
    subst (λ (x : Machine). Stores a bytes cc updated x outcome after) same stores

pub masked_as_before : (before m after : Machine) (r1 mask a : ℕ) (updated : Updated) (outcome : Outcome) → m ≡ before
    → StcmEffect r1 mask a updated m outcome after → StcmEffect r1 mask a updated before outcome after
masked_as_before before m after r1 mask a updated outcome same stores =
    subst (λ (x : Machine). StcmEffect r1 mask a updated x outcome after) same stores
