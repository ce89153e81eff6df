-- What is noted of an instruction, and of a run one instruction after another.
use Rattle.std.proofs.Common.{◌≡◌, ◌≢◌, ℕ, suc, ◌+◌, ◌-◌, ◌<◌, ◌≤◌, ◌++◌, false, List, [], ◌∷◌, Ok, Err, refl, sym, subst, ap, ◌∙◌, append_assoc, append-nil, arith}
use Rattle.std.specs.List.{AllByRecursion, fold}
use Rattle.std.proofs.lemmas.Grind.{fold-append}
use Rattle.cx_storage.specs.Storage.{Storage}
use Rattle.cx_code.specs.declared.table.Op.{Op}
use Rattle.cx_code.specs.Table.{length_of}
use Rattle.cx_code.specs.Spelling.{instruction}
use Rattle.cx_code.specs.Reading.{fields_at}
use Rattle.cx_exec.specs.declared.machine.Step.TheVariants.{Done, AtEntry, Interrupt}
use Rattle.cx_exec.specs.declared.machine.Interruption.{Interruption}
use Rattle.cx_exec.specs.declared.machine.Halt.TheVariants as halt
use Rattle.cx_exec.specs.Machine.{Machine}
use Rattle.cx_exec.specs.Rows.{Effect}
use Rattle.cx_exec.specs.Step.{entry, updated_by, is_execute, Runs, Steps}
use Rattle.cx_exec.specs.Advance.{Advances}
use Rattle.cx_exec.specs.Passages.{Passage, Passages, passage}
use Rattle.cx_exec.specs.Watches.{IsWatched, LeavesSound, after_passage}
use Rattle.cx_exec.specs.Parts.{IsNoted, IsPerformed, NotesAll, NotesOn}
use Rattle.cx_exec.proofs.RunLemmas.{interrupt_left, one_more, passes_start, row_runs, stands_at_entry}

-- as many steps are done, and noted, as fewer are left, and what is held is of the storage as it is
pub record IsSoFar {V : Type 0} (noted : Storage → ℕ → V → V) (is_of : Storage → V → Type 0) (steps left : ℕ) (first now : Machine) (old held : V) : Type 0 where
  pub within : left ≤ steps
  pub notes : NotesOn noted (steps - left) first now old held
  pub of : is_of now.storage held

-- ---- one instruction more
all_and_one : {X : Type 0} (P : X → Type 0) (xs : List X) (x : X) → AllByRecursion P xs → P x → AllByRecursion P (xs ++ x ∷ [])
all_and_one P [] x all one = (one, tt)
all_and_one P (y ∷ xs) x (first, all) one = (first, all_and_one P xs x all one)

fold_one : {V : Type 0} (noted : Storage → ℕ → V → V) (old held newer : V) (passages : List Passage) (p : Passage)
    → held ≡ fold (after_passage noted) old passages → newer ≡ after_passage noted held p → newer ≡ fold (after_passage noted) old (passages ++ p ∷ [])
fold_one {V} noted old held newer passages p so_far is =
    is ∙ ap (λ (l : V). after_passage noted l p) so_far ∙ sym (fold-append (after_passage noted) old passages (p ∷ []))

on_one : (n k : ℕ) (first now after : Machine) (passages more : List Passage)
    → ((j : ℕ) (some : List Passage) → Passages j now some → Passages (n + j) first (passages ++ some)) → Steps now Done after → Passages k after more
    → Passages (n + suc k) first ((passages ++ passage now Done after ∷ []) ++ more)
unfolding Passages
on_one n k first now after passages more goes_on step are =
    subst (Passages (n + suc k) first) (sym (append_assoc passages (passage now Done after ∷ []) more))
    (goes_on (suc k) (passage now Done after ∷ more) (Done, after, step, (more, refl, are)))

pub none_so_far : {V : Type 0} (noted : Storage → ℕ → V → V) (is_of : Storage → V → Type 0) (steps : ℕ) (first : Machine) (held : V)
    → is_of first.storage held → IsSoFar noted is_of steps steps first first held held
none_so_far noted is_of steps first held of = record {
  within = omega arith;
  notes = record {
    passes = passes_start steps first;
    passages = [];
    goes_on = λ k more are. subst (λ (n : ℕ). Passages n first more) (omega arith) are;
    sound = tt;
    is = refl;
  };
  of = of;
}

step_more : {V : Type 0} (noted : Storage → ℕ → V → V) (is_of : Storage → V → Type 0) (steps left : ℕ) (first now after : Machine) (old held newer : V)
    → IsSoFar noted is_of steps left first now old held → 0 < left → Steps now Done after → IsNoted noted is_of after.storage now.next held newer
    → IsSoFar noted is_of steps (left - 1) first after old newer
step_more noted is_of steps left first now after old held newer so_far some step it =
    let c = so_far.notes in
    let within = so_far.within in
    record {
      within = omega (arith, within);
      notes = record {
        passes = one_more steps left first now after within some c.passes step;
        passages = c.passages ++ passage now Done after ∷ [];
        goes_on = λ k more are.
            subst (λ (n : ℕ). Passages n first ((c.passages ++ passage now Done after ∷ []) ++ more)) (omega (arith, within, some))
            (on_one (steps - left) k first now after c.passages more c.goes_on step are);
        sound = all_and_one LeavesSound c.passages (passage now Done after) c.sound it.sound;
        is = fold_one noted old held newer c.passages (passage now Done after) c.is it.is;
      };
      of = it.of;
    }

step_at_entry : {V : Type 0} (noted : Storage → ℕ → V → V) (is_of : Storage → V → Type 0) (steps left : ℕ) (first now after : Machine) (old held newer : V)
    → IsSoFar noted is_of steps left first now old held → 0 < left → Steps now AtEntry after → newer ≡ held → NotesAll noted steps first halt.AtEntry after old newer
unfolding Passages Steps
step_at_entry noted is_of steps left first now after old held newer so_far some step is =
    let c = so_far.notes in
    let within = so_far.within in
    let same : now ≡ after = sym step.1 in
    let none : Passages (suc (left - 1)) now [] = (AtEntry, after, step, refl) in
    record {
      run = subst (λ (s : Machine). Advances steps first halt.AtEntry s) same (stands_at_entry steps left first now c.passes step.0);
      watched = record {
        passages = c.passages;
        are =
            subst (Passages steps first) (append-nil c.passages)
            (subst (λ (n : ℕ). Passages n first (c.passages ++ [])) (omega (arith, within, some)) (c.goes_on (suc (left - 1)) [] none));
        sound = c.sound;
        is = is ∙ c.is;
      };
    }

step_interrupt : {V : Type 0} (noted : Storage → ℕ → V → V) (is_of : Storage → V → Type 0) (steps left place : ℕ) (cause : Interruption) (first now after : Machine)
    (old held newer : V) → IsSoFar noted is_of steps left first now old held → 0 < left → Steps now (Interrupt cause) after → place ≡ after.next
    → IsNoted noted is_of after.storage now.next held newer → NotesAll noted steps first (halt.Interrupt cause place) after old newer
unfolding Passages
step_interrupt noted is_of steps left place cause first now after old held newer so_far some step at it =
    let c = so_far.notes in
    let within = so_far.within in
    let p = passage now (Interrupt cause) after in
    let one : Passages (suc (left - 1)) now (p ∷ []) = (Interrupt cause, after, step, refl) in
    record {
      run = interrupt_left steps left place cause first now after within some c.passes step at;
      watched = record {
        passages = c.passages ++ p ∷ [];
        are =
            subst (λ (n : ℕ). Passages n first (c.passages ++ p ∷ [])) (omega (arith, within, some)) (c.goes_on (suc (left - 1)) (p ∷ []) one);
        sound = all_and_one LeavesSound c.passages p c.sound it.sound;
        is = fold_one noted old held newer c.passages p c.is it.is;
      };
    }

-- ---- as the loop has it: the machine is that after a fetch
pub slow_more : {V : Type 0} (noted : Storage → ℕ → V → V) (is_of : Storage → V → Type 0) (steps left : ℕ) (first now fetched after : Machine) (old held newer : V)
    → IsSoFar noted is_of steps left first now old held → 0 < left → fetched ≡ now → Steps fetched Done after
    → IsNoted noted is_of after.storage fetched.next held newer → IsSoFar noted is_of steps (left - 1) first after old newer
slow_more noted is_of steps left first now fetched after old held newer so_far some same step it =
    step_more noted is_of steps left first fetched after old held newer
    (subst (λ (s : Machine). IsSoFar noted is_of steps left first s old held) (sym same) so_far) some step it

pub slow_entry : {V : Type 0} (noted : Storage → ℕ → V → V) (is_of : Storage → V → Type 0) (steps left : ℕ) (first now fetched after : Machine) (old held newer : V)
    → IsSoFar noted is_of steps left first now old held → 0 < left → fetched ≡ now → Steps fetched AtEntry after → newer ≡ held
    → NotesAll noted steps first halt.AtEntry after old newer
slow_entry noted is_of steps left first now fetched after old held newer so_far some same step is =
    step_at_entry noted is_of steps left first fetched after old held newer
    (subst (λ (s : Machine). IsSoFar noted is_of steps left first s old held) (sym same) so_far) some step is

pub slow_interrupt : {V : Type 0} (noted : Storage → ℕ → V → V) (is_of : Storage → V → Type 0) (steps left place : ℕ) (cause : Interruption)
    (first now fetched after : Machine) (old held newer : V) → IsSoFar noted is_of steps left first now old held → 0 < left → fetched ≡ now
    → Steps fetched (Interrupt cause) after → place ≡ after.next → IsNoted noted is_of after.storage fetched.next held newer
    → NotesAll noted steps first (halt.Interrupt cause place) after old newer
slow_interrupt noted is_of steps left place cause first now fetched after old held newer so_far some same step at it =
    step_interrupt noted is_of steps left place cause first fetched after old held newer
    (subst (λ (s : Machine). IsSoFar noted is_of steps left first s old held) (sym same) so_far) some step at it

-- an instruction in bytes that are lent
pub row_more : {V : Type 0} (noted : Storage → ℕ → V → V) (is_of : Storage → V → Type 0) (steps left : ℕ) (first now fetched after : Machine) (o : Op) (prefix : List ℕ)
    (old held newer : V) → IsSoFar noted is_of steps left first now old held → 0 < left → fetched ≡ now → IsPerformed fetched o prefix
    → fetched.next ≢ entry → is_execute o ≡ false → Effect (instruction o (fields_at o prefix)) (updated_by fetched.next (length_of o)) fetched (Ok tt) after
    → IsNoted noted is_of after.storage fetched.next held newer → IsSoFar noted is_of steps (left - 1) first after old newer
unfolding Steps
row_more noted is_of steps left first now fetched after o prefix old held newer so_far some same is apart plain effect it =
    slow_more noted is_of steps left first now fetched after old held newer so_far some same
    (apart, row_runs fetched o prefix (Ok tt) after is plain effect) it

pub row_interrupt : {V : Type 0} (noted : Storage → ℕ → V → V) (is_of : Storage → V → Type 0) (steps left : ℕ) (cause : Interruption)
    (first now fetched after : Machine) (o : Op) (prefix : List ℕ) (old held newer : V) → IsSoFar noted is_of steps left first now old held → 0 < left
    → fetched ≡ now → IsPerformed fetched o prefix → fetched.next ≢ entry → is_execute o ≡ false
    → Effect (instruction o (fields_at o prefix)) (updated_by fetched.next (length_of o)) fetched (Err cause) after
    → IsNoted noted is_of after.storage fetched.next held newer → NotesAll noted steps first (halt.Interrupt cause after.next) after old newer
unfolding Steps
row_interrupt noted is_of steps left cause first now fetched after o prefix old held newer so_far some same is apart plain effect it =
    slow_interrupt noted is_of steps left after.next cause first now fetched after old held newer so_far some same
    (apart, row_runs fetched o prefix (Err cause) after is plain effect) refl it

-- an EX in bytes that are lent
pub execute_more : {V : Type 0} (noted : Storage → ℕ → V → V) (is_of : Storage → V → Type 0) (steps left : ℕ) (first now fetched after : Machine) (old held newer : V)
    → IsSoFar noted is_of steps left first now old held → 0 < left → fetched ≡ now → fetched.next ≢ entry → Runs fetched (Ok tt) after
    → IsNoted noted is_of after.storage fetched.next held newer → IsSoFar noted is_of steps (left - 1) first after old newer
unfolding Steps
execute_more noted is_of steps left first now fetched after old held newer so_far some same apart run it =
    slow_more noted is_of steps left first now fetched after old held newer so_far some same (apart, run) it

pub execute_interrupt : {V : Type 0} (noted : Storage → ℕ → V → V) (is_of : Storage → V → Type 0) (steps left : ℕ) (cause : Interruption)
    (first now fetched after : Machine) (old held newer : V) → IsSoFar noted is_of steps left first now old held → 0 < left → fetched ≡ now
    → fetched.next ≢ entry → Runs fetched (Err cause) after → IsNoted noted is_of after.storage fetched.next held newer
    → NotesAll noted steps first (halt.Interrupt cause after.next) after old newer
unfolding Steps
execute_interrupt noted is_of steps left cause first now fetched after old held newer so_far some same apart run it =
    slow_interrupt noted is_of steps left after.next cause first now fetched after old held newer so_far some same (apart, run) refl it

-- ---- storage is as it was
pub still_of : {V : Type 0} (is_of : Storage → V → Type 0) (s fetched after : Storage) (held : V) → is_of s held → fetched ≡ s → after ≡ fetched → is_of after held
still_of is_of s fetched after held of same stays = subst (λ (x : Storage). is_of x held) (sym (stays ∙ same)) of

-- ---- all steps are done
pub on_all : {V : Type 0} (noted : Storage → ℕ → V → V) (is_of : Storage → V → Type 0) (steps left : ℕ) (first now : Machine) (old held : V)
    → IsSoFar noted is_of steps left first now old held → left ≤ 0 → NotesOn noted steps first now old held
on_all noted is_of steps left first now old held so_far none =
    subst (λ (n : ℕ). NotesOn noted n first now old held) (omega (arith, none)) so_far.notes

pub all_watched : {V : Type 0} (noted : Storage → ℕ → V → V) (steps : ℕ) (first after : Machine) (old new : V) → NotesOn noted steps first after old new
    → IsWatched noted steps first old new
unfolding Passages
all_watched noted steps first after old new c = record {
  passages = c.passages;
  are =
      subst (Passages steps first) (append-nil c.passages)
      (subst (λ (n : ℕ). Passages n first (c.passages ++ [])) (omega arith) (c.goes_on 0 [] refl));
  sound = c.sound;
  is = c.is;
}

pub all_at_entry : {V : Type 0} (noted : Storage → ℕ → V → V) (steps : ℕ) (first after : Machine) (old new : V) → NotesOn noted steps first after old new
    → after.next ≡ entry → Advances steps first halt.AtEntry after
unfolding Advances
all_at_entry noted steps first after old new c here = (steps, omega arith, c.passes, here)

pub all_at_limit : {V : Type 0} (noted : Storage → ℕ → V → V) (steps : ℕ) (first after : Machine) (old new : V) → NotesOn noted steps first after old new
    → after.next ≢ entry → Advances steps first halt.Limit after
unfolding Advances
all_at_limit noted steps first after old new c apart = (c.passes, apart)
