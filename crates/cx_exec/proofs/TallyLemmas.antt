-- What is counted of an instruction, and of a run one instruction after another.
use Rattle.std.proofs.Common.{◌≡◌, ◌≢◌, ℕ, suc, ◌+◌, ◌-◌, ◌^◌, ◌<◌, ◌≤◌, ◌==◌, ◌++◌, Bool, false, not, List, [], ◌∷◌, take, slice_index, Some, None, Ok, Err, if◌then◌else◌, refl, sym, subst, ap, ◌∙◌, append_assoc, append-nil, arith}
use Rattle.std.specs.List.{fold}
use Rattle.std.specs.Option.{option_map}
use Rattle.std.proofs.lemmas.Grind.{fold-append}
use Rattle.std.proofs.lemmas.List.{get_or-take}
use Rattle.byteorder.specs.Numbers.{big_from-take}
use Rattle.cx_storage.specs.Storage.{span}
use Rattle.cx_storage.specs.Address.{address_after}
use Rattle.cx_code.specs.declared.table.Op.{Op}
use Rattle.cx_code.specs.declared.table.Op.TheVariants as op
use Rattle.cx_code.specs.Table.{operation_row, code_of, format_of, length_of, length_of_code}
use Rattle.cx_code.specs.Spelling.{instruction}
use Rattle.cx_code.specs.Reading.{fields_at}
use Rattle.cx_exec.specs.declared.machine.Step.TheVariants.{Done, AtEntry, Interrupt}
use Rattle.cx_exec.specs.declared.machine.Interruption.{Interruption}
use Rattle.cx_exec.specs.declared.machine.Halt.TheVariants as halt
use Rattle.cx_exec.specs.declared.tallied.Tally.{Tally}
use Rattle.cx_exec.specs.Machine.{Machine}
use Rattle.cx_exec.specs.Rows.{Effect}
use Rattle.cx_exec.specs.Step.{entry, updated_by, is_execute, Runs, Steps}
use Rattle.cx_exec.specs.Advance.{Advances}
use Rattle.cx_exec.specs.Passages.{Passage, Passages, following, operand_in, passage, places_run, target_of, went_away}
use Rattle.cx_exec.specs.Tallies.{IsTallied, with_passage, with_run}
use Rattle.cx_exec.specs.Parts.{CountsAll, CountsOn, IsPerformed, with_done}
use Rattle.cx_exec.proofs.FetchLemmas.{first_byte, span_front}
use Rattle.cx_exec.proofs.FrontLemmas.{LongByCode, some_few, spanned}
use Rattle.cx_exec.proofs.RunLemmas.{interrupt_left, one_more, passes_start, row_runs, stands_at_entry}

-- ---- an instruction in bytes that are lent: what follows it, and its target
code_tells : (o : Op) → (code_of o == 0x44) ≡ is_execute o
unfolding operation_row
code_tells o = grind arith

pub lent_following : (m : Machine) (o : Op) (prefix : List ℕ) → LongByCode → m.next + 8 ≤ 2 ^ 24
    → option_map (take 6) (span m.storage m.next 8) ≡ Some prefix → slice_index prefix 0 ≡ code_of o → following m ≡ Some (m.next + length_of o)
unfolding following
lent_following m o prefix long room lent code =
    let got = spanned (span m.storage m.next 8) prefix lent in
    let first = first_byte m.storage m.next 8 got.0 got.1 (omega arith) in
    let same : slice_index got.0 0 ≡ code_of o = sym (get_or-take 6 got.0 0 0 (omega arith)) ∙ rw (← got.2) code in
    let few = (some_few (format_of o)).1 in
    let size : length_of_code (slice_index got.0 0) ≡ length_of o = ap length_of_code same ∙ long o in
    let at : address_after m.next (length_of o) ≡ m.next + length_of o = omega (arith, room, few) in
    rw (first, size) (ap (λ (a : ℕ). Some a) at)

operand_front : (regs b : List ℕ) → operand_in regs (take 4 b) ≡ operand_in regs (take 6 b)
operand_front regs b =
    rw (get_or-take 4 b 1 0 (omega arith), big_from-take 2 2 4 b (omega arith), get_or-take 6 b 1 0 (omega arith), big_from-take 2 2 6 b (omega arith)) refl

pub lent_target_of : (m : Machine) (o : Op) (prefix : List ℕ) → m.next < 2 ^ 24 → option_map (take 6) (span m.storage m.next 8) ≡ Some prefix
    → slice_index prefix 0 ≡ code_of o → target_of m ≡ (if is_execute o then Some (operand_in m.regs prefix) else None)
unfolding target_of
lent_target_of m o prefix low lent code =
    let got = spanned (span m.storage m.next 8) prefix lent in
    let first = first_byte m.storage m.next 8 got.0 got.1 (omega arith) in
    let same : slice_index got.0 0 ≡ code_of o = sym (get_or-take 6 got.0 0 0 (omega arith)) ∙ rw (← got.2) code in
    let four = span_front m.storage m.next 8 4 got.0 low got.1 (omega arith) in
    let here : (slice_index got.0 0 == 0x44) ≡ is_execute o = ap (λ (c : ℕ). c == 0x44) same ∙ code_tells o in
    rw (first, four, here)
    (ap (λ (a : ℕ). if is_execute o then Some a else None) (operand_front m.regs got.0 ∙ ap (operand_in m.regs) (sym got.2)))

-- ---- what is counted of an instruction
-- that is done, and follows what is known
done_away : (p : Passage) (next : ℕ) → p.step ≡ Done → following p.before ≡ Some next → went_away p ≡ not (p.after.next == next)
unfolding went_away
done_away p next done e = rw (done, e) refl

row_counted : (now after : Machine) (o : Op) (n : ℕ) (tallies newer : List Tally) → following now ≡ Some (now.next + length_of o)
    → target_of now ≡ None → length_of o ≡ n → newer ≡ with_run (not (after.next == now.next + n)) tallies now.next
    → newer ≡ with_passage tallies (passage now Done after)
unfolding places_run
row_counted now after o n tallies newer next none size is =
    let away : went_away (passage now Done after) ≡ not (after.next == now.next + n)
    = done_away (passage now Done after) (now.next + n) refl (next ∙ ap (λ (k : ℕ). Some (now.next + k)) size) in
    rw (none, away) is

execute_counted : (now after : Machine) (place : ℕ) (tallies newer : List Tally) → following now ≡ Some (now.next + length_of op.Ex)
    → target_of now ≡ Some place → newer ≡ with_done (not (after.next == now.next + 4)) now.next (Some place) tallies
    → newer ≡ with_passage tallies (passage now Done after)
unfolding places_run operation_row
execute_counted now after place tallies newer next there is =
    let away : went_away (passage now Done after) ≡ not (after.next == now.next + 4)
    = done_away (passage now Done after) (now.next + 4) refl next in
    rw (there, away) is

interrupted_counted : (now after : Machine) (cause : Interruption) (tallies newer : List Tally) → newer ≡ with_run false tallies now.next
    → newer ≡ with_passage tallies (passage now (Interrupt cause) after)
unfolding places_run went_away
interrupted_counted now after cause tallies newer is = is

-- ---- one instruction more
pub record IsSoFar (steps left : ℕ) (first now : Machine) (old tallies : List Tally) : Type 0 where
  pub within : left ≤ steps
  pub counts : CountsOn (steps - left) first now old tallies

fold_one : (old tallies newer : List Tally) (passages : List Passage) (p : Passage) → tallies ≡ fold with_passage old passages
    → newer ≡ with_passage tallies p → newer ≡ fold with_passage old (passages ++ p ∷ [])
fold_one old tallies newer passages p so_far is =
    is ∙ ap (λ (l : List Tally). with_passage l p) so_far ∙ sym (fold-append with_passage old passages (p ∷ []))

on_one : (n k left : ℕ) (first now after : Machine) (passages more : List Passage)
    → ((j : ℕ) (some : List Passage) → Passages j now some → Passages (n + j) first (passages ++ some)) → Steps now Done after → Passages k after more
    → Passages (n + suc k) first ((passages ++ passage now Done after ∷ []) ++ more)
unfolding Passages
on_one n k left first now after passages more goes_on step are =
    subst (Passages (n + suc k) first) (sym (append_assoc passages (passage now Done after ∷ []) more))
    (goes_on (suc k) (passage now Done after ∷ more) (Done, after, step, (more, refl, are)))

pub none_so_far : (steps : ℕ) (first : Machine) (tallies : List Tally) → IsSoFar steps steps first first tallies tallies
none_so_far steps first tallies = record {
  within = omega arith;
  counts = record {
    passes = passes_start steps first;
    passages = [];
    goes_on = λ k more are. subst (λ (n : ℕ). Passages n first more) (omega arith) are;
    is = refl;
  };
}

pub step_more : (steps left : ℕ) (first now after : Machine) (old tallies newer : List Tally) → IsSoFar steps left first now old tallies → 0 < left
    → Steps now Done after → newer ≡ with_passage tallies (passage now Done after) → IsSoFar steps (left - 1) first after old newer
step_more steps left first now after old tallies newer so_far some step is =
    let c = so_far.counts in
    let within = so_far.within in
    record {
      within = omega (arith, within);
      counts = record {
        passes = one_more steps left first now after within some c.passes step;
        passages = c.passages ++ passage now Done after ∷ [];
        goes_on = λ k more are.
            subst (λ (n : ℕ). Passages n first ((c.passages ++ passage now Done after ∷ []) ++ more)) (omega (arith, within, some))
            (on_one (steps - left) k left first now after c.passages more c.goes_on step are);
        is = fold_one old tallies newer c.passages (passage now Done after) c.is is;
      };
    }

pub step_at_entry : (steps left : ℕ) (first now after : Machine) (old tallies newer : List Tally) → IsSoFar steps left first now old tallies → 0 < left
    → Steps now AtEntry after → newer ≡ tallies → CountsAll steps first halt.AtEntry after old newer
unfolding Passages Steps
step_at_entry steps left first now after old tallies newer so_far some step is =
    let c = so_far.counts in
    let within = so_far.within in
    let same : now ≡ after = sym step.1 in
    let none : Passages (suc (left - 1)) now [] = (AtEntry, after, step, refl) in
    record {
      run = subst (λ (s : Machine). Advances steps first halt.AtEntry s) same (stands_at_entry steps left first now c.passes step.0);
      tallied = record {
        passages = c.passages;
        are =
            subst (Passages steps first) (append-nil c.passages)
            (subst (λ (n : ℕ). Passages n first (c.passages ++ [])) (omega (arith, within, some)) (c.goes_on (suc (left - 1)) [] none));
        is = is ∙ c.is;
      };
    }

pub step_interrupt : (steps left place : ℕ) (cause : Interruption) (first now after : Machine) (old tallies newer : List Tally)
    → IsSoFar steps left first now old tallies → 0 < left → Steps now (Interrupt cause) after → place ≡ after.next
    → newer ≡ with_passage tallies (passage now (Interrupt cause) after) → CountsAll steps first (halt.Interrupt cause place) after old newer
unfolding Passages
step_interrupt steps left place cause first now after old tallies newer so_far some step at is =
    let c = so_far.counts in
    let within = so_far.within in
    let p = passage now (Interrupt cause) after in
    let one : Passages (suc (left - 1)) now (p ∷ []) = (Interrupt cause, after, step, refl) in
    record {
      run = interrupt_left steps left place cause first now after within some c.passes step at;
      tallied = record {
        passages = c.passages ++ p ∷ [];
        are =
            subst (λ (n : ℕ). Passages n first (c.passages ++ p ∷ [])) (omega (arith, within, some)) (c.goes_on (suc (left - 1)) (p ∷ []) one);
        is = fold_one old tallies newer c.passages p c.is is;
      };
    }

-- ---- as the loop has it: the machine is that after a fetch
pub slow_more : (steps left : ℕ) (first now fetched after : Machine) (old tallies newer : List Tally) → IsSoFar steps left first now old tallies
    → 0 < left → fetched ≡ now → Steps fetched Done after → newer ≡ with_passage tallies (passage fetched Done after)
    → IsSoFar steps (left - 1) first after old newer
slow_more steps left first now fetched after old tallies newer so_far some same step is =
    step_more steps left first fetched after old tallies newer (subst (λ (s : Machine). IsSoFar steps left first s old tallies) (sym same) so_far) some step is

pub slow_entry : (steps left : ℕ) (first now fetched after : Machine) (old tallies newer : List Tally) → IsSoFar steps left first now old tallies
    → 0 < left → fetched ≡ now → Steps fetched AtEntry after → newer ≡ tallies → CountsAll steps first halt.AtEntry after old newer
slow_entry steps left first now fetched after old tallies newer so_far some same step is =
    step_at_entry steps left first fetched after old tallies newer (subst (λ (s : Machine). IsSoFar steps left first s old tallies) (sym same) so_far) some
    step is

pub slow_interrupt : (steps left place : ℕ) (cause : Interruption) (first now fetched after : Machine) (old tallies newer : List Tally)
    → IsSoFar steps left first now old tallies → 0 < left → fetched ≡ now → Steps fetched (Interrupt cause) after → place ≡ after.next
    → newer ≡ with_passage tallies (passage fetched (Interrupt cause) after) → CountsAll steps first (halt.Interrupt cause place) after old newer
slow_interrupt steps left place cause first now fetched after old tallies newer so_far some same step at is =
    step_interrupt steps left place cause first fetched after old tallies newer
    (subst (λ (s : Machine). IsSoFar steps left first s old tallies) (sym same) so_far) some step at is

-- an instruction in bytes that are lent
pub row_more : (steps left n : ℕ) (first now fetched after : Machine) (o : Op) (prefix : List ℕ) (old tallies newer : List Tally)
    → IsSoFar steps left first now old tallies → 0 < left → fetched ≡ now → IsPerformed fetched o prefix → fetched.next ≢ entry → is_execute o ≡ false
    → following fetched ≡ Some (fetched.next + length_of o) → target_of fetched ≡ (if is_execute o then Some (operand_in fetched.regs prefix) else None)
    → length_of o ≡ n → Effect (instruction o (fields_at o prefix)) (updated_by fetched.next (length_of o)) fetched (Ok tt) after
    → newer ≡ with_run (not (after.next == fetched.next + n)) tallies fetched.next → IsSoFar steps (left - 1) first after old newer
unfolding Steps
row_more steps left n first now fetched after o prefix old tallies newer so_far some same is apart plain next target size effect counted =
    let none : target_of fetched ≡ None = target ∙ ap (λ (b : Bool). if b then Some (operand_in fetched.regs prefix) else None) plain in
    slow_more steps left first now fetched after old tallies newer so_far some same (apart, row_runs fetched o prefix (Ok tt) after is plain effect)
    (row_counted fetched after o n tallies newer next none size counted)

pub row_interrupt : (steps left : ℕ) (cause : Interruption) (first now fetched after : Machine) (o : Op) (prefix : List ℕ) (old tallies newer : List Tally)
    → IsSoFar steps left first now old tallies → 0 < left → fetched ≡ now → IsPerformed fetched o prefix → fetched.next ≢ entry → is_execute o ≡ false
    → Effect (instruction o (fields_at o prefix)) (updated_by fetched.next (length_of o)) fetched (Err cause) after
    → newer ≡ with_run false tallies fetched.next → CountsAll steps first (halt.Interrupt cause after.next) after old newer
unfolding Steps
row_interrupt steps left cause first now fetched after o prefix old tallies newer so_far some same is apart plain effect counted =
    slow_interrupt steps left after.next cause first now fetched after old tallies newer so_far some same
    (apart, row_runs fetched o prefix (Err cause) after is plain effect) refl (interrupted_counted fetched after cause tallies newer counted)

-- an EX in bytes that are lent
pub execute_more : (steps left place : ℕ) (first now fetched after : Machine) (o : Op) (prefix : List ℕ) (old tallies newer : List Tally)
    → IsSoFar steps left first now old tallies → 0 < left → fetched ≡ now → fetched.next ≢ entry → o ≡ op.Ex
    → following fetched ≡ Some (fetched.next + length_of o) → target_of fetched ≡ (if is_execute o then Some (operand_in fetched.regs prefix) else None)
    → place ≡ operand_in fetched.regs prefix → Runs fetched (Ok tt) after
    → newer ≡ with_done (not (after.next == fetched.next + 4)) fetched.next (Some place) tallies → IsSoFar steps (left - 1) first after old newer
unfolding Steps
execute_more steps left place first now fetched after o prefix old tallies newer so_far some same apart ex next target operand run counted =
    let there : target_of fetched ≡ Some place
    = target ∙ ap (λ (x : Op). if is_execute x then Some (operand_in fetched.regs prefix) else None) ex ∙ ap (λ (a : ℕ). Some a) (sym operand) in
    slow_more steps left first now fetched after old tallies newer so_far some same (apart, run)
    (execute_counted fetched after place tallies newer (next ∙ ap (λ (x : Op). Some (fetched.next + length_of x)) ex) there counted)

pub execute_interrupt : (steps left : ℕ) (cause : Interruption) (first now fetched after : Machine) (old tallies newer : List Tally)
    → IsSoFar steps left first now old tallies → 0 < left → fetched ≡ now → fetched.next ≢ entry → Runs fetched (Err cause) after
    → newer ≡ with_run false tallies fetched.next → CountsAll steps first (halt.Interrupt cause after.next) after old newer
unfolding Steps
execute_interrupt steps left cause first now fetched after old tallies newer so_far some same apart run counted =
    slow_interrupt steps left after.next cause first now fetched after old tallies newer so_far some same (apart, run) refl
    (interrupted_counted fetched after cause tallies newer counted)

-- ---- all steps are done
pub on_all : (steps left : ℕ) (first now : Machine) (old tallies : List Tally) → IsSoFar steps left first now old tallies → left ≤ 0
    → CountsOn steps first now old tallies
on_all steps left first now old tallies so_far none =
    subst (λ (n : ℕ). CountsOn n first now old tallies) (omega (arith, none)) so_far.counts

pub all_tallied : (steps : ℕ) (first after : Machine) (old new : List Tally) → CountsOn steps first after old new → IsTallied steps first old new
unfolding Passages
all_tallied steps first after old new c = record {
  passages = c.passages;
  are =
      subst (Passages steps first) (append-nil c.passages)
      (subst (λ (n : ℕ). Passages n first (c.passages ++ [])) (omega arith) (c.goes_on 0 [] refl));
  is = c.is;
}

pub all_at_entry : (steps : ℕ) (first after : Machine) (old new : List Tally) → CountsOn steps first after old new → after.next ≡ entry
    → Advances steps first halt.AtEntry after
unfolding Advances
all_at_entry steps first after old new c here = (steps, omega arith, c.passes, here)

pub all_at_limit : (steps : ℕ) (first after : Machine) (old new : List Tally) → CountsOn steps first after old new → after.next ≢ entry
    → Advances steps first halt.Limit after
unfolding Advances
all_at_limit steps first after old new c apart = (c.passes, apart)
