-- How many bytes the text has that a command hands over.
use Rattle.std.proofs.Common.{◌≡◌, ℕ, List, length, Option, [], Some, None, unwrap_or, refl, sym}
use Rattle.std.specs.Option.{option_map}
use Rattle.cx_service.specs.Queues.{item_of}
use Rattle.cx_region_state.specs.declared.verdict.TaskChange.{TaskChange}
use Rattle.cx_region_state.specs.declared.verdict.TaskChange.TheVariants.{Nothing, Before, After, Gets, Enters, Replaces, LevelEnds, TaskEnds, AbendsWith}
use Rattle.cx_region_state.specs.declared.verdict.AfterOutputs.TheVariants.{TakesInput, MarksRead, QueueGone, Dequeues, Frees}
use Rattle.cx_region_state.specs.State.{Input, TaskContext}
use Rattle.cx_region_state.specs.Parts.Fits.{FitsChange}
use Rattle.cx_region_state.specs.Verdicts.{handed_over}
use Rattle.cx_region_task.specs.Parts.Making.{text_length}

found : (o : Option (List ℕ)) (len : ℕ) → option_map length o ≡ Some len → len ≡ length (unwrap_or o [])
found None len is = cc
found (Some text) len is = cc

length_is : (change : TaskChange) (r : TaskContext) → FitsChange change r → text_length change r.terminal_entry.input ≡ length (handed_over change r)
unfolding handed_over
length_is (After TakesInput) r fits = refl
length_is (After (MarksRead name reading)) r fits = found (item_of r.shared.queues name reading.number) reading.len fits
length_is (After (QueueGone name)) r fits = refl
length_is (After (Dequeues resource)) r fits = refl
length_is (After (Frees place)) r fits = refl
length_is Nothing r fits = refl
length_is (Before made) r fits = refl
length_is (Gets got) r fits = refl
length_is (Enters level) r fits = refl
length_is (Replaces copying level) r fits = refl
length_is LevelEnds r fits = refl
length_is (TaskEnds next) r fits = refl
length_is (AbendsWith code cancel) r fits = refl

-- the text that the command hands over, with its length
pub text_is : (change : TaskChange) (r : TaskContext) (input : Option Input) (len : ℕ) → FitsChange change r → r.terminal_entry.input ≡ input
    → len ≡ text_length change input → length (handed_over change r) ≡ len
text_is change r input len fits i is = rw (is, ← i) (sym (length_is change r fits))
