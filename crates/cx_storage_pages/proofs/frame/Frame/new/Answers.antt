use Rattle.std.proofs.Common.{◌/◌, ◌%◌, refl, le-ltb, arith}
use Rattle.cx_storage_pages.specs.Pages.{frame_byte}
use Rattle.cx_storage_pages.proofs.FrameLemmas.{zero_index}
use Rattle.cx_storage_pages.proofs.frame.Frame.new.Goals as goal

pub returns : goal.returns
unfolding frame_byte
returns c = λ k. rw (zero_index 256 (k / 16), le-ltb (k % 16) 0 (omega arith)) refl

pub invariant_of-result : goal.invariant_of-result
invariant_of-result c = record { topped = λ j low high. zero_index 256 j; summed = tt; reached = (λ g j more. absurd (let none = zero_index 256 g in omega (arith, more, none)), λ g. rw (zero_index 256 g) (omega arith)) }
