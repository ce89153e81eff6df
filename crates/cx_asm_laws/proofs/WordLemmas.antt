-- Words that share no byte are no fault of an image.
use Rattle.std.specs.Prelude.{IsTrue, ◌&&◌, nat_le, not}
use Rattle.std.proofs.Common.{◌≡◌, ◌≤◌, ℕ, ◌+◌, Bool, true, false, List, [], ◌∷◌, length, Some, refl, ap, arith}
use Rattle.std.proofs.lemmas.Bool.Decides.{nat_tests}
use Rattle.cx_code.specs.declared.image.Image.{Image}
use Rattle.cx_load.specs.Fault.{are_inside, image_fault, has_length}
use Rattle.cx_load.specs.Facts.Faults.{refused_length}
use Rattle.cx_load.specs.Laws.Words.{are_in_order}
use Rattle.cx_load.specs.declared.fault.ImageFault.TheVariants.{BadLength}
use Rattle.cx_asm.specs.Laws.SectionLines.{WordsApart}

both_true : (a b : Bool) → IsTrue a → IsTrue b → IsTrue (a && b)
both_true true b h k = k
both_true false b h k = h

at_most : (a b : ℕ) → a ≤ b → IsTrue (nat_le a b)
at_most a b le = grind (arith, nat_tests)

pub in_order : (from : ℕ) (words : List ℕ) (end : ℕ) → WordsApart from words end → IsTrue (are_in_order from words)
in_order from [] end apart = refl
in_order from (word ∷ words) end apart = both_true _ _ (at_most from word apart.0) (in_order (word + 4) words end apart.1)

words_end : (from : ℕ) (words : List ℕ) (end : ℕ) → WordsApart from words end → from ≤ end
words_end from [] end apart = apart
words_end from (word ∷ words) end apart = let rest = words_end (word + 4) words end apart.1 in omega (arith, rest, apart.0)

pub inside : (from : ℕ) (words : List ℕ) (end : ℕ) → WordsApart from words end → IsTrue (are_inside end words)
unfolding are_inside
inside from [] end apart = refl
inside from (word ∷ words) end apart = both_true _ _ (at_most (word + 4) end (words_end (word + 4) words end apart.1)) (inside (word + 4) words end apart.1)

-- a text that is short enough is refused for its length where it is empty
lengths : (n : ℕ) → n ≤ 65536 → IsTrue (not (nat_le 1 n && nat_le n 65536)) → n ≡ 0
lengths n le refused = grind (arith, nat_tests)

pub no_length : (image : Image) → length image.text ≤ 65536 → image_fault image ≡ Some BadLength → length image.text ≡ 0
unfolding has_length
no_length image le is = lengths (length image.text) le (ap not (refused_length image is))
