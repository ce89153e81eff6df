-- Lines that don't overlap: up to a different size, with one line or several after them, and each on its own.
use Rattle.std.proofs.Common.{◌≡◌, ℕ, zero, suc, ◌<◌, ◌≤◌, List, [], ◌∷◌, ◌++◌, length, get_or, refl, arith}
use Rattle.cx_code.specs.declared.disassembly.Line.{Line}
use Rattle.cx_asm_image.specs.Resolved.{offset_after, end_after, AreApart}

pub ends_after : (from : ℕ) (ls : List Line) (size : ℕ) → AreApart from ls size → from ≤ size
ends_after from [] size apart = apart
ends_after from (l ∷ ls) size apart =
    let rest = ends_after (offset_after l) ls size apart.1 in
    let first = apart.0 in
    omega arith

-- and in every section as long as their end
pub apart_up_to : (from : ℕ) (ls : List Line) (end size : ℕ) → AreApart from ls end → end_after from ls ≤ size → AreApart from ls size
apart_up_to from [] end size apart h = h
apart_up_to from (l ∷ ls) end size apart h = (apart.0, apart_up_to (offset_after l) ls end size apart.1 h)

-- a line after the others
pub apart_with : (from : ℕ) (ls : List Line) (l : Line) → AreApart from ls (end_after from ls) → end_after from ls ≤ l.at → AreApart from (ls ++ l ∷ []) (offset_after l)
apart_with from [] l apart h = (h, omega arith)
apart_with from (k ∷ ls) l apart h = (apart.0, apart_with (offset_after k) ls l apart.1 h)

pub end_with : (from : ℕ) (ls : List Line) (l : Line) → end_after from (ls ++ l ∷ []) ≡ offset_after l
end_with from [] l = refl
end_with from (k ∷ ls) l = end_with (offset_after k) ls l

-- others after them
pub apart_append : (from : ℕ) (ls ms : List Line) (mid size : ℕ) → AreApart from ls mid → AreApart mid ms size → AreApart from (ls ++ ms) size
apart_append from [] ms mid size apart more = apart_later from mid ms size apart more
  where
    apart_later : (from mid : ℕ) (ms : List Line) (size : ℕ) → from ≤ mid → AreApart mid ms size → AreApart from ms size
    apart_later from mid [] size h more = (let least = more in omega arith)
    apart_later from mid (m ∷ ms) size h more = ((let least = more.0 in omega arith), more.1)
apart_append from (l ∷ ls) ms mid size apart more = (apart.0, apart_append (offset_after l) ls ms mid size apart.1 more)

-- each line ends in the section
pub fits_at : (from : ℕ) (ls : List Line) (size i : ℕ) (d : Line) → AreApart from ls size → i < length ls → offset_after (get_or ls i d) ≤ size
fits_at from [] size i d apart h = absurd (omega arith)
fits_at from (l ∷ ls) size zero d apart h = ends_after (offset_after l) ls size apart.1
fits_at from (l ∷ ls) size (suc i) d apart h = fits_at (offset_after l) ls size i d apart.1 (omega arith)
