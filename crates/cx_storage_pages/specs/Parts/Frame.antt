-- What is asked of the bytes of a frame.
use Rattle.std.specs.Prelude.{◌+◌, ◌*◌, ◌≡◌, ◌<◌, ◌≤◌, true, is_some, ℕ, ◌/◌, Option, None}

-- whether there is a byte at each place from one up to, but not including, a second
abbrev pub HasAll : (ℕ → Option ℕ) → ℕ → ℕ → Type 0
HasAll at from to = (k : ℕ) → from ≤ k → k < to → is_some (at k) ≡ true

-- that no `need` free granules in a row begin before the last `tail` granules of a page, which are free
pub record Skips (at : ℕ → Option ℕ) (need tail : ℕ) : Type 0 where
  pub within : tail ≤ 256
  pub small : tail < need
  pub free : (k : ℕ) → 256 ≤ k / 16 + tail → k < 4096 → at k ≡ None
  pub none : (c : ℕ) → c ≤ 256 → ((j : ℕ) → c ≤ j → j < c + need → j < 256 → at (j * 16) ≡ None) → 256 ≤ c + tail
