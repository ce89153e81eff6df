-- How much working storage a program has (this product's own).
use Rattle.std.specs.Prelude.{ℕ, min, max}

-- The length of the DSECT DFHEISTG, 80 where it is shorter or there is none. From 65,521 on, which no image may have,
-- it is 65,521.
abbrev pub working_storage : ℕ → ℕ
working_storage length = max 80 (min length 65521)
