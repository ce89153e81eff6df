-- A field that is filled piece by piece.
use Rattle.std.specs.Prelude.{◌≡◌, ℕ, List, length, min}
use Rattle.cx_base.specs.Texts.{in_columns}

-- the field shows a text, as far as it has room, and `at` of its places are taken
pub record HoldsText (field : List ℕ) (at : ℕ) (text : List ℕ) : Type 0 where
  pub place : at ≡ min (length field) (length text)
  pub shows : field ≡ in_columns (length field) text
