-- Blocks of storage as fields: each with its name, its offset and its length in bytes (this product's own form).
use Rattle.std.specs.Prelude.{ℕ, ◌+◌, List}

pub record Field : Type 0 where
  pub name : List ℕ
  pub offset : ℕ
  pub len : ℕ

abbrev pub layout_field : List ℕ → ℕ → ℕ → Field
layout_field name offset len = record { name = name; offset = offset; len = len }

-- the offset after a field
abbrev pub field_end : Field → ℕ
field_end field = field.offset + field.len
