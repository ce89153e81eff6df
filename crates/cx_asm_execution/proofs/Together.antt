-- Lines that are among others, one right after the other.
use Rattle.std.specs.Prelude.{◌≡◌, List, ◌++◌}
use Rattle.cx_source.specs.declared.source.Item.{Item}

pub record StandTogether (part items : List Item) : Type 0 where
  pub before : List Item
  pub after : List Item
  pub is : items ≡ before ++ part ++ after
