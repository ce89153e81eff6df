-- What holds of an image without a fault.
use Rattle.std.specs.Prelude.{◌<◌, ◌≤◌, IsTrue, length}
use Rattle.cx_code.specs.declared.image.Image.{Image}
use Rattle.cx_load.specs.Fault.{all_apart, are_inside}

pub record FitFacts (image : Image) : Type 0 where
  pub nonempty : 0 < length image.text
  pub short : length image.text ≤ 65536
  pub entry : image.entry < length image.text
  pub inside : IsTrue (are_inside (length image.text) image.relocs)
  pub apart : IsTrue (all_apart image.relocs)
  pub stg_low : 80 ≤ image.stg_len
  pub stg_high : image.stg_len ≤ 65520
