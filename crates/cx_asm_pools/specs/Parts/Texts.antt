-- What is known of an open pool (own).
use Rattle.std.specs.Prelude.{◌≡◌, ℕ}
use Rattle.std.specs.List.{IsDistinct}
use Rattle.std.specs.Map.{keys_of}
use Rattle.std.specs.Str.{bytes_eq}
use Rattle.cx_asm_pools.specs.Pools.{OpenLiterals, pool_size}

-- its size is that of its literals, and no text occurs twice
pub record IsOpen (size : ℕ) (pool : OpenLiterals) : Type 0 where
  pub size_is : size ≡ pool_size pool
  pub once : IsDistinct bytes_eq (keys_of pool)
