-- Boundaries.
use Rattle.std.proofs.Common.{ℕ, ◌+◌, ◌-◌, ◌≤◌, arith}
use Rattle.std.proofs.Math.Nat.{div-mul-le_self}
use Rattle.cx_asm_pass1.specs.Layout.{align}

pub aligned_bound : (boundary at : ℕ) → 1 ≤ boundary → boundary ≤ 8 → align boundary at ≤ at + 8
aligned_bound boundary at lo hi = omega (arith, div-mul-le_self (at + (boundary - 1)) boundary)
