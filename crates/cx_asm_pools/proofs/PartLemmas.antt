-- Operands of an instruction, one after the other.
use Rattle.std.specs.Prelude.{if◌then◌else◌, is_ok, is_some}
use Rattle.std.specs.Map.{lookup}
use Rattle.std.specs.Str.{bytes_eq}
use Rattle.std.specs.Option.{option_map_or}
use Rattle.std.proofs.Common.{◌≡◌, ◌<◌, ℕ, zero, suc, Bool, true, false, Option, Some, None, List, [], ◌∷◌, ◌++◌, ◌≤◌, length, length-append, get_or, map, take, refl, ap, arith, Bor}
use Rattle.cx_asm_expressions.specs.Items.{constant_in}
use Rattle.cx_asm_pools.specs.Pools.{OpenLiterals, literal_size, literal_text, with_literal, with_part, with_parts}
use Rattle.cx_asm_pools.specs.declared.open.Used.{Used}

pub one_more : (user : ℕ) (pool : OpenLiterals) (operands : List (Bor (List ℕ))) (i : ℕ) (d : Bor (List ℕ)) → i < length operands
    → with_parts user pool (map (λ part. part.now) (take (suc i) operands)) ≡ with_part user (with_parts user pool (map (λ part. part.now) (take i operands))) (get_or operands i d).now
one_more user pool [] i d h = absurd (omega (arith, h))
one_more user pool (part ∷ operands) zero d h = refl
one_more user pool (part ∷ operands) (suc i) d h = one_more user (with_part user pool part.now) operands i d (omega (arith, h))

-- ---- operands that put nothing in
-- A pool is no shorter with more, and where it isn't longer it is the same.
abbrev Grows : OpenLiterals → OpenLiterals → Type 0
Grows pool new = (length pool ≤ length new) × (length new ≤ length pool → new ≡ pool)

pub not_itself : (pool : OpenLiterals) (e : List ℕ × Used) → pool ++ e ∷ [] ≡ pool → ⊥
not_itself pool e same =
    let long = length-append pool (e ∷ []) in
    let equal = ap (λ (p : OpenLiterals). length p) same in
    omega (arith, long, equal)

literal_grows : (pool : OpenLiterals) (text : List ℕ) (used : Used) → Grows pool (with_literal pool text used)
literal_grows pool text used = go (is_some (lookup (bytes_eq text) pool))
  where
    go : (b : Bool) → Grows pool (if b then pool else pool ++ (text, used) ∷ [])
    go true = (omega arith, λ short. refl)
    go false = let long = length-append pool ((text, used) ∷ []) in (omega (arith, long), λ short. absurd (omega (arith, long, short)))

abbrev with_text : ℕ → OpenLiterals → List ℕ → OpenLiterals
with_text user pool text = if is_ok (constant_in false text) then with_literal pool text (record { size = literal_size text; user = user }) else pool

text_grows : (user : ℕ) (pool : OpenLiterals) (text : Option (List ℕ)) → Grows pool (option_map_or (with_text user pool) text pool)
text_grows user pool None = (omega arith, λ short. refl)
text_grows user pool (Some text) = go (is_ok (constant_in false text))
  where
    go : (b : Bool) → Grows pool (if b then with_literal pool text (record { size = literal_size text; user = user }) else pool)
    go true = literal_grows pool text _
    go false = (omega arith, λ short. refl)

part_grows : (user : ℕ) (pool : OpenLiterals) (part : List ℕ) → Grows pool (with_part user pool part)
part_grows user pool part = text_grows user pool (literal_text part)

parts_longer : (user : ℕ) (pool : OpenLiterals) (parts : List (List ℕ)) → length pool ≤ length (with_parts user pool parts)
parts_longer user pool [] = omega arith
parts_longer user pool (part ∷ parts) =
    let one = (part_grows user pool part).0 in
    let more = parts_longer user (with_part user pool part) parts in
    omega (arith, one, more)

-- Where operands put nothing in the first of them puts nothing in.
pub first_kept : (user : ℕ) (pool : OpenLiterals) (part : List ℕ) (parts : List (List ℕ)) → with_parts user pool (part ∷ parts) ≡ pool → with_part user pool part ≡ pool
first_kept user pool part parts same =
    let more = parts_longer user (with_part user pool part) parts in
    let equal = ap (λ (p : OpenLiterals). length p) same in
    (part_grows user pool part).1 (omega (arith, more, equal))

-- a text that isn't pooled puts itself in
pub put_new : (pool : OpenLiterals) (text : List ℕ) (used : Used) → is_some (lookup (bytes_eq text) pool) ≡ false → with_literal pool text used ≡ pool → ⊥
put_new pool text used none same = not_itself pool (text, used) (rw none at same)
