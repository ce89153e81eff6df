-- What a change makes of the bytes or the counts at each place.
use Rattle.std.specs.Prelude.{ℕ, ◌+◌, ◌-◌, ◌/◌, ◌≡◌, ◌<◌, ◌≤◌, ◌==◌, ◌&&◌, ◌⊎◌, Bool, true, List, Option, Some, None, length, nat_le, nat_lt, slice_get, slice_index, if◌then◌else◌}
use Rattle.std.specs.Option.{option_map}

-- whether k is from one number on to before another
abbrev pub is_within : ℕ → ℕ → ℕ → Bool
is_within from end k = nat_le from k && nat_lt k end

-- where a test holds there is now what a rule gives, and all else is as before
abbrev pub Changes : {A : Type 0} → (ℕ → Bool) → (ℕ → A) → (ℕ → A) → (ℕ → A) → Type 0
Changes test rule old new = (k : ℕ) → new k ≡ (if test k then rule k else old k)

-- the same of counts
abbrev pub Recounts : (ℕ → Bool) → (ℕ → ℕ) → List ℕ → List ℕ → Type 0
Recounts test rule old new = Changes test rule (slice_index old) (slice_index new)

-- the byte at the place a, where it is present, is now a value
abbrev pub Sets : ℕ → ℕ → (ℕ → Option ℕ) → (ℕ → Option ℕ) → Type 0
Sets a value old new = Changes (λ k. k == a) (λ _. option_map (λ (_ : ℕ). value) (old a)) old new

-- the bytes from the place a on are now those of a list
abbrev pub Writes : ℕ → List ℕ → (ℕ → Option ℕ) → (ℕ → Option ℕ) → Type 0
Writes a bytes old new = Changes (is_within a (a + length bytes)) (λ k. slice_get bytes (k - a)) old new

-- the granules from one on to before another have now what a rule gives
abbrev pub Fills : ℕ → ℕ → (ℕ → Option ℕ) → (ℕ → Option ℕ) → (ℕ → Option ℕ) → Type 0
Fills first end rule old new = Changes (λ k. is_within first end (k / 16)) rule old new

-- zero before the place `to`, and nothing from it on
abbrev pub zero_to : ℕ → ℕ → Option ℕ
zero_to to k = if nat_lt k to then Some 0 else None

-- these granules have zeros before a place and no other byte, where their page was made or no byte is asked for
abbrev pub Marks : Bool → ℕ → ℕ → ℕ → (ℕ → Option ℕ) → (ℕ → Option ℕ) → Type 0
Marks made first end to old new = (made ≡ true) ⊎ (to ≡ 0) → Fills first end (zero_to to) old new

-- the n bytes from the place a on are those of a list
abbrev pub HoldsBytes : (ℕ → Option ℕ) → ℕ → ℕ → List ℕ → Type 0
HoldsBytes at a n bytes = (k : ℕ) → a ≤ k → k < a + n → at k ≡ slice_get bytes (k - a)
