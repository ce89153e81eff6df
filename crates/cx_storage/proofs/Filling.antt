-- The steps of the loop that fills a buffer from a span.
use Rattle.cx_storage.specs.Address.{address_after}
use Rattle.std.specs.Prelude.{◌≡◌, ℕ, ◌+◌, ◌-◌, ◌<◌, ◌≤◌, true, List, [], ◌∷◌, length, slice_set, Option, Some, None, is_some}
use Rattle.std.proofs.Common.{refl, ap, take, ◌++◌, unwrap_or, append_assoc}
use Rattle.std.proofs.lemmas.List.{take_more_set, take_all, append-nil}
use Rattle.std.specs.Option.{option_map, option_and_then}
use Rattle.cx_storage.specs.Storage.{Storage, byte_at, span}
use Rattle.cx_storage.specs.Facts.Spans.{span_more}

-- the bytes done, with the rest of them after
unfoldable pub joined : List ℕ → Option (List ℕ) → Option (List ℕ)
joined front rest = option_map (λ bs. front ++ bs) rest

pub joined_nil : (rest : Option (List ℕ)) → joined [] rest ≡ rest
unfolding joined
joined_nil None = refl
joined_nil (Some bs) = refl

-- one byte more is in a buffer that is filled from the span
pub joined_more : (s : Storage) (at k m : ℕ) (buffer : List ℕ) → k < length buffer → is_some (byte_at s at) ≡ true → 0 < m
    → joined (take (k + 1) (slice_set buffer k (unwrap_or (byte_at s at) 0))) (span s (address_after at 1) (m - 1)) ≡ joined (take k buffer) (span s at m)
unfolding joined
joined_more s at k m buffer h e more =
    rw (span_more s at m more, take_more_set buffer k (unwrap_or (byte_at s at) 0) h) (at_byte (byte_at s at) (span s (address_after at 1) (m - 1)) (take k buffer) e)
  where
    at_byte : (o : Option ℕ) (rest : Option (List ℕ)) (front : List ℕ) → is_some o ≡ true
        → option_map (λ bs. (front ++ unwrap_or o 0 ∷ []) ++ bs) rest ≡ option_map (λ bs. front ++ bs) (option_and_then (λ b. option_map (λ bs. b ∷ bs) rest) o)
    at_byte None rest front e = cc
    at_byte (Some b) None front e = refl
    at_byte (Some b) (Some bs) front e = ap Some (append_assoc front (b ∷ []) bs)

pub joined_all : (s : Storage) (at k m : ℕ) (buffer : List ℕ) → length buffer ≤ k → m ≡ 0 → joined (take k buffer) (span s at m) ≡ Some buffer
unfolding joined span
joined_all s at k m buffer h e = rw (e, take_all k buffer h) (ap Some (append-nil buffer))
