-- Levels that end one after another.
use Rattle.std.proofs.Common.{◌≡◌, ℕ, zero, suc, ◌+◌, ◌-◌, ◌<◌, ap, List, [], ◌∷◌, length, refl, ◌∙◌, arith}
use Rattle.cx_storage.specs.Storage.{Storage, starts_elsewhere, with_areas_kept}
use Rattle.cx_storage.specs.Address.{address_in}
use Rattle.cx_program.specs.declared.level.Level.{Level}
use Rattle.cx_region_task.specs.Abends.{unwound}

pub unwound_step : (n : ℕ) (callers rest : List Level) (current above : Level) (storage after : Storage) → 0 < n → callers ≡ above ∷ rest
    → after ≡ with_areas_kept (starts_elsewhere (address_in current.stg)) storage
    → unwound (n - 1) rest above after ≡ unwound n callers current storage
unfolding unwound
unwound_step zero callers rest current above storage after some e is = absurd (omega arith)
unwound_step (suc n) [] rest current above storage after some e is = cc
unwound_step (suc n) (caller ∷ callers) rest current above storage after some e is =
    let less : suc n - 1 ≡ n = omega arith in
    let first : caller ≡ above = cc in
    let others : callers ≡ rest = cc in
    rw (less, is, first, others) refl

pub unwound_end : (n : ℕ) (callers : List Level) (current : Level) (storage : Storage) → length callers ≡ 0
    → unwound n callers current storage ≡ record { levels = record { callers = callers; current = current }; storage = storage }
unfolding unwound
unwound_end zero callers current storage e = refl
unwound_end (suc n) [] current storage e = refl
unwound_end (suc n) (caller ∷ callers) current storage e = absurd (omega (arith, e))

pub unwound_none : (n : ℕ) (callers : List Level) (current : Level) (storage : Storage) → n ≡ 0
    → unwound n callers current storage ≡ record { levels = record { callers = callers; current = current }; storage = storage }
unfolding unwound
unwound_none zero callers current storage e = refl
unwound_none (suc n) callers current storage e = absurd (omega (arith, e))

pub unwound_more : (count k : ℕ) (callers rest : List Level) (current level above : Level) (storage after : Storage) → k < count → callers ≡ above ∷ rest
    → level ≡ current → after ≡ with_areas_kept (starts_elsewhere (address_in level.stg)) storage
    → unwound (count - (k + 1)) rest above after ≡ unwound (count - k) callers current storage
unwound_more count k callers rest current level above storage after below e is freed =
    let less : count - (k + 1) ≡ count - k - 1 = omega arith in
    let some : 0 < count - k = omega arith in
    let gone : after ≡ with_areas_kept (starts_elsewhere (address_in current.stg)) storage = freed ∙ ap (λ (l : Level). with_areas_kept (starts_elsewhere (address_in l.stg)) storage) is in
    rw less (unwound_step (count - k) callers rest current above storage after some e gone)
