use Rattle.cx_storage.proofs.PlaceLemmas.{misses_absent, absent_misses}
use Rattle.cx_storage.specs.Place.{CanPlace}
use Rattle.cx_storage.proofs.laws.place_is_free.Goals as goal

pub returns : goal.returns
unfolding CanPlace
returns c = λ s first last len b ok some. (
  λ can. (can.0, can.1, can.2, λ x low high. misses_absent s len b x can.3 low high),
  λ free. (free.0, free.1, free.2, absent_misses s len b some ok free.3),
)
