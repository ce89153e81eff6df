use Rattle.cx_storage.proofs.PlaceLemmas.{place_of_areas}
use Rattle.cx_storage.specs.Facts.Places.{place_decides}
use Rattle.cx_storage.proofs.laws.place_decides.Goals as goal

pub returns : goal.returns
returns c = λ s t first last len r q same p w. place_decides t first last len r q (place_of_areas s t first last len r same p) w
