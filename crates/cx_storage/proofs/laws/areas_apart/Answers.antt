use Rattle.std.proofs.Common.{arith}
use Rattle.cx_storage.proofs.AreaLemmas.{areas_apart, area_whole}
use Rattle.cx_storage.proofs.laws.areas_apart.Goals as goal

pub returns : goal.returns
returns c = λ s i j d ok before within. (area_whole s i d ok (omega arith), area_whole s j d ok within, areas_apart s i j d ok before within)
