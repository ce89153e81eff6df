-- What a refused load of a program is answered.
use Rattle.std.specs.Prelude.{ℕ, None}
use Rattle.cx_storage.specs.Storage.{Storage}
use Rattle.cx_load.specs.Program.{IsProgramPlace}
use Rattle.cx_region.specs.declared.replies.DefineFault.{DefineFault}
use Rattle.cx_region.specs.declared.replies.DefineFault.TheVariants.{Memory, NoRoom}

-- loading is refused: storage has no place, or it has one and an allocation failed
abbrev pub MatchLoadRefusal : Storage → ℕ → DefineFault → Type 0
MatchLoadRefusal storage len NoRoom = IsProgramPlace storage len None
MatchLoadRefusal storage len Memory = IsProgramPlace storage len None → ⊥
MatchLoadRefusal storage len _ = ⊥
