-- Values that are shared (this product's own).
use Rattle.std.specs.Prelude.{List, map}
use Rattle.std.specs.Global.{Global}
use Rattle.std.specs.declared.rc.Rc.{Rc}

-- the values that are shared
abbrev pub values : {X : Type 0} → List (Rc X Global) → List X
values shared = map (λ one. one.value) shared
