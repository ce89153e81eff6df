-- What holds of the layouts of the EIB and of DFHEISTG's head.
use Rattle.std.specs.Prelude.{ℕ, Bool, ◌&&◌, nat_le, List, [], ◌∷◌}
use Rattle.cx_base.specs.Layout.{Field, field_end}

-- each field begins where the one before it ends or later, the first at an offset or later, and the last ends at a
-- second offset or before it
abbrev pub lie_in_order : ℕ → List Field → ℕ → Bool
lie_in_order from [] to = nat_le from to
lie_in_order from (f ∷ fs) to = nat_le from f.offset && lie_in_order (field_end f) fs to
