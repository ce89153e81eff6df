-- The head of a program's DFHEISTG: what comes before the program's own fields (this product's own).
use Rattle.std.specs.Prelude.{ℕ, List, [], ◌∷◌, codes}
use Rattle.cx_base.specs.declared.eistg.EistgField.{EistgField}
use Rattle.cx_base.specs.declared.eistg.EistgField.TheVariants.{Eipl, Eitp, Eicap}
use Rattle.cx_base.specs.Layout.{Field, layout_field}

-- the offset of the program's own fields
abbrev pub eistg_head : ℕ
eistg_head = 80

-- the eighteen words of an argument list, a word for a pointer that a command answers, and the COMMAREA's address
abbrev pub eistg_field : EistgField → Field
eistg_field Eipl = layout_field (codes "DFHEIPL") 0 72
eistg_field Eitp = layout_field (codes "DFHEITP") 72 4
eistg_field Eicap = layout_field (codes "DFHEICAP") 76 4

-- the fields, in order
abbrev pub eistg_fields : List EistgField
eistg_fields = Eipl ∷ Eitp ∷ Eicap ∷ []
