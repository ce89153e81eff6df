-- The EXEC interface block (Application Programmer's Reference Manual, SC33-0077, "EXEC Interface Block"; the layout is
-- this product's own).
use Rattle.std.specs.Prelude.{ℕ, ◌-◌, nat_lt, List, [], ◌∷◌, ◌++◌, Some, None, codes, if◌then◌else◌}
use Rattle.cx_base.specs.declared.eib.EibField.{EibField}
use Rattle.cx_base.specs.declared.eib.EibField.TheVariants.{Time, Date, Trnid, Taskn, Trmid, Calen, Aid, Fn, Rcode, Rsrce, Resp}
use Rattle.cx_base.specs.declared.eib.EibPiece.{EibPiece}
use Rattle.cx_base.specs.Layout.{Field, layout_field, field_end}

abbrev pub eib_len : ℕ
eib_len = 88

abbrev pub eib_field : EibField → Field
eib_field Time = layout_field (codes "EIBTIME") 0 4
eib_field Date = layout_field (codes "EIBDATE") 4 4
eib_field Trnid = layout_field (codes "EIBTRNID") 8 4
eib_field Taskn = layout_field (codes "EIBTASKN") 12 4
eib_field Trmid = layout_field (codes "EIBTRMID") 16 4
eib_field Calen = layout_field (codes "EIBCALEN") 24 2
eib_field Aid = layout_field (codes "EIBAID") 26 1
eib_field Fn = layout_field (codes "EIBFN") 27 2
eib_field Rcode = layout_field (codes "EIBRCODE") 29 6
eib_field Rsrce = layout_field (codes "EIBRSRCE") 51 8
eib_field Resp = layout_field (codes "EIBRESP") 76 4

-- the fields, in order
abbrev pub eib_fields : List EibField
eib_fields = Time ∷ Date ∷ Trnid ∷ Taskn ∷ Trmid ∷ Calen ∷ Aid ∷ Fn ∷ Rcode ∷ Rsrce ∷ Resp ∷ []

-- the bytes from one offset to another that no field names, where there are some
abbrev pub gap : ℕ → ℕ → List EibPiece
gap from to = if nat_lt from to then record { field = None; len = to - from } ∷ [] else []

-- fields with the gaps before, between and after them, from an offset to the end
abbrev pub eib_pieces_from : ℕ → List EibField → List EibPiece
eib_pieces_from from [] = gap from eib_len
eib_pieces_from from (f ∷ fs) =
    gap from (eib_field f).offset ++ record { field = Some f; len = (eib_field f).len }
    ∷ eib_pieces_from (field_end (eib_field f)) fs

-- the whole EIB, its fields and gaps in order
abbrev pub eib_pieces : List EibPiece
eib_pieces = eib_pieces_from 0 eib_fields
