-- The abend codes that the region makes, beside those of the conditions: ASRA, AICA and the question marks are CICS's
-- customary ones, those with X are this product's own.
use Rattle.std.specs.Prelude.{ℕ, Option, List, [], codes, map, unwrap_or}
use Rattle.cx_ebcdic.specs.Lookup.{each_some}
use Rattle.cx_ebcdic.specs.Characters.{code_of}
use Rattle.cx_base.specs.declared.abends.Abend.{Abend}
use Rattle.cx_base.specs.declared.abends.Abend.TheVariants.{Asra, Aica, Xarg, Xfun, Xlvl, Xstg, Xedf, Unnamed}

-- a code's four characters; ABEND without ABCODE has question marks
abbrev pub abend_name : Abend → List ℕ
abend_name Asra = codes "ASRA"
abend_name Aica = codes "AICA"
abend_name Xarg = codes "XARG"
abend_name Xfun = codes "XFUN"
abend_name Xlvl = codes "XLVL"
abend_name Xstg = codes "XSTG"
abend_name Xedf = codes "XEDF"
abend_name Unnamed = codes "????"

-- the code as it is in storage
unfoldable pub abend_bytes : Abend → Option (List ℕ)
abend_bytes abend = each_some (map code_of (abend_name abend))

-- the same, since each of its characters has a code
abbrev pub abend_code : Abend → List ℕ
abend_code abend = unwrap_or (abend_bytes abend) []
