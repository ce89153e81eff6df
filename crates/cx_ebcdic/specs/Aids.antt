-- Attention identifiers of a 3270 terminal (Introduction to the 3270, GA27-2739, "Attention Identification").
use Rattle.std.specs.Prelude.{ℕ, List, codes}
use Rattle.cx_ebcdic.specs.declared.aids.Aid.{Aid}
use Rattle.cx_ebcdic.specs.declared.aids.Aid.TheVariants.{Enter, Clear, Pa1, Pa2, Pf1, Pf2, Pf3, Pf4, Pf5, Pf6, Pf7, Pf8, Pf9, Pf10, Pf11, Pf12}

-- the key's name and the byte that the terminal sends for it
pub record Key : Type 0 where
  pub name : List ℕ
  pub code : ℕ

abbrev pub key : List ℕ → ℕ → Key
key name code = record { name = name; code = code }

abbrev pub key_of : Aid → Key
key_of Enter = key (codes "ENTER") 0x7D
key_of Clear = key (codes "CLEAR") 0x6D
key_of Pa1 = key (codes "PA1") 0x6C
key_of Pa2 = key (codes "PA2") 0x6E
key_of Pf1 = key (codes "PF1") 0xF1
key_of Pf2 = key (codes "PF2") 0xF2
key_of Pf3 = key (codes "PF3") 0xF3
key_of Pf4 = key (codes "PF4") 0xF4
key_of Pf5 = key (codes "PF5") 0xF5
key_of Pf6 = key (codes "PF6") 0xF6
key_of Pf7 = key (codes "PF7") 0xF7
key_of Pf8 = key (codes "PF8") 0xF8
key_of Pf9 = key (codes "PF9") 0xF9
key_of Pf10 = key (codes "PF10") 0x7A
key_of Pf11 = key (codes "PF11") 0x7B
key_of Pf12 = key (codes "PF12") 0x7C
