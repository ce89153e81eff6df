-- The table of instructions (Principles of Operation, GA22-7000: the description of each instruction, and its appendix
-- of instruction lists).
use Rattle.std.specs.Prelude.{ℕ, ◌/◌, List, [], ◌∷◌, Bool, true, false, codes, find, ◌==◌, Option, if◌then◌else◌}
use Rattle.std.specs.Str.{bytes_eq}
use Rattle.cx_code.specs.declared.table.Op.{Op}
use Rattle.cx_code.specs.declared.table.Op.TheVariants as op
use Rattle.cx_code.specs.declared.table.Format.{Format}
use Rattle.cx_code.specs.declared.table.Format.TheVariants as form

-- a row: the mnemonic, the operation code and the format
pub record Row : Type 0 where
  pub name : List ℕ
  pub code : ℕ
  pub format : Format

abbrev pub table_row : List ℕ → ℕ → Format → Row
table_row name code format = record { name = name; code = code; format = format }

unfoldable pub operation_row : Op → Row
operation_row op.Balr = table_row (codes "BALR") 0x05 form.Rr
operation_row op.Bctr = table_row (codes "BCTR") 0x06 form.Rr
operation_row op.Bcr = table_row (codes "BCR") 0x07 form.Rr
operation_row op.Ltr = table_row (codes "LTR") 0x12 form.Rr
operation_row op.Lcr = table_row (codes "LCR") 0x13 form.Rr
operation_row op.Clr = table_row (codes "CLR") 0x15 form.Rr
operation_row op.Xr = table_row (codes "XR") 0x17 form.Rr
operation_row op.Lr = table_row (codes "LR") 0x18 form.Rr
operation_row op.Cr = table_row (codes "CR") 0x19 form.Rr
operation_row op.Ar = table_row (codes "AR") 0x1A form.Rr
operation_row op.Sr = table_row (codes "SR") 0x1B form.Rr
operation_row op.Mr = table_row (codes "MR") 0x1C form.Rr
operation_row op.Dr = table_row (codes "DR") 0x1D form.Rr
operation_row op.Sth = table_row (codes "STH") 0x40 form.Rx
operation_row op.La = table_row (codes "LA") 0x41 form.Rx
operation_row op.Stc = table_row (codes "STC") 0x42 form.Rx
operation_row op.Ic = table_row (codes "IC") 0x43 form.Rx
operation_row op.Ex = table_row (codes "EX") 0x44 form.Rx
operation_row op.Bal = table_row (codes "BAL") 0x45 form.Rx
operation_row op.Bct = table_row (codes "BCT") 0x46 form.Rx
operation_row op.Bc = table_row (codes "BC") 0x47 form.Rx
operation_row op.Lh = table_row (codes "LH") 0x48 form.Rx
operation_row op.Ch = table_row (codes "CH") 0x49 form.Rx
operation_row op.Ah = table_row (codes "AH") 0x4A form.Rx
operation_row op.Sh = table_row (codes "SH") 0x4B form.Rx
operation_row op.Cvd = table_row (codes "CVD") 0x4E form.Rx
operation_row op.Cvb = table_row (codes "CVB") 0x4F form.Rx
operation_row op.St = table_row (codes "ST") 0x50 form.Rx
operation_row op.Cl = table_row (codes "CL") 0x55 form.Rx
operation_row op.L = table_row (codes "L") 0x58 form.Rx
operation_row op.C = table_row (codes "C") 0x59 form.Rx
operation_row op.A = table_row (codes "A") 0x5A form.Rx
operation_row op.S = table_row (codes "S") 0x5B form.Rx
operation_row op.M = table_row (codes "M") 0x5C form.Rx
operation_row op.D = table_row (codes "D") 0x5D form.Rx
operation_row op.Srl = table_row (codes "SRL") 0x88 form.Rs
operation_row op.Sll = table_row (codes "SLL") 0x89 form.Rs
operation_row op.Sra = table_row (codes "SRA") 0x8A form.Rs
operation_row op.Sla = table_row (codes "SLA") 0x8B form.Rs
operation_row op.Srda = table_row (codes "SRDA") 0x8E form.Rs
operation_row op.Stm = table_row (codes "STM") 0x90 form.Rs
operation_row op.Tm = table_row (codes "TM") 0x91 form.Si
operation_row op.Mvi = table_row (codes "MVI") 0x92 form.Si
operation_row op.Ni = table_row (codes "NI") 0x94 form.Si
operation_row op.Cli = table_row (codes "CLI") 0x95 form.Si
operation_row op.Oi = table_row (codes "OI") 0x96 form.Si
operation_row op.Lm = table_row (codes "LM") 0x98 form.Rs
operation_row op.Stcm = table_row (codes "STCM") 0xBE form.Rs
operation_row op.Icm = table_row (codes "ICM") 0xBF form.Rs
operation_row op.Mvc = table_row (codes "MVC") 0xD2 form.Ss
operation_row op.Clc = table_row (codes "CLC") 0xD5 form.Ss
operation_row op.Xc = table_row (codes "XC") 0xD7 form.Ss
operation_row op.Tr = table_row (codes "TR") 0xDC form.Ss
operation_row op.Trt = table_row (codes "TRT") 0xDD form.Ss
operation_row op.Pack = table_row (codes "PACK") 0xF2 form.Ss2
operation_row op.Unpk = table_row (codes "UNPK") 0xF3 form.Ss2

abbrev pub mnemonic_of : Op → List ℕ
mnemonic_of op = (operation_row op).name

abbrev pub code_of : Op → ℕ
code_of op = (operation_row op).code

abbrev pub format_of : Op → Format
format_of op = (operation_row op).format

-- every row once, in the order of the codes
unfoldable pub ops : List Op
ops =
    op.Balr ∷ op.Bctr ∷ op.Bcr ∷ op.Ltr ∷ op.Lcr ∷ op.Clr ∷ op.Xr ∷ op.Lr ∷ op.Cr ∷ op.Ar ∷ op.Sr ∷ op.Mr ∷ op.Dr ∷
    op.Sth ∷ op.La ∷ op.Stc ∷ op.Ic ∷ op.Ex ∷ op.Bal ∷ op.Bct ∷ op.Bc ∷ op.Lh ∷ op.Ch ∷ op.Ah ∷ op.Sh ∷ op.Cvd ∷
    op.Cvb ∷ op.St ∷ op.Cl ∷ op.L ∷ op.C ∷ op.A ∷ op.S ∷ op.M ∷ op.D ∷ op.Srl ∷ op.Sll ∷ op.Sra ∷ op.Sla ∷ op.Srda ∷
    op.Stm ∷ op.Tm ∷ op.Mvi ∷ op.Ni ∷ op.Cli ∷ op.Oi ∷ op.Lm ∷ op.Stcm ∷ op.Icm ∷ op.Mvc ∷ op.Clc ∷ op.Xc ∷ op.Tr ∷
    op.Trt ∷ op.Pack ∷ op.Unpk ∷ []

-- the instruction that has this operation code
unfoldable pub op_at : ℕ → Option Op
op_at code = find (λ op. code_of op == code) ops

-- the instruction that has this mnemonic
unfoldable pub op_named : List ℕ → Option Op
op_named name = find (λ op. bytes_eq (mnemonic_of op) name) ops

-- the shifts, which ignore the R3 field (GA22-7000, "Shift Left Single" and the other shifts)
unfoldable pub is_shift : Op → Bool
is_shift op.Srl = true
is_shift op.Sll = true
is_shift op.Sra = true
is_shift op.Sla = true
is_shift op.Srda = true
is_shift _ = false

-- the rows that store into their operand in storage; EX isn't one of them: it does as its target does
abbrev pub stores : Op → Bool
stores op.Sth = true
stores op.Stc = true
stores op.St = true
stores op.Cvd = true
stores op.Stm = true
stores op.Stcm = true
stores op.Mvi = true
stores op.Ni = true
stores op.Oi = true
stores op.Mvc = true
stores op.Xc = true
stores op.Tr = true
stores op.Pack = true
stores op.Unpk = true
stores _ = false

-- the length by the first two bits of the operation code: 00 is two bytes, 01 and 10 are four, 11 is six (GA22-7000,
-- "Instruction Formats")
abbrev pub length_of_code : ℕ → ℕ
length_of_code code = if code / 64 == 0 then 2 else (if code / 64 == 3 then 6 else 4)

-- the length by the format
abbrev pub length_of_format : Format → ℕ
length_of_format form.Rr = 2
length_of_format form.Rx = 4
length_of_format form.Rs = 4
length_of_format form.Si = 4
length_of_format form.Ss = 6
length_of_format form.Ss2 = 6

abbrev pub length_of : Op → ℕ
length_of op = length_of_format (format_of op)
