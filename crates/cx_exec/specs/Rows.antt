-- The effect of each instruction, by its operation code (GA22-7000, "General Instructions"). The last arm of each
-- format is not reached: no other row has the format, except EX, which is defined separately.
use Rattle.std.specs.Prelude.{ℕ, ◌+◌, ◌%◌, ◌^◌, [], ◌∷◌, Some}
use Rattle.byteorder.specs.Endian.{big_bytes}
use Rattle.cx_storage.specs.Word.{word_at}
use Rattle.cx_code.specs.declared.table.Op.{Op}
use Rattle.cx_code.specs.declared.table.Op.TheVariants as op
use Rattle.cx_code.specs.declared.instruction.Fields.{Fields}
use Rattle.cx_code.specs.declared.instruction.Fields.TheVariants.{Rr, Rx, Rs, Si, Ss, Ss2}
use Rattle.cx_code.specs.Spelling.{Instruction}
use Rattle.cx_exec.specs.declared.machine.Interruption.TheVariants as interruption
use Rattle.cx_exec.specs.declared.machine.Updated.{Updated}
use Rattle.cx_exec.specs.Machine.{Machine, reg, effective}
use Rattle.cx_exec.specs.Outcome.{Outcome, Completes, IsSuppressed}
use Rattle.cx_exec.specs.Operands.{extended_at, Stores}
use Rattle.cx_exec.specs.Results.{load_register}
use Rattle.cx_exec.specs.Branches.{branch_with_link, branch_on_count, branch_on_condition, branch_address}
use Rattle.cx_exec.specs.Loads.{Loads, Inserts, load_and_test}
use Rattle.cx_exec.specs.Arithmetic.{Adds, Subtracts, load_complement}
use Rattle.cx_exec.specs.Multiplication.{Multiplies}
use Rattle.cx_exec.specs.Division.{DividesPair}
use Rattle.cx_exec.specs.Comparison.{Compares, ComparesLogically, ComparesByte, ComparesStrings}
use Rattle.cx_exec.specs.Logic.{xored_register, AndsByte, OrsByte, TestsByte}
use Rattle.cx_exec.specs.Shifts.{amount, shifted_right, shifted_left, right_arithmetic, left_arithmetic, ShiftsPair}
use Rattle.cx_exec.specs.Registers.{LoadsRegisters, StoresRegisters}
use Rattle.cx_exec.specs.Masks.{IcmEffect, StcmEffect}
use Rattle.cx_exec.specs.Strings.{MvcEffect, XcEffect}
use Rattle.cx_exec.specs.Translation.{TrEffect, TrtEffect}
use Rattle.cx_exec.specs.Decimal.{CvbEffect, CvdEffect}
use Rattle.cx_exec.specs.Zoned.{PackEffect, UnpkEffect}

-- registers alone
unfoldable pub RrEffect : Op → ℕ → ℕ → Updated → Machine → Outcome → Machine → Type 0
RrEffect op.Balr r1 r2 updated m outcome after =
    Completes outcome after (branch_with_link r1 (branch_address m.regs r2 updated) updated m)
RrEffect op.Bctr r1 r2 updated m outcome after =
    Completes outcome after (branch_on_count r1 (branch_address m.regs r2 updated) updated m)
RrEffect op.Bcr mask r2 updated m outcome after =
    Completes outcome after (branch_on_condition mask (branch_address m.regs r2 updated) updated m)
RrEffect op.Ltr r1 r2 updated m outcome after = Completes outcome after (load_and_test r1 (reg m r2) updated m)
RrEffect op.Lcr r1 r2 updated m outcome after = Completes outcome after (load_complement r1 (reg m r2) updated m)
RrEffect op.Clr r1 r2 updated m outcome after = ComparesLogically r1 (Some (reg m r2)) updated m outcome after
RrEffect op.Xr r1 r2 updated m outcome after = Completes outcome after (xored_register r1 (reg m r2) updated m)
RrEffect op.Lr r1 r2 updated m outcome after = Loads r1 (Some (reg m r2)) updated m outcome after
RrEffect op.Cr r1 r2 updated m outcome after = Compares r1 (Some (reg m r2)) updated m outcome after
RrEffect op.Ar r1 r2 updated m outcome after = Adds r1 (Some (reg m r2)) updated m outcome after
RrEffect op.Sr r1 r2 updated m outcome after = Subtracts r1 (Some (reg m r2)) updated m outcome after
RrEffect op.Mr r1 r2 updated m outcome after = Multiplies r1 (Some (reg m r2)) updated m outcome after
RrEffect op.Dr r1 r2 updated m outcome after = DividesPair r1 (Some (reg m r2)) updated m outcome after
RrEffect _ r1 r2 updated m outcome after = IsSuppressed interruption.Operation m outcome after

-- a register, or a mask, and the second operand's address
unfoldable pub RxEffect : Op → ℕ → ℕ → Updated → Machine → Outcome → Machine → Type 0
RxEffect op.Sth r1 a updated m outcome after = Stores a (big_bytes 2 (reg m r1 % 2 ^ 16)) m.cc updated m outcome after
RxEffect op.La r1 a updated m outcome after = Completes outcome after (load_register r1 a updated m)
RxEffect op.Stc r1 a updated m outcome after = Stores a (reg m r1 % 2 ^ 8 ∷ []) m.cc updated m outcome after
RxEffect op.Ic r1 a updated m outcome after = Inserts r1 a updated m outcome after
RxEffect op.Bal r1 a updated m outcome after = Completes outcome after (branch_with_link r1 a updated m)
RxEffect op.Bct r1 a updated m outcome after = Completes outcome after (branch_on_count r1 a updated m)
RxEffect op.Bc mask a updated m outcome after = Completes outcome after (branch_on_condition mask a updated m)
RxEffect op.Lh r1 a updated m outcome after = Loads r1 (extended_at m.storage a) updated m outcome after
RxEffect op.Ch r1 a updated m outcome after = Compares r1 (extended_at m.storage a) updated m outcome after
RxEffect op.Ah r1 a updated m outcome after = Adds r1 (extended_at m.storage a) updated m outcome after
RxEffect op.Sh r1 a updated m outcome after = Subtracts r1 (extended_at m.storage a) updated m outcome after
RxEffect op.St r1 a updated m outcome after = Stores a (big_bytes 4 (reg m r1)) m.cc updated m outcome after
RxEffect op.Cl r1 a updated m outcome after = ComparesLogically r1 (word_at m.storage a) updated m outcome after
RxEffect op.L r1 a updated m outcome after = Loads r1 (word_at m.storage a) updated m outcome after
RxEffect op.C r1 a updated m outcome after = Compares r1 (word_at m.storage a) updated m outcome after
RxEffect op.A r1 a updated m outcome after = Adds r1 (word_at m.storage a) updated m outcome after
RxEffect op.S r1 a updated m outcome after = Subtracts r1 (word_at m.storage a) updated m outcome after
RxEffect op.M r1 a updated m outcome after = Multiplies r1 (word_at m.storage a) updated m outcome after
RxEffect op.D r1 a updated m outcome after = DividesPair r1 (word_at m.storage a) updated m outcome after
RxEffect op.Cvd r1 a updated m outcome after = CvdEffect r1 a updated m outcome after
RxEffect op.Cvb r1 a updated m outcome after = CvbEffect r1 a updated m outcome after
RxEffect _ r1 a updated m outcome after = IsSuppressed interruption.Operation m outcome after

-- one or two registers, or a register and a mask, and the second operand's address, which is a shift's amount
unfoldable pub RsEffect : Op → ℕ → ℕ → ℕ → Updated → Machine → Outcome → Machine → Type 0
RsEffect op.Srl r1 r3 a updated m outcome after =
    Completes outcome after (load_register r1 (shifted_right (reg m r1) (amount a)) updated m)
RsEffect op.Sll r1 r3 a updated m outcome after =
    Completes outcome after (load_register r1 (shifted_left (reg m r1) (amount a)) updated m)
RsEffect op.Sra r1 r3 a updated m outcome after = Completes outcome after (right_arithmetic r1 (amount a) updated m)
RsEffect op.Sla r1 r3 a updated m outcome after = Completes outcome after (left_arithmetic r1 (amount a) updated m)
RsEffect op.Srda r1 r3 a updated m outcome after = ShiftsPair r1 (amount a) updated m outcome after
RsEffect op.Stm r1 r3 a updated m outcome after = StoresRegisters r1 r3 a updated m outcome after
RsEffect op.Lm r1 r3 a updated m outcome after = LoadsRegisters r1 r3 a updated m outcome after
RsEffect op.Stcm r1 mask a updated m outcome after = StcmEffect r1 mask a updated m outcome after
RsEffect op.Icm r1 mask a updated m outcome after = IcmEffect r1 mask a updated m outcome after
RsEffect _ r1 r3 a updated m outcome after = IsSuppressed interruption.Operation m outcome after

-- an immediate byte, or a mask, and the first operand's address
unfoldable pub SiEffect : Op → ℕ → ℕ → Updated → Machine → Outcome → Machine → Type 0
SiEffect op.Tm mask a updated m outcome after = TestsByte mask a updated m outcome after
SiEffect op.Mvi i2 a updated m outcome after = Stores a (i2 ∷ []) m.cc updated m outcome after
SiEffect op.Ni i2 a updated m outcome after = AndsByte i2 a updated m outcome after
SiEffect op.Cli i2 a updated m outcome after = ComparesByte i2 a updated m outcome after
SiEffect op.Oi i2 a updated m outcome after = OrsByte i2 a updated m outcome after
SiEffect _ i2 a updated m outcome after = IsSuppressed interruption.Operation m outcome after

-- the number of bytes of both operands, and their addresses
unfoldable pub SsEffect : Op → ℕ → ℕ → ℕ → Updated → Machine → Outcome → Machine → Type 0
SsEffect op.Mvc n a1 a2 updated m outcome after = MvcEffect n a1 a2 updated m outcome after
SsEffect op.Clc n a1 a2 updated m outcome after = ComparesStrings n a1 a2 updated m outcome after
SsEffect op.Xc n a1 a2 updated m outcome after = XcEffect n a1 a2 updated m outcome after
SsEffect op.Tr n a1 a2 updated m outcome after = TrEffect n a1 a2 updated m outcome after
SsEffect op.Trt n a1 a2 updated m outcome after = TrtEffect n a1 a2 updated m outcome after
SsEffect _ n a1 a2 updated m outcome after = IsSuppressed interruption.Operation m outcome after

-- the number of bytes of each operand, and their addresses
unfoldable pub Ss2Effect : Op → ℕ → ℕ → ℕ → ℕ → Updated → Machine → Outcome → Machine → Type 0
Ss2Effect op.Pack n1 n2 a1 a2 updated m outcome after = PackEffect n1 n2 a1 a2 updated m outcome after
Ss2Effect op.Unpk n1 n2 a1 a2 updated m outcome after = UnpkEffect n1 n2 a1 a2 updated m outcome after
Ss2Effect _ n1 n2 a1 a2 updated m outcome after = IsSuppressed interruption.Operation m outcome after

-- every row except EX, with its operand's address formed before anything changes
abbrev pub EffectOf : Op → Fields → Updated → Machine → Outcome → Machine → Type 0
EffectOf op (Rr r1 r2) updated m outcome after = RrEffect op r1 r2 updated m outcome after
EffectOf op (Rx r1 x2 b2 d2) updated m outcome after =
    RxEffect op r1 (effective m.regs x2 b2 d2) updated m outcome after
EffectOf op (Rs r1 r3 b2 d2) updated m outcome after =
    RsEffect op r1 r3 (effective m.regs 0 b2 d2) updated m outcome after
EffectOf op (Si i2 b1 d1) updated m outcome after = SiEffect op i2 (effective m.regs 0 b1 d1) updated m outcome after
EffectOf op (Ss l b1 d1 b2 d2) updated m outcome after =
    SsEffect op (l + 1) (effective m.regs 0 b1 d1) (effective m.regs 0 b2 d2) updated m outcome after
EffectOf op (Ss2 l1 l2 b1 d1 b2 d2) updated m outcome after =
    Ss2Effect op (l1 + 1) (l2 + 1) (effective m.regs 0 b1 d1) (effective m.regs 0 b2 d2) updated m outcome after

unfoldable pub Effect : Instruction → Updated → Machine → Outcome → Machine → Type 0
Effect i updated m outcome after = EffectOf i.op i.fields updated m outcome after
