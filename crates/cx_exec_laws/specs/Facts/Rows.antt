-- Every row's effect has one outcome, keeps the areas of storage, and is interrupted as it should be.
use Rattle.std.proofs.Common.{◌≡◌, ℕ, ◌+◌, false, Option, Some, None, Ok, Err, List, length, slice_set, refl, sym, ◌∙◌, ap, ◌⊎◌, inl, inr, ℤ}
use Rattle.cx_code.specs.declared.table.Op.{Op}
use Rattle.cx_code.specs.declared.table.Op.TheVariants as op
use Rattle.cx_code.specs.declared.table.Format.TheVariants as form
use Rattle.cx_code.specs.declared.instruction.Fields.{Fields}
use Rattle.cx_code.specs.declared.instruction.Fields.TheVariants.{Rr, Rx, Rs, Si, Ss, Ss2}
use Rattle.cx_code.specs.Table.{operation_row, format_of}
use Rattle.cx_code.specs.Spelling.{Instruction, instruction, format_with}
use Rattle.cx_storage.specs.Storage.{byte_at, areas_of, span}
use Rattle.cx_storage.specs.Word.{word_at}
use Rattle.cx_storage.specs.Facts.Writes.{areas_after_write}
use Rattle.cx_storage.specs.Word.{word_at}
use Rattle.cx_exec.specs.declared.machine.Interruption.{Interruption}
use Rattle.cx_exec.specs.declared.machine.Interruption.TheVariants as interruption
use Rattle.cx_exec.specs.declared.machine.Updated.{Updated}
use Rattle.cx_exec.specs.Machine.{Machine, reg, effective}
use Rattle.cx_exec.specs.Numbers.{signed_double, signed_word, word_of}
use Rattle.cx_exec.specs.Results.{pair}
use Rattle.cx_exec.specs.Outcome.{Outcome, Completes}
use Rattle.cx_exec.specs.Operands.{extended_at, IfPresent, Stores}
use Rattle.cx_exec.specs.Division.{DividesRegisters, IsDivision}
use Rattle.cx_exec.specs.Registers.{words_at, LoadsRegisters}
use Rattle.cx_exec.specs.Strings.{MvcEffect, XcEffect}
use Rattle.cx_exec.specs.Comparison.{ComparesStrings}
use Rattle.cx_exec.specs.Translation.{table_byte, first_found, found_at, Finds, HasTable, TrEffect, TrtEffect}
use Rattle.cx_exec.specs.Zoned.{PackEffect, UnpkEffect}
use Rattle.cx_exec.specs.Decimal.{IsReadAs, Converts, CvbEffect, CvdEffect}
use Rattle.cx_exec.specs.Masks.{IcmEffect, StcmEffect}
use Rattle.cx_exec.specs.Rows.{RrEffect, RxEffect, RsEffect, SiEffect, SsEffect, Ss2Effect, EffectOf, Effect}
use Rattle.cx_exec.specs.Step.{is_execute}
use Rattle.cx_exec_laws.specs.Laws.Areas.{SameAreas}
use Rattle.cx_exec.specs.Laws.Numbers.{DivisionIsOne}
use Rattle.cx_exec_laws.specs.Facts.Found.{division_or_not, read_as_number, table_or_not}
use Rattle.cx_exec_laws.specs.Facts.Effects.{Ends, IsEffect, goes, changed, stops, when_option, when_present, when_even, when_bool, for_one, weaken}

loads : {unknown : Type 0} {aside : Interruption → Machine → Type 0} (operand : Option ℕ) (m : Machine) (left : ℕ → Machine) → ((x : ℕ) → SameAreas m (left x))
    → IsEffect unknown aside m (λ o a. IfPresent operand m o a (λ x. Completes o a (left x)))
loads operand m left same = when_present operand m (λ x o a. Completes o a (left x)) (λ x. goes m (left x) (same x))

stored : {unknown : Type 0} {aside : Interruption → Machine → Type 0} (a : ℕ) (bytes : List ℕ) (cc : ℕ) (updated : Updated) (m : Machine) → IsEffect unknown aside m (Stores a bytes cc updated m)
unfolding Stores
stored a bytes code updated m = when_present (span m.storage a (length bytes)) m _ (λ x. goes m _ (areas_after_write m.storage a bytes))

divided_once : DivisionIsOne → (r divisor : ℕ) (updated : Updated) (m : Machine) (o p : Outcome) (a b : Machine) → DividesRegisters r divisor updated m o a → DividesRegisters r divisor updated m p b
    → (o ≡ p) × (a ≡ b)
unfolding DividesRegisters
divided_once one r divisor updated m (Ok u) (Ok v) a b h k =
    let same = one _ _ h.0 h.1 k.0 k.1 h.2 k.2 in
    let quotient = same.0 in
    let remainder = same.1 in
    (refl, h.3 ∙ ap (λ (x : ℤ). halves x h.1) quotient ∙ ap (λ (x : ℤ). halves k.0 x) remainder ∙ sym k.3)
  where
    halves : ℤ → ℤ → Machine
    halves quotient remainder = record m { regs = slice_set (slice_set m.regs r (word_of remainder)) (r + 1) (word_of quotient); next = updated.address }
divided_once one r divisor updated m (Ok u) (Err d) a b h k = absurd (k.0 h.0 h.1 h.2)
divided_once one r divisor updated m (Err c) (Ok v) a b h k = absurd (h.0 k.0 k.1 k.2)
divided_once one r divisor updated m (Err c) (Err d) a b h k = (ap Err (h.1 ∙ sym k.1), h.2 ∙ sym k.2)

divided_keeps : (r divisor : ℕ) (updated : Updated) (m : Machine) (o : Outcome) (a : Machine) → DividesRegisters r divisor updated m o a → SameAreas m a
unfolding DividesRegisters
divided_keeps r divisor updated m (Ok u) a h = ap (λ (x : Machine). areas_of x.storage) h.3
divided_keeps r divisor updated m (Err cause) a h = ap (λ (x : Machine). areas_of x.storage) h.2

divides_ends : (r divisor : ℕ) (updated : Updated) (m : Machine) → Ends (DividesRegisters r divisor updated m)
unfolding DividesRegisters
divides_ends r divisor updated m = go (division_or_not (signed_double (pair m.regs r)) (signed_word divisor))
  where
    go : ((q : ℤ) × (rest : ℤ) × IsDivision (signed_double (pair m.regs r)) (signed_word divisor) q rest) ⊎ ((q rest : ℤ) → IsDivision (signed_double (pair m.regs r)) (signed_word divisor) q rest → ⊥)
        → Ends (DividesRegisters r divisor updated m)
    go (inl found) = (Ok tt, _, (found.0, found.1, found.2, refl))
    go (inr none) = (Err interruption.FixedPointDivide, m, (none, refl, refl))

divided : {unknown : Type 0} {aside : Interruption → Machine → Type 0} (r divisor : ℕ) (updated : Updated) (m : Machine) → IsEffect unknown aside m (DividesRegisters r divisor updated m)
unfolding DividesRegisters
divided r divisor updated m = record {
  ends = divides_ends r divisor updated m;
  decides = λ one. divided_once one r divisor updated m;
  keeps = divided_keeps r divisor updated m;
  left = λ cause a h. inl h.2;
  known = λ a h. let e = h.1 in cc;
}

rr : {aside : Interruption → Machine → Type 0} (row : Op) (r1 r2 : ℕ) (updated : Updated) (m : Machine) → IsEffect (format_of row ≡ form.Rr → ⊥) aside m (RrEffect row r1 r2 updated m)
unfolding RrEffect operation_row
rr op.Balr r1 r2 updated m = goes m _ refl
rr op.Bctr r1 r2 updated m = goes m _ refl
rr op.Bcr r1 r2 updated m = goes m _ refl
rr op.Ltr r1 r2 updated m = goes m _ refl
rr op.Lcr r1 r2 updated m = goes m _ refl
rr op.Clr r1 r2 updated m = goes m _ refl
rr op.Xr r1 r2 updated m = goes m _ refl
rr op.Lr r1 r2 updated m = goes m _ refl
rr op.Cr r1 r2 updated m = goes m _ refl
rr op.Ar r1 r2 updated m = goes m _ refl
rr op.Sr r1 r2 updated m = goes m _ refl
rr op.Mr r1 r2 updated m = when_even r1 m _ (goes m _ refl)
rr op.Dr r1 r2 updated m = when_even r1 m _ (divided r1 (reg m r2) updated m)
rr _ r1 r2 updated m = stops interruption.Operation m (λ e f. cc)

-- the register of a CVB is changed
abbrev IsConverted : Op → ℕ → Machine → Interruption → Machine → Type 0
IsConverted row r1 m cause after =
    (row ≡ op.Cvb) × (cause ≡ interruption.FixedPointDivide) × ((word : ℕ) × (after ≡ record m { regs = slice_set m.regs r1 word }))

converts : {unknown : Type 0} (r1 : ℕ) (number : ℤ) (updated : Updated) (m : Machine) → IsEffect unknown (IsConverted op.Cvb r1 m) m (Converts r1 number updated m)
unfolding Converts
converts r1 number updated m = when_bool _ m _ _ (goes m _ refl) (changed interruption.FixedPointDivide m _ refl (λ e. cc) (λ c a e f. inr (refl, e, (_, f))))

readings_alike : (bytes : List ℕ) (x y : Option ℤ) → IsReadAs bytes x → IsReadAs bytes y → x ≡ y
unfolding IsReadAs
readings_alike bytes None None h k = refl
readings_alike bytes None (Some y) h k = absurd (h k.0)
readings_alike bytes (Some x) None h k = absurd (k h.0)
readings_alike bytes (Some x) (Some y) h k = ap Some (h.1 ∙ sym k.1)

cvb : {unknown : Type 0} (r1 a : ℕ) (updated : Updated) (m : Machine) → IsEffect unknown (IsConverted op.Cvb r1 m) m (CvbEffect r1 a updated m)
unfolding CvbEffect
cvb r1 a updated m =
    when_present (span m.storage a 8) m _
    (λ bytes. for_one m _ _ (read_as_number bytes) (readings_alike bytes) (λ number. when_option number interruption.Data m _ (λ e. cc) (λ z. converts r1 z updated m)))

rx : (row : Op) (r1 a : ℕ) (updated : Updated) (m : Machine)
    → IsEffect (format_of row ≡ form.Rx → is_execute row ≡ false → ⊥) (IsConverted row r1 m) m (RxEffect row r1 a updated m)
unfolding RxEffect CvdEffect operation_row
rx op.Sth r1 a updated m = stored a _ _ updated m
rx op.La r1 a updated m = goes m _ refl
rx op.Stc r1 a updated m = stored a _ _ updated m
rx op.Ic r1 a updated m = loads (byte_at m.storage a) m _ (λ x. refl)
rx op.Bal r1 a updated m = goes m _ refl
rx op.Bct r1 a updated m = goes m _ refl
rx op.Bc r1 a updated m = goes m _ refl
rx op.Lh r1 a updated m = loads (extended_at m.storage a) m _ (λ x. refl)
rx op.Ch r1 a updated m = loads (extended_at m.storage a) m _ (λ x. refl)
rx op.Ah r1 a updated m = loads (extended_at m.storage a) m _ (λ x. refl)
rx op.Sh r1 a updated m = loads (extended_at m.storage a) m _ (λ x. refl)
rx op.St r1 a updated m = stored a _ _ updated m
rx op.Cl r1 a updated m = loads (word_at m.storage a) m _ (λ x. refl)
rx op.L r1 a updated m = loads (word_at m.storage a) m _ (λ x. refl)
rx op.C r1 a updated m = loads (word_at m.storage a) m _ (λ x. refl)
rx op.A r1 a updated m = loads (word_at m.storage a) m _ (λ x. refl)
rx op.S r1 a updated m = loads (word_at m.storage a) m _ (λ x. refl)
rx op.M r1 a updated m = when_even r1 m _ (loads (word_at m.storage a) m _ (λ x. refl))
rx op.D r1 a updated m = when_even r1 m _ (when_present (word_at m.storage a) m _ (λ word. divided r1 word updated m))
rx op.Cvd r1 a updated m = stored a _ _ updated m
rx op.Cvb r1 a updated m = cvb r1 a updated m
rx _ r1 a updated m = stops interruption.Operation m (λ e f g. cc)

rs : {aside : Interruption → Machine → Type 0} (row : Op) (r1 r3 a : ℕ) (updated : Updated) (m : Machine)
    → IsEffect (format_of row ≡ form.Rs → ⊥) aside m (RsEffect row r1 r3 a updated m)
unfolding RsEffect LoadsRegisters StcmEffect IcmEffect operation_row
rs op.Srl r1 r3 a updated m = goes m _ refl
rs op.Sll r1 r3 a updated m = goes m _ refl
rs op.Sra r1 r3 a updated m = goes m _ refl
rs op.Sla r1 r3 a updated m = goes m _ refl
rs op.Srda r1 r3 a updated m = when_even r1 m _ (goes m _ refl)
rs op.Stm r1 r3 a updated m = stored a _ _ updated m
rs op.Lm r1 r3 a updated m = when_present (words_at m.storage a _) m _ (λ words. goes m _ refl)
rs op.Stcm r1 mask a updated m = stored a _ _ updated m
rs op.Icm r1 mask a updated m = when_present (span m.storage a _) m _ (λ bytes. goes m _ refl)
rs _ r1 r3 a updated m = stops interruption.Operation m (λ e f. cc)

si : {aside : Interruption → Machine → Type 0} (row : Op) (i2 a : ℕ) (updated : Updated) (m : Machine) → IsEffect (format_of row ≡ form.Si → ⊥) aside m (SiEffect row i2 a updated m)
unfolding SiEffect operation_row
si op.Tm i2 a updated m = loads (byte_at m.storage a) m _ (λ x. refl)
si op.Mvi i2 a updated m = stored a _ _ updated m
si op.Ni i2 a updated m = when_present (byte_at m.storage a) m _ (λ byte. stored a _ _ updated m)
si op.Cli i2 a updated m = loads (byte_at m.storage a) m _ (λ x. refl)
si op.Oi i2 a updated m = when_present (byte_at m.storage a) m _ (λ byte. stored a _ _ updated m)
si _ i2 a updated m = stops interruption.Operation m (λ e f. cc)

tr_once : (n a1 a2 : ℕ) (updated : Updated) (m : Machine) (o p : Outcome) (a b : Machine) → TrEffect n a1 a2 updated m o a → TrEffect n a1 a2 updated m p b → (o ≡ p) × (a ≡ b)
unfolding TrEffect
tr_once n a1 a2 updated m (Ok u) (Ok v) a b h k = (refl, h.1 ∙ sym k.1)
tr_once n a1 a2 updated m (Ok u) (Err d) a b h k = absurd (k.0 h.0)
tr_once n a1 a2 updated m (Err c) (Ok v) a b h k = absurd (h.0 k.0)
tr_once n a1 a2 updated m (Err c) (Err d) a b h k = (ap Err (h.1 ∙ sym k.1), h.2 ∙ sym k.2)

tr_keeps : (n a1 a2 : ℕ) (updated : Updated) (m : Machine) (o : Outcome) (a : Machine) → TrEffect n a1 a2 updated m o a → SameAreas m a
unfolding TrEffect
tr_keeps n a1 a2 updated m (Ok u) a h = ap (λ (x : Machine). areas_of x.storage) h.1 ∙ areas_after_write m.storage a1 _
tr_keeps n a1 a2 updated m (Err cause) a h = ap (λ (x : Machine). areas_of x.storage) h.2

tr_ends : (n a1 a2 : ℕ) (updated : Updated) (m : Machine) → Ends (TrEffect n a1 a2 updated m)
unfolding TrEffect
tr_ends n a1 a2 updated m = go (table_or_not m.storage n a1 a2)
  where
    go : HasTable m.storage n a1 a2 ⊎ (HasTable m.storage n a1 a2 → ⊥) → Ends (TrEffect n a1 a2 updated m)
    go (inl has) = (Ok tt, _, (has, refl))
    go (inr never) = (Err interruption.Addressing, m, (never, refl, refl))

tr : {unknown : Type 0} {aside : Interruption → Machine → Type 0} (n a1 a2 : ℕ) (updated : Updated) (m : Machine) → IsEffect unknown aside m (TrEffect n a1 a2 updated m)
unfolding TrEffect
tr n a1 a2 updated m = record {
  ends = tr_ends n a1 a2 updated m;
  decides = λ one. tr_once n a1 a2 updated m;
  keeps = tr_keeps n a1 a2 updated m;
  left = λ cause a h. inl h.2;
  known = λ a h. let e = h.1 in cc;
}

finds : {unknown : Type 0} {aside : Interruption → Machine → Type 0} (n a1 a2 : ℕ) (updated : Updated) (m : Machine) (place : Option ℕ) → IsEffect unknown aside m (λ o a. Finds n a1 a2 updated m o a place)
unfolding Finds found_at
finds n a1 a2 updated m None = goes m _ refl
finds n a1 a2 updated m (Some k) = when_present (table_byte m.storage a1 a2 k) m (λ byte o a. Completes o a (found_at n a1 k byte updated m)) (λ byte. goes m _ refl)

ss : {aside : Interruption → Machine → Type 0} (row : Op) (n a1 a2 : ℕ) (updated : Updated) (m : Machine)
    → IsEffect (format_of row ≡ form.Ss → ⊥) aside m (SsEffect row n a1 a2 updated m)
unfolding SsEffect MvcEffect ComparesStrings XcEffect TrtEffect operation_row
ss op.Mvc n a1 a2 updated m = when_present (span m.storage a2 n) m _ (λ x. stored a1 _ _ updated m)
ss op.Clc n a1 a2 updated m = when_present (span m.storage a1 n) m _ (λ x. when_present (span m.storage a2 n) m _ (λ y. goes m _ refl))
ss op.Xc n a1 a2 updated m = when_present (span m.storage a2 n) m _ (λ x. stored a1 _ _ updated m)
ss op.Tr n a1 a2 updated m = tr n a1 a2 updated m
ss op.Trt n a1 a2 updated m = when_present (span m.storage a1 n) m _ (λ x. finds n a1 a2 updated m (first_found m.storage n a1 a2))
ss _ n a1 a2 updated m = stops interruption.Operation m (λ e f. cc)

ss2 : {aside : Interruption → Machine → Type 0} (row : Op) (n1 n2 a1 a2 : ℕ) (updated : Updated) (m : Machine)
    → IsEffect (format_of row ≡ form.Ss2 → ⊥) aside m (Ss2Effect row n1 n2 a1 a2 updated m)
unfolding Ss2Effect PackEffect UnpkEffect operation_row
ss2 op.Pack n1 n2 a1 a2 updated m = when_present (span m.storage a2 n2) m _ (λ x. stored a1 _ _ updated m)
ss2 op.Unpk n1 n2 a1 a2 updated m = when_present (span m.storage a2 n2) m _ (λ x. stored a1 _ _ updated m)
ss2 _ n1 n2 a1 a2 updated m = stops interruption.Operation m (λ e f. cc)

-- an instruction that is a CVB, interrupted by 9, has changed its register
abbrev pub IsConvertedBy : Instruction → Machine → Interruption → Machine → Type 0
IsConvertedBy i m cause after =
    (r1 x2 b2 d2 : ℕ) × (i ≡ instruction op.Cvb (Rx r1 x2 b2 d2)) × (cause ≡ interruption.FixedPointDivide)
    × ((word : ℕ) × (after ≡ record m { regs = slice_set m.regs r1 word }))

effect_of : (row : Op) (fields : Fields) (updated : Updated) (m : Machine)
    → IsEffect (format_with fields ≡ format_of row → is_execute row ≡ false → ⊥) (IsConvertedBy (instruction row fields) m) m (EffectOf row fields updated m)
effect_of row (Rr r1 r2) updated m = weaken m _ (λ no f g. no (sym f)) (λ c a h. h) (rr row r1 r2 updated m)
effect_of row (Rx r1 x2 b2 d2) updated m =
    weaken m _ (λ no f g. no (sym f) g) (λ c a h. (r1, x2, b2, d2, ap (λ (x : Op). instruction x (Rx r1 x2 b2 d2)) h.0, h.1, h.2)) (rx row r1 (effective m.regs x2 b2 d2) updated m)
effect_of row (Rs r1 r3 b2 d2) updated m = weaken m _ (λ no f g. no (sym f)) (λ c a h. h) (rs row r1 r3 (effective m.regs 0 b2 d2) updated m)
effect_of row (Si i2 b1 d1) updated m = weaken m _ (λ no f g. no (sym f)) (λ c a h. h) (si row i2 (effective m.regs 0 b1 d1) updated m)
effect_of row (Ss l b1 d1 b2 d2) updated m =
    weaken m _ (λ no f g. no (sym f)) (λ c a h. h) (ss row _ (effective m.regs 0 b1 d1) (effective m.regs 0 b2 d2) updated m)
effect_of row (Ss2 l1 l2 b1 d1 b2 d2) updated m =
    weaken m _ (λ no f g. no (sym f)) (λ c a h. h) (ss2 row _ _ (effective m.regs 0 b1 d1) (effective m.regs 0 b2 d2) updated m)

pub effect : (i : Instruction) (updated : Updated) (m : Machine)
    → IsEffect (format_with i.fields ≡ format_of i.op → is_execute i.op ≡ false → ⊥) (IsConvertedBy i m) m (Effect i updated m)
unfolding Effect
effect i updated m = effect_of i.op i.fields updated m
