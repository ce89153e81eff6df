-- The bytes of a spelling, one by one.
use Rattle.std.proofs.Common.{◌≡◌, ℕ, ◌+◌, ◌*◌, ◌<◌, List, [], ◌∷◌, true, refl, sym, ◌∙◌, ap, nat_lt, arith, ltb-true}
use Rattle.std.specs.List.{list_all}
use Rattle.byteorder.specs.Endian.{big_bytes}
use Rattle.std.specs.Int.{byte_at}
use Rattle.cx_code.specs.declared.table.Op.{Op}
use Rattle.cx_code.specs.declared.instruction.Fields.{Fields}
use Rattle.cx_code.specs.declared.instruction.Fields.TheVariants.{Rr, Rx, Rs, Si, Ss, Ss2}
use Rattle.cx_code.specs.Table.{operation_row, code_of, ops}
use Rattle.cx_code.specs.Spelling.{Instruction, Spells, IsWellFormed, AreInRange, instruction, spelling}
use Rattle.cx_code.specs.Parts.Bytes.{bytes_with}
use Rattle.cx_code.proofs.TableLemmas.{each_row}

codes_below : list_all (λ o. nat_lt (code_of o) 256) ops ≡ true
unfolding ops operation_row
codes_below = refl

pub code_below : (op : Op) → code_of op < 256
code_below op = ltb-true _ _ (each_row (λ o. nat_lt (code_of o) 256) codes_below op)

-- the bytes of a number, each of them given
bytes_2 : (n a b : ℕ) → a < 256 → b < 256 → n ≡ a * 256 + b → big_bytes 2 n ≡ a ∷ b ∷ []
bytes_2 n a b p q e =
    let e1 : byte_at 1 n ≡ a = omega arith in
    let e0 : byte_at 0 n ≡ b = omega arith in
    cc

bytes_4 : (n a b c d : ℕ) → a < 256 → b < 256 → c < 256 → d < 256 → n ≡ ((a * 256 + b) * 256 + c) * 256 + d → big_bytes 4 n ≡ a ∷ b ∷ c ∷ d ∷ []
bytes_4 n a b c d p q r s e =
    let e3 : byte_at 3 n ≡ a = omega arith in
    let e2 : byte_at 2 n ≡ b = omega arith in
    let e1 : byte_at 1 n ≡ c = omega arith in
    let e0 : byte_at 0 n ≡ d = omega arith in
    cc

bytes_6 : (n a b c d f g : ℕ) → a < 256 → b < 256 → c < 256 → d < 256 → f < 256 → g < 256 → n ≡ ((((a * 256 + b) * 256 + c) * 256 + d) * 256 + f) * 256 + g → big_bytes 6 n ≡ a ∷ b ∷ c ∷ d ∷ f ∷ g ∷ []
bytes_6 n a b c d f g p q r s t u e =
    let e5 : byte_at 5 n ≡ a = omega arith in
    let e4 : byte_at 4 n ≡ b = omega arith in
    let e3 : byte_at 3 n ≡ c = omega arith in
    let e2 : byte_at 2 n ≡ d = omega arith in
    let e1 : byte_at 1 n ≡ f = omega arith in
    let e0 : byte_at 0 n ≡ g = omega arith in
    cc

-- the spelling of fields in range, byte by byte
pub spelling_bytes : (op : Op) (fields : Fields) → AreInRange fields → spelling (instruction op fields) ≡ bytes_with (code_of op) fields
unfolding spelling
spelling_bytes op (Rr r1 r2) h =
    let c = code_below op in
    bytes_2 _ _ _ c (omega arith) (omega arith)
spelling_bytes op (Rx r1 x2 b2 d2) h =
    let c = code_below op in
    bytes_4 _ _ _ _ _ c (omega arith) (omega arith) (omega arith) (omega arith)
spelling_bytes op (Rs r1 r3 b2 d2) h =
    let c = code_below op in
    bytes_4 _ _ _ _ _ c (omega arith) (omega arith) (omega arith) (omega arith)
spelling_bytes op (Si i2 b1 d1) h =
    let c = code_below op in
    bytes_4 _ _ _ _ _ c (omega arith) (omega arith) (omega arith) (omega arith)
spelling_bytes op (Ss l b1 d1 b2 d2) h =
    let c = code_below op in
    bytes_6 _ _ _ _ _ _ _ c (omega arith) (omega arith) (omega arith) (omega arith) (omega arith) (omega arith)
spelling_bytes op (Ss2 l1 l2 b1 d1 b2 d2) h =
    let c = code_below op in
    bytes_6 _ _ _ _ _ _ _ c (omega arith) (omega arith) (omega arith) (omega arith) (omega arith) (omega arith)

-- the bytes made of an instruction's parts are its spelling
pub made_spells : (i : Instruction) (code : ℕ) (fields : Fields) (bytes : List ℕ) → IsWellFormed i → code ≡ code_of i.op → fields ≡ i.fields → bytes ≡ bytes_with code fields → (bytes ≡ spelling i) × Spells i bytes
unfolding IsWellFormed Spells
made_spells i code fields bytes h c f e =
    let same : bytes ≡ spelling i =
    e ∙ ap (λ (n : ℕ). bytes_with n fields) c ∙ ap (bytes_with (code_of i.op)) f ∙ sym (spelling_bytes i.op i.fields h.1) in
    (same, (h, same))
