-- Texts of resolved lines.
use Rattle.std.proofs.Common.{◌≡◌, ℕ, zero, suc, ◌+◌, ◌-◌, ◌<◌, ◌≤◌, Bool, true, false, ◌||◌, List, [], ◌∷◌, ◌++◌, length, get_or, map, take, drop, replicate, refl, sym, ◌∙◌, ap, subst, inl, inr, Some, arith}
use Rattle.std.specs.Prelude.{◌↔◌}
use Rattle.std.proofs.lemmas.Bool.{and_from, cases_lt, le-leb, lt-ltb}
use Rattle.std.specs.List.{list_any, AllByRecursion}
use Rattle.std.proofs.lemmas.List.{append_assoc, length-append, length-replicate, take_at, drop_at, drop_more, get_or_append_left, get_or-append_right}
use Rattle.cx_code.specs.declared.image.Span.{Span}
use Rattle.cx_code.specs.declared.disassembly.Line.{Line}
use Rattle.cx_code.specs.declared.disassembly.LineContent.{LineContent}
use Rattle.cx_code.specs.declared.disassembly.LineContent.TheVariants.{Code, Data, Space}
use Rattle.cx_code.specs.Spelling.{Instruction, IsWellFormed, spelling, Spells}
use Rattle.cx_code.specs.Reading.{canonical}
use Rattle.cx_code.specs.Lines.{lines, disassembled_line, what_in}
use Rattle.cx_asm_image.specs.Resolved.{bytes_of, size_of, offset_after, end_after, AreApart}
use Rattle.cx_asm_image.specs.Text.{text_from, section_text}
use Rattle.cx_asm_image.specs.Spans.{kind_of, span_of}
use Rattle.cx_asm_image.specs.Assembled.{AssembledParts, IsAssembled}
use Rattle.cx_asm_image.specs.Laws.Cover.{AreWellFormed, HasWellFormed, covers, StandsIn, IsTextOf}
use Rattle.cx_asm_image.specs.Facts.Apart.{apart_with, end_with}
use Rattle.cx_asm_image.specs.Parts.Making.{IsSpelled, AreSpelled, GoesOn, IsEndOf}

-- n bytes that are zero
abbrev zeros : ℕ → List ℕ
zeros n = replicate n 0

pub pushed : (ls : List Line) (end : ℕ) (l : Line) (size : ℕ) → IsEndOf ls end → end_after 0 ls ≤ l.at → size ≡ size_of l.what → IsEndOf (ls ++ l ∷ []) (l.at + size)
pushed ls end l size is h e = rw e record {
  at = sym (end_with 0 ls l);
  apart = apart_with 0 ls l (rw (is.at) at is.apart) h;
}

-- as many bytes as the line's size
pub length_bytes : (what : LineContent) → length (bytes_of what) ≡ size_of what
length_bytes (Code i) = refl
length_bytes (Data bytes) = refl
length_bytes (Space n) = length-replicate {A = ℕ} n 0

-- a text goes on
length_made : (t : List ℕ) (l : Line) → length t ≤ l.at → length ((t ++ zeros (l.at - length t)) ++ bytes_of l.what) ≡ offset_after l
length_made t l h =
    let a = length-append (t ++ zeros (l.at - length t)) (bytes_of l.what) in
    let b = length-append t (zeros (l.at - length t)) in
    let c : length (zeros (l.at - length t)) ≡ l.at - length t = length-replicate {A = ℕ} (l.at - length t) 0 in
    let d = length_bytes l.what in
    omega arith

pub goes_on : (all rest : List Line) (size : ℕ) (t made : List ℕ) (l : Line) → GoesOn all (l ∷ rest) size t → IsSpelled l.what
    → made ≡ (t ++ zeros (l.at - length t)) ++ bytes_of l.what → GoesOn all rest size made
goes_on all rest size t made l on spelled e =
    let long : length made ≡ offset_after l = ap length e ∙ length_made t l on.apart.0 in
    record {
      so_far = rw (long, e, append_assoc (t ++ zeros (l.at - length t)) (bytes_of l.what) (text_from (offset_after l) rest size), append_assoc t (zeros (l.at - length t)) (bytes_of l.what ++ text_from (offset_after l) rest size)) on.so_far;
      apart = rw long on.apart.1;
      spelled = λ left. on.spelled (spelled, left);
    }

-- the line at an index, and those after it
pub goes_on_at : (all : List Line) (size i : ℕ) (t made : List ℕ) (l : Line) → GoesOn all (drop i all) size t → i < length all → l ≡ get_or all i l
    → IsSpelled l.what → made ≡ (t ++ zeros (l.at - length t)) ++ bytes_of l.what → GoesOn all (drop (i + 1) all) size made
goes_on_at all size i t made l on h e spelled text =
    let there : drop i all ≡ l ∷ drop (i + 1) all = drop_more all i l h ∙ ap (λ (k : Line). k ∷ drop (i + 1) all) (sym e) in
    goes_on all (drop (i + 1) all) size t made l (rw there at on) spelled text

-- the line of a span whose bytes are in the text
what_read : (text : List ℕ) (at : ℕ) (what : LineContent) → IsSpelled what → ((found : List ℕ) (j : Instruction) → Spells j found → canonical found ≡ Some j)
    → take (size_of what) (drop at text) ≡ bytes_of what → what_in text (record { start = at; len = size_of what; kind = kind_of what }) (kind_of what) ≡ what
what_read text at (Code i) spelled law e = rw (e, law (spelling i) i spelled) refl
what_read text at (Data b) spelled law e = rw e refl
what_read text at (Space n) spelled law e = refl

line_read : (text : List ℕ) (l : Line) → IsSpelled l.what → ((found : List ℕ) (j : Instruction) → Spells j found → canonical found ≡ Some j)
    → StandsIn text l → disassembled_line text (span_of l) ≡ l
unfolding disassembled_line
line_read text l spelled law e = ap (λ (what : LineContent). record { at = l.at; what = what }) (what_read text l.at l.what spelled law e)

pub lines_read : (text : List ℕ) (ls : List Line) → AreSpelled ls → ((found : List ℕ) (j : Instruction) → Spells j found → canonical found ≡ Some j)
    → AllByRecursion (StandsIn text) ls → lines text (map span_of ls) ≡ ls
lines_read text [] spelled law stand = refl
lines_read text (l ∷ ls) spelled law stand =
    let first = line_read text l spelled.0 law stand.0 in
    let rest = lines_read text ls spelled.1 law stand.1 in
    cc

-- well-formed instructions are spelled by their spellings
all_spelled : ((i : Instruction) → IsWellFormed i → Spells i (spelling i)) → (ls : List Line) → AreWellFormed ls → AreSpelled ls
all_spelled law [] sound = tt
all_spelled law (l ∷ ls) sound = (one l.what sound.0, all_spelled law ls sound.1)
  where
    one : (what : LineContent) → HasWellFormed what → IsSpelled what
    one (Code i) sound = law i sound
    one (Data bytes) sound = sound
    one (Space n) sound = sound

-- each line's bytes are at its place
stands : (pre : List ℕ) (from : ℕ) (l : Line) (rest : List ℕ) → length pre ≡ from → from ≤ l.at
    → StandsIn (pre ++ (zeros (l.at - from) ++ (bytes_of l.what ++ rest))) l
stands pre from l rest e h =
    let b = length-append pre (zeros (l.at - from)) in
    let c : length (zeros (l.at - from)) ≡ l.at - from = length-replicate {A = ℕ} (l.at - from) 0 in
    let long : length (pre ++ zeros (l.at - from)) ≡ l.at = omega arith in
    let whole = sym (append_assoc pre (zeros (l.at - from)) (bytes_of l.what ++ rest)) in
    ap (λ (t : List ℕ). take (size_of l.what) (drop l.at t)) whole
    ∙ ap (λ (t : List ℕ). take (size_of l.what) t) (drop_at (pre ++ zeros (l.at - from)) (bytes_of l.what ++ rest) l.at long)
    ∙ take_at (bytes_of l.what) rest (size_of l.what) (length_bytes l.what)

pub all_stand : (pre : List ℕ) (from : ℕ) (ls : List Line) (size : ℕ) → length pre ≡ from → AreApart from ls size
    → AllByRecursion (StandsIn (pre ++ text_from from ls size)) ls
all_stand pre from [] size e apart = tt
all_stand pre from (l ∷ ls) size e apart =
    let made = (pre ++ zeros (l.at - from)) ++ bytes_of l.what in
    let long : length ((pre ++ zeros (l.at - from)) ++ bytes_of l.what) ≡ offset_after l =
    subst (λ (n : ℕ). length ((pre ++ zeros (l.at - n)) ++ bytes_of l.what) ≡ offset_after l) e (length_made pre l (let h = apart.0 in omega arith)) in
    let whole : ((pre ++ zeros (l.at - from)) ++ bytes_of l.what) ++ text_from (offset_after l) ls size
    ≡ pre ++ (zeros (l.at - from) ++ (bytes_of l.what ++ text_from (offset_after l) ls size)) =
    append_assoc (pre ++ zeros (l.at - from)) (bytes_of l.what) (text_from (offset_after l) ls size)
    ∙ append_assoc pre (zeros (l.at - from)) (bytes_of l.what ++ text_from (offset_after l) ls size) in (
      stands pre from l (text_from (offset_after l) ls size) e apart.0,
      subst (λ (t : List ℕ). AllByRecursion (StandsIn t) ls) whole (all_stand ((pre ++ zeros (l.at - from)) ++ bytes_of l.what) (offset_after l) ls size long apart.1),
    )

-- the text's length
pub length_text : (from : ℕ) (ls : List Line) (size : ℕ) → AreApart from ls size → from + length (text_from from ls size) ≡ size
length_text from [] size apart =
    let c : length (zeros (size - from)) ≡ size - from = length-replicate {A = ℕ} (size - from) 0 in
    omega (arith, apart)
length_text from (l ∷ ls) size apart =
    let rest = length_text (offset_after l) ls size apart.1 in
    let first = apart.0 in
    let a = length-append (zeros (l.at - from)) (bytes_of l.what ++ text_from (offset_after l) ls size) in
    let b = length-append (bytes_of l.what) (text_from (offset_after l) ls size) in
    let c : length (zeros (l.at - from)) ≡ l.at - from = length-replicate {A = ℕ} (l.at - from) 0 in
    let d = length_bytes l.what in
    omega arith

-- bytes that no line covers
zeros_at : (n k : ℕ) → get_or (zeros n) k 0 ≡ 0
zeros_at zero k = refl
zeros_at (suc n) zero = refl
zeros_at (suc n) (suc k) = zeros_at n k

neither : (a b : Bool) → (a || b) ≡ false → (a ≡ false) × (b ≡ false)
neither true b e = absurd (cc)
neither false b e = (refl, e)

uncovered : (k : ℕ) (l : Line) → covers k l ≡ false → l.at ≤ k → offset_after l ≤ k
uncovered k l e h = elim (cases_lt k (offset_after l)) [
  | inl below ↦
      let yes : covers k l ≡ true = and_from _ _ (le-leb l.at k h) (lt-ltb k (offset_after l) below) in
      absurd (cc)
  | inr after ↦ after
]

pub gap : (from : ℕ) (ls : List Line) (size k at : ℕ) → AreApart from ls size → from + k ≡ at → list_any (covers at) ls ≡ false
    → get_or (text_from from ls size) k 0 ≡ 0
gap from [] size k at apart e none = zeros_at (size - from) k
gap from (l ∷ ls) size k at apart e none =
    let first = apart.0 in
    let parts = neither (covers at l) (list_any (covers at) ls) none in
    let c : length (zeros (l.at - from)) ≡ l.at - from = length-replicate {A = ℕ} (l.at - from) 0 in
    let d = length_bytes l.what in
    elim (cases_lt k (l.at - from)) [
      | inl below ↦ get_or_append_left (zeros (l.at - from)) (bytes_of l.what ++ text_from (offset_after l) ls size) 0 k (omega arith) ∙ zeros_at (l.at - from) k
      | inr over ↦
          let after = uncovered at l parts.0 (omega arith) in
          get_or-append_right (zeros (l.at - from)) (bytes_of l.what ++ text_from (offset_after l) ls size) (l.at - from) k 0 c over
          ∙ get_or-append_right (bytes_of l.what) (text_from (offset_after l) ls size) (size_of l.what) (k - (l.at - from)) 0 d (omega arith)
          ∙ gap (offset_after l) ls size (k - (l.at - from) - size_of l.what) at apart.1 (omega arith) parts.1
    ]

pub is_text : (ls : List Line) (size : ℕ) → AreApart 0 ls size → IsTextOf ls size (section_text ls size)
unfolding section_text
is_text ls size apart = record {
  long = (let e = length_text 0 ls size apart in omega arith);
  stand = all_stand [] 0 ls size refl apart;
  gaps = λ k none. gap 0 ls size k k apart (omega arith) none;
}

pub come_back : ((i : Instruction) → IsWellFormed i → Spells i (spelling i)) → ((found : List ℕ) (j : Instruction) → (canonical found ≡ Some j) ↔ Spells j found)
    → (ls : List Line) (size : ℕ) → AreApart 0 ls size → AreWellFormed ls → lines (section_text ls size) (map span_of ls) ≡ ls
come_back spells law ls size apart sound =
    lines_read (section_text ls size) ls (all_spelled spells ls sound) (λ found j is. (law found j).1 is) (is_text ls size apart).stand

-- the parts that are made
pub is_assembled : (ls : List Line) (size : ℕ) (text : List ℕ) (spans : List Span) (entry : ℕ) (relocs : List ℕ) (stg_len : ℕ)
    → AreApart 0 ls size → size ≤ 65536 → AreSpelled ls → text ≡ section_text ls size → spans ≡ map span_of ls
    → ((found : List ℕ) (j : Instruction) → (canonical found ≡ Some j) ↔ Spells j found)
    → IsAssembled (record { resolved = ls; spans = spans; image = record { text = text; entry = entry; relocs = relocs; stg_len = stg_len } })
is_assembled ls size text spans entry relocs stg_len apart fits spelled is are law =
    let known = is_text ls size apart in
    let long : length text ≡ size = ap length is ∙ known.long in
    record {
      apart = rw long apart;
      text = rw long is;
      spans = are;
      round_trip = rw (is, are) (lines_read (section_text ls size) ls spelled (λ found j spells. (law found j).1 spells) known.stand);
      short = rw long fits;
    }

pub text_known : (parts : AssembledParts) → IsAssembled parts → IsTextOf parts.resolved (length parts.image.text) parts.image.text
text_known parts is = subst (λ (t : List ℕ). IsTextOf parts.resolved (length parts.image.text) t) (sym is.text) (is_text parts.resolved (length parts.image.text) is.apart)
