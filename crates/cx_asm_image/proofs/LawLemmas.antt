-- What is known of resolved lines and their text.
use Rattle.std.proofs.Common.{◌≡◌, ℕ, zero, suc, ◌+◌, ◌-◌, ◌<◌, ◌≤◌, Bool, true, false, ◌&&◌, ◌||◌, List, [], ◌∷◌, length, get_or, drop, map, refl, sym, ◌∙◌, ap, inl, inr, arith}
use Rattle.std.specs.Prelude.{◌≢◌, nat_le, nat_lt}
use Rattle.std.specs.List.{list_any, AllByRecursion}
use Rattle.std.proofs.lemmas.Bool.{cases_Bool, leb-true, ltb-true}
use Rattle.std.proofs.lemmas.List.{get_or-take, get_or-drop, ext_get_or}
use Rattle.cx_code.specs.declared.disassembly.Line.{Line}
use Rattle.cx_code.specs.Lines.{lines, disassembled_line}
use Rattle.cx_asm_image.specs.Assembled.{AssembledParts, IsAssembled}
use Rattle.cx_asm_image.specs.Laws.Cover.{covers, StandsIn, IsTextOf, as_data}
use Rattle.cx_asm_image.specs.Resolved.{bytes_of, size_of, offset_after, AreApart, is_code}
use Rattle.cx_asm_image.specs.Spans.{span_of}

-- a line at or past an offset
starts_after : (from : ℕ) (ls : List Line) (size j : ℕ) (d : Line) → AreApart from ls size → j < length ls → from ≤ (get_or ls j d).at
starts_after from [] size j d apart h = absurd (omega arith)
starts_after from (l ∷ ls) size zero d apart h = apart.0
starts_after from (l ∷ ls) size (suc j) d apart h =
    let first = apart.0 in
    let rest = starts_after (offset_after l) ls size j d apart.1 (omega arith) in
    omega arith

pub ascend : (from : ℕ) (ls : List Line) (size i j : ℕ) (d : Line) → AreApart from ls size → i < j → j < length ls → offset_after (get_or ls i d) ≤ (get_or ls j d).at
ascend from [] size i j d apart before h = absurd (omega arith)
ascend from (l ∷ ls) size i zero d apart before h = absurd (omega arith)
ascend from (l ∷ ls) size zero (suc j) d apart before h = starts_after (offset_after l) ls size j d apart.1 (omega arith)
ascend from (l ∷ ls) size (suc i) (suc j) d apart before h = ascend (offset_after l) ls size i j d apart.1 (omega arith) (omega arith)

-- a byte that a line covers is known
both : (a b : Bool) → (a && b) ≡ true → (a ≡ true) × (b ≡ true)
both true b e = (refl, e)
both false b e = absurd (cc)

known : (text : List ℕ) (l : Line) (k : ℕ) → StandsIn text l → covers k l ≡ true → get_or text k 0 ≡ get_or (bytes_of l.what) (k - l.at) 0
known text l k stand e =
    let parts = both (nat_le l.at k) (nat_lt k (offset_after l)) e in
    let low = leb-true l.at k parts.0 in
    let high = ltb-true k (offset_after l) parts.1 in
    let place : l.at + (k - l.at) ≡ k = omega arith in
    ap (λ (n : ℕ). get_or text n 0) (sym place)
    ∙ sym (get_or-drop l.at text (k - l.at) 0)
    ∙ sym (get_or-take (size_of l.what) (drop l.at text) (k - l.at) 0 (omega arith))
    ∙ ap (λ (bytes : List ℕ). get_or bytes (k - l.at) 0) stand

covered : (one other : List ℕ) (ls : List Line) (k : ℕ) → AllByRecursion (StandsIn one) ls → AllByRecursion (StandsIn other) ls → list_any (covers k) ls ≡ true
    → get_or one k 0 ≡ get_or other k 0
covered one other [] k first second e = absurd (cc)
covered one other (l ∷ ls) k first second e = elim (cases_Bool (covers k l)) [
  | inl is ↦ known one l k first.0 is ∙ sym (known other l k second.0 is)
  | inr out ↦ covered one other ls k first.1 second.1 (ap (λ (b : Bool). b || list_any (covers k) ls) (sym out) ∙ e)
]

pub text_decides : (ls : List Line) (size : ℕ) (one other : List ℕ) → IsTextOf ls size one → IsTextOf ls size other → one ≡ other
text_decides ls size one other first second = ext_get_or 0 one other (first.long ∙ sym second.long) (λ k h. same k)
  where
    same : (k : ℕ) → get_or one k 0 ≡ get_or other k 0
    same k = elim (cases_Bool (list_any (covers k) ls)) [
      | inl is ↦ covered one other ls k first.stand second.stand is
      | inr out ↦ first.gaps k out ∙ sym (second.gaps k out)
    ]

-- a span called data has no instruction
never_code : (text : List ℕ) (l : Line) → is_code (disassembled_line text (as_data (span_of l))).what ≡ false
unfolding disassembled_line
never_code text l = refl

pub data_differs : (text : List ℕ) (ls : List Line) → list_any (λ (line : Line). is_code line.what) ls ≡ true → lines text (map as_data (map span_of ls)) ≢ ls
data_differs text [] e same = absurd (cc)
data_differs text (l ∷ ls) e same = elim (cases_Bool (is_code l.what)) [
  | inl is ↦
      let no = never_code text l in
      absurd (cc)
  | inr out ↦ data_differs text ls (ap (λ (b : Bool). b || list_any (λ (line : Line). is_code line.what) ls) (sym out) ∙ e) (cc)
]

pub kinds_needed : (parts : AssembledParts) → IsAssembled parts → list_any (λ (line : Line). is_code line.what) parts.resolved ≡ true → lines parts.image.text (map as_data parts.spans) ≢ parts.resolved
kinds_needed parts is e = rw (is.spans) (data_differs parts.image.text parts.resolved e)

-- text and spans decide the lines
pub one_section : (one other : AssembledParts) → IsAssembled one → IsAssembled other → one.image.text ≡ other.image.text → one.spans ≡ other.spans → one.resolved ≡ other.resolved
one_section one other first second text spans = sym first.round_trip ∙ rw (text, spans) second.round_trip
