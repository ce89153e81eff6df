-- What is in storage of the outputs that are written: the bytes of each at its place, and what is written after it
-- elsewhere.
use Rattle.std.proofs.Common.{◌≡◌, ℕ, zero, suc, ◌+◌, ◌-◌, ◌^◌, ◌<◌, ◌≤◌, Bool, true, false, Option, Some, None, is_some, List, [], ◌∷◌, ◌++◌, length, nat_lt, slice_get, slice_index, refl, sym, ◌∙◌, ap, arith, inl, inr}
use Rattle.std.specs.Prelude.{replicate, take}
use Rattle.std.specs.Option.{option_and_then, option_map}
use Rattle.std.specs.List.{list_all, list_any}
use Rattle.std.specs.Int.{w16, w32, to_be_bytes}
use Rattle.std.proofs.lemmas.Bool.{cases_Bool, ltb-false, true≢false}
use Rattle.std.proofs.lemmas.List.{length-replicate}
use Rattle.std.proofs.lemmas.Option.{get_or_from_slice_get, slice_get-get_or}
use Rattle.cx_base.specs.Eib.{eib_field, eib_len}
use Rattle.cx_base.specs.declared.eib.EibField.{EibField}
use Rattle.cx_base.specs.declared.eib.EibField.TheVariants.{Aid, Calen, Fn, Rcode, Resp, Rsrce}
use Rattle.cx_storage.specs.declared.areas.Owner.{Owner}
use Rattle.cx_storage.specs.Address.{address_after, distance}
use Rattle.cx_storage.specs.Storage.{Held, Storage, area_from, byte_at, covers, put_held, span, with_area, after_write, zeros}
use Rattle.cx_storage.specs.Word.{word_at}
use Rattle.cx_storage.specs.Facts.Sound.{covers_cases}
use Rattle.cx_storage.specs.Facts.Spans.{span_at, span_from}
use Rattle.cx_storage.specs.Facts.Writes.{present_after_write, span_after_write, span_present_after_write, written_none, written_whole}
use Rattle.cx_region_state.specs.declared.report.CommandReport.{CommandReport}
use Rattle.cx_region_state.specs.declared.outputs.Output.{Output}
use Rattle.cx_region_state.specs.declared.outputs.OutputValue.{OutputValue}
use Rattle.cx_region_state.specs.declared.outputs.OutputValue.TheVariants.{Half, Text, Word}
use Rattle.cx_region_state.specs.Report.{with_report, with_eib, with_set}
use Rattle.cx_region_state.specs.Call.{Call, place_of, resp_place}
use Rattle.cx_region_state.specs.Eib.{Content, content, with_calen, with_field}
use Rattle.cx_region_state.specs.Outputs.{bytes_from, can_put, is_room, put_out, with_output}
use Rattle.cx_region_state.specs.Facts.Inputs.{place_below}
use Rattle.cx_region_laws.specs.Laws.Bytes.{is_among, is_in_output}
use Rattle.cx_region_laws.proofs.OthersLemmas.{bytes_elsewhere}
use Rattle.cx_region_laws.proofs.RowLemmas.{AreShort, IsShort}
use Rattle.cx_region_laws.proofs.WrittenLemmas.{AreLow, aid_fits, or_none, resp_low}

-- ---- one write
inside : (bytes : List ℕ) (k byte : ℕ) → slice_get bytes k ≡ Some byte → k < length bytes
inside [] k byte at = cc
inside (b ∷ bs) zero byte at = omega arith
inside (b ∷ bs) (suc k) byte at = let rest = inside bs k byte at in omega (arith, rest)

write_stands : (s : Storage) (place : ℕ) (bytes : List ℕ) (k byte : ℕ) → place < 2 ^ 24 → length bytes ≤ 2 ^ 24 → is_some (span s place (length bytes)) ≡ true
    → slice_get bytes k ≡ Some byte → byte_at (after_write s place bytes) (address_after place k) ≡ Some byte
write_stands s place bytes k byte low short there at =
    let whole = span_after_write s place bytes low short there in
    span_at (after_write s place bytes) place (length bytes) bytes k low whole (inside bytes k byte at) ∙ ap Some (get_or_from_slice_get bytes k byte 0 at)

pub write_elsewhere : (s : Storage) (a : ℕ) (bytes : List ℕ) (x : ℕ) → a < 2 ^ 24 → length bytes ≤ distance a x → byte_at (after_write s a bytes) x ≡ byte_at s x
write_elsewhere s a bytes x low far = elim (cases_Bool (is_some (span s a (length bytes)))) [
  | inl e ↦ ap (λ (t : Storage). byte_at t x) (written_whole s a bytes e) ∙ bytes_elsewhere s a bytes x low far
  | inr e ↦ ap (λ (t : Storage). byte_at t x) (written_none s a bytes e)
]

-- ---- outputs
pub place_elsewhere : (s : Storage) (place : Option ℕ) (bytes : List ℕ) (x : ℕ) → ((p : ℕ) → place ≡ Some p → p < 2 ^ 24) → is_among x place (length bytes) ≡ false
    → byte_at (with_output s place bytes) x ≡ byte_at s x
place_elsewhere s None bytes x low apart = refl
place_elsewhere s (Some p) bytes x low apart = write_elsewhere s p bytes x (low p refl) (ltb-false _ _ apart)

pub puts_elsewhere : (s : Storage) (call : Call) (text : List ℕ) (outputs : List Output) (x : ℕ) → AreLow call.places → list_any (is_in_output x call text) outputs ≡ false
    → byte_at (put_out s call text outputs) x ≡ byte_at s x
unfolding put_out
puts_elsewhere s call text [] x low apart = refl
puts_elsewhere s call text (output ∷ rest) x low apart =
    let parts = or_none (is_in_output x call text output) (list_any (is_in_output x call text) rest) apart in
    let bytes = bytes_from text output.source in
    puts_elsewhere (with_output s (place_of call output.option) bytes) call text rest x low parts.1
    ∙ place_elsewhere s (place_of call output.option) bytes x (λ p e. place_below call output.option p low e) parts.0

place_present : (s : Storage) (place : Option ℕ) (bytes : List ℕ) (b n : ℕ) → is_some (span (with_output s place bytes) b n) ≡ is_some (span s b n)
place_present s None bytes b n = refl
place_present s (Some p) bytes b n = span_present_after_write s p bytes b n

pub puts_present : (s : Storage) (call : Call) (text : List ℕ) (outputs : List Output) (b n : ℕ) → is_some (span (put_out s call text outputs) b n) ≡ is_some (span s b n)
unfolding put_out
puts_present s call text [] b n = refl
puts_present s call text (output ∷ rest) b n =
    let bytes = bytes_from text output.source in
    puts_present (with_output s (place_of call output.option) bytes) call text rest b n ∙ place_present s (place_of call output.option) bytes b n

puts_split : (s : Storage) (call : Call) (text : List ℕ) (front after : List Output) → put_out s call text (front ++ after) ≡ put_out (put_out s call text front) call text after
unfolding put_out
puts_split s call text [] after = refl
puts_split s call text (output ∷ rest) after = puts_split (with_output s (place_of call output.option) (bytes_from text output.source)) call text rest after

pub puts_stand : (s : Storage) (call : Call) (text : List ℕ) (front after : List Output) (output : Output) (place k byte : ℕ) → AreLow call.places
    → length (bytes_from text output.source) ≤ 2 ^ 24 → is_some (span s place (length (bytes_from text output.source))) ≡ true → place_of call output.option ≡ Some place
    → slice_get (bytes_from text output.source) k ≡ Some byte → list_any (is_in_output (address_after place k) call text) after ≡ false
    → byte_at (put_out s call text (front ++ output ∷ after)) (address_after place k) ≡ Some byte
unfolding put_out
puts_stand s call text front after output place k byte low short there at_place at apart =
    let x = address_after place k in
    let bytes = bytes_from text output.source in
    let mid = put_out s call text front in
    ap (λ (t : Storage). byte_at t x) (puts_split s call text front (output ∷ after))
    ∙ puts_elsewhere (with_output mid (place_of call output.option) bytes) call text after x low apart
    ∙ ap (λ (o : Option ℕ). byte_at (with_output mid o bytes) x) at_place
    ∙ write_stands mid place bytes k byte (place_below call output.option place low at_place) short (puts_present s call text front place (length bytes) ∙ there) at

-- an output in a list: it has room, and is short
all_in : (test : Output → Bool) (front after : List Output) (output : Output) → list_all test (front ++ output ∷ after) ≡ true → test output ≡ true
all_in test [] after output all = elim (cases_Bool (test output)) [
  | inl t ↦ t
  | inr f ↦ let never = rw f at all in cc
]
all_in test (first ∷ rest) after output all = elim (cases_Bool (test first)) [
  | inl t ↦ all_in test rest after output (rw t at all)
  | inr f ↦ let never = rw f at all in cc
]

pub room_in : (s : Storage) (call : Call) (text : List ℕ) (front after : List Output) (output : Output) (place : ℕ) → can_put s call text (front ++ output ∷ after) ≡ true
    → place_of call output.option ≡ Some place → is_some (span s place (length (bytes_from text output.source))) ≡ true
unfolding can_put
room_in s call text front after output place room at_place =
    let bytes = bytes_from text output.source in
    sym (ap (λ (o : Option ℕ). is_room s o bytes) at_place)
    ∙ all_in (λ output. is_room s (place_of call output.option) (bytes_from text output.source)) front after output room

pub short_in : (front after : List Output) (output : Output) → AreShort (front ++ output ∷ after) → IsShort output.source
short_in [] after output all = all.0
short_in (first ∷ rest) after output all = short_in rest after output all.1

taken_few : (n : ℕ) (text : List ℕ) → length (take n text) ≤ n
taken_few zero text = omega arith
taken_few (suc n) [] = omega arith
taken_few (suc n) (b ∷ bs) = let rest = taken_few n bs in omega (arith, rest)

pub short_bytes : (text : List ℕ) (source : OutputValue) → IsShort source → length (bytes_from text source) ≤ 2 ^ 24
short_bytes text (Text n) short = let few = taken_few n text in omega (arith, few, short)
short_bytes text (Half n) short = omega arith
short_bytes text (Word n) short = omega arith

-- ---- the report
field_elsewhere : (s : Storage) (eib : ℕ) (it : Content) (x : ℕ) → eib < 2 ^ 24 → eib_len ≤ distance eib x → (eib_field it.field).offset + length it.bytes ≤ eib_len
    → byte_at (with_field s eib it) x ≡ byte_at s x
unfolding with_field
field_elsewhere s eib it x low far fits = write_elsewhere s (address_after eib (eib_field it.field).offset) it.bytes x (omega arith) (omega (arith, low, far, fits))

pub calen_elsewhere : (s : Storage) (eib : ℕ) (calen : Option ℕ) (x : ℕ) → eib < 2 ^ 24 → eib_len ≤ distance eib x → byte_at (with_calen s eib calen) x ≡ byte_at s x
unfolding with_calen
calen_elsewhere s eib None x low far = refl
calen_elsewhere s eib (Some calen) x low far = field_elsewhere s eib (content Calen (to_be_bytes w16 calen)) x low far (omega arith)

set_elsewhere : (s : Storage) (eib : ℕ) (field : EibField) (o : Option (List ℕ)) (x : ℕ) → eib < 2 ^ 24 → eib_len ≤ distance eib x
    → ((bytes : List ℕ) → o ≡ Some bytes → (eib_field field).offset + length bytes ≤ eib_len) → byte_at (with_set s eib field o) x ≡ byte_at s x
unfolding with_set
set_elsewhere s eib field None x low far fits = refl
set_elsewhere s eib field (Some bytes) x low far fits = field_elsewhere s eib (content field bytes) x low far (fits bytes refl)

eib_elsewhere : (s : Storage) (eib : ℕ) (answer : CommandReport) (x : ℕ) → eib < 2 ^ 24 → eib_len ≤ distance eib x → ((bytes : List ℕ) → answer.resource ≡ Some bytes → length bytes ≡ 8)
    → byte_at (with_eib s eib answer) x ≡ byte_at s x
unfolding with_eib
eib_elsewhere s eib answer x low far eight =
    let function = content Fn (to_be_bytes w16 answer.function) in
    let code = content Rcode (answer.condition ∷ 0 ∷ 0 ∷ 0 ∷ 0 ∷ 0 ∷ []) in
    let response = content Resp (to_be_bytes w32 answer.condition) in
    let one = with_field s eib function in
    let two = with_field one eib code in
    let three = with_field two eib response in
    let named = with_set three eib Rsrce answer.resource in
    let keyed = with_set named eib Aid (option_map (λ byte. byte ∷ []) answer.aid) in
    calen_elsewhere keyed eib answer.calen x low far
    ∙ set_elsewhere named eib Aid (option_map (λ byte. byte ∷ []) answer.aid) x low far (λ bytes e. aid_fits answer.aid bytes e)
    ∙ set_elsewhere three eib Rsrce answer.resource x low far (λ bytes e. let long = eight bytes e in omega (arith, long))
    ∙ field_elsewhere two eib response x low far (omega arith)
    ∙ field_elsewhere one eib code x low far (omega arith)
    ∙ field_elsewhere s eib function x low far (omega arith)

resp_elsewhere : (s : Storage) (place : Option ℕ) (n x : ℕ) → ((p : ℕ) → place ≡ Some p → p < 2 ^ 24) → is_among x place 4 ≡ false → byte_at (with_output s place (to_be_bytes w32 n)) x ≡ byte_at s x
resp_elsewhere s None n x low apart = refl
resp_elsewhere s (Some p) n x low apart = write_elsewhere s p (to_be_bytes w32 n) x (low p refl) (ltb-false _ _ apart)

pub report_elsewhere : (s : Storage) (eib : ℕ) (call : Call) (answer : CommandReport) (x : ℕ) → AreLow call.places → eib < 2 ^ 24
    → ((bytes : List ℕ) → answer.resource ≡ Some bytes → length bytes ≡ 8) → is_among x (Some eib) eib_len ≡ false → is_among x (resp_place call) 4 ≡ false
    → byte_at (with_report s eib call answer) x ≡ byte_at s x
unfolding with_report
report_elsewhere s eib call answer x places low eight off_eib off_resp =
    resp_elsewhere (with_eib s eib answer) (resp_place call) answer.condition x (λ p e. resp_low call p places e) off_resp
    ∙ eib_elsewhere s eib answer x low (ltb-false _ _ off_eib) eight

-- ---- bytes that are there
-- each byte that is there stays there
abbrev pub KeepsPresent : Storage → Storage → Type 0
KeepsPresent s t = (x : ℕ) → is_some (byte_at s x) ≡ true → is_some (byte_at t x) ≡ true

put_present : (h : Held) (s : Storage) → ((x : ℕ) → covers h.area x ≡ true → is_some (slice_get h.bytes (x - h.area.start)) ≡ true) → KeepsPresent s (put_held h s)
unfolding byte_at put_held
put_present h [] full x e = cc
put_present h (g ∷ gs) full x e = elim (cases_Bool (nat_lt h.area.start g.area.start)) [
  | inl before ↦ rw before (elim (cases_Bool (covers h.area x)) [
    | inl c ↦ rw c (full x c)
    | inr c ↦ rw c e
  ])
  | inr after ↦ rw after (elim (cases_Bool (covers g.area x)) [
    | inl c ↦ rw c (rw c at e)
    | inr c ↦ rw c (put_present h gs full x (rw c at e))
  ])
]

zeros_full : (a len : ℕ) (owner : Owner) (x : ℕ) → covers (area_from a len owner) x ≡ true → is_some (slice_get {X = ℕ} (replicate len 0) (x - a)) ≡ true
zeros_full a len owner x c = elim (covers_cases (area_from a len owner) x) [
  | inl q ↦
      let low = q.1 in
      let high = q.2 in
      let long = length-replicate {A = ℕ} len 0 in
      ap is_some (slice_get-get_or {X = ℕ} (replicate len 0) (x - a) 0 (omega (arith, low, high, long)))
  | inr q ↦ absurd (true≢false (sym c ∙ q.0))
]

pub area_present : (s : Storage) (a len : ℕ) (owner : Owner) → KeepsPresent s (with_area s (Some a) len owner)
unfolding with_area
area_present s a len owner = put_present (zeros a len owner) s (λ x c. zeros_full a len owner x c)

pub write_present : (s : Storage) (a : ℕ) (bytes : List ℕ) → KeepsPresent s (after_write s a bytes)
write_present s a bytes x e = present_after_write s a bytes x ∙ e

pub spans_kept : (s t : Storage) → KeepsPresent s t → (b n : ℕ) → is_some (span s b n) ≡ true → is_some (span t b n) ≡ true
unfolding span
spans_kept s t keeps b zero there = refl
spans_kept s t keeps b (suc n) there = go (byte_at s b) (byte_at t b) (span s (address_after b 1) n) (span t (address_after b 1) n) (keeps b) (spans_kept s t keeps (address_after b 1) n) there
  where
    go : (o p : Option ℕ) (q r : Option (List ℕ)) → (is_some o ≡ true → is_some p ≡ true) → (is_some q ≡ true → is_some r ≡ true)
        → is_some (option_and_then (λ b. option_map (λ bs. b ∷ bs) q) o) ≡ true → is_some (option_and_then (λ b. option_map (λ bs. b ∷ bs) r) p) ≡ true
    go None p q r one rest e = cc
    go (Some b) p None r one rest e = cc
    go (Some b) None (Some bs) r one rest e = let never = one refl in cc
    go (Some b) (Some c) (Some bs) None one rest e = let never = rest refl in cc
    go (Some b) (Some c) (Some bs) (Some cs) one rest e = refl

-- ---- a word
-- four bytes of a word read as it
pub word_stands : (s : Storage) (place word : ℕ) → place < 2 ^ 24 → word < 2 ^ 32
    → ((k byte : ℕ) → k < 4 → slice_get (to_be_bytes w32 word) k ≡ Some byte → byte_at s (address_after place k) ≡ Some byte) → word_at s place ≡ Some word
unfolding word_at
word_stands s place word low small each =
    let bytes = to_be_bytes w32 word in
    let whole : span s place 4 ≡ Some bytes =
    span_from s place 4 bytes low refl (λ k less. each k (slice_index bytes k) less (slice_get-get_or bytes k 0 less)) in
    rw whole (ap Some (omega (arith, small)))
