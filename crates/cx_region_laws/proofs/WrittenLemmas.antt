-- What outputs and the report leave of the areas of others.
use Rattle.std.proofs.Common.{◌≡◌, ℕ, zero, suc, ◌+◌, ◌-◌, ◌^◌, ◌<◌, ◌≤◌, Bool, true, false, Option, Some, None, List, [], ◌∷◌, length, slice_get, refl, ◌∙◌, subst, arith}
use Rattle.std.specs.Prelude.{◌||◌, if◌then◌else◌}
use Rattle.std.specs.Option.{option_and_then, option_map, option_or}
use Rattle.std.specs.List.{AllByRecursion, list_any}
use Rattle.std.specs.Int.{w16, w32, to_be_bytes}
use Rattle.cx_base.specs.Eib.{eib_field, eib_len}
use Rattle.cx_base.specs.declared.eib.EibField.{EibField}
use Rattle.cx_base.specs.declared.eib.EibField.TheVariants.{Aid, Calen, Fn, Rcode, Resp, Rsrce}
use Rattle.cx_base.specs.declared.options.OptionName.{OptionName}
use Rattle.cx_base.specs.declared.options.OptionName.TheVariants.{Program, Queue}
use Rattle.cx_storage.specs.Storage.{Storage, span}
use Rattle.cx_storage.specs.Facts.Spans.{span_length}
use Rattle.cx_region_state.specs.declared.report.CommandReport.{CommandReport}
use Rattle.cx_region_state.specs.declared.outputs.Output.{Output}
use Rattle.cx_region_state.specs.Report.{with_report, resource_of, with_eib, with_set}
use Rattle.cx_region_state.specs.Call.{Call, has_resp, place_of, resp_place}
use Rattle.cx_region_state.specs.Eib.{Content, content, with_calen, with_field}
use Rattle.cx_region_state.specs.Inputs.{bytes_of}
use Rattle.cx_region_state.specs.Outputs.{bytes_from, put_out, with_output}
use Rattle.cx_region_state.specs.Facts.Inputs.{place_below}
use Rattle.cx_region_laws.specs.Laws.Bytes.{is_among, is_in_output, others_storage}
use Rattle.cx_region_laws.proofs.OthersLemmas.{Left, left_on, left_same, left_write}
use Rattle.cx_region_laws.proofs.AppliedLemmas.{Own, own_same, write_in}

abbrev pub AreLow : List ℕ → Type 0
AreLow places = AllByRecursion (λ place. place < 2 ^ 24) places

-- ---- outputs
pub or_none : (a b : Bool) → (a || b) ≡ false → (a ≡ false) × (b ≡ false)
or_none true b e = cc
or_none false b e = (refl, e)

place_left : (slot x : ℕ) (writes : Bool) (s : Storage) (place : Option ℕ) (bytes : List ℕ) → ((p : ℕ) → place ≡ Some p → p < 2 ^ 24)
    → (writes ≡ false → is_among x place (length bytes) ≡ false) → Left slot x writes s (with_output s place bytes)
place_left slot x writes s None bytes low apart = left_same slot x writes s s refl
place_left slot x writes s (Some p) bytes low apart = left_write slot x writes s p bytes (low p refl) apart

pub puts_left : (slot x : ℕ) (writes : Bool) (s : Storage) (call : Call) (text : List ℕ) (outputs : List Output) → AreLow call.places
    → (writes ≡ false → list_any (is_in_output x call text) outputs ≡ false) → Left slot x writes s (put_out s call text outputs)
unfolding put_out
puts_left slot x writes s call text [] low apart = left_same slot x writes s s refl
puts_left slot x writes s call text (output ∷ rest) low apart =
    let bytes = bytes_from text output.source in
    let mid = with_output s (place_of call output.option) bytes in
    left_on slot x writes s mid (put_out mid call text rest)
    (place_left slot x writes s (place_of call output.option) bytes (λ p e. place_below call output.option p low e)
    (λ no. (or_none (is_in_output x call text output) (list_any (is_in_output x call text) rest) (apart no)).0))
    (puts_left slot x writes mid call text rest low
    (λ no. (or_none (is_in_output x call text output) (list_any (is_in_output x call text) rest) (apart no)).1))

-- ---- RESP's word
at_low : (places : List ℕ) (k p : ℕ) → AreLow places → slice_get places k ≡ Some p → p < 2 ^ 24
at_low [] k p all e = cc
at_low (first ∷ rest) zero p all e = let same : first ≡ p = cc in subst (λ (n : ℕ). n < 2 ^ 24) same all.0
at_low (first ∷ rest) (suc k) p all e = at_low rest k p all.1 e

pub resp_low : (call : Call) (p : ℕ) → AreLow call.places → resp_place call ≡ Some p → p < 2 ^ 24
unfolding resp_place
resp_low call p low e = go (has_resp call.second) e
  where
    go : (b : Bool) → (if b then slice_get call.places (length call.places - 1) else None) ≡ Some p → p < 2 ^ 24
    go true e = at_low call.places (length call.places - 1) p low e
    go false e = cc

resp_left : (slot x : ℕ) (writes : Bool) (s : Storage) (place : Option ℕ) (n : ℕ) → ((p : ℕ) → place ≡ Some p → p < 2 ^ 24)
    → (writes ≡ false → is_among x place 4 ≡ false) → Left slot x writes s (with_output s place (to_be_bytes w32 n))
resp_left slot x writes s None n low apart = left_same slot x writes s s refl
resp_left slot x writes s (Some p) n low apart = left_write slot x writes s p (to_be_bytes w32 n) (low p refl) apart

-- ---- the EIB
field_others : (slot : ℕ) (start s : Storage) (eib : ℕ) (it : Content) → Own slot start eib eib_len → (eib_field it.field).offset + length it.bytes ≤ eib_len
    → others_storage slot s ≡ others_storage slot start → others_storage slot (with_field s eib it) ≡ others_storage slot start
unfolding with_field
field_others slot start s eib it own fits e =
    write_in slot s eib eib_len (eib_field it.field).offset it.bytes (own_same slot start s eib eib_len e own) fits ∙ e

pub calen_others : (slot : ℕ) (start s : Storage) (eib : ℕ) (calen : Option ℕ) → Own slot start eib eib_len
    → others_storage slot s ≡ others_storage slot start → others_storage slot (with_calen s eib calen) ≡ others_storage slot start
unfolding with_calen
calen_others slot start s eib None own e = e
calen_others slot start s eib (Some calen) own e = field_others slot start s eib (content Calen (to_be_bytes w16 calen)) own (omega arith) e

set_others : (slot : ℕ) (start s : Storage) (eib : ℕ) (field : EibField) (o : Option (List ℕ)) → Own slot start eib eib_len
    → ((bytes : List ℕ) → o ≡ Some bytes → (eib_field field).offset + length bytes ≤ eib_len)
    → others_storage slot s ≡ others_storage slot start → others_storage slot (with_set s eib field o) ≡ others_storage slot start
unfolding with_set
set_others slot start s eib field None own fits e = e
set_others slot start s eib field (Some bytes) own fits e = field_others slot start s eib (content field bytes) own (fits bytes refl) e

pub aid_fits : (o : Option ℕ) (bytes : List ℕ) → option_map (λ byte. byte ∷ []) o ≡ Some bytes → 26 + length bytes ≤ eib_len
aid_fits None bytes e = cc
aid_fits (Some b) bytes e = let is : b ∷ [] ≡ bytes = cc in subst (λ (l : List ℕ). 26 + length l ≤ eib_len) is (omega arith)

-- a resource's name has eight bytes
named : (s : Storage) (call : Call) (name : OptionName) (bytes : List ℕ) → bytes_of s call name 8 ≡ Some bytes → length bytes ≡ 8
unfolding bytes_of
named s call name bytes e = go (place_of call name) e
  where
    go : (o : Option ℕ) → option_and_then (λ place. span s place 8) o ≡ Some bytes → length bytes ≡ 8
    go None e = cc
    go (Some place) e = span_length s place 8 bytes e

pub resource_fits : (s : Storage) (call : Call) (bytes : List ℕ) → resource_of s call ≡ Some bytes → length bytes ≡ 8
unfolding resource_of
resource_fits s call bytes e = go (bytes_of s call Program 8) (λ found is. named s call Program found is) e
  where
    go : (o : Option (List ℕ)) → ((found : List ℕ) → o ≡ Some found → length found ≡ 8) → option_or o (bytes_of s call Queue 8) ≡ Some bytes → length bytes ≡ 8
    go None long e = named s call Queue bytes e
    go (Some found) long e = let is : found ≡ bytes = cc in subst (λ (l : List ℕ). length l ≡ 8) is (long found refl)

eib_others : (slot : ℕ) (s : Storage) (eib : ℕ) (answer : CommandReport) → Own slot s eib eib_len → ((bytes : List ℕ) → answer.resource ≡ Some bytes → length bytes ≡ 8)
    → others_storage slot (with_eib s eib answer) ≡ others_storage slot s
unfolding with_eib
eib_others slot s eib answer own eight =
    let function = content Fn (to_be_bytes w16 answer.function) in
    let code = content Rcode (answer.condition ∷ 0 ∷ 0 ∷ 0 ∷ 0 ∷ 0 ∷ []) in
    let response = content Resp (to_be_bytes w32 answer.condition) in
    let one = with_field s eib function in
    let two = with_field one eib code in
    let three = with_field two eib response in
    let named_ = with_set three eib Rsrce answer.resource in
    let keyed = with_set named_ eib Aid (option_map (λ byte. byte ∷ []) answer.aid) in
    let first = field_others slot s s eib function own (omega arith) refl in
    let second = field_others slot s one eib code own (omega arith) first in
    let third = field_others slot s two eib response own (omega arith) second in
    let fourth = set_others slot s three eib Rsrce answer.resource own (λ bytes e. let long = eight bytes e in omega (arith, long)) third in
    let fifth = set_others slot s named_ eib Aid (option_map (λ byte. byte ∷ []) answer.aid) own (λ bytes e. aid_fits answer.aid bytes e) fourth in
    calen_others slot s keyed eib answer.calen own fifth

-- ---- the report
pub report_left : (slot x : ℕ) (writes : Bool) (s : Storage) (eib : ℕ) (call : Call) (answer : CommandReport) → AreLow call.places → Own slot s eib eib_len
    → ((bytes : List ℕ) → answer.resource ≡ Some bytes → length bytes ≡ 8) → (writes ≡ false → is_among x (resp_place call) 4 ≡ false)
    → Left slot x writes s (with_report s eib call answer)
unfolding with_report
report_left slot x writes s eib call answer low own eight apart =
    let mid = with_eib s eib answer in
    left_on slot x writes s mid (with_report s eib call answer) (left_same slot x writes s mid (eib_others slot s eib answer own eight))
    (resp_left slot x writes mid (resp_place call) answer.condition (λ p e. resp_low call p low e) apart)
