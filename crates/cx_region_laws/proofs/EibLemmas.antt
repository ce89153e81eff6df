-- What is in the fields of the EIB after a command's report.
use Rattle.std.proofs.Common.{◌≡◌, ℕ, ◌+◌, ◌^◌, ◌<◌, ◌≤◌, true, false, Option, Some, None, is_some, List, [], ◌∷◌, length, refl, sym, ◌∙◌, ap, subst, arith, inl, inr}
use Rattle.std.specs.Prelude.{◌⊎◌}
use Rattle.std.specs.Option.{option_map}
use Rattle.std.specs.Int.{w16, w32, to_be_bytes}
use Rattle.std.proofs.lemmas.Bool.{lt-ltb}
use Rattle.cx_base.specs.Eib.{eib_field, eib_len}
use Rattle.cx_base.specs.declared.eib.EibField.{EibField}
use Rattle.cx_base.specs.declared.eib.EibField.TheVariants.{Aid, Calen, Fn, Rcode, Resp, Rsrce}
use Rattle.cx_storage.specs.Address.{address_after}
use Rattle.cx_storage.specs.Storage.{Storage, after_write, areas_of, byte_at, span}
use Rattle.cx_storage.specs.Facts.Spans.{span_inside}
use Rattle.cx_storage.specs.Facts.Writes.{areas_after_write, present_after_write, span_after_write}
use Rattle.cx_region_state.specs.declared.report.CommandReport.{CommandReport}
use Rattle.cx_region_state.specs.declared.outputs.Output.{Output}
use Rattle.cx_region_state.specs.Report.{with_report, with_eib, with_set}
use Rattle.cx_region_state.specs.Call.{Call, place_of, resp_place}
use Rattle.cx_region_state.specs.Eib.{content, with_calen, with_field}
use Rattle.cx_region_state.specs.Outputs.{bytes_from, put_out, with_output}
use Rattle.cx_region_laws.specs.Laws.Bytes.{is_among}
use Rattle.cx_region_laws.specs.Laws.Reports.{field_at}
use Rattle.cx_region_laws.proofs.StandLemmas.{place_elsewhere, write_elsewhere}
use Rattle.cx_region_laws.proofs.StayingLemmas.{span_agree}

-- each address of the EIB has a byte
abbrev pub IsEibThere : Storage → ℕ → Type 0
IsEibThere s eib = (x : ℕ) → eib ≤ x → x < eib + eib_len → is_some (byte_at s x) ≡ true

-- fields that are apart, the second one with bytes
abbrev pub AreApart : EibField → EibField → ℕ → Type 0
AreApart f g n = ((eib_field f).offset + (eib_field f).len ≤ (eib_field g).offset) ⊎ ((eib_field g).offset + n ≤ (eib_field f).offset)

-- a field inside the EIB
abbrev pub IsInside : EibField → ℕ → Type 0
IsInside f n = (eib_field f).offset + n ≤ eib_len

-- ---- one field written
pub there_write : (s : Storage) (eib a : ℕ) (bytes : List ℕ) → IsEibThere s eib → IsEibThere (after_write s a bytes) eib
there_write s eib a bytes there x low high = present_after_write s a bytes x ∙ there x low high

pub there_field : (s : Storage) (eib : ℕ) (g : EibField) (bytes : List ℕ) → IsEibThere s eib → IsEibThere (with_field s eib (content g bytes)) eib
unfolding with_field
there_field s eib g bytes there = there_write s eib (address_after eib (eib_field g).offset) bytes there

there_set : (s : Storage) (eib : ℕ) (g : EibField) (o : Option (List ℕ)) → IsEibThere s eib → IsEibThere (with_set s eib g o) eib
unfolding with_set
there_set s eib g None there = there
there_set s eib g (Some bytes) there = there_field s eib g bytes there

pub field_here : (s : Storage) (eib : ℕ) (f : EibField) (bytes : List ℕ) → eib + eib_len ≤ 2 ^ 24 → IsEibThere s eib → IsInside f (length bytes) → 0 < length bytes → length bytes ≡ (eib_field f).len
    → field_at (with_field s eib (content f bytes)) eib f ≡ Some bytes
unfolding with_field
field_here s eib f bytes low there inside some long =
    let at : address_after eib (eib_field f).offset ≡ eib + (eib_field f).offset = omega (arith, low, inside, some) in
    let present : is_some (span s (address_after eib (eib_field f).offset) (length bytes)) ≡ true =
    rw at (span_inside s (eib + (eib_field f).offset) (length bytes) (omega (arith, low, inside)) (λ x from to. there x (omega (arith, from)) (omega (arith, to, inside)))) in
    subst (λ (n : ℕ). span (after_write s (address_after eib (eib_field f).offset) bytes) (address_after eib (eib_field f).offset) n ≡ Some bytes) long
    (span_after_write s (address_after eib (eib_field f).offset) bytes (omega arith) (omega (arith, inside)) present)

pub field_apart : (s : Storage) (eib : ℕ) (f g : EibField) (bytes : List ℕ) → eib + eib_len ≤ 2 ^ 24 → IsInside f (eib_field f).len → IsInside g (length bytes) → AreApart f g (length bytes)
    → field_at (with_field s eib (content g bytes)) eib f ≡ field_at s eib f
unfolding with_field
field_apart s eib f g bytes low inside also apart =
    span_agree (after_write s (address_after eib (eib_field g).offset) bytes) s (address_after eib (eib_field f).offset) (eib_field f).len (omega arith) (λ k less.
    let at : address_after (address_after eib (eib_field f).offset) k ≡ eib + (eib_field f).offset + k = omega (arith, low, inside, less) in
    write_elsewhere s (address_after eib (eib_field g).offset) bytes (address_after (address_after eib (eib_field f).offset) k) (omega arith)
    (elim apart [
      | inl before ↦ omega (arith, low, inside, also, less, before, at)
      | inr beyond ↦ omega (arith, low, inside, also, less, beyond, at)
    ]))

set_apart : (s : Storage) (eib : ℕ) (f g : EibField) (o : Option (List ℕ)) → eib + eib_len ≤ 2 ^ 24 → IsInside f (eib_field f).len → IsInside g (eib_field g).len → AreApart f g (eib_field g).len
    → ((bytes : List ℕ) → o ≡ Some bytes → length bytes ≡ (eib_field g).len) → field_at (with_set s eib g o) eib f ≡ field_at s eib f
unfolding with_set
set_apart s eib f g None low inside also apart long = refl
set_apart s eib f g (Some bytes) low inside also apart long =
    let is = long bytes refl in
    field_apart s eib f g bytes low inside (subst (IsInside g) (sym is) also) (subst (AreApart f g) (sym is) apart)

pub calen_apart : (s : Storage) (eib : ℕ) (f : EibField) (o : Option ℕ) → eib + eib_len ≤ 2 ^ 24 → IsInside f (eib_field f).len → AreApart f Calen 2
    → field_at (with_calen s eib o) eib f ≡ field_at s eib f
unfolding with_calen
calen_apart s eib f None low inside apart = refl
calen_apart s eib f (Some n) low inside apart = field_apart s eib f Calen (to_be_bytes w16 n) low inside (omega arith) apart

-- ---- the report in the EIB
aid_long : (o : Option ℕ) (bytes : List ℕ) → option_map (λ byte. byte ∷ []) o ≡ Some bytes → length bytes ≡ 1
aid_long None bytes e = cc
aid_long (Some b) bytes e = let is : b ∷ [] ≡ bytes = cc in ap length (sym is)

pub record InEib (s : Storage) (eib : ℕ) (answer : CommandReport) : Type 0 where
  pub fn : field_at (with_eib s eib answer) eib Fn ≡ Some (to_be_bytes w16 answer.function)
  pub rcode : field_at (with_eib s eib answer) eib Rcode ≡ Some (answer.condition ∷ 0 ∷ 0 ∷ 0 ∷ 0 ∷ 0 ∷ [])
  pub resp : field_at (with_eib s eib answer) eib Resp ≡ Some (to_be_bytes w32 answer.condition)
  pub rsrce : (name : List ℕ) → answer.resource ≡ Some name → field_at (with_eib s eib answer) eib Rsrce ≡ Some name
  pub unnamed : answer.resource ≡ None → field_at (with_eib s eib answer) eib Rsrce ≡ field_at s eib Rsrce
  pub calen : (n : ℕ) → answer.calen ≡ Some n → field_at (with_eib s eib answer) eib Calen ≡ Some (to_be_bytes w16 n)

pub in_eib : (s : Storage) (eib : ℕ) (answer : CommandReport) → eib + eib_len ≤ 2 ^ 24 → IsEibThere s eib → ((bytes : List ℕ) → answer.resource ≡ Some bytes → length bytes ≡ 8) → InEib s eib answer
unfolding with_eib with_calen with_set
in_eib s eib answer low there eight =
    let function = to_be_bytes w16 answer.function in
    let code : List ℕ = answer.condition ∷ 0 ∷ 0 ∷ 0 ∷ 0 ∷ 0 ∷ [] in
    let response = to_be_bytes w32 answer.condition in
    let aid = option_map (λ byte. byte ∷ []) answer.aid in
    let one = with_field s eib (content Fn function) in
    let two = with_field one eib (content Rcode code) in
    let three = with_field two eib (content Resp response) in
    let named = with_set three eib Rsrce answer.resource in
    let keyed = with_set named eib Aid aid in
    let there1 = there_field s eib Fn function there in
    let there2 = there_field one eib Rcode code there1 in
    let there3 = there_field two eib Resp response there2 in
    let there4 = there_set three eib Rsrce answer.resource there3 in
    let there5 = there_set named eib Aid aid there4 in
    record {
      fn =
          calen_apart keyed eib Fn answer.calen low (omega arith) (inr (omega arith))
          ∙ set_apart named eib Fn Aid aid low (omega arith) (omega arith) (inr (omega arith)) (aid_long answer.aid)
          ∙ set_apart three eib Fn Rsrce answer.resource low (omega arith) (omega arith) (inl (omega arith)) eight
          ∙ field_apart two eib Fn Resp response low (omega arith) (omega arith) (inl (omega arith))
          ∙ field_apart one eib Fn Rcode code low (omega arith) (omega arith) (inl (omega arith))
          ∙ field_here s eib Fn function low there (omega arith) (omega arith) refl;
      rcode =
          calen_apart keyed eib Rcode answer.calen low (omega arith) (inr (omega arith))
          ∙ set_apart named eib Rcode Aid aid low (omega arith) (omega arith) (inr (omega arith)) (aid_long answer.aid)
          ∙ set_apart three eib Rcode Rsrce answer.resource low (omega arith) (omega arith) (inl (omega arith)) eight
          ∙ field_apart two eib Rcode Resp response low (omega arith) (omega arith) (inl (omega arith))
          ∙ field_here one eib Rcode code low there1 (omega arith) (omega arith) refl;
      resp =
          calen_apart keyed eib Resp answer.calen low (omega arith) (inr (omega arith))
          ∙ set_apart named eib Resp Aid aid low (omega arith) (omega arith) (inr (omega arith)) (aid_long answer.aid)
          ∙ set_apart three eib Resp Rsrce answer.resource low (omega arith) (omega arith) (inr (omega arith)) eight
          ∙ field_here two eib Resp response low there2 (omega arith) (omega arith) refl;
      rsrce =
          λ name is.
          calen_apart keyed eib Rsrce answer.calen low (omega arith) (inr (omega arith))
          ∙ set_apart named eib Rsrce Aid aid low (omega arith) (omega arith) (inr (omega arith)) (aid_long answer.aid)
          ∙ ap (λ (o : Option (List ℕ)). field_at (with_set three eib Rsrce o) eib Rsrce) is
          ∙ field_here three eib Rsrce name low there3 (let long = eight name is in omega (arith, long)) (let long = eight name is in omega (arith, long)) (eight name is);
      unnamed =
          λ none.
          calen_apart keyed eib Rsrce answer.calen low (omega arith) (inr (omega arith))
          ∙ set_apart named eib Rsrce Aid aid low (omega arith) (omega arith) (inr (omega arith)) (aid_long answer.aid)
          ∙ ap (λ (o : Option (List ℕ)). field_at (with_set three eib Rsrce o) eib Rsrce) none
          ∙ field_apart two eib Rsrce Resp response low (omega arith) (omega arith) (inl (omega arith))
          ∙ field_apart one eib Rsrce Rcode code low (omega arith) (omega arith) (inr (omega arith))
          ∙ field_apart s eib Rsrce Fn function low (omega arith) (omega arith) (inr (omega arith));
      calen =
          λ n is.
          ap (λ (o : Option ℕ). field_at (with_calen keyed eib o) eib Calen) is
          ∙ field_here keyed eib Calen (to_be_bytes w16 n) low there5 (omega arith) (omega arith) refl;
    }

-- ---- what is written elsewhere
-- an address of the EIB
pub eib_has : (eib x : ℕ) → eib + eib_len ≤ 2 ^ 24 → eib ≤ x → x < eib + eib_len → is_among x (Some eib) eib_len ≡ true
eib_has eib x low from to = lt-ltb _ _ (omega (arith, low, from, to))

-- a field of the EIB is as it was where all addresses of the EIB have the bytes that they had
pub fields_agree : (s t : Storage) (eib : ℕ) (f : EibField) → eib + eib_len ≤ 2 ^ 24 → IsInside f (eib_field f).len
    → ((x : ℕ) → eib ≤ x → x < eib + eib_len → byte_at t x ≡ byte_at s x) → field_at t eib f ≡ field_at s eib f
fields_agree s t eib f low inside same =
    span_agree t s (address_after eib (eib_field f).offset) (eib_field f).len (omega arith) (λ k less.
    let at : address_after (address_after eib (eib_field f).offset) k ≡ eib + (eib_field f).offset + k = omega (arith, low, inside, less) in
    rw at (same (eib + (eib_field f).offset + k) (omega arith) (omega (arith, inside, less))))

-- RESP's word leaves a field that it doesn't lie over
pub resp_leaves : (s : Storage) (eib : ℕ) (f : EibField) (place : Option ℕ) (n : ℕ) → eib + eib_len ≤ 2 ^ 24 → IsInside f (eib_field f).len → ((p : ℕ) → place ≡ Some p → p < 2 ^ 24)
    → ((x : ℕ) → is_among x (Some eib) eib_len ≡ true → is_among x place 4 ≡ false) → field_at (with_output s place (to_be_bytes w32 n)) eib f ≡ field_at s eib f
resp_leaves s eib f place n low inside below apart =
    fields_agree s (with_output s place (to_be_bytes w32 n)) eib f low inside (λ x from to. place_elsewhere s place (to_be_bytes w32 n) x below (apart x (eib_has eib x low from to)))

-- and it is there itself, where it is in storage
pub resp_stands : (s : Storage) (place n : ℕ) → place < 2 ^ 24 → is_some (span s place 4) ≡ true → span (after_write s place (to_be_bytes w32 n)) place 4 ≡ Some (to_be_bytes w32 n)
resp_stands s place n low there = span_after_write s place (to_be_bytes w32 n) low (omega arith) there

-- ---- areas
output_areas : (s : Storage) (place : Option ℕ) (bytes : List ℕ) → areas_of (with_output s place bytes) ≡ areas_of s
output_areas s None bytes = refl
output_areas s (Some place) bytes = areas_after_write s place bytes

pub outputs_areas : (s : Storage) (call : Call) (text : List ℕ) (outputs : List Output) → areas_of (put_out s call text outputs) ≡ areas_of s
unfolding put_out
outputs_areas s call text [] = refl
outputs_areas s call text (output ∷ rest) =
    outputs_areas (with_output s (place_of call output.option) (bytes_from text output.source)) call text rest ∙ output_areas s (place_of call output.option) (bytes_from text output.source)

field_areas : (s : Storage) (eib : ℕ) (g : EibField) (bytes : List ℕ) → areas_of (with_field s eib (content g bytes)) ≡ areas_of s
unfolding with_field
field_areas s eib g bytes = areas_after_write s (address_after eib (eib_field g).offset) bytes

set_areas : (s : Storage) (eib : ℕ) (g : EibField) (o : Option (List ℕ)) → areas_of (with_set s eib g o) ≡ areas_of s
unfolding with_set
set_areas s eib g None = refl
set_areas s eib g (Some bytes) = field_areas s eib g bytes

pub calen_areas : (s : Storage) (eib : ℕ) (o : Option ℕ) → areas_of (with_calen s eib o) ≡ areas_of s
unfolding with_calen
calen_areas s eib None = refl
calen_areas s eib (Some n) = field_areas s eib Calen (to_be_bytes w16 n)

pub answer_areas : (s : Storage) (eib : ℕ) (call : Call) (answer : CommandReport) → areas_of (with_report s eib call answer) ≡ areas_of s
unfolding with_report with_eib
answer_areas s eib call answer =
    output_areas (with_eib s eib answer) (resp_place call) (to_be_bytes w32 answer.condition)
    ∙ calen_areas _ eib answer.calen
    ∙ set_areas _ eib Aid (option_map (λ byte. byte ∷ []) answer.aid)
    ∙ set_areas _ eib Rsrce answer.resource
    ∙ field_areas _ eib Resp (to_be_bytes w32 answer.condition)
    ∙ field_areas _ eib Rcode (answer.condition ∷ 0 ∷ 0 ∷ 0 ∷ 0 ∷ 0 ∷ [])
    ∙ field_areas s eib Fn (to_be_bytes w16 answer.function)
