-- A line's bytes in the text, in the text as it is loaded, and in storage.
use Rattle.std.specs.Prelude.{IsTrue, slice_index}
use Rattle.std.proofs.Common.{◌≡◌, ◌⊎◌, inl, inr, ◌≤◌, ◌<◌, ℕ, ◌+◌, ◌^◌, false, Some, List, [], ◌∷◌, length, drop, refl, sym, ◌∙◌, ap, subst, arith}
use Rattle.std.specs.List.{AllByRecursion, list_any}
use Rattle.std.proofs.lemmas.Bool.Decides.{nat_tests}
use Rattle.std.proofs.lemmas.List.{get_or-drop, get_or-take, length-replicate}
use Rattle.cx_code.specs.declared.disassembly.Line.{Line}
use Rattle.cx_code.specs.declared.disassembly.LineContent.{LineContent}
use Rattle.cx_code.specs.declared.disassembly.LineContent.TheVariants.{Code, Data, Space}
use Rattle.cx_asm_image.specs.Assembled.{AssembledParts}
use Rattle.cx_asm_image.specs.Laws.Cover.{IsTextOf, StandsIn}
use Rattle.cx_asm_image.specs.Resolved.{AreApart, bytes_of, offset_after, size_of}
use Rattle.cx_asm_image.specs.Text.{section_text}
use Rattle.cx_load.specs.Fault.{IsFit, are_inside}
use Rattle.cx_load.specs.Facts.Faults.{facts_of_fit}
use Rattle.cx_load.specs.Laws.Words.{is_of_word}
use Rattle.cx_load.specs.Program.{IsLoaded, text_at}
use Rattle.cx_load.specs.Relocation.{relocated_text}
use Rattle.cx_load.specs.declared.program.Loaded.{Loaded}
use Rattle.cx_storage.specs.Address.{address_after}
use Rattle.cx_storage.specs.Laws.Spans.{SpanIsBytes}
use Rattle.cx_storage.specs.Place.{CanPlace, IsLeastPlace}
use Rattle.cx_storage.specs.Storage.{Storage, byte_at}
use Rattle.cx_asm_execution.specs.Laws.Loaded.{IsUnrelocated, LinesAreLoaded, StandsAt}
use Rattle.cx_asm_execution.proofs.InStorage.{HasText, TextsAreMade}

-- what the laws of lower crates say
pub record Known : Type 0 where
  pub text : (resolved : List Line) (size : ℕ) → AreApart 0 resolved size → IsTextOf resolved size (section_text resolved size)
  pub others : (at k : ℕ) (relocs text : List ℕ) → IsTrue (are_inside (length text) relocs) → list_any (is_of_word k) relocs ≡ false
      → slice_index (relocated_text at relocs text) k ≡ slice_index text k
  pub spans : SpanIsBytes

-- a byte of a line that is unraised is of no raised word
of_none : (relocs : List ℕ) (line : Line) (k : ℕ) → IsUnrelocated relocs line → line.at ≤ k → k < offset_after line → list_any (is_of_word k) relocs ≡ false
of_none [] line k clear low high = refl
of_none (r ∷ relocs) line k clear low high = rw (here clear.0) (of_none relocs line k clear.1 low high)
  where
    here : (r + 4 ≤ line.at) ⊎ (offset_after line ≤ r) → is_of_word k r ≡ false
    here (inl before) = grind (arith, nat_tests)
    here (inr beyond) = grind (arith, nat_tests)

size_is : (what : LineContent) → length (bytes_of what) ≡ size_of what
size_is (Code i) = refl
size_is (Data bytes) = refl
size_is (Space n) = length-replicate n 0

byte_in_text : (text : List ℕ) (line : Line) (j : ℕ) → StandsIn text line → j < size_of line.what → slice_index text (line.at + j) ≡ slice_index (bytes_of line.what) j
byte_in_text text line j stands less =
    sym (get_or-drop line.at text j 0) ∙ sym (get_or-take (size_of line.what) (drop line.at text) j 0 less) ∙ ap (λ k. slice_index k j) stands

place_small : (storage : Storage) (size at : ℕ) → IsLeastPlace storage 65536 2097151 size (Some at) → at + size ≤ 2097152
unfolding IsLeastPlace CanPlace
place_small storage size at least = (let ends = least.0.2 in omega (arith, ends))

pub along_twice : (at m j : ℕ) → address_after (address_after at m) j ≡ address_after at (m + j)
along_twice at m j = omega arith

one_loaded : Known → (storage after : Storage) (parts : AssembledParts) (loaded : Loaded) (line : Line) → HasText parts → IsFit parts.image → IsLoaded storage parts.image loaded after
    → StandsIn parts.image.text line → offset_after line ≤ length parts.image.text → IsUnrelocated parts.image.relocs line → StandsAt after loaded.at line
one_loaded known storage after parts loaded line is fit done stands inside clear =
    let text = parts.image.text in
    let n = length text in
    let small = place_small storage n loaded.at done.place in
    let at : loaded.at < 2 ^ 24 = omega (arith, small) in
    let whole = (known.spans after loaded.at n (text_at loaded.at parts.image) at).0 done.stands in
    (known.spans after (address_after loaded.at line.at) (size_of line.what) (bytes_of line.what) (omega arith)).1 (
      size_is line.what,
      λ j less.
          let k : line.at + j < n = omega (arith, less, inside) in
          let none = of_none parts.image.relocs line (line.at + j) clear (omega arith) (omega (arith, less)) in
          ap (byte_at after) (along_twice loaded.at line.at j) ∙ whole.1 (line.at + j) k
          ∙ ap Some (known.others loaded.at (line.at + j) parts.image.relocs text (facts_of_fit parts.image fit).inside none ∙ byte_in_text text line j stands less),
    )

every : Known → (storage after : Storage) (parts : AssembledParts) (loaded : Loaded) (lines : List Line) (from : ℕ) → HasText parts → IsFit parts.image → IsLoaded storage parts.image loaded after
    → AllByRecursion (StandsIn parts.image.text) lines → AreApart from lines (length parts.image.text)
    → AllByRecursion (λ line. IsUnrelocated parts.image.relocs line → StandsAt after loaded.at line) lines
every known storage after parts loaded [] from is fit done stand apart = tt
every known storage after parts loaded (line ∷ lines) from is fit done stand apart = (
  one_loaded known storage after parts loaded line is fit done stand.0 (ends lines (offset_after line) apart.1),
  every known storage after parts loaded lines (offset_after line) is fit done stand.1 apart.1,
)
  where
    ends : (rest : List Line) (at : ℕ) → AreApart at rest (length parts.image.text) → at ≤ length parts.image.text
    ends [] at a = a
    ends (l ∷ rest) at a = (let more = ends rest (offset_after l) a.1 in let first = a.0 in omega (arith, more, first))

pub all_loaded : Known → TextsAreMade → LinesAreLoaded
all_loaded known texts source assembly storage after loaded accepts fit done =
    let parts = assembly.section in
    let is = texts source assembly accepts in
    let text_is : IsTextOf parts.resolved (length parts.image.text) parts.image.text =
    subst (IsTextOf parts.resolved (length parts.image.text)) (sym is.text) (known.text parts.resolved (length parts.image.text) is.apart) in
    every known storage after parts loaded parts.resolved 0 is fit done text_is.stand is.apart
