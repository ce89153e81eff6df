-- The disassembly of an accepted source is assembled to the same text.
use Rattle.std.specs.Prelude.{map}
use Rattle.std.proofs.Common.{◌≡◌, ◌≤◌, Ok, [], length, refl, sym, ◌∙◌, ap, subst, arith}
use Rattle.std.specs.List.{AllByRecursion}
use Rattle.cx_code.specs.Lines.{lines}
use Rattle.cx_source.specs.declared.source.Source.{Source}
use Rattle.cx_asm_image.specs.Resolved.{AreApart}
use Rattle.cx_asm_image.specs.Text.{text_from, section_text}
use Rattle.cx_asm.specs.Assembly.{AssemblyParts, assembly_of, assembly_parts, section_of, control_section_size}
use Rattle.cx_asm.specs.Facts.Accepted.{accepted}
use Rattle.cx_asm_laws.specs.Laws.Again.{AssemblesAgain, filled}
use Rattle.cx_asm_laws.specs.Laws.Back.{LinesAreResolved}
use Rattle.cx_asm_laws.proofs.AgainLemmas.{HasBytes, IsShort, all_have, all_short, filled_end, filled_has, filled_sound, filled_text, lines_of, made_again, whats_of}
use Rattle.cx_asm_laws.proofs.BackLemmas.{Resolves}
use Rattle.cx_asm_laws.proofs.RightLemmas.{all_right}
use Rattle.cx_asm_laws.proofs.WrittenLemmas.{AreSoundFrom, Known, end_from}

-- what the laws of lower crates say of assemblies
pub record Apart : Type 0 where
  pub size : (source : Source) (made : AssemblyParts) → assembly_of source ≡ Ok made → length made.section.image.text ≡ control_section_size source
  pub short : (source : Source) (made : AssemblyParts) → assembly_of source ≡ Ok made → control_section_size source ≤ 65536
  pub lines : (source : Source) (made : AssemblyParts) → assembly_of source ≡ Ok made → AreApart 0 made.section.resolved (length made.section.image.text)

text_is : Apart → (source : Source) (made : AssemblyParts) → assembly_of source ≡ Ok made → made.section.image.text ≡ section_text made.section.resolved (length made.section.image.text)
unfolding section_of
text_is apart source made e =
    let same = (accepted source made e).made_is in
    let lines : made.section.resolved ≡ (section_of source).resolved = ap (λ k. k.section.resolved) (sym same) in
    let text : made.section.image.text ≡ section_text (section_of source).resolved (control_section_size source) = ap (λ k. k.section.image.text) (sym same) in
    text ∙ rw (lines, apart.size source made e) refl

pub assembles_again : Known → Resolves → Apart → LinesAreResolved → AssemblesAgain
unfolding section_text
assembles_again known resolves apart back source again made whats name section e named is never stated =
    let text = made.section.image.text in
    let resolved = made.section.resolved in
    let within = apart.lines source made e in
    let small : length text ≤ 65536 = (let size = apart.size source made e in let least = apart.short source made e in omega (arith, size, least)) in
    let lines_are : lines text made.section.spans ≡ resolved = back source made e in
    let filled_is : filled 0 resolved (length text) ≡ whats = ap (λ k. filled 0 k (length text)) (sym lines_are) ∙ is in
    let right = all_right resolves source made e in
    let ends : end_from 0 whats ≡ length text = ap (end_from 0) (sym filled_is) ∙ filled_end 0 resolved (length text) within in
    let has = subst (AllByRecursion HasBytes) filled_is (filled_has 0 resolved (length text) (all_have known resolved right)) in
    let short = all_short 0 whats has (omega (arith, ends, small)) (λ zero. never) in
    let sound = subst (AreSoundFrom 0) filled_is (filled_sound 0 resolved (length text) within right (subst (AllByRecursion IsShort) (sym filled_is) short)) in
    let m = made_again known again name section whats (length text) named stated sound ends small in
    let same : section_text (lines_of 0 whats) (length text) ≡ text =
    ap (λ k. text_from 0 (lines_of 0 k) (length text)) (sym filled_is) ∙ filled_text 0 resolved (length text) within ∙ sym (text_is apart source made e) in
    record {
      made = assembly_parts again;
      accepted = m.accepted;
      image = ap (λ k. k.image) m.parts ∙ ap (λ t. record { text = t; entry = 0; relocs = []; stg_len = 80 }) same;
      lines = ap (λ k. map (λ l. l.what) k.resolved) m.parts ∙ whats_of 0 whats;
    }
