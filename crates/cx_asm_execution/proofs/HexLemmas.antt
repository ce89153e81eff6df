-- Bytes as hexadecimal digits, and as the constant that these write.
use Rattle.std.specs.Prelude.{codes, flat_map}
use Rattle.std.proofs.Common.{◌≡◌, ◌<◌, ℕ, true, Some, None, List, [], ◌∷◌, ◌++◌, length, refl, ◌∙◌, ap, arith}
use Rattle.std.proofs.lemmas.List.{append-nil}
use Rattle.cx_source.specs.Marks.{scan_depth_after, is_length_attribute, parts_from, within_after}
use Rattle.cx_source.specs.declared.marks.Delimiter.TheVariants.{TopComma}
use Rattle.cx_asm_expressions.specs.Items.{constant}
use Rattle.cx_asm_expressions.specs.declared.kinds.ConstantKind.TheVariants.{Hexadecimal}
use Rattle.cx_translate.specs.Call.{block_literal, hex_pair}
use Rattle.cx_asm_operands.specs.Forms.{literal_in, operands_of}
use Rattle.cx_asm_pass2.specs.Whole.{Whole}
use Rattle.cx_asm_execution.proofs.Literals.{HasBytes}
use Rattle.cx_asm_laws.specs.Facts.Hexadecimals.{EachIsByte, constant_is, hex_length, hex_plain, made_is}
use Rattle.cx_asm_laws.specs.Facts.Plain.{ArePlain, plain_cut}

pub hex_has_bytes : (whole : Whole) (bytes : List ℕ) → EachIsByte bytes → 0 < length bytes → HasBytes whole (88 ∷ 39 ∷ (flat_map hex_pair bytes ++ 39 ∷ [])) bytes
hex_has_bytes whole bytes h some =
    let hex = flat_map hex_pair bytes in
    let many = hex_length bytes in
    record {
      constant = constant 1 Hexadecimal None (Some hex);
      written = constant_is hex (hex_plain bytes h) (omega (arith, many, some));
      once = bytes;
      everywhere = λ counter. made_is whole counter bytes h some;
      all = append-nil bytes;
    }

-- ---- as a last operand
last_mark : (before last : ℕ) (part : List ℕ) → parts_from TopComma (record { within = true; depth = 0; before = before; last = last }) part (39 ∷ []) ≡ (part ++ 39 ∷ []) ∷ []
unfolding within_after scan_depth_after
last_mark before last part = refl

literal_cut : (hex : List ℕ) → ArePlain hex → operands_of (codes "0,=X'" ++ hex ++ codes "'") ≡ codes "0" ∷ (codes "=X'" ++ hex ++ codes "'") ∷ []
unfolding within_after scan_depth_after is_length_attribute
literal_cut hex plain =
    let cut = plain_cut (record { within = true; depth = 0; before = 88; last = 39 }) (codes "=X'") hex (39 ∷ []) plain in
    ap (λ k. codes "0" ∷ k) (cut.is ∙ last_mark cut.before cut.last (codes "=X'" ++ hex))

pub block_is_last : (bytes : List ℕ) → EachIsByte bytes → literal_in (codes "0," ++ block_literal bytes) ≡ Some (block_literal bytes)
unfolding literal_in
block_is_last bytes h = rw (literal_cut (flat_map hex_pair bytes) (hex_plain bytes h)) refl
