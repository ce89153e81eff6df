-- Hexadecimal digits decoded into the eight bytes of a name.
use Rattle.std.proofs.Common.{◌≡◌, ℕ, List, length, Some, None, Result, Ok, Err, MatchResult, is_ok, refl, sym, ◌∙◌}
use Rattle.std.specs.Prelude.{if◌then◌else◌}
use Rattle.std.specs.Result.{result_ok}
use Rattle.hex.specs.Hex.{decode_sized}
use Rattle.hex.specs.declared.error.FromHexError.{FromHexError}
use Rattle.cx_script_actions.specs.Words.{hex_bytes}

sized : (word : List ℕ) → length word ≡ 16 → result_ok (decode_sized word 8) ≡ hex_bytes word
unfolding hex_bytes
sized word is = rw is refl

pub spelled : (word : List ℕ) (r : Result (Unit {0}) FromHexError) (new : List ℕ) → length word ≡ 16
    → MatchResult (decode_sized word 8) (λ bytes. (r ≡ Ok tt) × (new ≡ bytes)) (λ e. r ≡ Err e)
    → hex_bytes word ≡ (if is_ok r then Some new else None)
spelled word r new is h = sym (sized word is) ∙ go (decode_sized word 8) h
  where
    go : (d : Result (List ℕ) FromHexError) → MatchResult d (λ bytes. (r ≡ Ok tt) × (new ≡ bytes)) (λ e. r ≡ Err e)
        → result_ok d ≡ (if is_ok r then Some new else None)
    go (Ok bytes) h = rw (h.0, h.1) refl
    go (Err e) h = rw h refl
