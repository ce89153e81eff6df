-- Lines of hexadecimal digits, decoded into a buffer of their length.
use Rattle.std.proofs.Common.{◌≡◌, ℕ, ◌/◌, true, false, List, length, Result, Ok, Err, MatchResult, MatchOption, is_ok, refl, ap, ◌∙◌, subst, eq-eqb}
use Rattle.std.specs.Result.{result_ok}
use Rattle.hex.specs.Hex.{decode_of, decode_sized}
use Rattle.hex.specs.declared.error.FromHexError.{FromHexError}
use Rattle.cx_script_actions.specs.Words.{hex_bytes}

answered : (d : Result (List ℕ) FromHexError) (r : Result (Unit {0}) FromHexError) (new : List ℕ)
    → MatchResult d (λ bytes. (r ≡ Ok tt) × (new ≡ bytes)) (λ e. r ≡ Err e)
    → MatchOption (result_ok d) (is_ok r ≡ false) (λ bytes. (is_ok r ≡ true) × (new ≡ bytes))
answered (Ok bytes) r new h = (ap is_ok h.0, h.1)
answered (Err e) r new h = ap is_ok h

half : (line : List ℕ) → decode_sized line (length line / 2) ≡ decode_of line
half line = rw (eq-eqb (length line / 2) (length line / 2) refl) refl

pub spelled : (line : List ℕ) (n : ℕ) (r : Result (Unit {0}) FromHexError) (new : List ℕ) → n ≡ length line / 2
    → MatchResult (decode_sized line n) (λ bytes. (r ≡ Ok tt) × (new ≡ bytes)) (λ e. r ≡ Err e)
    → MatchOption (hex_bytes line) (is_ok r ≡ false) (λ bytes. (is_ok r ≡ true) × (new ≡ bytes))
unfolding hex_bytes
spelled line n r new e h =
    subst (λ d. MatchOption (result_ok d) (is_ok r ≡ false) (λ bytes. (is_ok r ≡ true) × (new ≡ bytes))) (ap (decode_sized line) e ∙ half line)
    (answered (decode_sized line n) r new h)
