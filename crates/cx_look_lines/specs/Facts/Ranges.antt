-- What is written of numbers that follow each other.
use Rattle.std.specs.Prelude.{◌≡◌, ℕ, zero, suc, ◌+◌, List, ◌++◌}
use Rattle.std.specs.List.{flat_map, range_with_len}
use Rattle.std.proofs.Common.{ap, arith, append_assoc, append-nil, sym, ◌∙◌}

of_one_more : {X : Type 0} (f : ℕ → List X) (a k : ℕ) → flat_map f (range_with_len a (suc k)) ≡ flat_map f (range_with_len a k) ++ f (a + k)
of_one_more f a zero =
    let same : a ≡ a + 0 = omega arith in
    append-nil (f a) ∙ ap f same
of_one_more f a (suc k) =
    let same : a + 1 + k ≡ a + suc k = omega arith in
    ap (λ more. f a ++ more) (of_one_more f (a + 1) k) ∙ sym (append_assoc (f a) (flat_map f (range_with_len (a + 1) k)) (f (a + 1 + k)))
    ∙ ap (λ n. (f a ++ flat_map f (range_with_len (a + 1) k)) ++ f n) same

pub of_next : {X : Type 0} (f : ℕ → List X) (a k n : ℕ) → a + k ≡ n → flat_map f (range_with_len a (k + 1)) ≡ flat_map f (range_with_len a k) ++ f n
of_next f a k n e =
    let next : k + 1 ≡ suc k = omega arith in
    ap (λ m. flat_map f (range_with_len a m)) next ∙ of_one_more f a k ∙ ap (λ m. flat_map f (range_with_len a k) ++ f m) e
