-- The last of some items.
use Rattle.std.proofs.Common.{◌≡◌, ℕ, ◌+◌, ◌-◌, List, [], ◌∷◌, ◌++◌, length, drop, sym, ap, ◌∙◌, arith}
use Rattle.std.proofs.lemmas.List.{drop-append-le, drop-drop, length-append, length-drop}
use Rattle.circular_buffer.specs.Buffer.{keep_last}

-- one more item: of what was kept, and of all
pub keep_one_more : {X : Type 0} (n : ℕ) (all : List X) (x : X) → keep_last n (keep_last n all ++ x ∷ []) ≡ keep_last n (all ++ x ∷ [])
keep_one_more n all x =
    let kept : drop (length all - n) (all ++ x ∷ []) ≡ drop (length all - n) all ++ x ∷ [] = drop-append-le (length all - n) all (x ∷ []) (omega arith) in
    let len : length (all ++ x ∷ []) ≡ length all + 1 = length-append all (x ∷ []) in
    let len_kept : length (drop (length all - n) (all ++ x ∷ [])) ≡ length (all ++ x ∷ []) - (length all - n) = length-drop (length all - n) (all ++ x ∷ []) in
    ap (λ l. drop (length l - n) l) (sym kept)
    ∙ drop-drop (length (drop (length all - n) (all ++ x ∷ [])) - n) (length all - n) (all ++ x ∷ [])
    ∙ ap (λ k. drop k (all ++ x ∷ [])) (omega (arith, len, len_kept))
