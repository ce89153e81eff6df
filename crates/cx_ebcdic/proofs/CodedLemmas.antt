-- The codes of a text's characters, one more at a time, and a text whose characters all have one.
use Rattle.std.proofs.Common.{◌≡◌, ℕ, ◌+◌, ◌-◌, ◌<◌, Bool, true, false, Option, Some, None, List, [], ◌∷◌, ◌++◌, length, map, take, drop, get_or, set, suc, cond, replicate, refl, sym, ◌∙◌, ap, add-one, arith}
use Rattle.std.specs.Prelude.{option_map, is_none, position, not, nat_lt}
use Rattle.std.specs.List.{filter_map, cons_option, position_or_len}
use Rattle.std.proofs.lemmas.List.{take_more, map-append, take-append-drop}
use Rattle.std.proofs.Math.Seq.{take-suc-set, drop-cons}
use Rattle.std.proofs.lemmas.Bool.Decides.{nat_tests}
use Rattle.std.proofs.lemmas.List.{drop-set-lt, drop-replicate}
use Rattle.cx_ebcdic.specs.Lookup.{each_some}

pushed : (x y : ℕ) (o p : Option (List ℕ)) (ys : List ℕ) → option_map (λ rest. x ∷ rest) o ≡ Some ys → ((zs : List ℕ) → o ≡ Some zs → p ≡ Some (zs ++ y ∷ [])) → option_map (λ rest. x ∷ rest) p ≡ Some (ys ++ y ∷ [])
pushed x y None p ys h step = absurd (cc)
pushed x y (Some zs) p ys h step =
    let whole : ys ≡ x ∷ zs = cc in
    ap (option_map (λ rest. x ∷ rest)) (step zs refl) ∙ ap (λ l. Some (l ++ y ∷ [])) (sym whole)

each_some-push : (xs : List (Option ℕ)) (ys : List ℕ) (y : ℕ) → each_some xs ≡ Some ys → each_some (xs ++ Some y ∷ []) ≡ Some (ys ++ y ∷ [])
each_some-push [] ys y h = let empty : ys ≡ [] = cc in rw empty refl
each_some-push (None ∷ xs) ys y h = absurd (cc)
each_some-push (Some x ∷ xs) ys y h =
    pushed x y (each_some xs) (each_some (xs ++ Some y ∷ [])) ys h (λ zs e. each_some-push xs zs y e)

-- a missing part anywhere makes the whole missing
each_some-missing : (xs zs : List (Option ℕ)) → each_some (xs ++ None ∷ zs) ≡ None
each_some-missing [] zs = refl
each_some-missing (None ∷ xs) zs = refl
each_some-missing (Some x ∷ xs) zs = ap (option_map (λ rest. x ∷ rest)) (each_some-missing xs zs)

-- one more code, stored where the codes so far end
pub coded_more : (f : ℕ → Option ℕ) (text bytes : List ℕ) (i code : ℕ) → i < length text → i < length bytes → f (get_or text i 0) ≡ Some code → each_some (map f (take i text)) ≡ Some (take i bytes) → each_some (map f (take (i + 1) text)) ≡ Some (take (i + 1) (set bytes i code))
coded_more f text bytes i code in_text in_bytes has so_far =
    ap (λ t. each_some (map f t)) (take_more text i 0 in_text)
    ∙ ap each_some (map-append f (take i text) (get_or text i 0 ∷ []))
    ∙ ap (λ o. each_some (map f (take i text) ++ o ∷ [])) has
    ∙ each_some-push (map f (take i text)) (take i bytes) code so_far
    ∙ ap Some (sym (rw add-one (take-suc-set bytes i code in_bytes)))

-- a character without a code
pub uncoded : (f : ℕ → Option ℕ) (text : List ℕ) (i : ℕ) → i < length text → f (get_or text i 0) ≡ None → each_some (map f text) ≡ None
uncoded f text i in_text none =
    ap (λ t. each_some (map f t)) (sym (take-append-drop i text))
    ∙ ap each_some (map-append f (take i text) (drop i text))
    ∙ ap (λ t. each_some (map f (take i text) ++ map f t)) (drop-cons text i 0 in_text)
    ∙ ap (λ o. each_some (map f (take i text) ++ o ∷ map f (drop (suc i) text))) none
    ∙ each_some-missing (map f (take i text)) (map f (drop (suc i) text))

none_later : (k n : ℕ) → cond (nat_lt (1 + k) (suc n)) (Some (1 + k)) None ≡ None → cond (nat_lt k n) (Some k) None ≡ None
none_later k n h = grind (arith, nat_tests)

none_at : (b : Bool) (k n : ℕ) → cond (nat_lt (cond (not b) (1 + k) 0) (suc n)) (Some (cond (not b) (1 + k) 0)) None ≡ None → (b ≡ false) × (cond (nat_lt k n) (Some k) None ≡ None)
none_at true k n h = absurd (grind (arith, nat_tests))
none_at false k n h = (refl, none_later k n h)

-- no place is found after the first character either
none_after : (p : ℕ → Bool) (x : ℕ) (xs : List ℕ) → position p (x ∷ xs) ≡ None → (p x ≡ false) × (position p xs ≡ None)
none_after p x xs h = none_at (p x) (position_or_len p xs) (length xs) h

present : (f : ℕ → Option ℕ) (x : ℕ) (o : Option ℕ) (xs : List ℕ) → f x ≡ o → is_none o ≡ false → map f xs ≡ map Some (filter_map f xs) → map f (x ∷ xs) ≡ map Some (cons_option o (filter_map f xs))
present f x None xs e h rest = absurd (cc)
present f x (Some y) xs e h rest = ap (λ o. o ∷ map f xs) e ∙ ap (λ os. Some y ∷ os) rest

-- where each character has a code, leaving out those without one leaves out none
pub all_coded : (f : ℕ → Option ℕ) (xs : List ℕ) → position (λ x. is_none (f x)) xs ≡ None → map f xs ≡ map Some (filter_map f xs)
all_coded f [] h = refl
all_coded f (x ∷ xs) h =
    let parts = none_after (λ x. is_none (f x)) x xs h in
    present f x (f x) xs refl parts.0 (all_coded f xs parts.1)

-- the blanks after one more code
pub blanks_more : (bytes : List ℕ) (i code width : ℕ) → i < length bytes → drop i bytes ≡ replicate (width - i) 64 → drop (i + 1) (set bytes i code) ≡ replicate (width - (i + 1)) 64
blanks_more bytes i code width in_bytes so_far =
    let after : drop (i + 1) (set bytes i code) ≡ drop (i + 1) bytes = drop-set-lt (i + 1) bytes i code (omega arith) in
    let rest : drop (i + 1) bytes ≡ drop 1 (drop i bytes) = rw add-one (sym (ap (drop 1) (drop-cons bytes i 0 in_bytes))) in
    let more : drop 1 (replicate (width - i) 64) ≡ replicate (width - (i + 1)) 64 =
    drop-replicate 1 (width - i) 64 ∙ ap (λ n. replicate n 64) (omega arith) in
    after ∙ rest ∙ ap (drop 1) so_far ∙ more
