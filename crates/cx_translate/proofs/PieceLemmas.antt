-- Lemmas on the pieces of an operand.
use Rattle.std.proofs.Common.{◌≡◌, ◌<◌, ◌≤◌, ℕ, ◌+◌, ◌-◌, Bool, true, false, cond, List, [], ◌∷◌, ◌++◌, length, suc, drop, refl, ap, sym, ◌∙◌, ◌⊎◌, inl, inr, arith, append_assoc, get_or, drop-cons, add-one, ◌&&◌, nat_eq, ◌≢◌, take, length-drop}
use Rattle.std.proofs.lemmas.Grind.{common_steps, flat_map-append}
use Rattle.std.proofs.lemmas.List.{append-nil, take_more, get_or-drop}
use Rattle.std.proofs.lemmas.Bool.Decides.{eqb_tells}
use Rattle.std.proofs.Math.Dec.{eqb}
use Rattle.std.specs.List.{slice_range}
use Rattle.cx_source.specs.declared.marks.Scan.{Scan}
use Rattle.cx_source.specs.Marks.{outside_apostrophes, outside_from, scan_after, at_start}
use Rattle.cx_translate.specs.declared.pieces.Token.{Token}
use Rattle.cx_translate.specs.declared.pieces.Token.TheVariants.{Broken}
use Rattle.cx_translate.specs.Pieces.{pieces_of, pieces_from, depth_after, is_cut, end_of_pieces, last_of, word}
use Rattle.cx_translate.specs.Laws.Joined.{joined, written, unblanked_from}

marks_length_from : (scan : Scan) (text : List ℕ) → length (outside_from scan text) ≡ length text
marks_length_from scan [] = refl
marks_length_from scan (c ∷ following) = ap suc (marks_length_from (scan_after scan c following) following)

-- each character is marked
pub marks_length : (text : List ℕ) → length (outside_apostrophes text) ≡ length text
marks_length text = marks_length_from at_start text

-- a mark and those after it
pub marks_at : (marks : List Bool) (i : ℕ) (d : Bool) → i < length marks → drop i marks ≡ get_or marks i d ∷ drop (i + 1) marks
marks_at marks i d h = rw add-one (drop-cons marks i d h)

range_none : (text : List ℕ) (i : ℕ) → slice_range text i i ≡ []
range_none text i = grind (arith, common_steps)

range_more : (text : List ℕ) (start i : ℕ) → start ≤ i → i < length text → slice_range text start (i + 1) ≡ slice_range text start i ++ get_or text i 0 ∷ []
range_more text start i b h =
    let n : i + 1 - start ≡ (i - start) + 1 = omega arith in
    let l : i - start < length (drop start text) = omega (arith, length-drop start text) in
    let k : start + (i - start) ≡ i = omega arith in
    rw n (take_more (drop start text) (i - start) 0 l ∙ ap (λ c. take (i - start) (drop start text) ++ c ∷ []) (get_or-drop start text (i - start) 0 ∙ ap (λ j. get_or text j 0) k))

-- a character and those after it
text_at : (text : List ℕ) (i : ℕ) → i < length text → drop i text ≡ get_or text i 0 ∷ drop (i + 1) text
text_at text i h = rw add-one (drop-cons text i 0 h)

passed_cut : (depth : ℕ) (part cs following : List ℕ) (marks after : List Bool) (o : Bool) (c : ℕ) → marks ≡ o ∷ after → cs ≡ c ∷ following → is_cut depth o c ≡ true
    → pieces_from depth part marks cs ≡ end_of_pieces depth part c ++ pieces_from (depth_after depth o c) [] after following
passed_cut depth part cs following marks after o c m t e = rw (m, t) (simp e)

passed_on : (depth : ℕ) (part cs following : List ℕ) (marks after : List Bool) (o : Bool) (c : ℕ) → marks ≡ o ∷ after → cs ≡ c ∷ following → is_cut depth o c ≡ false
    → pieces_from depth part marks cs ≡ pieces_from (depth_after depth o c) (part ++ c ∷ []) after following
passed_on depth part cs following marks after o c m t e = rw (m, t) (simp e)

-- one character more, where it ends pieces
pub cut_step : (pieces more whole : List Token) (depth next : ℕ) (text : List ℕ) (marks : List Bool) (start i : ℕ)
    → length marks ≡ length text → i < length text → is_cut depth (get_or marks i false) (get_or text i 0) ≡ true
    → next ≡ depth_after depth (get_or marks i false) (get_or text i 0)
    → more ≡ pieces ++ end_of_pieces depth (slice_range text start i) (get_or text i 0)
    → pieces ++ pieces_from depth (slice_range text start i) (drop i marks) (drop i text) ≡ whole
    → more ++ pieces_from next (slice_range text (i + 1) (i + 1)) (drop (i + 1) marks) (drop (i + 1) text) ≡ whole
cut_step pieces more whole depth next text marks start i l h e n m w =
    let a = marks_at marks i false (omega arith) in
    let b = text_at text i h in
    rw (m, n, range_none text (i + 1)) (append_assoc pieces (end_of_pieces depth (slice_range text start i) (get_or text i 0)) (pieces_from (depth_after depth (get_or marks i false) (get_or text i 0)) [] (drop (i + 1) marks) (drop (i + 1) text)) ∙ (ap (λ rest. pieces ++ rest) (sym (passed_cut depth (slice_range text start i) (drop i text) (drop (i + 1) text) (drop i marks) (drop (i + 1) marks) _ _ a b e)) ∙ w))

-- and where it doesn't
pub on_step : (pieces whole : List Token) (depth next : ℕ) (text : List ℕ) (marks : List Bool) (start i : ℕ)
    → length marks ≡ length text → start ≤ i → i < length text → is_cut depth (get_or marks i false) (get_or text i 0) ≡ false
    → next ≡ depth_after depth (get_or marks i false) (get_or text i 0)
    → pieces ++ pieces_from depth (slice_range text start i) (drop i marks) (drop i text) ≡ whole
    → pieces ++ pieces_from next (slice_range text start (i + 1)) (drop (i + 1) marks) (drop (i + 1) text) ≡ whole
on_step pieces whole depth next text marks start i l s h e n w =
    let a = marks_at marks i false (omega arith) in
    let b = text_at text i h in
    rw (n, range_more text start i s h) (ap (λ rest. pieces ++ rest) (sym (passed_on depth (slice_range text start i) (drop i text) (drop (i + 1) text) (drop i marks) (drop (i + 1) marks) _ _ a b e)) ∙ w)

-- what there is of a piece already, as it is written
abbrev pub front : ℕ → List ℕ → List ℕ
front depth part = cond (nat_eq depth 0) part (40 ∷ part)

abbrev pub unblanked : Bool → ℕ → List ℕ → List ℕ
unblanked blank c rest = cond blank rest (c ∷ rest)

written_word : (part : List ℕ) → joined (word part) ≡ part
written_word [] = refl
written_word (c ∷ cs) = at (eqb_tells (length (c ∷ cs)) 0)
  where
    at : ((eqb (length (c ∷ cs)) 0 ≡ true) × (length (c ∷ cs) ≡ 0)) ⊎ ((eqb (length (c ∷ cs)) 0 ≡ false) × (length (c ∷ cs) ≢ 0)) → joined (word (c ∷ cs)) ≡ c ∷ cs
    at (inl p) = absurd (let z : suc (length cs) ≡ 0 = p.1 in omega arith)
    at (inr p) = simp p.0 (append-nil (c ∷ cs))

written_last : (depth : ℕ) (part : List ℕ) → joined (last_of depth part) ≡ front depth part ++ []
unfolding last_of
written_last depth part = go (nat_eq depth 0)
  where
    go : (b : Bool) → joined (cond b (word part) (Broken (40 ∷ part) ∷ [])) ≡ cond b part (40 ∷ part) ++ []
    go true = simp (append-nil, written_word part)
    go false = simp append-nil

-- where a piece ends nothing is lost except a blank
pub kept_cut : (depth : ℕ) (part rest : List ℕ) (o : Bool) (c : ℕ) → is_cut depth o c ≡ true
    → joined (end_of_pieces depth part c) ++ (front (depth_after depth o c) [] ++ rest)
    ≡ front depth part ++ unblanked (o && nat_eq depth 0 && nat_eq c 32) c rest
unfolding is_cut depth_after end_of_pieces
kept_cut depth part rest false c e = absurd (cc)
kept_cut depth part rest true c e = at (eqb_tells depth 0) (eqb_tells depth 1) (eqb_tells c 32) (eqb_tells c 40) (eqb_tells c 41)
  where
    at : ((eqb depth 0 ≡ true) × (depth ≡ 0)) ⊎ ((eqb depth 0 ≡ false) × (depth ≢ 0))
        → ((eqb depth 1 ≡ true) × (depth ≡ 1)) ⊎ ((eqb depth 1 ≡ false) × (depth ≢ 1))
        → ((eqb c 32 ≡ true) × (c ≡ 32)) ⊎ ((eqb c 32 ≡ false) × (c ≢ 32))
        → ((eqb c 40 ≡ true) × (c ≡ 40)) ⊎ ((eqb c 40 ≡ false) × (c ≢ 40))
        → ((eqb c 41 ≡ true) × (c ≡ 41)) ⊎ ((eqb c 41 ≡ false) × (c ≢ 41))
        → joined (end_of_pieces depth part c) ++ (front (depth_after depth true c) [] ++ rest) ≡ front depth part ++ unblanked (true && nat_eq depth 0 && nat_eq c 32) c rest
    at (inl d) _ (inl b) _ _ = rw (d.1, b.1) (simp (append-nil, written_word part))
    at (inl d) _ (inr _) (inl b) _ = rw (d.1, b.1) (simp (append-nil, written_word part))
    at (inl d) _ (inr _) (inr _) (inl b) = rw (d.1, b.1) (simp (flat_map-append, append-nil, written_word part, append_assoc))
    at (inl d) _ (inr x) (inr y) (inr z) = let f = (simp (d.0, x.0, y.0, z.0) at e) in absurd (cc)
    at (inr _) (inl d) _ _ (inl b) = rw (d.1, b.1) (ap (λ xs. 40 ∷ xs) (ap (λ xs. xs ++ rest) (append-nil (part ++ 41 ∷ [])) ∙ append_assoc part (41 ∷ []) rest))
    at (inr x) (inl d) _ _ (inr z) = let f = (simp (x.0, d.0, z.0) at e) in absurd (cc)
    at (inr x) (inr y) _ _ _ = let f = (simp (x.0, y.0) at e) in absurd (cc)

-- in parentheses nothing is lost
in_parentheses : (d depth : ℕ) (part rest : List ℕ) (o : Bool) (c : ℕ) → d ≢ 0 → depth ≢ 0
    → front d (part ++ c ∷ []) ++ rest ≡ front depth part ++ unblanked (o && nat_eq depth 0 && nat_eq c 32) c rest
in_parentheses d depth part rest o c x y = at o (eqb_tells d 0) (eqb_tells depth 0)
  where
    at : (o : Bool) → ((eqb d 0 ≡ true) × (d ≡ 0)) ⊎ ((eqb d 0 ≡ false) × (d ≢ 0)) → ((eqb depth 0 ≡ true) × (depth ≡ 0)) ⊎ ((eqb depth 0 ≡ false) × (depth ≢ 0))
        → front d (part ++ c ∷ []) ++ rest ≡ front depth part ++ unblanked (o && nat_eq depth 0 && nat_eq c 32) c rest
    at o (inl a) _ = absurd (x a.1)
    at o (inr _) (inl b) = absurd (y b.1)
    at false (inr a) (inr b) = simp (a.0, b.0) (ap (λ xs. 40 ∷ xs) (append_assoc part (c ∷ []) rest))
    at true (inr a) (inr b) = simp (a.0, b.0) (ap (λ xs. 40 ∷ xs) (append_assoc part (c ∷ []) rest))

pub kept_on : (depth : ℕ) (part rest : List ℕ) (o : Bool) (c : ℕ) → is_cut depth o c ≡ false
    → front (depth_after depth o c) (part ++ c ∷ []) ++ rest
    ≡ front depth part ++ unblanked (o && nat_eq depth 0 && nat_eq c 32) c rest
unfolding is_cut depth_after
kept_on depth part rest false c e = at (eqb_tells depth 0)
  where
    at : ((eqb depth 0 ≡ true) × (depth ≡ 0)) ⊎ ((eqb depth 0 ≡ false) × (depth ≢ 0))
        → front depth (part ++ c ∷ []) ++ rest ≡ front depth part ++ unblanked false c rest
    at (inl a) = rw a.1 (append_assoc part (c ∷ []) rest)
    at (inr a) = in_parentheses depth depth part rest false c a.1 a.1
kept_on depth part rest true c e = at (eqb_tells depth 0) (eqb_tells depth 1) (eqb_tells c 32) (eqb_tells c 40) (eqb_tells c 41)
  where
    at : ((eqb depth 0 ≡ true) × (depth ≡ 0)) ⊎ ((eqb depth 0 ≡ false) × (depth ≢ 0))
        → ((eqb depth 1 ≡ true) × (depth ≡ 1)) ⊎ ((eqb depth 1 ≡ false) × (depth ≢ 1))
        → ((eqb c 32 ≡ true) × (c ≡ 32)) ⊎ ((eqb c 32 ≡ false) × (c ≢ 32))
        → ((eqb c 40 ≡ true) × (c ≡ 40)) ⊎ ((eqb c 40 ≡ false) × (c ≢ 40))
        → ((eqb c 41 ≡ true) × (c ≡ 41)) ⊎ ((eqb c 41 ≡ false) × (c ≢ 41))
        → front (depth_after depth true c) (part ++ c ∷ []) ++ rest ≡ front depth part ++ unblanked (true && nat_eq depth 0 && nat_eq c 32) c rest
    at (inl d) _ (inl b) _ _ = let f = (rw (d.1, b.1) at e) in absurd (cc)
    at (inl d) _ (inr _) (inl b) _ = let f = (rw (d.1, b.1) at e) in absurd (cc)
    at (inl d) _ (inr _) (inr _) (inl b) = let f = (rw (d.1, b.1) at e) in absurd (cc)
    at (inl d) _ (inr x) (inr y) (inr z) = rw d.1 (simp (x.0, y.0, z.0) (append_assoc part (c ∷ []) rest))
    at (inr d) _ _ (inl b) _ = rw b.1 (in_parentheses (depth + 1) depth part rest true 40 (λ p. omega arith) d.1)
    at (inr d) (inl f) _ (inr _) (inl b) = let g = (rw (f.1, b.1) at e) in absurd (cc)
    at (inr d) (inr f) _ (inr _) (inl b) = rw b.1 (in_parentheses (depth - 1) depth part rest true 41 (λ p. omega arith) d.1)
    at (inr d) _ _ (inr y) (inr z) = simp (y.0, z.0) (in_parentheses depth depth part rest true c d.1 d.1)

joined_from : (depth : ℕ) (part : List ℕ) (marks : List Bool) (cs : List ℕ) → joined (pieces_from depth part marks cs) ≡ front depth part ++ unblanked_from depth marks cs
joined_from depth part [] cs = written_last depth part
joined_from depth part (o ∷ marks) [] = written_last depth part
joined_from depth part (o ∷ marks) (c ∷ cs) =
    go (is_cut depth o c) refl (joined_from (depth_after depth o c) [] marks cs) (joined_from (depth_after depth o c) (part ++ c ∷ []) marks cs)
  where
    go : (b : Bool) → is_cut depth o c ≡ b
        → joined (pieces_from (depth_after depth o c) [] marks cs) ≡ front (depth_after depth o c) [] ++ unblanked_from (depth_after depth o c) marks cs
        → joined (pieces_from (depth_after depth o c) (part ++ c ∷ []) marks cs) ≡ front (depth_after depth o c) (part ++ c ∷ []) ++ unblanked_from (depth_after depth o c) marks cs
        → joined (cond b (end_of_pieces depth part c ++ pieces_from (depth_after depth o c) [] marks cs) (pieces_from (depth_after depth o c) (part ++ c ∷ []) marks cs)) ≡ front depth part ++ unblanked (o && nat_eq depth 0 && nat_eq c 32) c (unblanked_from (depth_after depth o c) marks cs)
    go true e cut on = flat_map-append written (end_of_pieces depth part c) (pieces_from (depth_after depth o c) [] marks cs) ∙ (ap (λ xs. joined (end_of_pieces depth part c) ++ xs) cut ∙ kept_cut depth part (unblanked_from (depth_after depth o c) marks cs) o c e)
    go false e cut on = on ∙ kept_on depth part (unblanked_from (depth_after depth o c) marks cs) o c e

pub joined_again : (operand : List ℕ) → joined (pieces_of operand) ≡ unblanked_from 0 (outside_apostrophes operand) operand
unfolding pieces_of
joined_again operand = joined_from 0 [] (outside_apostrophes operand) operand
