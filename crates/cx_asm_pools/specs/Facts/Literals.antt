-- The literals of a pool, from the open pool to their places.
use Rattle.std.specs.Prelude.{◌⊎◌, if◌then◌else◌, ◌==◌, ◌%◌, is_ok, is_some, sum_by}
use Rattle.std.proofs.Common.{◌≡◌, ◌≤◌, ℕ, ◌+◌, Bool, true, false, cond, Option, Some, None, List, [], ◌∷◌, ◌++◌, refl, sym, ◌∙◌, ap, subst, inl, inr, ⊎_elim, append_assoc, arith}
use Rattle.std.specs.List.{AllByRecursion, IsDistinct}
use Rattle.std.specs.Map.{lookup, keys_of}
use Rattle.std.specs.Option.{option_map_or}
use Rattle.std.specs.Str.{bytes_eq}
use Rattle.std.proofs.lemmas.Bool.{cases_Bool}
use Rattle.std.proofs.lemmas.Bool.Decides.{nat_tests}
use Rattle.std.proofs.lemmas.Cmp.{nat_list_eq_equiv}
use Rattle.std.proofs.lemmas.List.Sums.{sum_by-cons}
use Rattle.std.proofs.lemmas.Map.Keys.{IsDistinct-head, IsDistinct-tail, IsDistinct-cons}
use Rattle.cx_asm_expressions.specs.Digits.{bound}
use Rattle.cx_asm_expressions.specs.Items.{constant_in}
use Rattle.cx_asm_pools.specs.Laws.Literals.{IsPool, StandFrom, StandApart}
use Rattle.cx_asm_pools.specs.Pools.{OpenLiterals, cap, group_of, by_groups, literal_size, literal_text, of_group, closed_pool, placed_from, pool_size, with_literal, with_part, with_parts}
use Rattle.cx_asm_pools.specs.declared.open.Used.{Used}

-- ---- texts that occur once
-- no literal has the text
abbrev Lacks : List ℕ → OpenLiterals → Type 0
Lacks text pool = AllByRecursion (λ k. bytes_eq text k ≡ false) (keys_of pool)

none_once : IsDistinct bytes_eq []
unfolding IsDistinct
none_once = tt

pub no_pool : IsPool []
no_pool = record { once = none_once; sizes = tt }

lacks_more : (text : List ℕ) (xs ys : OpenLiterals) (e : List ℕ × Used) → Lacks text (xs ++ ys) → bytes_eq text e.0 ≡ false → Lacks text (xs ++ e ∷ ys)
lacks_more text [] ys e all apart = (apart, all)
lacks_more text (x ∷ xs) ys e all apart = (all.0, lacks_more text xs ys e all.1 apart)

once_more : (xs ys : OpenLiterals) (e : List ℕ × Used) → IsDistinct bytes_eq (keys_of (xs ++ ys)) → Lacks e.0 (xs ++ ys) → IsDistinct bytes_eq (keys_of (xs ++ e ∷ ys))
once_more [] ys e once lacks = IsDistinct-cons bytes_eq e.0 (keys_of ys) lacks once
once_more (x ∷ xs) ys e once lacks =
    IsDistinct-cons bytes_eq x.0 (keys_of (xs ++ e ∷ ys))
    (lacks_more x.0 xs ys e (IsDistinct-head bytes_eq x.0 (keys_of (xs ++ ys)) once) (nat_list_eq_equiv.symm x.0 e.0 ∙ lacks.0))
    (once_more xs ys e (IsDistinct-tail bytes_eq x.0 (keys_of (xs ++ ys)) once) lacks.1)

not_first : (b : Bool) (used : Used) (rest : Option Used) → is_some (cond b (Some used) rest) ≡ false → (b ≡ false) × (is_some rest ≡ false)
not_first true used rest e = let f : true ≡ false = e in cc
not_first false used rest e = (refl, e)

lacks_absent : (text : List ℕ) (pool : OpenLiterals) → is_some (lookup (bytes_eq text) pool) ≡ false → Lacks text pool
lacks_absent text [] e = tt
lacks_absent text (x ∷ xs) e = let parts = not_first (bytes_eq text x.0) x.1 (lookup (bytes_eq text) xs) e in (parts.0, lacks_absent text xs parts.1)

-- ---- a pool with one operand more
size_pushed : (xs : OpenLiterals) (e : List ℕ × Used) → AllByRecursion (λ x. x.1.size ≡ literal_size x.0) xs → e.1.size ≡ literal_size e.0
    → AllByRecursion (λ x. x.1.size ≡ literal_size x.0) (xs ++ e ∷ [])
size_pushed [] e all same = (same, tt)
size_pushed (x ∷ xs) e all same = (all.0, size_pushed xs e all.1 same)

append_none : (xs : OpenLiterals) → xs ++ [] ≡ xs
append_none [] = refl
append_none (x ∷ xs) = ap (λ l. x ∷ l) (append_none xs)

-- a text after the others that none of them has
pub once_after : (pool : OpenLiterals) (text : List ℕ) (used : Used) → is_some (lookup (bytes_eq text) pool) ≡ false → IsDistinct bytes_eq (keys_of pool)
    → IsDistinct bytes_eq (keys_of (pool ++ (text, used) ∷ []))
once_after pool text used none once =
    once_more pool [] (text, used) (subst (λ l. IsDistinct bytes_eq (keys_of l)) (sym (append_none pool)) once)
    (subst (λ l. Lacks text l) (sym (append_none pool)) (lacks_absent text pool none))

with_literal_pool : (pool : OpenLiterals) (text : List ℕ) (used : Used) → used.size ≡ literal_size text → IsPool pool → IsPool (with_literal pool text used)
with_literal_pool pool text used same h = ⊎_elim
    (λ yes. rw yes h)
    (λ no. rw no (
    record {
      once = once_after pool text used no h.once;
      sizes = size_pushed pool (text, used) h.sizes same;
    }))
    (cases_Bool (is_some (lookup (bytes_eq text) pool)))

abbrev with_text : ℕ → OpenLiterals → List ℕ → OpenLiterals
with_text user pool text = if is_ok (constant_in false text) then with_literal pool text (record { size = literal_size text; user = user }) else pool

with_text_pool : (user : ℕ) (pool : OpenLiterals) (text : Option (List ℕ)) → IsPool pool → IsPool (option_map_or (with_text user pool) text pool)
with_text_pool user pool None h = h
with_text_pool user pool (Some text) h = go (is_ok (constant_in false text))
  where
    go : (b : Bool) → IsPool (if b then with_literal pool text (record { size = literal_size text; user = user }) else pool)
    go true = with_literal_pool pool text (record { size = literal_size text; user = user }) refl h
    go false = h

pub pool_more : (user : ℕ) (pool : OpenLiterals) (operands : List (List ℕ)) → IsPool pool → IsPool (with_parts user pool operands)
pool_more user pool [] h = h
pool_more user pool (part ∷ operands) h = pool_more user (with_part user pool part) operands (with_text_pool user pool (literal_text part) h)

-- ---- the literals by their groups
abbrev put_first : ℕ → ℕ → List ℕ × Used → OpenLiterals → OpenLiterals
put_first own group e es = if own == group then e ∷ es else es

abbrev chosen : Bool → Bool → Bool → ℕ
chosen by8 by4 by2 = if by8 then 8 else (if by4 then 4 else (if by2 then 2 else 1))

module _ (P : OpenLiterals → Type 0) (e : List ℕ × Used) (f8 f4 f2 f1 : OpenLiterals) (h : (xs ys : OpenLiterals) → xs ++ ys ≡ f8 ++ f4 ++ f2 ++ f1 → P (xs ++ e ∷ ys)) where
  after_first : (second : OpenLiterals) → ((f8 ++ second) ++ f2) ++ f1 ≡ f8 ++ ((second ++ f2) ++ f1)
  after_first second = ap (λ l. l ++ f1) (append_assoc f8 second f2) ∙ append_assoc f8 (second ++ f2) f1

  by_tests : (by8 by4 by2 : Bool)
      → P (put_first (chosen by8 by4 by2) 8 e f8 ++ put_first (chosen by8 by4 by2) 4 e f4 ++ put_first (chosen by8 by4 by2) 2 e f2 ++ put_first (chosen by8 by4 by2) 1 e f1)
  by_tests true by4 by2 = h [] (f8 ++ f4 ++ f2 ++ f1) refl
  by_tests false true by2 = subst P (sym (after_first (e ∷ f4))) (h f8 ((f4 ++ f2) ++ f1) (sym (after_first f4)))
  by_tests false false true = subst P (sym (append_assoc (f8 ++ f4) (e ∷ f2) f1)) (h (f8 ++ f4) (f2 ++ f1) (sym (append_assoc (f8 ++ f4) f2 f1)))
  by_tests false false false = h ((f8 ++ f4) ++ f2) f1 refl

-- one literal more is somewhere among those by their groups
in_group : (P : OpenLiterals → Type 0) (e : List ℕ × Used) (es : OpenLiterals) → ((xs ys : OpenLiterals) → xs ++ ys ≡ by_groups es → P (xs ++ e ∷ ys)) → P (by_groups (e ∷ es))
in_group P e es h =
    by_tests P e (of_group 8 es) (of_group 4 es) (of_group 2 es) (of_group 1 es) h (e.1.size % 8 == 0) (e.1.size % 4 == 0) (e.1.size % 2 == 0)

lacks_grouped : (text : List ℕ) (es : OpenLiterals) → Lacks text es → Lacks text (by_groups es)
lacks_grouped text [] all = tt
lacks_grouped text (e ∷ es) all =
    in_group (Lacks text) e es (λ xs ys same. lacks_more text xs ys e (subst (Lacks text) (sym same) (lacks_grouped text es all.1)) all.0)

pub grouped_once : (es : OpenLiterals) → IsDistinct bytes_eq (keys_of es) → IsDistinct bytes_eq (keys_of (by_groups es))
grouped_once [] once = once
grouped_once (e ∷ es) once =
    in_group (λ l. IsDistinct bytes_eq (keys_of l)) e es (λ xs ys same.
    once_more xs ys e
    (subst (λ l. IsDistinct bytes_eq (keys_of l)) (sym same) (grouped_once es (IsDistinct-tail bytes_eq e.0 (keys_of es) once)))
    (subst (Lacks e.0) (sym same) (lacks_grouped e.0 es (IsDistinct-head bytes_eq e.0 (keys_of es) once))))

sized_more : (xs ys : OpenLiterals) (e : List ℕ × Used) → AllByRecursion (λ x. x.1.size ≡ literal_size x.0) (xs ++ ys) → e.1.size ≡ literal_size e.0
    → AllByRecursion (λ x. x.1.size ≡ literal_size x.0) (xs ++ e ∷ ys)
sized_more [] ys e all same = (same, all)
sized_more (x ∷ xs) ys e all same = (all.0, sized_more xs ys e all.1 same)

grouped_sizes : (es : OpenLiterals) → AllByRecursion (λ x. x.1.size ≡ literal_size x.0) es → AllByRecursion (λ x. x.1.size ≡ literal_size x.0) (by_groups es)
grouped_sizes [] all = tt
grouped_sizes (e ∷ es) all =
    in_group (λ l. AllByRecursion (λ x. x.1.size ≡ literal_size x.0) l) e es (λ xs ys same.
    sized_more xs ys e (subst (λ l. AllByRecursion (λ x. x.1.size ≡ literal_size x.0) l) (sym same) (grouped_sizes es all.1)) all.0)

abbrev size_sum : OpenLiterals → ℕ
size_sum [] = 0
size_sum (e ∷ es) = e.1.size + size_sum es

sum_is : (es : OpenLiterals) → sum_by (λ e. e.1.size) es ≡ size_sum es
sum_is [] = refl
sum_is (e ∷ es) = sum_by-cons (λ (x : List ℕ × Used). x.1.size) e es ∙ ap (λ n. e.1.size + n) (sum_is es)

sum_more : (xs ys : OpenLiterals) (e : List ℕ × Used) → size_sum (xs ++ e ∷ ys) ≡ e.1.size + size_sum (xs ++ ys)
sum_more [] ys e = refl
sum_more (x ∷ xs) ys e = omega (arith, sum_more xs ys e)

grouped_sum : (es : OpenLiterals) → size_sum (by_groups es) ≡ size_sum es
grouped_sum [] = refl
grouped_sum (e ∷ es) =
    in_group (λ l. size_sum l ≡ e.1.size + size_sum es) e es (λ xs ys same.
    sum_more xs ys e ∙ ap (λ l. e.1.size + size_sum l) same ∙ ap (λ n. e.1.size + n) (grouped_sum es))

-- ---- groups from a group down
abbrev AreInGroups : ℕ → OpenLiterals → Type 0
AreInGroups group [] = Unit {0}
AreInGroups group (e ∷ es) = (group_of e.1.size ≤ group) × AreInGroups (group_of e.1.size) es

lower_group : (one other : ℕ) (es : OpenLiterals) → one ≤ other → AreInGroups one es → AreInGroups other es
lower_group one other [] le h = tt
lower_group one other (e ∷ es) le h = (omega (arith, h.0), h.1)

same_group : (own group : ℕ) → (own == group) ≡ true → own ≡ group
same_group own group e = grind (arith, nat_tests)

group_then : (group : ℕ) (es rest : OpenLiterals) → AreInGroups group rest → AreInGroups group (of_group group es ++ rest)
group_then group [] rest h = h
group_then group (e ∷ es) rest h = ⊎_elim
    (λ yes. rw yes (
    let is : group_of e.1.size ≡ group = same_group (group_of e.1.size) group yes in
    (omega (arith, is), subst (λ g. AreInGroups g (of_group group es ++ rest)) (sym is) (group_then group es rest h))))
    (λ no. rw no (group_then group es rest h))
    (cases_Bool (group_of e.1.size == group))

four_in_turn : (a b c d : OpenLiterals) → a ++ b ++ c ++ d ≡ a ++ (b ++ (c ++ d))
four_in_turn a b c d = append_assoc (a ++ b) c d ∙ append_assoc a b (c ++ d)

in_groups : (es : OpenLiterals) → AreInGroups 8 (by_groups es)
in_groups es =
    let last : AreInGroups 1 (of_group 1 es) = subst (AreInGroups 1) (append_none (of_group 1 es)) (group_then 1 es [] tt) in
    let two : AreInGroups 2 (of_group 2 es ++ of_group 1 es) = group_then 2 es (of_group 1 es) (lower_group 1 2 (of_group 1 es) (omega arith) last) in
    let four : AreInGroups 4 (of_group 4 es ++ (of_group 2 es ++ of_group 1 es)) =
    group_then 4 es (of_group 2 es ++ of_group 1 es) (lower_group 2 4 (of_group 2 es ++ of_group 1 es) (omega arith) two) in
    subst (AreInGroups 8) (sym (four_in_turn (of_group 8 es) (of_group 4 es) (of_group 2 es) (of_group 1 es)))
    (group_then 8 es (of_group 4 es ++ (of_group 2 es ++ of_group 1 es)) (lower_group 4 8 (of_group 4 es ++ (of_group 2 es ++ of_group 1 es)) (omega arith) four))

-- ---- multiples
IsGroup : ℕ → Type 0
IsGroup g = (g ≡ 8) ⊎ ((g ≡ 4) ⊎ ((g ≡ 2) ⊎ (g ≡ 1)))

chosen_group : (by8 by4 by2 : Bool) → IsGroup (chosen by8 by4 by2)
unfolding IsGroup
chosen_group true by4 by2 = inl refl
chosen_group false true by2 = inr (inl refl)
chosen_group false false true = inr (inr (inl refl))
chosen_group false false false = inr (inr (inr refl))

group_is : (size : ℕ) → IsGroup (group_of size)
group_is size = chosen_group (size % 8 == 0) (size % 4 == 0) (size % 2 == 0)

own_multiple : (size : ℕ) → size % group_of size ≡ 0
own_multiple size = grind (arith, nat_tests)

multiple_below : (from most group : ℕ) → IsGroup most → IsGroup group → group ≤ most → from % most ≡ 0 → from % group ≡ 0
unfolding IsGroup
multiple_below from most group hm hg le h = grind (arith, hm, hg, le, h)

multiple_sum : (from size group : ℕ) → IsGroup group → from % group ≡ 0 → size % group ≡ 0 → (from + size) % group ≡ 0
unfolding IsGroup
multiple_sum from size group hg h k = grind (arith, hg, h, k)

-- ---- places
capped_same : (n : ℕ) → n ≤ bound → cap n ≡ n
capped_same n le = grind (arith, nat_tests)

placed_stand : (group from : ℕ) (es : OpenLiterals) → IsGroup group → from % group ≡ 0 → AreInGroups group es → AllByRecursion (λ x. x.1.size ≡ literal_size x.0) es
    → from + size_sum es ≤ bound → StandFrom group from (placed_from from es) (from + size_sum es)
placed_stand group from [] is multiple down sizes within = omega arith
placed_stand group from (e ∷ es) is multiple down sizes within =
    let own = multiple_below from group (group_of e.1.size) is (group_is e.1.size) down.0 multiple in
    let inside : (from + e.1.size) + size_sum es ≤ bound = omega (arith, within) in
    let rest : StandFrom (group_of e.1.size) (from + e.1.size) (placed_from (from + e.1.size) es) ((from + e.1.size) + size_sum es) =
    placed_stand (group_of e.1.size) (from + e.1.size) es (group_is e.1.size) (multiple_sum from e.1.size (group_of e.1.size) (group_is e.1.size) own (own_multiple e.1.size)) down.1 sizes.1 inside in
    let moved : StandFrom (group_of e.1.size) (from + e.1.size) (placed_from (cap (from + e.1.size)) es) (from + (e.1.size + size_sum es)) =
    subst (λ n. StandFrom (group_of e.1.size) (from + e.1.size) (placed_from n es) (from + (e.1.size + size_sum es))) (sym (capped_same (from + e.1.size) (omega (arith, within))))
    (subst (λ n. StandFrom (group_of e.1.size) (from + e.1.size) (placed_from (from + e.1.size) es) n) (omega arith) rest) in (
      refl,
      subst (λ s. from % group_of s ≡ 0) sizes.0 own,
      subst (λ s. group_of s ≤ group) sizes.0 down.0,
      subst (λ s. StandFrom (group_of s) (from + s) (placed_from (cap (from + e.1.size)) es) (from + (e.1.size + size_sum es))) sizes.0 moved,
    )

placed_texts : (from : ℕ) (es : OpenLiterals) → keys_of (placed_from from es) ≡ keys_of es
placed_texts from [] = refl
placed_texts from (e ∷ es) = ap (λ l. e.0 ∷ l) (placed_texts (cap (from + e.1.size)) es)

capped_inside : (n : ℕ) → cap n ≤ bound → n ≤ bound
capped_inside n le = grind (arith, nat_tests)

pub pool_stands : (pool : OpenLiterals) (from : ℕ) → IsPool pool → from % 8 ≡ 0 → from + pool_size pool ≤ bound → StandApart from (closed_pool from pool) (from + pool_size pool)
unfolding IsGroup
pool_stands pool from is multiple within =
    let sum = sum_by (λ (e : List ℕ × Used). e.1.size) pool in
    let uncapped : pool_size pool ≡ size_sum pool = capped_same sum (capped_inside sum (omega (arith, within))) ∙ sum_is pool in
    let inside : from + size_sum (by_groups pool) ≤ bound = omega (arith, within, uncapped, grouped_sum pool) in
    record {
      once = subst (IsDistinct bytes_eq) (sym (placed_texts from (by_groups pool))) (grouped_once pool is.once);
      stand =
          subst (λ n. StandFrom 8 from (closed_pool from pool) (from + n)) (grouped_sum pool ∙ sym uncapped)
          (placed_stand 8 from (by_groups pool) (inl refl) multiple (in_groups pool) (grouped_sizes pool is.sizes) inside);
    }

-- a pool without literals takes no place
pub no_pool_stands : (from : ℕ) → StandApart from (closed_pool from []) from
no_pool_stands from = record { once = none_once; stand = refl }
