-- The section of a sum is where it weighs.
use Rattle.std.proofs.Common.{◌≡◌, ◌≢◌, ℕ, Bool, true, false, not, ◌||◌, map, Option, Some, None, List, [], ◌∷◌, cond, unwrap_or, refl, sym, ap, subst, ◌∙◌, ◌⊎◌, inl, inr, ⊎_elim, arith, rules}
use Rattle.std.proofs.lemmas.Bool.{and_parts, cases_Bool}
use Rattle.std.specs.Prelude.{ℤ, pos, ◌+ℤ◌, ◌↔◌}
use Rattle.std.specs.Ordering.{int_eq}
use Rattle.std.specs.List.{cons_option, filter, find, list_all, list_any}
use Rattle.std.specs.Map.{lookup}
use Rattle.std.proofs.lemmas.Int.{ints}
use Rattle.cx_asm_expressions.specs.Names.{is_same}
use Rattle.cx_asm_expressions.specs.Parts.Sections.{Weights, put, put_in, unit, weights_from, section_in}
use Rattle.cx_asm_expressions.specs.Weights.{Weighs, relocation, sections_of, stands_in, weighs_in, weight, with_sign}
use Rattle.cx_asm_expressions.specs.declared.terms.Sign.{Sign}
use Rattle.cx_asm_expressions.specs.declared.terms.Sign.TheVariants.{Plus, Minus}
use Rattle.cx_asm_expressions.specs.declared.expressions.Signed.{Signed}

abbrev pub is_heavy : List ℕ × ℤ → Bool
is_heavy entry = not (int_eq entry.1 (pos 0))

abbrev weight_in : List ℕ → Signed → ℤ
weight_in name value = cond (stands_in name value.value.section) (unit value.sign) (pos 0)

pub same_name : (a b : List ℕ) → is_same a b ≡ true → a ≡ b
same_name a b e = search rules

pub alike : (a : List ℕ) → is_same a a ≡ true
alike a = search rules

apart : (b : Bool) → not b ≡ true → b ≡ false
apart true e = cc
apart false e = refl

-- names that differ one way differ the other
turned : (a b : List ℕ) → is_same a b ≡ false → is_same b a ≡ false
turned a b e = ⊎_elim (λ s. let h : a ≡ b = sym (same_name b a s) in let t : is_same a b ≡ true = subst (λ x. is_same a x ≡ true) h (alike a) in cc) (λ d. d) (cases_Bool (is_same b a))

abbrev at : List ℕ → Weights → ℤ
at name entries = unwrap_or (lookup (is_same name) entries) (pos 0)

-- no two entries have one name
abbrev AreApart : Weights → Type 0
AreApart [] = Unit {0}
AreApart (e ∷ es) = (list_all (λ d. not (is_same d.0 e.0)) es ≡ true) × AreApart es

zero_first : (z : ℤ) → pos 0 +ℤ z ≡ z
zero_first z = omega (arith, ints)

zero_last : (z : ℤ) → z +ℤ pos 0 ≡ z
zero_last z = omega (arith, ints)

moved : (a b c : ℤ) → (a +ℤ b) +ℤ c ≡ a +ℤ (b +ℤ c)
moved a b c = omega (arith, ints)

-- what is put on a section's weight is found there, and nowhere else
at_put : (q name : List ℕ) (more : ℤ) (es : Weights) → at q (put name more es) ≡ at q es +ℤ cond (is_same q name) more (pos 0)
at_put q name more [] = ⊎_elim (λ s. rw s (sym (zero_first more))) (λ d. rw d (sym (zero_last (pos 0)))) (cases_Bool (is_same q name))
at_put q name more (e ∷ es) =
    ⊎_elim
    (λ s. let h : name ≡ e.0 = same_name name e.0 s in
    ⊎_elim (λ t. let u : is_same q name ≡ true = subst (λ x. is_same q x ≡ true) (sym h) t in rw (s, t, u) (refl))
    (λ t. let u : is_same q name ≡ false = subst (λ x. is_same q x ≡ false) (sym h) t in rw (s, t, u) (sym (zero_last (at q es))))
    (cases_Bool (is_same q e.0)))
    (λ d.
    ⊎_elim (λ t. let h : q ≡ e.0 = same_name q e.0 t in
    let u : is_same q name ≡ false = subst (λ x. is_same x name ≡ false) (sym h) (turned name e.0 d) in rw (d, t, u) (sym (zero_last e.1)))
    (λ t. let inner : at q (e ∷ put name more es) ≡ at q (e ∷ es) +ℤ cond (is_same q name) more (pos 0) = rw t (at_put q name more es) in rw d inner)
    (cases_Bool (is_same q e.0)))
    (cases_Bool (is_same name e.0))

in_put : (q : List ℕ) (section : Option (List ℕ)) (more : ℤ) (es : Weights) → at q (put_in section more es) ≡ at q es +ℤ cond (stands_in q section) more (pos 0)
in_put q None more es = sym (zero_last (at q es))
in_put q (Some name) more es = at_put q name more es

one_more : (name : List ℕ) (v : Signed) (vs : List Signed) → weight name (v ∷ vs) ≡ weight_in name v +ℤ weight name vs
one_more name v vs = go (stands_in name v.value.section) v.sign
  where
    go : (b : Bool) (sign : Sign) → cond b (with_sign sign (weight name vs) (pos 1)) (weight name vs) ≡ cond b (unit sign) (pos 0) +ℤ weight name vs
    go true Plus = omega (arith, ints)
    go true Minus = omega (arith, ints)
    go false sign = sym (zero_first (weight name vs))

at_values : (q : List ℕ) (es : Weights) (values : List Signed) → at q (weights_from es values) ≡ at q es +ℤ weight q values
at_values q es [] = sym (zero_last (at q es))
at_values q es (v ∷ vs) =
    at_values q (put_in v.value.section (unit v.sign) es) vs
    ∙ ap (λ z. z +ℤ weight q vs) (in_put q v.value.section (unit v.sign) es)
    ∙ moved (at q es) (weight_in q v) (weight q vs)
    ∙ ap (λ z. at q es +ℤ z) (sym (one_more q v vs))

all_put : (name first : List ℕ) (more : ℤ) (es : Weights) → is_same name first ≡ false → list_all (λ d. not (is_same d.0 first)) es ≡ true
    → list_all (λ d. not (is_same d.0 first)) (put name more es) ≡ true
all_put name first more [] d a = rw d refl
all_put name first more (e ∷ es) d a =
    let parts = and_parts (not (is_same e.0 first)) (list_all (λ d. not (is_same d.0 first)) es) a in
    ⊎_elim (λ s. rw s (rw parts.0 parts.1)) (λ t. rw t (rw parts.0 (all_put name first more es d parts.1))) (cases_Bool (is_same name e.0))

apart_put : (name : List ℕ) (more : ℤ) (es : Weights) → AreApart es → AreApart (put name more es)
apart_put name more [] a = (refl, tt)
apart_put name more (e ∷ es) a =
    ⊎_elim (λ s. rw s (a.0, a.1)) (λ d. rw d (all_put name e.0 more es d a.0, apart_put name more es a.1)) (cases_Bool (is_same name e.0))

apart_put_in : (section : Option (List ℕ)) (more : ℤ) (es : Weights) → AreApart es → AreApart (put_in section more es)
apart_put_in None more es a = a
apart_put_in (Some name) more es a = apart_put name more es a

apart_values : (es : Weights) (values : List Signed) → AreApart es → AreApart (weights_from es values)
apart_values es [] a = a
apart_values es (v ∷ vs) a = apart_values (put_in v.value.section (unit v.sign) es) vs (apart_put_in v.value.section (unit v.sign) es a)

-- an entry that isn't heavy weighs nothing
light : (e : List ℕ × ℤ) → is_heavy e ≡ false → e.1 ≡ pos 0
light e h = grind (arith, ints)

loaded : (e : List ℕ × ℤ) → is_heavy e ≡ true → e.1 ≢ pos 0
loaded e h = λ z. grind (arith, ints)

-- the first heavy entry passes every test that all entries pass
head_passes : (p : List ℕ × ℤ → Bool) (es : Weights) (f : List ℕ × ℤ) (fs : Weights) → list_all p es ≡ true → filter is_heavy es ≡ f ∷ fs → p f ≡ true
head_passes p [] f fs a e = cc
head_passes p (x ∷ es) f fs a e =
    let parts = and_parts (p x) (list_all p es) a in
    ⊎_elim (λ h. let g : x ∷ filter is_heavy es ≡ f ∷ fs = rw h at e in let w : x ≡ f = cc in subst (λ y. p y ≡ true) w parts.0)
    (λ h. head_passes p es f fs parts.1 (rw h at e)) (cases_Bool (is_heavy x))

head_heavy : (es : Weights) (f : List ℕ × ℤ) (fs : Weights) → filter is_heavy es ≡ f ∷ fs → is_heavy f ≡ true
head_heavy [] f fs e = cc
head_heavy (x ∷ es) f fs e =
    ⊎_elim (λ h. let g : x ∷ filter is_heavy es ≡ f ∷ fs = rw h at e in let w : x ≡ f = cc in subst (λ y. is_heavy y ≡ true) w h)
    (λ h. head_heavy es f fs (rw h at e)) (cases_Bool (is_heavy x))

-- without a heavy entry nothing weighs anything
none_heavy : (es : Weights) → filter is_heavy es ≡ [] → (q : List ℕ) → at q es ≡ pos 0
none_heavy [] e q = refl
none_heavy (x ∷ es) e q =
    ⊎_elim (λ h. let g : x ∷ filter is_heavy es ≡ [] = rw h at e in cc)
    (λ h. let g : filter is_heavy es ≡ [] = rw h at e in
    ⊎_elim (λ s. rw s (light x h)) (λ d. rw d (none_heavy es g q)) (cases_Bool (is_same q x.0))) (cases_Bool (is_heavy x))

own : (x : List ℕ × ℤ) (es : Weights) → at x.0 (x ∷ es) ≡ x.1
own x es = ap (λ b. unwrap_or (cond b (Some x.1) (lookup (is_same x.0) es)) (pos 0)) (alike x.0)

-- the first heavy entry's name weighs what the entry says
head_at : (es : Weights) (f : List ℕ × ℤ) (fs : Weights) → AreApart es → filter is_heavy es ≡ f ∷ fs → at f.0 es ≡ f.1
head_at [] f fs a e = cc
head_at (x ∷ es) f fs a e =
    ⊎_elim (λ h. let g : x ∷ filter is_heavy es ≡ f ∷ fs = rw h at e in let w : x ≡ f = cc in
    subst (λ y. at y.0 (x ∷ es) ≡ y.1) w (own x es))
    (λ h. let g : filter is_heavy es ≡ f ∷ fs = rw h at e in
    let d : is_same f.0 x.0 ≡ false = apart (is_same f.0 x.0) (head_passes (λ y. not (is_same y.0 x.0)) es f fs a.0 g) in
    rw d (head_at es f fs a.1 g)) (cases_Bool (is_heavy x))

-- where one entry is heavy no other name weighs anything
one_heavy : (es : Weights) (f : List ℕ × ℤ) → filter is_heavy es ≡ f ∷ [] → (q : List ℕ) → is_same q f.0 ≡ false → at q es ≡ pos 0
one_heavy [] f e q d = cc
one_heavy (x ∷ es) f e q d =
    ⊎_elim (λ h. let g : x ∷ filter is_heavy es ≡ f ∷ [] = rw h at e in let w : x ≡ f = cc in
    let n : filter is_heavy es ≡ [] = cc in
    let u : is_same q x.0 ≡ false = subst (λ y. is_same q y.0 ≡ false) (sym w) d in rw u (none_heavy es n q))
    (λ h. let g : filter is_heavy es ≡ f ∷ [] = rw h at e in
    ⊎_elim (λ s. rw s (light x h)) (λ t. rw t (one_heavy es f g q d)) (cases_Bool (is_same q x.0))) (cases_Bool (is_heavy x))

second_passes : (p : List ℕ × ℤ → Bool) (es : Weights) (f g : List ℕ × ℤ) (fs : Weights) → list_all p es ≡ true → filter is_heavy es ≡ f ∷ g ∷ fs → p g ≡ true
second_passes p [] f g fs a e = cc
second_passes p (x ∷ es) f g fs a e =
    let parts = and_parts (p x) (list_all p es) a in
    ⊎_elim (λ h. let k : x ∷ filter is_heavy es ≡ f ∷ g ∷ fs = rw h at e in let n : filter is_heavy es ≡ g ∷ fs = cc in head_passes p es g fs parts.1 n)
    (λ h. second_passes p es f g fs parts.1 (rw h at e)) (cases_Bool (is_heavy x))

-- of two heavy entries the second has a different name, and weighs what the entry says
two_heavy : (es : Weights) (f g : List ℕ × ℤ) (fs : Weights) → AreApart es → filter is_heavy es ≡ f ∷ g ∷ fs
    → (is_same g.0 f.0 ≡ false) × (at g.0 es ≡ g.1) × (is_heavy g ≡ true)
two_heavy [] f g fs a e = cc
two_heavy (x ∷ es) f g fs a e =
    ⊎_elim (λ h. let k : x ∷ filter is_heavy es ≡ f ∷ g ∷ fs = rw h at e in let w : x ≡ f = cc in
    let n : filter is_heavy es ≡ g ∷ fs = cc in
    let d : is_same g.0 x.0 ≡ false = apart (is_same g.0 x.0) (head_passes (λ y. not (is_same y.0 x.0)) es g fs a.0 n) in
    (subst (λ y. is_same g.0 y.0 ≡ false) w d, rw d (head_at es g fs a.1 n), head_heavy es g fs n))
    (λ h. let k : filter is_heavy es ≡ f ∷ g ∷ fs = rw h at e in
    let rest = two_heavy es f g fs a.1 k in
    let all : list_all (λ y. not (is_same y.0 x.0)) es ≡ true = a.0 in
    let d : is_same g.0 x.0 ≡ false = apart (is_same g.0 x.0) (second_passes (λ y. not (is_same y.0 x.0)) es f g fs all k) in
    (rest.0, rw d rest.1, rest.2)) (cases_Bool (is_heavy x))

-- ---- the entries of a sum
in_values : (q : List ℕ) (values : List Signed) → at q (weights_from [] values) ≡ weight q values
in_values q values = at_values q [] values ∙ zero_first (weight q values)

is_one : (z : ℤ) → int_eq z (pos 1) ≡ true → z ≡ pos 1
is_one z e = grind (arith, ints)

one_is_not_zero : pos 1 ≡ pos 0 → ⊥
one_is_not_zero e = cc

-- what a sum weighs, case by case
abbrev WeighsBy : List Signed → Option (List ℕ) → Type 0
WeighsBy values None = (name : List ℕ) → weight name values ≡ pos 0
WeighsBy values (Some section) = (weight section values ≡ pos 1) × ((name : List ℕ) → is_same name section ≡ false → weight name values ≡ pos 0)

by_cases : (values : List Signed) (section : Option (List ℕ)) → Weighs values section → WeighsBy values section
by_cases values None w = w
by_cases values (Some s) w = (w s ∙ ap (λ b. cond b (pos 1) (pos 0)) (alike s), λ name d. w name ∙ ap (λ b. cond b (pos 1) (pos 0)) d)

in_one : (values : List Signed) (section : Option (List ℕ)) → WeighsBy values section → Weighs values section
in_one values None w name = w name
in_one values (Some s) w name =
    ⊎_elim (λ same. let h : name ≡ s = same_name name s same in rw same (ap (λ n. weight n values) h ∙ w.0)) (λ d. rw d (w.1 name d)) (cases_Bool (is_same name s))

decides_by : (values : List Signed) (a b : Option (List ℕ)) → WeighsBy values a → WeighsBy values b → a ≡ b
decides_by values None None one other = refl
decides_by values None (Some t) one other = absurd (one_is_not_zero (sym other.0 ∙ one t))
decides_by values (Some s) None one other = absurd (one_is_not_zero (sym one.0 ∙ other s))
decides_by values (Some s) (Some t) one other =
    ⊎_elim (λ same. ap Some (same_name s t same)) (λ d. absurd (one_is_not_zero (sym one.0 ∙ other.1 s d))) (cases_Bool (is_same s t))

-- two sections that a sum weighs in are one
pub decides : (values : List Signed) (a b : Option (List ℕ)) → Weighs values a → Weighs values b → a ≡ b
decides values a b one other = decides_by values a b (by_cases values a one) (by_cases values b other)

one_weighed : (values : List Signed) (f : List ℕ × ℤ) → filter is_heavy (weights_from [] values) ≡ f ∷ [] → (section : Option (List ℕ))
    → (int_eq f.1 (pos 1) ≡ true) ⊎ (int_eq f.1 (pos 1) ≡ false) → cond (int_eq f.1 (pos 1)) (Some (Some f.0)) None ≡ Some section → WeighsBy values section
one_weighed values f e section (inl heavy) is =
    let h : Some f.0 ≡ section = (let k : Some (Some f.0) ≡ Some section = rw heavy at is in cc) in
    let one : f.1 ≡ pos 1 = is_one f.1 heavy in
    let weighs : WeighsBy values (Some f.0) = (
      sym (in_values f.0 values) ∙ head_at (weights_from [] values) f [] (apart_values [] values tt) e ∙ one,
      λ q d. sym (in_values q values) ∙ one_heavy (weights_from [] values) f e q d,
    ) in
    subst (WeighsBy values) h weighs
one_weighed values f e section (inr other) is = let k : None ≡ Some section = rw other at is in cc

weighed : (values : List Signed) (heavy : Weights) → filter is_heavy (weights_from [] values) ≡ heavy → (section : Option (List ℕ))
    → section_in heavy ≡ Some section → WeighsBy values section
weighed values [] e None is = λ q. sym (in_values q values) ∙ none_heavy (weights_from [] values) e q
weighed values [] e (Some s) is = cc
weighed values (f ∷ []) e section is = one_weighed values f e section (cases_Bool (int_eq f.1 (pos 1))) is
weighed values (f ∷ g ∷ fs) e section is = cc

found : (values : List Signed) (heavy : Weights) → filter is_heavy (weights_from [] values) ≡ heavy → (section : Option (List ℕ))
    → WeighsBy values section → section_in heavy ≡ Some section
found values [] e None w = refl
found values [] e (Some s) w = absurd (one_is_not_zero (sym w.0 ∙ sym (in_values s values) ∙ none_heavy (weights_from [] values) e s))
found values (f ∷ []) e None w =
    absurd (loaded f (head_heavy (weights_from [] values) f [] e) (sym (head_at (weights_from [] values) f [] (apart_values [] values tt) e) ∙ in_values f.0 values ∙ w f.0))
found values (f ∷ []) e (Some s) w =
    let at_f : f.1 ≡ weight f.0 values = sym (head_at (weights_from [] values) f [] (apart_values [] values tt) e) ∙ in_values f.0 values in
    ⊎_elim (λ same. let h : f.0 ≡ s = same_name f.0 s same in
    let one : f.1 ≡ pos 1 = at_f ∙ ap (λ q. weight q values) h ∙ w.0 in
    let counts : int_eq f.1 (pos 1) ≡ true = ap (λ z. int_eq z (pos 1)) one in
    rw counts (ap (λ q. Some (Some q)) h))
    (λ d. absurd (loaded f (head_heavy (weights_from [] values) f [] e) (at_f ∙ w.1 f.0 d))) (cases_Bool (is_same f.0 s))
found values (f ∷ g ∷ fs) e None w =
    absurd (loaded f (head_heavy (weights_from [] values) f (g ∷ fs) e) (sym (head_at (weights_from [] values) f (g ∷ fs) (apart_values [] values tt) e) ∙ in_values f.0 values ∙ w f.0))
found values (f ∷ g ∷ fs) e (Some s) w =
    let at_f : f.1 ≡ weight f.0 values = sym (head_at (weights_from [] values) f (g ∷ fs) (apart_values [] values tt) e) ∙ in_values f.0 values in
    let two = two_heavy (weights_from [] values) f g fs (apart_values [] values tt) e in
    let at_g : g.1 ≡ weight g.0 values = sym two.1 ∙ in_values g.0 values in
    ⊎_elim (λ same. let h : f.0 ≡ s = same_name f.0 s same in
    let d : is_same g.0 s ≡ false = subst (λ q. is_same g.0 q ≡ false) h two.0 in
    absurd (loaded g two.2 (at_g ∙ w.1 g.0 d)))
    (λ d. absurd (loaded f (head_heavy (weights_from [] values) f (g ∷ fs) e) (at_f ∙ w.1 f.0 d))) (cases_Bool (is_same f.0 s))

-- ---- the sections that may be answered
abbrev IsAmong : List (List ℕ) → Option (List ℕ) → Type 0
IsAmong names None = Unit {0}
IsAmong names (Some s) = list_any (is_same s) names ≡ true

or_false : (a b : Bool) → (a || b) ≡ false → (a ≡ false) × (b ≡ false)
or_false true b e = cc
or_false false b e = (refl, e)

or_more : (a b : Bool) → b ≡ true → (a || b) ≡ true
or_more true b e = refl
or_more false b e = e

more_among : (n : List ℕ) (names : List (List ℕ)) (section : Option (List ℕ)) → IsAmong names section → IsAmong (n ∷ names) section
more_among n names None h = h
more_among n names (Some s) h = or_more (is_same s n) (list_any (is_same s) names) h

first_among : (n : List ℕ) (names : List (List ℕ)) → IsAmong (n ∷ names) (Some n)
first_among n names = rw (alike n) refl

find_among : (p : Option (List ℕ) → Bool) (names : List (List ℕ)) (section : Option (List ℕ)) → find p (map Some names) ≡ Some section
    → (p section ≡ true) × IsAmong names section
find_among p [] section e = cc
find_among p (n ∷ names) section e = go (p (Some n)) refl (λ rest. find_among p names section rest) e
  where
    go : (b : Bool) → p (Some n) ≡ b → (find p (map Some names) ≡ Some section → (p section ≡ true) × IsAmong names section) → cond b (Some (Some n)) (find p (map Some names)) ≡ Some section → (p section ≡ true) × IsAmong (n ∷ names) section
    go true passes more e = (let same : Some n ≡ section = cc in (subst (λ s. p s ≡ true) same passes, subst (IsAmong (n ∷ names)) same (first_among n names)))
    go false fails more e = (let rest = more e in (rest.0, more_among n names section rest.1))

find_any : (p : Option (List ℕ) → Bool) (names : List (List ℕ)) (section : Option (List ℕ)) → find p (None ∷ map Some names) ≡ Some section
    → (p section ≡ true) × IsAmong names section
find_any p names section e = go (p None) refl e
  where
    go : (b : Bool) → p None ≡ b → cond b (Some None) (find p (map Some names)) ≡ Some section → (p section ≡ true) × IsAmong names section
    go true passes e = (let same : None ≡ section = cc in (subst (λ s. p s ≡ true) same passes, subst (IsAmong names) same tt))
    go false fails e = find_among p names section e

find_none : (p : Option (List ℕ) → Bool) (names : List (List ℕ)) (s : List ℕ) → find p (map Some names) ≡ None → list_any (is_same s) names ≡ true → p (Some s) ≡ false
find_none p [] s e h = cc
find_none p (n ∷ names) s e h = go (p (Some n)) refl (λ rest there. find_none p names s rest there) e
  where
    go : (b : Bool) → p (Some n) ≡ b → (find p (map Some names) ≡ None → list_any (is_same s) names ≡ true → p (Some s) ≡ false)
        → cond b (Some (Some n)) (find p (map Some names)) ≡ None → p (Some s) ≡ false
    go true passes more e = cc
    go false fails more e =
        ⊎_elim (λ same. ap (λ k. p (Some k)) (same_name s n same) ∙ fails)
        (λ d. more e (let there : (false || list_any (is_same s) names) ≡ true = rw d at h in there)) (cases_Bool (is_same s n))

none_any : (p : Option (List ℕ) → Bool) (names : List (List ℕ)) (section : Option (List ℕ)) → find p (None ∷ map Some names) ≡ None → IsAmong names section → p section ≡ false
none_any p names section e h = go (p None) refl e section h
  where
    go : (b : Bool) → p None ≡ b → cond b (Some None) (find p (map Some names)) ≡ None → (section : Option (List ℕ)) → IsAmong names section → p section ≡ false
    go true passes e section h = cc
    go false fails e None h = fails
    go false fails e (Some s) h = find_none p names s e h

all_give : (q : List ℕ → Bool) (names : List (List ℕ)) (name : List ℕ) → list_all q names ≡ true → list_any (is_same name) names ≡ true → q name ≡ true
all_give q [] name a h = cc
all_give q (n ∷ names) name a h =
    let parts = and_parts (q n) (list_all q names) a in
    ⊎_elim (λ same. ap q (same_name name n same) ∙ parts.0)
    (λ d. all_give q names name parts.1 (let there : (false || list_any (is_same name) names) ≡ true = rw d at h in there)) (cases_Bool (is_same name n))

all_true : (q : List ℕ → Bool) (names : List (List ℕ)) → ((name : List ℕ) → q name ≡ true) → list_all q names ≡ true
all_true q [] h = refl
all_true q (n ∷ names) h = rw (h n, all_true q names h) refl

equal_is : (a b : ℤ) → int_eq a b ≡ true → a ≡ b
equal_is a b e = grind (arith, ints)

is_equal : (a b : ℤ) → a ≡ b → int_eq a b ≡ true
is_equal a b e = grind (arith, ints)

-- a section that no value is in weighs nothing
absent : (name : List ℕ) (values : List Signed) → list_any (is_same name) (sections_of values) ≡ false → weight name values ≡ pos 0
absent name [] h = refl
absent name (v ∷ vs) h = one_more name v vs ∙ go v.value.section (unit v.sign) (λ rest. absent name vs rest) h
  where
    go : (section : Option (List ℕ)) (z : ℤ) → (list_any (is_same name) (sections_of vs) ≡ false → weight name vs ≡ pos 0) → list_any (is_same name) (cons_option section (sections_of vs)) ≡ false
        → cond (stands_in name section) z (pos 0) +ℤ weight name vs ≡ pos 0
    go None z more h = zero_first (weight name vs) ∙ more h
    go (Some n) z more h = (let parts = or_false (is_same name n) (list_any (is_same name) (sections_of vs)) h in rw parts.0 (zero_first (weight name vs) ∙ more parts.1))

other_section : (name : List ℕ) (names : List (List ℕ)) (section : Option (List ℕ)) → list_any (is_same name) names ≡ false → IsAmong names section → stands_in name section ≡ false
other_section name names None none among = refl
other_section name names (Some s) none among =
    ⊎_elim (λ same. let no : true ≡ false = sym among ∙ ap (λ k. list_any (is_same k) names) (sym (same_name name s same)) ∙ none in cc) (λ d. d) (cases_Bool (is_same name s))

-- ---- the section that is answered
weighs_true : (values : List Signed) (section : Option (List ℕ)) → weighs_in values section ≡ true → IsAmong (sections_of values) section → Weighs values section
weighs_true values section all among name =
    ⊎_elim (λ there. equal_is _ _ (all_give (λ n. int_eq (weight n values) (cond (stands_in n section) (pos 1) (pos 0))) (sections_of values) name all there))
    (λ none. absent name values none ∙ sym (ap (λ b. cond b (pos 1) (pos 0)) (other_section name (sections_of values) section none among)))
    (cases_Bool (list_any (is_same name) (sections_of values)))

true_weighs : (values : List Signed) (section : Option (List ℕ)) → Weighs values section → weighs_in values section ≡ true
true_weighs values section w =
    all_true (λ n. int_eq (weight n values) (cond (stands_in n section) (pos 1) (pos 0))) (sections_of values) (λ n. is_equal _ _ (w n))

weighs_among : (values : List Signed) (section : Option (List ℕ)) → Weighs values section → IsAmong (sections_of values) section
weighs_among values None w = tt
weighs_among values (Some s) w =
    ⊎_elim (λ there. there)
    (λ none. absurd (one_is_not_zero (sym (w s ∙ ap (λ b. cond b (pos 1) (pos 0)) (alike s)) ∙ absent s values none)))
    (cases_Bool (list_any (is_same s) (sections_of values)))

relocated : (values : List Signed) (section : Option (List ℕ)) → relocation values ≡ Some section → Weighs values section
unfolding relocation
relocated values section e =
    let any = find_any (weighs_in values) (sections_of values) section e in weighs_true values section any.0 any.1

abbrev heavy_section : List Signed → Option (Option (List ℕ))
heavy_section values = section_in (filter is_heavy (weights_from [] values))

heavy_found : (values : List Signed) (section : Option (List ℕ)) → Weighs values section → heavy_section values ≡ Some section
heavy_found values section w = found values (filter is_heavy (weights_from [] values)) refl section (by_cases values section w)

-- it is the one that the sections with their weights give
pub by_weights : (values : List Signed) → relocation values ≡ section_in (filter (λ (entry : List ℕ × ℤ). not (int_eq entry.1 (pos 0))) (weights_from [] values))
unfolding relocation
by_weights values = go (relocation values) refl
  where
    none : (o : Option (Option (List ℕ))) → heavy_section values ≡ o → relocation values ≡ None → None ≡ o
    none None heavy e = refl
    none (Some section) heavy e =
        let w = in_one values section (weighed values (filter is_heavy (weights_from [] values)) refl section heavy) in
        let no : true ≡ false = sym (true_weighs values section w) ∙ none_any (weighs_in values) (sections_of values) section e (weighs_among values section w) in
        cc

    go : (o : Option (Option (List ℕ))) → relocation values ≡ o → relocation values ≡ heavy_section values
    go None e = e ∙ none (heavy_section values) refl e
    go (Some section) e = e ∙ sym (heavy_found values section (relocated values section e))

pub where_it_weighs : (values : List Signed) (section : Option (List ℕ)) → (relocation values ≡ Some section) ↔ Weighs values section
where_it_weighs values section = (relocated values section, λ w. by_weights values ∙ heavy_found values section w)
