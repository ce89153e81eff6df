-- The nearest address by its property: it reaches the place, and no other that does is preferred.
use Rattle.std.proofs.Common.{◌≡◌, ℕ, zero, suc, ℤ, pos, negsuc, ◌+ℤ◌, ◌-ℤ◌, ◌+◌, ◌≤◌, ◌<◌, ◌⊎◌, inl, inr, Bool, true, false, Option, Some, None, List, [], ◌∷◌, refl, sym, ◌∙◌, ap, ap₂, subst, arith, zero-add}
use Rattle.std.specs.Prelude.{slice_get, fold, map, option_map, if◌then◌else◌, nat_lt}
use Rattle.std.specs.List.{enumerate_from}
use Rattle.std.proofs.lemmas.Bool.Decides.{nat_tests}
use Rattle.std.proofs.lemmas.Option.{same_Some, none-some}
use Rattle.std.proofs.Math.Nat.{eq-or-lt_of_le}
use Rattle.std.proofs.Math.IntN.{+ℤ-neg_ℤ_cancel, -ℤ-+ℤ_cancel, +ℤ_comm}
use Rattle.cx_asm_expressions.specs.Names.{is_same}
use Rattle.cx_asm_operands.specs.Bases.{Bases}
use Rattle.cx_asm_operands.specs.declared.bases.Base.{Base}
use Rattle.cx_asm_operands.specs.Addresses.{address, number_within, address_by_base, nearer, nearest_address}
use Rattle.cx_asm_operands.specs.declared.addresses.Address.{Address}
use Rattle.cx_asm_operands.specs.Laws.AddressLaws.{Holds, Reaches, IsPreferred, IsNearest}

-- the nearest by the registers from this one on, and by what was found before
abbrev pub nearest_from : Option Address → ℕ → List ℕ → ℤ → Bases → Option Address
nearest_from found register section number bases = fold nearer found (map (λ e. address_by_base section number e.0 e.1) (enumerate_from register bases))

-- ---- one register
displacement_is : (d : ℤ) (n : ℕ) → number_within 4095 d ≡ Some n → (d ≡ pos n) × (n ≤ 4095)
displacement_is (pos m) n e = (grind (arith, nat_tests), grind (arith, nat_tests))
displacement_is (negsuc m) n e = absurd (none-some n e)

displaced : (n : ℕ) → n ≤ 4095 → number_within 4095 (pos n) ≡ Some n
displaced n small = grind (arith, nat_tests)

difference : (a b : ℤ) (n : ℕ) → a +ℤ pos n ≡ b → b -ℤ a ≡ pos n
difference a b n e = ap (λ z. z -ℤ a) (sym e ∙ +ℤ_comm a (pos n)) ∙ +ℤ-neg_ℤ_cancel (pos n) a

sum_again : (a b : ℤ) (n : ℕ) → b -ℤ a ≡ pos n → a +ℤ pos n ≡ b
sum_again a b n e = ap (λ z. a +ℤ z) (sym e) ∙ +ℤ_comm a (b -ℤ a) ∙ -ℤ-+ℤ_cancel b a

preferred_itself : (a : Address) → IsPreferred a a.base a.displacement
preferred_itself a = inr (refl, omega arith)

preferred_on : (a x : Address) (r d : ℕ) → IsPreferred a x.base x.displacement → IsPreferred x r d → IsPreferred a r d
preferred_on a x r d (inl less) (inl also) = inl (omega arith)
preferred_on a x r d (inl less) (inr same) = let e = same.0 in inl (omega arith)
preferred_on a x r d (inr same) (inl less) = let e = same.0 in inl (omega arith)
preferred_on a x r d (inr same) (inr also) =
    let e = same.0 in let f = also.0 in let g = same.1 in let h = also.1 in inr (e ∙ f, omega arith)

reached_in : (same : Bool) (r : ℕ) (d : Option ℕ) (n : ℕ) → same ≡ true → d ≡ Some n → (if same then option_map (address r) d else None) ≡ Some (address r n)
reached_in true r (Some m) n e f = ap (λ k. Some (address r k)) (same_Some _ _ f)
reached_in true r None n e f = absurd (none-some n f)
reached_in false r d n e f = cc

-- a register that holds the place with a displacement reaches it so
holds_reached : (section : List ℕ) (number : ℤ) (r : ℕ) (b : Base) (d : ℕ) → Holds (Some (Some b)) section number d → address_by_base section number r (Some b) ≡ Some (address r d)
holds_reached section number r b d h =
    let near : number_within 4095 (number -ℤ b.number) ≡ Some d = ap (number_within 4095) (difference b.number number d h.1) ∙ displaced d h.2 in
    reached_in (is_same b.section section) r (number_within 4095 (number -ℤ b.number)) d h.0 near

reached_out : (same : Bool) (r : ℕ) (d : Option ℕ) (a : Address) → (if same then option_map (address r) d else None) ≡ Some a
    → (same ≡ true) × (d ≡ Some a.displacement) × (a.base ≡ r)
reached_out true r (Some m) a e =
    let one : address r m ≡ a = same_Some _ _ e in
    (refl, ap (λ x. Some x.displacement) one, sym (ap (λ x. x.base) one))
reached_out true r None a e = absurd (none-some a e)
reached_out false r d a e = absurd (none-some a e)

reached_holds : (section : List ℕ) (number : ℤ) (r : ℕ) (b : Option Base) (a : Address) → address_by_base section number r b ≡ Some a
    → (a.base ≡ r) × Holds (Some b) section number a.displacement
reached_holds section number r None a e = absurd (none-some a e)
reached_holds section number r (Some b) a e =
    let out = reached_out (is_same b.section section) r (number_within 4095 (number -ℤ b.number)) a e in
    let near = displacement_is (number -ℤ b.number) a.displacement out.1 in
    (out.2, (out.0, sum_again b.number number a.displacement near.0, near.1))

-- ---- of two
-- an address is preferred to what there is
abbrev pub Beats : Option Address → Address → Type 0
Beats None a = Unit {0}
Beats (Some f) a = IsPreferred a f.base f.displacement

abbrev pub IsBefore : Option Address → ℕ → Type 0
IsBefore None r = Unit {0}
IsBefore (Some f) r = f.base < r

abbrev pub IsAt : Option Address → ℕ → Type 0
IsAt None r = Unit {0}
IsAt (Some x) r = x.base ≡ r

less : (m n : ℕ) → nat_lt m n ≡ true → m < n
less m n e = grind (arith, nat_tests)

not_less : (m n : ℕ) → nat_lt m n ≡ false → n ≤ m
not_less m n e = grind (arith, nat_tests)

-- one with no larger displacement and no lower register is preferred
over : (f x : Address) → x.displacement ≤ f.displacement → f.base ≤ x.base → IsPreferred x f.base f.displacement
over f x near high = elim (eq-or-lt_of_le near) [ inl same ↦ inr (same, high) | inr nearer ↦ inl nearer ]

chosen_first : (first : Bool) (f x a : Address) (r : ℕ) → nat_lt f.displacement x.displacement ≡ first → f.base < r → x.base ≡ r
    → Beats (if first then Some f else Some x) a → IsPreferred a f.base f.displacement
chosen_first true f x a r test before at beats = beats
chosen_first false f x a r test before at beats = preferred_on a x f.base f.displacement beats (over f x (not_less f.displacement x.displacement test) (omega arith))

beats_first : (found new : Option Address) (r : ℕ) (a : Address) → IsBefore found r → IsAt new r → Beats (nearer found new) a → Beats found a
beats_first None new r a before at beats = tt
beats_first (Some f) None r a before at beats = beats
beats_first (Some f) (Some x) r a before at beats = chosen_first (nat_lt f.displacement x.displacement) f x a r refl before at beats

chosen_second : (first : Bool) (f x a : Address) → nat_lt f.displacement x.displacement ≡ first
    → Beats (if first then Some f else Some x) a → IsPreferred a x.base x.displacement
chosen_second true f x a test beats = preferred_on a f x.base x.displacement beats (inl (less f.displacement x.displacement test))
chosen_second false f x a test beats = beats

beats_second : (found : Option Address) (x a : Address) → Beats (nearer found (Some x)) a → IsPreferred a x.base x.displacement
beats_second None x a beats = beats
beats_second (Some f) x a beats = chosen_second (nat_lt f.displacement x.displacement) f x a refl beats

chosen_before : (first : Bool) (f x : Address) (r : ℕ) → f.base < r → x.base ≡ r → IsBefore (if first then Some f else Some x) (r + 1)
chosen_before true f x r before at = omega arith
chosen_before false f x r before at = omega arith

next_before : (found new : Option Address) (r : ℕ) → IsBefore found r → IsAt new r → IsBefore (nearer found new) (r + 1)
next_before None None r before at = tt
next_before None (Some x) r before at = omega arith
next_before (Some f) None r before at = omega arith
next_before (Some f) (Some x) r before at = chosen_before (nat_lt f.displacement x.displacement) f x r before at

at_register : (new : Option Address) (r : ℕ) → ((x : Address) → new ≡ Some x → x.base ≡ r) → IsAt new r
at_register None r at = tt
at_register (Some x) r at = at x refl

reached_at : (section : List ℕ) (number : ℤ) (r : ℕ) (b : Option Base) → IsAt (address_by_base section number r b) r
reached_at section number r b = at_register (address_by_base section number r b) r (λ x e. (reached_holds section number r b x e).0)

beats_end : (found : Option Address) (a : Address) → found ≡ Some a → Beats found a
beats_end None a e = tt
beats_end (Some f) a e = subst (λ y. IsPreferred a y.base y.displacement) (sym (same_Some _ _ e)) (preferred_itself a)

-- ---- of all
-- each that holds the place, at an index of the list, is no better
abbrev pub AllBeaten : Bases → ℕ → List ℕ → ℤ → Address → Type 0
AllBeaten bases r section number a = (k d : ℕ) → Holds (slice_get bases k) section number d → IsPreferred a (r + k) d

head_beaten : (b : Option Base) (found : Option Address) (r : ℕ) (section : List ℕ) (number : ℤ) (a : Address) (d : ℕ)
    → Beats (nearer found (address_by_base section number r b)) a → Holds (Some b) section number d → IsPreferred a r d
head_beaten None found r section number a d beats h = absurd h
head_beaten (Some b) found r section number a d beats h =
    beats_second found (address r d) a (subst (λ x. Beats (nearer found x) a) (holds_reached section number r b d h) beats)

all_beaten : (b : Option Base) (bs : Bases) (found : Option Address) (r : ℕ) (section : List ℕ) (number : ℤ) (a : Address)
    → Beats (nearer found (address_by_base section number r b)) a → AllBeaten bs (r + 1) section number a → AllBeaten (b ∷ bs) r section number a
all_beaten b bs found r section number a beats rest zero d h =
    let same : r ≡ r + 0 = omega arith in subst (λ k. IsPreferred a k d) same (head_beaten b found r section number a d beats h)
all_beaten b bs found r section number a beats rest (suc k) d h =
    let same : (r + 1) + k ≡ r + suc k = omega arith in subst (λ j. IsPreferred a j d) same (rest k d h)

preferred_to_all : (bs : Bases) (found : Option Address) (r : ℕ) (section : List ℕ) (number : ℤ) (a : Address) → IsBefore found r
    → nearest_from found r section number bs ≡ Some a → Beats found a × AllBeaten bs r section number a
preferred_to_all [] found r section number a before e = (beats_end found a e, λ k d h. absurd h)
preferred_to_all (b ∷ bs) found r section number a before e =
    let new = address_by_base section number r b in
    let rest = preferred_to_all bs (nearer found new) (r + 1) section number a (next_before found new r before (reached_at section number r b)) e in
    (beats_first found new r a before (reached_at section number r b) rest.0, all_beaten b bs found r section number a rest.0 rest.1)

-- none holds the place
abbrev pub NoneHolds : Bases → List ℕ → ℤ → Type 0
NoneHolds bases section number = (k d : ℕ) → Holds (slice_get bases k) section number d → ⊥

chosen_some : (first : Bool) (f x : Address) → (if first then Some f else Some x) ≡ None → ⊥
chosen_some true f x e = none-some f (sym e)
chosen_some false f x e = none-some x (sym e)

neither : (found new : Option Address) → nearer found new ≡ None → (found ≡ None) × (new ≡ None)
neither None None e = (refl, refl)
neither None (Some x) e = (refl, e)
neither (Some f) None e = (e, refl)
neither (Some f) (Some x) e = absurd (chosen_some (nat_lt f.displacement x.displacement) f x e)

head_none : (b : Option Base) (r : ℕ) (section : List ℕ) (number : ℤ) (d : ℕ) → address_by_base section number r b ≡ None → Holds (Some b) section number d → ⊥
head_none None r section number d e h = h
head_none (Some b) r section number d e h = none-some (address r d) (sym e ∙ holds_reached section number r b d h)

all_none : (b : Option Base) (bs : Bases) (r : ℕ) (section : List ℕ) (number : ℤ) → address_by_base section number r b ≡ None → NoneHolds bs section number → NoneHolds (b ∷ bs) section number
all_none b bs r section number e rest zero d h = head_none b r section number d e h
all_none b bs r section number e rest (suc k) d h = rest k d h

none_reaches : (bs : Bases) (found : Option Address) (r : ℕ) (section : List ℕ) (number : ℤ) → nearest_from found r section number bs ≡ None → (found ≡ None) × NoneHolds bs section number
none_reaches [] found r section number e = (e, λ k d h. h)
none_reaches (b ∷ bs) found r section number e =
    let new = address_by_base section number r b in
    let rest = none_reaches bs (nearer found new) (r + 1) section number e in
    let both = neither found new rest.0 in
    (both.0, all_none b bs r section number both.1 rest.1)

-- the address is of a register in the list
abbrev pub IsAmong : Bases → ℕ → List ℕ → ℤ → Address → Type 0
IsAmong bases r section number a = (k : ℕ) × (a.base ≡ r + k) × Holds (slice_get bases k) section number a.displacement

chosen_one : (first : Bool) (f x a : Address) → (if first then Some f else Some x) ≡ Some a → (Some f ≡ Some a) ⊎ (Some x ≡ Some a)
chosen_one true f x a e = inl e
chosen_one false f x a e = inr e

one_of_two : (found new : Option Address) (a : Address) → nearer found new ≡ Some a → (found ≡ Some a) ⊎ (new ≡ Some a)
one_of_two None new a e = inr e
one_of_two (Some f) None a e = inl e
one_of_two (Some f) (Some x) a e = chosen_one (nat_lt f.displacement x.displacement) f x a e

among_head : (b : Option Base) (bs : Bases) (r : ℕ) (section : List ℕ) (number : ℤ) (a : Address) → address_by_base section number r b ≡ Some a → IsAmong (b ∷ bs) r section number a
among_head b bs r section number a e =
    let holds = reached_holds section number r b a e in
    let same : r ≡ r + 0 = omega arith in
    (0, holds.0 ∙ same, holds.1)

among_rest : (b : Option Base) (bs : Bases) (r : ℕ) (section : List ℕ) (number : ℤ) (a : Address) → IsAmong bs (r + 1) section number a → IsAmong (b ∷ bs) r section number a
among_rest b bs r section number a (k, at, holds) =
    let same : (r + 1) + k ≡ r + suc k = omega arith in
    (suc k, at ∙ same, holds)

found_or_among : (bs : Bases) (found : Option Address) (r : ℕ) (section : List ℕ) (number : ℤ) (a : Address) → nearest_from found r section number bs ≡ Some a
    → (found ≡ Some a) ⊎ IsAmong bs r section number a
found_or_among [] found r section number a e = inl e
found_or_among (b ∷ bs) found r section number a e =
    elim (found_or_among bs (nearer found (address_by_base section number r b)) (r + 1) section number a e) [
      | inl before ↦ elim (one_of_two found (address_by_base section number r b) a before) [ inl old ↦ inl old | inr new ↦ inr (among_head b bs r section number a new) ]
      | inr after ↦ inr (among_rest b bs r section number a after)
    ]

-- ---- the law
among_reaches : (bases : Bases) (section : List ℕ) (number : ℤ) (a : Address) → IsAmong bases 0 section number a → Reaches bases section number a.base a.displacement
among_reaches bases section number a (k, at, holds) =
    let same : k ≡ a.base = sym (at ∙ zero-add k) in
    subst (λ j. Holds (slice_get bases j) section number a.displacement) same holds

reaches : (bases : Bases) (section : List ℕ) (number : ℤ) (a : Address) → nearest_from None 0 section number bases ≡ Some a → Reaches bases section number a.base a.displacement
reaches bases section number a e =
    elim (found_or_among bases None 0 section number a e) [ inl none ↦ absurd (none-some a none) | inr among ↦ among_reaches bases section number a among ]

nearest_at : (bases : Bases) (section : List ℕ) (number : ℤ) (found : Option Address) → nearest_from None 0 section number bases ≡ found → IsNearest bases section number found
nearest_at bases section number None e = (none_reaches bases None 0 section number e).1
nearest_at bases section number (Some a) e = (
  reaches bases section number a e,
  λ register d h. subst (λ k. IsPreferred a k d) (zero-add register) ((preferred_to_all bases None 0 section number a tt e).1 register d h),
)

pub nearest_is_nearest : (bases : Bases) (section : List ℕ) (number : ℤ) → IsNearest bases section number (nearest_address bases section number)
unfolding nearest_address
nearest_is_nearest bases section number = nearest_at bases section number (nearest_from None 0 section number bases) refl

-- of two that are preferred to each other the one is the other
same_preferred : (a b : Address) → IsPreferred a b.base b.displacement → IsPreferred b a.base a.displacement → a ≡ b
same_preferred a b (inl one) (inl also) = absurd (omega arith)
same_preferred a b (inl one) (inr also) = let e = also.0 in absurd (omega arith)
same_preferred a b (inr same) (inl also) = let e = same.0 in absurd (omega arith)
same_preferred a b (inr same) (inr also) =
    let g = same.1 in let h = also.1 in
    let base : a.base ≡ b.base = omega arith in
    ap₂ address base same.0

pub nearest_decides : (bases : Bases) (section : List ℕ) (number : ℤ) (one other : Option Address) → IsNearest bases section number one → IsNearest bases section number other → one ≡ other
nearest_decides bases section number None None one other = refl
nearest_decides bases section number None (Some b) one other = absurd (one b.base b.displacement other.0)
nearest_decides bases section number (Some a) None one other = absurd (other a.base a.displacement one.0)
nearest_decides bases section number (Some a) (Some b) one other =
    ap Some (same_preferred a b (one.1 b.base b.displacement other.0) (other.1 a.base a.displacement one.0))
