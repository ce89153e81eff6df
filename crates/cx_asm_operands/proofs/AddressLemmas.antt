-- What is read of a storage operand is in its ranges.
use Rattle.std.proofs.Common.{◌≡◌, ℕ, ℤ, ◌-ℤ◌, ◌+◌, ◌-◌, ◌≤◌, Bool, true, false, length, Option, Some, None, List, [], ◌∷◌, Ok, Err, refl, subst, arith}
use Rattle.std.specs.Prelude.{Result, option_map, if◌then◌else◌, nat_lt}
use Rattle.cx_asm_expressions.specs.Names.{is_same}
use Rattle.std.specs.Option.{ok_or, option_map_or}
use Rattle.std.proofs.lemmas.Bool.Decides.{nat_tests}
use Rattle.cx_asm_expressions.specs.declared.values.Value.{Value}
use Rattle.cx_asm_expressions.specs.declared.faults.FaultKind.{FaultKind}
use Rattle.cx_asm_expressions.specs.declared.faults.FaultKind.TheVariants.{NoAddressability, BadOperand, ValueOutOfRange}
use Rattle.cx_asm_operands.specs.Checking.{both_or_lower_fault, then_check, with_made}
use Rattle.cx_asm_operands.specs.Bases.{Bases}
use Rattle.cx_asm_operands.specs.declared.bases.Base.{Base}
use Rattle.cx_asm_operands.specs.Addresses.{address, number_within, address_by_base, nearer, nearest_address, address_by_bases, implied_address}
use Rattle.cx_asm_operands.specs.declared.addresses.Address.{Address}
use Rattle.cx_asm_operands.specs.Context.{Context, operand_number, number_at_most, register_in}
use Rattle.cx_asm_operands.specs.Storage.{Operand, operand_in, address_by_subfields, plain_in, index_in, indexed_by, indexed_in, counted_by, address_with_length, counted_in, implied_length}
use Rattle.cx_asm_operands.proofs.NearestLemmas.{nearest_from}
use Rattle.cx_asm_operands.proofs.FitLemmas.{number_fits, at_most_fits, both_first, both_second, counted_fits}

-- a base register and a displacement are in their ranges
abbrev pub IsInRange : Address → Type 0
IsInRange a = (a.base ≤ 15) × (a.displacement ≤ 4095)

abbrev pub AreSixteen : Context → Type 0
AreSixteen c = length c.bases ≡ 16

displacement_fits : (d : ℤ) (n : ℕ) → number_within 4095 d ≡ Some n → n ≤ 4095
displacement_fits d n e = grind (arith, nat_tests)

made_address : (r : ℕ) (d : Option ℕ) (a : Address) → r ≤ 15 → ((n : ℕ) → d ≡ Some n → n ≤ 4095) → option_map (address r) d ≡ Some a → IsInRange a
made_address r None a small near e = cc
made_address r (Some n) a small near e =
    let low = near n refl in
    (grind arith, grind arith)

if_fits : (same : Bool) (o : Option Address) (a : Address) → ((x : Address) → o ≡ Some x → IsInRange x) → (if same then o else None) ≡ Some a → IsInRange a
if_fits true o a fits e = fits a e
if_fits false o a fits e = cc

reached_fits : (section : List ℕ) (number : ℤ) (r : ℕ) (b : Option Base) (a : Address) → r ≤ 15 → address_by_base section number r b ≡ Some a → IsInRange a
reached_fits section number r None a small e = cc
reached_fits section number r (Some b) a small e =
    if_fits (is_same b.section section) (option_map (address r) (number_within 4095 (number -ℤ b.number))) a
    (λ x i. made_address r (number_within 4095 (number -ℤ b.number)) x small (displacement_fits (number -ℤ b.number)) i) e

nearer_cases : (first : Bool) (one other : Address) (a : Address) → IsInRange one → IsInRange other → (if first then Some one else Some other) ≡ Some a → IsInRange a
nearer_cases true one other a fits also e = subst IsInRange (grind arith) fits
nearer_cases false one other a fits also e = subst IsInRange (grind arith) also

if_near : (one other : Address) (a : Address) → IsInRange one → IsInRange other → nearer (Some one) (Some other) ≡ Some a → IsInRange a
if_near one other a fits also e = nearer_cases (nat_lt one.displacement other.displacement) one other a fits also e

nearer_fits : (one other : Option Address) (a : Address) → ((x : Address) → one ≡ Some x → IsInRange x) → ((x : Address) → other ≡ Some x → IsInRange x)
    → nearer one other ≡ Some a → IsInRange a
nearer_fits None other a fits also e = also a e
nearer_fits (Some one) None a fits also e = fits a e
nearer_fits (Some one) (Some other) a fits also e = if_near one other a (fits one refl) (also other refl) e

nearest_from_fits : (bases : Bases) (found : Option Address) (r : ℕ) (section : List ℕ) (number : ℤ) (a : Address) → r + length bases ≤ 16
    → ((x : Address) → found ≡ Some x → IsInRange x) → nearest_from found r section number bases ≡ Some a → IsInRange a
nearest_from_fits [] found r section number a small fits e = fits a e
nearest_from_fits (b ∷ bs) found r section number a small fits e =
    let here : r ≤ 15 = omega arith in
    let rest : (r + 1) + length bs ≤ 16 = omega arith in
    nearest_from_fits bs (nearer found (address_by_base section number r b)) (r + 1) section number a rest
    (λ x i. nearer_fits found (address_by_base section number r b) x fits (λ y j. reached_fits section number r b y here j) i) e

nothing_fits : (x : Address) → None ≡ Some x → IsInRange x
nothing_fits x e = cc

nearest_fits : (bases : Bases) (section : List ℕ) (number : ℤ) (a : Address) → length bases ≡ 16 → nearest_address bases section number ≡ Some a → IsInRange a
unfolding nearest_address
nearest_fits bases section number a sixteen e =
    let small : 0 + length bases ≤ 16 = omega arith in
    nearest_from_fits bases None 0 section number a small nothing_fits e

or_fits : (o : Option Address) (fault : FaultKind) (a : Address) → ((x : Address) → o ≡ Some x → IsInRange x) → ok_or o fault ≡ Ok a → IsInRange a
or_fits None fault a fits e = cc
or_fits (Some x) fault a fits e = fits a (grind arith)

absolute_fits : (number : ℤ) (a : Address) → ok_or (option_map (address 0) (number_within 4095 number)) ValueOutOfRange ≡ Ok a → IsInRange a
absolute_fits number a e =
    let zero_small : 0 ≤ 15 = omega arith in
    or_fits (option_map (address 0) (number_within 4095 number)) ValueOutOfRange a (λ x i. made_address 0 (number_within 4095 number) x zero_small (displacement_fits number) i) e

address_in_fits : (bases : Bases) (section : Option (List ℕ)) (number : ℤ) (a : Address) → length bases ≡ 16 → address_by_bases bases section number ≡ Ok a → IsInRange a
address_in_fits bases None number a sixteen e = absolute_fits number a e
address_in_fits bases (Some section) number a sixteen e =
    or_fits (nearest_address bases section number) NoAddressability a (λ x i. nearest_fits bases section number x sixteen i) e

implied_fits : (bases : Bases) (place : Result Value FaultKind) (a : Address) → length bases ≡ 16 → then_check (implied_address bases) place ≡ Ok a → IsInRange a
implied_fits bases (Ok v) a sixteen e = address_in_fits bases v.section v.number a sixteen e
implied_fits bases (Err fault) a sixteen e = cc

displaced_fits : (place : Result Value FaultKind) (n : ℕ) → then_check (number_at_most 4095) place ≡ Ok n → n ≤ 4095
displaced_fits (Ok v) n e = at_most_fits 4095 v n e
displaced_fits (Err fault) n e = cc

both_fit : (one other : Result ℕ FaultKind) (a : Address) → ((n : ℕ) → one ≡ Ok n → n ≤ 4095) → ((n : ℕ) → other ≡ Ok n → n ≤ 15)
    → with_made (λ v. address v.1 v.0) (both_or_lower_fault one other) ≡ Ok a → IsInRange a
both_fit (Ok m) (Ok n) a fits also e =
    let low = fits m refl in
    let few = also n refl in
    (grind arith, grind arith)
both_fit (Ok m) (Err f) a fits also e = cc
both_fit (Err f) (Ok n) a fits also e = cc
both_fit (Err f) (Err g) a fits also e = cc

addressed_fits : (c : Context) (place : Result Value FaultKind) (texts : List (List ℕ)) (a : Address) → AreSixteen c → address_by_subfields c place texts ≡ Ok a → IsInRange a
addressed_fits c place [] a sixteen e = implied_fits c.bases place a sixteen e
addressed_fits c place (base ∷ []) a sixteen e =
    both_fit (then_check (number_at_most 4095) place) (register_in c base) a (displaced_fits place) (number_fits 15 c base) e
addressed_fits c place (base ∷ other ∷ more) a sixteen e = cc

plain_operand_fits : (c : Context) (o : Option Operand) (a : Address) → AreSixteen c → option_map_or (λ (o : Operand). address_by_subfields c o.place o.subfields) o (Err BadOperand) ≡ Ok a → IsInRange a
plain_operand_fits c None a sixteen e = cc
plain_operand_fits c (Some o) a sixteen e = addressed_fits c o.place o.subfields a sixteen e

pub plain_fits : (takes : Bool) (c : Context) (text : List ℕ) (a : Address) → AreSixteen c → plain_in takes c text ≡ Ok a → IsInRange a
unfolding plain_in
plain_fits takes c text a sixteen e = plain_operand_fits c (operand_in takes c text) a sixteen e

-- a number up to `most`, and an address in range
abbrev pub IsPairInRange : ℕ → ℕ × Address → Type 0
IsPairInRange most v = (v.0 ≤ most) × IsInRange v.1

index_fits : (c : Context) (text : List ℕ) (n : ℕ) → index_in c text ≡ Ok n → n ≤ 15
index_fits c [] n e = let none : 0 ≡ n = (cc) in omega arith
index_fits c (byte ∷ text) n e = number_fits 15 c (byte ∷ text) n e

indexed_by_fits : (c : Context) (place : Result Value FaultKind) (texts : List (List ℕ)) (v : ℕ × Address) → AreSixteen c → indexed_by c place texts ≡ Ok v → IsPairInRange 15 v
indexed_by_fits c place [] v sixteen e =
    let first : Ok 0 ≡ Ok v.0 = both_first (Ok 0) (address_by_subfields c place []) v e in
    (grind arith, addressed_fits c place [] v.1 sixteen (both_second (Ok 0) (address_by_subfields c place []) v e))
indexed_by_fits c place (index ∷ []) v sixteen e = (
  number_fits 15 c index v.0 (both_first (register_in c index) (address_by_subfields c place []) v e),
  addressed_fits c place [] v.1 sixteen (both_second (register_in c index) (address_by_subfields c place []) v e),
)
indexed_by_fits c place (index ∷ base ∷ more) v sixteen e = (
  index_fits c index v.0 (both_first (index_in c index) (address_by_subfields c place (base ∷ more)) v e),
  addressed_fits c place (base ∷ more) v.1 sixteen (both_second (index_in c index) (address_by_subfields c place (base ∷ more)) v e),
)

indexed_operand_fits : (c : Context) (o : Option Operand) (v : ℕ × Address) → AreSixteen c → option_map_or (λ (o : Operand). indexed_by c o.place o.subfields) o (Err BadOperand) ≡ Ok v → IsPairInRange 15 v
indexed_operand_fits c None v sixteen e = cc
indexed_operand_fits c (Some o) v sixteen e = indexed_by_fits c o.place o.subfields v sixteen e

pub indexed_fits : (c : Context) (text : List ℕ) (v : ℕ × Address) → AreSixteen c → indexed_in c text ≡ Ok v → IsPairInRange 15 v
unfolding indexed_in
indexed_fits c text v sixteen e = indexed_operand_fits c (operand_in true c text) v sixteen e

counted_address : (most : ℕ) (c : Context) (place : Result Value FaultKind) (texts : List (List ℕ)) (v : ℕ × Address) → AreSixteen c → counted_by most c place texts ≡ Ok v → IsInRange v.1
counted_address most c place [] v sixteen e = addressed_fits c place [] v.1 sixteen (both_second (then_check (implied_length most) place) (address_by_subfields c place []) v e)
counted_address most c place (count ∷ base) v sixteen e = addressed_fits c place base v.1 sixteen (both_second (operand_number most c count) (address_by_subfields c place base) v e)

field_fits : (most : ℕ) (r : Result (ℕ × Address) FaultKind) (v : ℕ × Address) → ((w : ℕ × Address) → r ≡ Ok w → (w.0 ≤ most) × IsInRange w.1)
    → with_made (λ w. (w.0 - 1, w.1)) r ≡ Ok v → (v.0 ≤ most - 1) × IsInRange v.1
field_fits most (Ok w) v fits e =
    let both = fits w refl in
    let count = both.0 in
    let second : w.1 ≡ v.1 = grind arith in
    (grind arith, subst IsInRange second both.1)
field_fits most (Err fault) v fits e = cc

counted_operand_fits : (most : ℕ) (c : Context) (o : Option Operand) (v : ℕ × Address) → AreSixteen c → option_map_or (address_with_length most c) o (Err BadOperand) ≡ Ok v → IsPairInRange (most - 1) v
counted_operand_fits most c None v sixteen e = cc
counted_operand_fits most c (Some o) v sixteen e =
    field_fits most (counted_by most c o.place o.subfields) v
    (λ w i. (counted_fits most c o.place o.subfields w i, counted_address most c o.place o.subfields w sixteen i)) e

pub counted_in_fits : (most : ℕ) (takes : Bool) (c : Context) (text : List ℕ) (v : ℕ × Address) → AreSixteen c → counted_in most takes c text ≡ Ok v → IsPairInRange (most - 1) v
unfolding counted_in
counted_in_fits most takes c text v sixteen e = counted_operand_fits most c (operand_in takes c text) v sixteen e
