-- What one statement takes of its section.
use Rattle.std.specs.Prelude.{if◌then◌else◌, is_some, ◌%◌, ◌/◌, ◌*◌, nat_le, map, fold, scan, Ok, Err}
use Rattle.std.specs.Result.{result_err}
use Rattle.std.proofs.Common.{◌≡◌, ◌≤◌, ◌<◌, ℕ, ◌+◌, ◌-◌, Option, Some, None, List, [], ◌∷◌, refl, sym, ◌∙◌, ap, subst, ⊎_elim, arith, lit≤}
use Rattle.std.proofs.Math.Nat.{mod-lt, mod-add-div', mul-mod_left}
use Rattle.std.proofs.lemmas.Bool.{cases_Bool, cond-false}
use Rattle.std.proofs.lemmas.Bool.Decides.{nat_tests}
use Rattle.cx_asm_expressions.specs.Digits.{bound}
use Rattle.cx_asm_expressions.specs.Faults.{lower, lowest}
use Rattle.cx_asm_expressions.specs.Items.{Constant, alignment_of, constant_in, size_of}
use Rattle.cx_asm_expressions.specs.Kinds.{row_of_kind}
use Rattle.cx_asm_expressions.specs.declared.faults.FaultKind.{FaultKind}
use Rattle.cx_asm_expressions.specs.declared.faults.FaultKind.TheVariants.{ValueOutOfRange}
use Rattle.cx_asm_expressions.specs.declared.kinds.ConstantKind.{ConstantKind}
use Rattle.cx_asm_pools.specs.Facts.Literals.{no_pool_stands, pool_stands}
use Rattle.cx_asm_pools.specs.Laws.Literals.{IsPool, StandApart}
use Rattle.cx_asm_pools.specs.Pools.{OpenLiterals, cap, constant_size, closed_pool, pool_extent, pool_size}
use Rattle.cx_asm_pass1.specs.Laws.Apart.{ItemsStand, Stands, boundary_of}
use Rattle.cx_asm_pass1.specs.Layout.{StorageItem, align, fault_beyond, bytes_at, item_end, item_start, items_at, extent_of}
use Rattle.cx_asm_pass1.specs.declared.roles.Role.{Role}
use Rattle.cx_asm_pass1.specs.declared.roles.Role.TheVariants.{Unknown, Instruction, Control, Dummy, Equate, Storage, Pool, Registers, Member, Nothing}

-- ---- boundaries
kind_small : (kind : ConstantKind) → (1 ≤ (row_of_kind kind).alignment) × ((row_of_kind kind).alignment ≤ 8)
kind_small kind = (grind arith, grind arith)

small : (kind : ConstantKind) (modifier : Option ℕ) → (1 ≤ (if is_some modifier then 1 else (row_of_kind kind).alignment)) × ((if is_some modifier then 1 else (row_of_kind kind).alignment) ≤ 8)
small kind None = kind_small kind
small kind (Some m) = (lit≤ tt, lit≤ tt)

pub alignment_small : (item : Constant) → (1 ≤ alignment_of item) × (alignment_of item ≤ 8)
alignment_small item = small item.kind item.modifier

rounds_up : (n boundary at q : ℕ) → n ≡ at + (boundary - 1) → 1 ≤ boundary → n % boundary < boundary → n % boundary + q ≡ n → at ≤ q
rounds_up n boundary at q is positive below parts = omega (arith, is, positive, below, parts)

aligned_after : (boundary at : ℕ) → 1 ≤ boundary → at ≤ align boundary at
aligned_after boundary at positive =
    let n = at + (boundary - 1) in
    rounds_up n boundary at (n / boundary * boundary) refl positive (mod-lt n positive) (mod-add-div' n boundary)

aligned_multiple : (boundary at : ℕ) → align boundary at % boundary ≡ 0
aligned_multiple boundary at = mul-mod_left ((at + (boundary - 1)) / boundary) boundary

-- ---- the bound
pub capped_same : (n : ℕ) → n ≤ bound → cap n ≡ n
capped_same n le = grind (arith, nat_tests)

pub capped_within : (n : ℕ) → cap n ≤ bound → n ≤ bound
capped_within n le = grind (arith, nat_tests)

beyond_none : (at : ℕ) → fault_beyond at ≡ None → at ≤ bound
beyond_none at e = ⊎_elim
    (λ yes. grind (arith, nat_tests, yes))
    (λ no. let f : Some ValueOutOfRange ≡ None = sym (cond-false _ _ _ no) ∙ e in cc)
    (cases_Bool (nat_le at bound))

-- ---- items
pub record ItemStands (item : StorageItem) (at : ℕ) : Type 0 where
  pub begins : at ≤ item_start at item
  pub multiple : item_start at item % boundary_of item ≡ 0
  pub ends : item_end at item ≡ item_start at item + constant_size item

item_begins : (item : StorageItem) (at : ℕ) → item_end at item ≤ bound → at ≤ item_start at item
item_begins (Err fault) at within = omega arith
item_begins (Ok item) at within =
    let after : cap at ≤ item_start at (Ok item) = aligned_after (alignment_of item) (cap at) (alignment_small item).0 in
    let inside : at ≤ bound = capped_within at (omega (arith, after, within)) in
    omega (arith, after, capped_same at inside)

item_stands : (item : StorageItem) (at : ℕ) → item_end at item ≤ bound → ItemStands item at
item_stands (Err fault) at within = record { begins = omega arith; multiple = omega arith; ends = omega arith }
item_stands (Ok item) at within =
    record {
      begins = item_begins (Ok item) at within;
      multiple = aligned_multiple (alignment_of item) (cap at);
      ends = ap (λ n. item_start at (Ok item) + n) (capped_same (size_of item) (capped_within (size_of item) (omega (arith, within))));
    }

items_end : (items : List StorageItem) (at : ℕ) → fold item_end at items ≤ bound → at ≤ fold item_end at items
items_end [] at within = omega arith
items_end (item ∷ items) at within =
    let rest : item_end at item ≤ fold item_end (item_end at item) items = items_end items (item_end at item) within in
    let one = item_stands item at (omega (arith, rest, within)) in
    omega (arith, one.begins, one.ends, rest)

items_stand : (items : List StorageItem) (at : ℕ) → fold item_end at items ≤ bound → ItemsStand at items (scan item_end item_start at items) (fold item_end at items)
items_stand [] at within = refl
items_stand (item ∷ items) at within =
    let rest : item_end at item ≤ fold item_end (item_end at item) items = items_end items (item_end at item) within in
    let one = item_stands item at (omega (arith, rest, within)) in
    (one.begins, one.multiple, subst (λ n. ItemsStand n items (scan item_end item_start (item_end at item) items) (fold item_end (item_end at item) items)) one.ends (items_stand items (item_end at item) within))

first_begins : (items : List StorageItem) (at : ℕ) → fold item_end at items ≤ bound
    → (at ≤ (items_at items at).offset) × ((items_at items at).offset ≤ fold item_end at items)
first_begins [] at within = (omega arith, omega arith)
first_begins (item ∷ items) at within =
    let rest : item_end at item ≤ fold item_end (item_end at item) items = items_end items (item_end at item) within in
    let one = item_stands item at (omega (arith, rest, within)) in
    (one.begins, omega (arith, one.ends, rest))

-- ---- statements
bytes_begin : (boundary size length at : ℕ) → 1 ≤ boundary → (at ≤ (bytes_at boundary size length at).offset) × ((bytes_at boundary size length at).offset ≤ (bytes_at boundary size length at).end)
bytes_begin boundary size length at positive = (aligned_after boundary at positive, omega arith)

pub pool_begins : (operands : List (List ℕ)) (extent : Option ℕ) (at : ℕ)
    → (at ≤ (extent_of Pool operands extent at).offset) × ((extent_of Pool operands extent at).offset ≤ (extent_of Pool operands extent at).end)
unfolding extent_of
pool_begins operands None at = (omega arith, omega arith)
pool_begins operands (Some size) at = bytes_begin 8 size 1 at (omega arith)

-- what a statement takes begins at or past the offset before it, and ends at or past its beginning
pub extent_begins : (role : Role) (operands : List (List ℕ)) (extent : Option ℕ) (at : ℕ) → (extent_of role operands extent at).end ≤ bound
    → (at ≤ (extent_of role operands extent at).offset) × ((extent_of role operands extent at).offset ≤ (extent_of role operands extent at).end)
unfolding extent_of
extent_begins (Instruction size) operands extent at within = bytes_begin 2 (cap size) size at (omega arith)
extent_begins (Storage is_ds) operands extent at within = first_begins (map (constant_in is_ds) operands) at within
extent_begins Pool operands extent at within = pool_begins operands extent at
extent_begins Unknown operands extent at within = (omega arith, omega arith)
extent_begins Control operands extent at within = (omega arith, omega arith)
extent_begins Dummy operands extent at within = (omega arith, omega arith)
extent_begins Equate operands extent at within = (omega arith, omega arith)
extent_begins Registers operands extent at within = (omega arith, omega arith)
extent_begins Member operands extent at within = (omega arith, omega arith)
extent_begins Nothing operands extent at within = (omega arith, omega arith)

pub lower_none : (one other : Option FaultKind) → lower one other ≡ None → (one ≡ None) × (other ≡ None)
lower_none None other e = (refl, e)
lower_none (Some one) None e = cc
lower_none (Some one) (Some other) e = cc

pool_within : (operands : List (List ℕ)) (extent : Option ℕ) (at : ℕ) → at ≤ bound → (extent_of Pool operands extent at).fault ≡ None
    → (extent_of Pool operands extent at).end ≤ bound
unfolding extent_of
pool_within operands None at inside e = inside
pool_within operands (Some size) at inside e = beyond_none _ e

-- without a fault it ends within the bound
pub extent_within : (role : Role) (operands : List (List ℕ)) (extent : Option ℕ) (at : ℕ) → at ≤ bound → (extent_of role operands extent at).fault ≡ None
    → (extent_of role operands extent at).end ≤ bound
unfolding extent_of
extent_within (Instruction size) operands extent at inside e = beyond_none _ e
extent_within (Storage is_ds) operands extent at inside e = beyond_none _ (lower_none (lowest (map result_err (map (constant_in is_ds) operands))) (fault_beyond (fold item_end at (map (constant_in is_ds) operands))) e).1
extent_within Pool operands extent at inside e = pool_within operands extent at inside e
extent_within Unknown operands extent at inside e = inside
extent_within Control operands extent at inside e = inside
extent_within Dummy operands extent at inside e = inside
extent_within Equate operands extent at inside e = inside
extent_within Registers operands extent at inside e = inside
extent_within Member operands extent at inside e = inside
extent_within Nothing operands extent at inside e = inside

pub pool_apart : (operands : List (List ℕ)) (pool : OpenLiterals) (at : ℕ) → IsPool pool → (extent_of Pool operands (pool_extent pool) at).end ≤ bound
    → StandApart (extent_of Pool operands (pool_extent pool) at).offset (closed_pool (cap (extent_of Pool operands (pool_extent pool) at).offset) pool)
    (extent_of Pool operands (pool_extent pool) at).end
unfolding extent_of
pool_apart operands [] at is within = no_pool_stands at
pool_apart operands (e ∷ es) at is within =
    subst (λ n. StandApart (align 8 at) (closed_pool n (e ∷ es)) (align 8 at + pool_size (e ∷ es))) (sym (capped_same (align 8 at) (omega (arith, within))))
    (pool_stands (e ∷ es) (align 8 at) is (aligned_multiple 8 at) within)

stands_at : (role : Role) (operands : List (List ℕ)) (pool : OpenLiterals) (at : ℕ) → IsPool pool → (extent_of role operands (pool_extent pool) at).end ≤ bound
    → Stands role operands pool at (extent_of role operands (pool_extent pool) at)
unfolding extent_of
stands_at (Instruction size) operands pool at is within = (
  aligned_after 2 at (omega arith),
  aligned_multiple 2 at,
  ap (λ n. align 2 at + n) (capped_same size (capped_within size (omega (arith, within)))),
)
stands_at (Storage is_ds) operands pool at is within = items_stand (map (constant_in is_ds) operands) at within
stands_at Pool operands pool at is within = ((pool_begins operands (pool_extent pool) at).0, pool_apart operands pool at is within)
stands_at Unknown operands pool at is within = (refl, refl)
stands_at Control operands pool at is within = (refl, refl)
stands_at Dummy operands pool at is within = (refl, refl)
stands_at Equate operands pool at is within = (refl, refl)
stands_at Registers operands pool at is within = (refl, refl)
stands_at Member operands pool at is within = (refl, refl)
stands_at Nothing operands pool at is within = (refl, refl)

-- what a statement takes from a capped offset on lies from that offset itself
pub extent_stands : (role : Role) (operands : List (List ℕ)) (pool : OpenLiterals) (from : ℕ) → IsPool pool → (extent_of role operands (pool_extent pool) (cap from)).end ≤ bound
    → Stands role operands pool from (extent_of role operands (pool_extent pool) (cap from))
extent_stands role operands pool from is within =
    let order = extent_begins role operands (pool_extent pool) (cap from) within in
    let inside : from ≤ bound = capped_within from (omega (arith, order.0, order.1, within)) in
    subst (λ n. Stands role operands pool n (extent_of role operands (pool_extent pool) (cap from))) (capped_same from inside)
    (stands_at role operands pool (cap from) is within)
