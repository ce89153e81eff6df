-- The size of a pool with one literal more.
use Rattle.std.proofs.Common.{◌≡◌, None, ℕ, ◌+◌, List, [], ◌∷◌, ◌++◌, sum_by, refl, sym, ◌∙◌, ap, arith}
use Rattle.std.proofs.lemmas.Bool.Decides.{nat_tests}
use Rattle.std.proofs.lemmas.List.Sums.{sum_by-append}
use Rattle.std.specs.Prelude.{is_some}
use Rattle.std.specs.List.{IsDistinct}
use Rattle.std.specs.Map.{lookup}
use Rattle.std.specs.Str.{bytes_eq}
use Rattle.cx_asm_pools.specs.Facts.Literals.{once_after}
use Rattle.cx_asm_pools.specs.Parts.Texts.{IsOpen}
use Rattle.cx_asm_pools.specs.Pools.{cap, OpenLiterals, pool_size}
use Rattle.cx_asm_pools.specs.declared.open.Used.{Used}

pub capped_sum : (a b : ℕ) → cap (cap a + cap b) ≡ cap (a + b)
capped_sum a b = grind (arith, nat_tests)

pub sum_more : (es : OpenLiterals) (text : List ℕ) (used : Used) → sum_by (λ e. e.1.size) (es ++ (text, used) ∷ []) ≡ sum_by (λ e. e.1.size) es + used.size
sum_more es text used = let e : sum_by (λ e. e.1.size) (es ++ (text, used) ∷ []) ≡ sum_by (λ e. e.1.size) es + (0 + used.size) = sum_by-append (λ e. e.1.size) es ((text, used) ∷ []) in omega (arith, e)

pub size_more : (es : OpenLiterals) (text : List ℕ) (used : Used) → cap (pool_size es + cap used.size) ≡ pool_size (es ++ (text, used) ∷ [])
size_more es text used = capped_sum (sum_by (λ e. e.1.size) es) used.size ∙ ap cap (sym (sum_more es text used))

pub none_open : IsOpen 0 []
unfolding IsDistinct
none_open = record { size_is = refl; once = tt }

-- a pool with one literal more
pub one_open : (size : ℕ) (es new : OpenLiterals) (text : List ℕ) (used : Used) → IsOpen size es → lookup (bytes_eq text) es ≡ None → new ≡ es ++ (text, used) ∷ []
    → IsOpen (cap (size + cap used.size)) new
one_open size es new text used h none e =
    record {
      size_is = rw (e, h.size_is) (size_more es text used);
      once = rw e (once_after es text used (ap is_some none) h.once);
    }
