-- The bytes of a statement, as they are listed.
use Rattle.std.proofs.Common.{◌≡◌, ◌≤◌, ℕ, ◌+◌, ◌-◌, Bool, true, false, Option, Some, None, List, [], ◌∷◌, ◌++◌, length, take, drop, refl, sym, ap, ◌∙◌, arith, append_assoc, append-nil}
use Rattle.std.specs.Prelude.{min, nat_lt, ◌&&◌, if◌then◌else◌}
use Rattle.std.specs.List.{cons_option}
use Rattle.std.proofs.lemmas.List.{drop_min, length-drop, take_min}
use Rattle.std.proofs.lemmas.Bool.Decides.{nat_tests}
use Rattle.cx_asm_expressions.specs.Digits.{bound}
use Rattle.cx_asm_pools.specs.Pools.{cap}
use Rattle.cx_asm_pass1.specs.PassState.{is_control, role_in}
use Rattle.cx_asm.specs.Listing.{object_length}
use Rattle.cx_look_symbols.specs.Laws.{ListedThere, text_bytes_at}

-- ---- one more
pub added_before : {A : Type 0} (found rest : List A) (one : Option A) → (found ++ cons_option one []) ++ rest ≡ found ++ cons_option one rest
added_before found rest None = ap (λ xs. xs ++ rest) (append-nil found)
added_before found rest (Some x) = append_assoc found (x ∷ []) rest

-- ---- within the bound
least_capped : (n m : ℕ) → m ≤ bound → min (cap n) m ≡ min n m
least_capped n m le = grind (arith, nat_tests)

take_capped : (n : ℕ) (xs : List ℕ) → length xs ≤ bound → take (cap n) xs ≡ take n xs
take_capped n xs le = sym (take_min (cap n) xs) ∙ ap (λ k. take k xs) (least_capped n (length xs) le) ∙ take_min n xs

drop_capped : (n : ℕ) (xs : List ℕ) → length xs ≤ bound → drop (cap n) xs ≡ drop n xs
drop_capped n xs le = sym (drop_min (cap n) xs) ∙ ap (λ k. drop k xs) (least_capped n (length xs) le) ∙ drop_min n xs

difference : (a b : ℕ) → a + b - a ≡ b
difference a b = omega arith

shorter : (n : ℕ) (xs : List ℕ) → length xs ≤ bound → length (drop n xs) ≤ bound
shorter n xs le = rw (length-drop n xs) (omega arith)

at_place : (text : List ℕ) (at n : ℕ) → length text ≤ bound → take n (drop at text) ≡ take (cap at + cap n - cap at) (drop (cap at) text)
at_place text at n le =
    sym
    (ap (λ k. take k (drop (cap at) text)) (difference (cap at) (cap n)) ∙ take_capped n (drop (cap at) text) (shorter (cap at) text le)
    ∙ ap (λ xs. take n xs) (drop_capped at text le))

there : (text : List ℕ) (at n line : ℕ) (inside some : Bool) → nat_lt 0 n ≡ some → length text ≤ bound
    → (if inside then take n (drop at text) else [])
    ≡ text_bytes_at text (if inside && some then Some (record { start = cap at; end = cap at + cap n; line = line }) else None)
there text at n line false some e le = refl
there text at n line true true e le = at_place text at n le
there text at n line true false e le = let none : n ≡ 0 = grind (arith, nat_tests, e) in rw none refl

pub listed_there : ListedThere
listed_there whole text s le =
    there text s.place.offset (object_length s (role_in s.stmt)) s.line (is_control s.place.section whole.control)
    (nat_lt 0 (object_length s (role_in s.stmt))) refl le
