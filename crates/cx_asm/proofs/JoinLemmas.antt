-- Resolved lines and relocated words, put after those that are there.
use Rattle.std.proofs.Common.{◌≡◌, ℕ, zero, suc, ◌+◌, Bool, true, false, List, [], ◌∷◌, ◌++◌, append-nil, append_assoc, add-one, ◌<◌, drop, drop-cons, get_or, slice_get, length, arith, refl, sym, ◌∙◌, ap}
use Rattle.cx_code.specs.declared.disassembly.Line.{Line}
use Rattle.std.specs.Prelude.{Result, Ok, Err}
use Rattle.std.specs.List.{repeat}
use Rattle.cx_asm_expressions.specs.Bytes.{CopyOfConstant}
use Rattle.cx_asm_expressions.specs.Items.{Constant}
use Rattle.cx_asm_expressions.specs.declared.faults.FaultKind.{FaultKind}
use Rattle.cx_asm.specs.Parts.Kept.{kept}
use Rattle.cx_asm.specs.Parts.Passing.{literal_standing}
use Rattle.cx_asm.specs.Resolving.{Standing, constant_standing, item_standing, items_standing, join_sections, empty_section, pool_standing, standing, standing_from, statement_standing}
use Rattle.cx_asm_pools.specs.Pools.{PlacedLiterals}
use Rattle.cx_asm_operands.specs.Bases.{Bases}
use Rattle.cx_asm_pass2.specs.Statements.{PlacedStatement}
use Rattle.cx_asm_pass2.specs.Whole.{Whole}
use Rattle.cx_asm_pass2.specs.SecondFaults.{bases_after}

same : (ls ms : List Line) (rs qs : List ℕ) → ls ≡ ms → rs ≡ qs → standing ls rs ≡ standing ms qs
same ls ms rs qs e f = rw (e, f) refl

pub joined_nothing : (s : Standing) → join_sections s empty_section ≡ s
joined_nothing s = same _ _ _ _ (append-nil s.lines) (append-nil s.relocs)

pub joined_in_turn : (a b c : Standing) → join_sections (join_sections a b) c ≡ join_sections a (join_sections b c)
joined_in_turn a b c = same _ _ _ _ (append_assoc a.lines b.lines c.lines) (append_assoc a.relocs b.relocs c.relocs)

-- one copy more
pub copies_more : (n : ℕ) (bytes : List ℕ) → repeat n bytes ++ bytes ≡ repeat (n + 1) bytes
copies_more n bytes = rw add-one (more n bytes)
  where
    more : (n : ℕ) (bytes : List ℕ) → repeat n bytes ++ bytes ≡ bytes ++ repeat n bytes
    more zero bytes = sym (append-nil bytes)
    more (suc n) bytes = append_assoc bytes (repeat n bytes) bytes ∙ ap (λ l. bytes ++ l) (more n bytes)

pub copies_none : (n : ℕ) → repeat {A = ℕ} n [] ≡ []
copies_none zero = refl
copies_none (suc n) = copies_none n

pub copies_empty : (n : ℕ) (bytes : List ℕ) → length bytes ≡ 0 → repeat n bytes ≡ []
copies_empty n [] e = copies_none n
copies_empty n (b ∷ bytes) e = absurd (omega (arith, e))

-- the literal of a number, and those after it
pub pool_next : (whole : Whole) (statements : List PlacedStatement) (pool : PlacedLiterals) (i : ℕ)
    → pool_standing whole statements (drop i pool)
    ≡ join_sections (literal_standing whole statements (slice_get pool i))
    (pool_standing whole statements (drop (i + 1) pool))
pool_next whole statements pool i = rw add-one (next pool i)
  where
    next : (pool : PlacedLiterals) (i : ℕ)
        → pool_standing whole statements (drop i pool)
        ≡ join_sections (literal_standing whole statements (slice_get pool i))
        (pool_standing whole statements (drop (suc i) pool))
    next [] zero = refl
    next [] (suc i) = refl
    next (e ∷ pool) zero = refl
    next (e ∷ pool) (suc i) = next pool i

-- an item, and those after it
pub items_next : (whole : Whole) (is_ds : Bool) (s : PlacedStatement) (items : List (List ℕ × ℕ)) (d : List ℕ × ℕ) (i : ℕ) → i < length items
    → items_standing whole is_ds s (drop i items) ≡ join_sections (item_standing whole is_ds s (get_or items i d)) (items_standing whole is_ds s (drop (i + 1) items))
items_next whole is_ds s items d i within = rw (add-one, drop-cons items i d within) refl

pub standing_next : (whole : Whole) (statements : List PlacedStatement) (bases : Bases) (xs : List PlacedStatement) (d : PlacedStatement) (i : ℕ) → i < length xs
    → standing_from whole statements bases (drop i xs)
    ≡ join_sections (statement_standing whole statements bases (get_or xs i d)) (standing_from whole statements (bases_after whole bases (get_or xs i d)) (drop (i + 1) xs))
standing_next whole statements bases xs d i within = rw (add-one, drop-cons xs i d within) refl

-- one part more
pub one_more : (old new part rest left all : Standing) → new ≡ join_sections old part → left ≡ join_sections part rest → join_sections old left ≡ all → join_sections new rest ≡ all
one_more old new part rest left all e f h =
    ap (λ (s : Standing). join_sections s rest) e ∙ joined_in_turn old part rest ∙ ap (λ (s : Standing). join_sections old s) (sym f) ∙ h

-- ---- where it is kept
pub kept_nothing : (keeps : Bool) (s : Standing) → kept keeps s empty_section ≡ s
kept_nothing true s = joined_nothing s
kept_nothing false s = refl

pub kept_refused : (keeps : Bool) (s : Standing) (at : ℕ) (item : Result Constant FaultKind) (made : Result CopyOfConstant FaultKind) (fault : FaultKind) → made ≡ Err fault
    → kept keeps s (constant_standing at item made) ≡ s
kept_refused keeps s at (Ok item) (Err f) fault e = kept_nothing keeps s
kept_refused keeps s at (Err f) made fault e = kept_nothing keeps s
kept_refused keeps s at (Ok item) (Ok made) fault e = cc

pub kept_more : (keeps : Bool) (old new part rest left all : Standing) → new ≡ kept keeps old part → left ≡ join_sections part rest → kept keeps old left ≡ all
    → kept keeps new rest ≡ all
kept_more true old new part rest left all e f h = one_more old new part rest left all e f h
kept_more false old new part rest left all e f h = e ∙ h
