-- One reference, operand or statement more.
use Rattle.std.proofs.Common.{◌≡◌, ◌<◌, ◌≤◌, ℕ, ◌+◌, false, List, ◌∷◌, sym, ◌∙◌, ap, Bor, drop, fold, get_or, length, map}
use Rattle.std.specs.Prelude.{nat_eq, ◌&&◌}
use Rattle.std.specs.BTreeSet.{insert_key}
use Rattle.std.specs.List.{filter, list_any}
use Rattle.std.specs.Option.{option_map_or}
use Rattle.std.specs.Ordering.{nat_cmp}
use Rattle.std.specs.Str.{bytes_eq}
use Rattle.std.proofs.lemmas.List.{drop_all, drop_more}
use Rattle.cx_asm_pools.specs.Pools.{literal_text}
use Rattle.cx_asm_expressions.specs.Names.{is_same}
use Rattle.cx_asm_pass2.specs.Statements.{PlacedStatement}
use Rattle.cx_look_xref.specs.Literals.{uses_literal}
use Rattle.cx_look_xref.specs.Parts.Uses.{uses_part, with_line}
use Rattle.cx_look_xref.specs.declared.references.Reference.{Reference}
use Rattle.cx_look_xref.proofs.UseLemmas.{no_use, one_more_name, one_more_statement, one_more_use}

next : {X : Type 0} (xs : List X) (i : ℕ) (x d : X) → i < length xs → x ≡ get_or xs i d → drop i xs ≡ x ∷ drop (i + 1) xs
next xs i x d within is = drop_more xs i d within ∙ ap (λ y. y ∷ drop (i + 1) xs) (sym is)

-- ---- names
abbrev naming : List ℕ → List Reference → List ℕ
naming name references = map (λ r. r.line) (filter (λ r. is_same name r.name) references)

pub name_step : (name : List ℕ) (all : List Reference) (i : ℕ) (r d : Reference) (old new lines : List ℕ)
    → i < length all → r ≡ get_or all i d → new ≡ with_line (is_same name r.name) r.line old
    → fold (insert_key nat_cmp) old (naming name (drop i all)) ≡ lines
    → fold (insert_key nat_cmp) new (naming name (drop (i + 1) all)) ≡ lines
name_step name all i r d old new lines within is put so_far =
    ap (λ n. fold (insert_key nat_cmp) n (naming name (drop (i + 1) all))) put
    ∙ one_more_name name r (drop (i + 1) all) old
    ∙ ap (λ rs. fold (insert_key nat_cmp) old (naming name rs)) (sym (next all i r d within is)) ∙ so_far

pub names_done : (name : List ℕ) (all : List Reference) (i : ℕ) (old lines : List ℕ) → length all ≤ i
    → fold (insert_key nat_cmp) old (naming name (drop i all)) ≡ lines → old ≡ lines
names_done name all i old lines past so_far = ap (λ rs. fold (insert_key nat_cmp) old (naming name rs)) (sym (drop_all i all past)) ∙ so_far

-- ---- operands
abbrev texts : List (Bor (List ℕ)) → List (List ℕ)
texts parts = map (λ (part : Bor (List ℕ)). part.now) parts

pub part_step : (number : ℕ) (text : List ℕ) (pool line : ℕ) (all : List (Bor (List ℕ))) (i : ℕ) (part d : Bor (List ℕ)) (old new lines : List ℕ)
    → i < length all → part ≡ get_or all i d
    → new ≡ with_line ((nat_eq number pool) && option_map_or (bytes_eq text) (literal_text part.now) false) line old
    → with_line (uses_part number text pool (texts (drop i all))) line old ≡ lines
    → with_line (uses_part number text pool (texts (drop (i + 1) all))) line new ≡ lines
part_step number text pool line all i part d old new lines within is put so_far =
    ap (with_line (uses_part number text pool (texts (drop (i + 1) all))) line) put
    ∙ one_more_use (nat_eq number pool) (option_map_or (bytes_eq text) (literal_text part.now) false)
    (list_any (λ part. option_map_or (bytes_eq text) (literal_text part) false) (texts (drop (i + 1) all))) line old
    ∙ ap (λ ps. with_line (uses_part number text pool (texts ps)) line old) (sym (next all i part d within is)) ∙ so_far

pub parts_done : (number : ℕ) (text : List ℕ) (pool line : ℕ) (all : List (Bor (List ℕ))) (i : ℕ) (old lines : List ℕ) → length all ≤ i
    → with_line (uses_part number text pool (texts (drop i all))) line old ≡ lines → old ≡ lines
parts_done number text pool line all i old lines past so_far =
    sym (no_use (nat_eq number pool) line old) ∙ ap (λ ps. with_line (uses_part number text pool (texts ps)) line old) (sym (drop_all i all past)) ∙ so_far

-- ---- statements
abbrev lines_in : ℕ → List ℕ → List PlacedStatement → List ℕ
lines_in number text statements = map (λ s. s.line) (filter (uses_literal number text) statements)

pub statement_step : (number : ℕ) (text : List ℕ) (all : List PlacedStatement) (i : ℕ) (s d : PlacedStatement) (old new lines : List ℕ)
    → i < length all → s ≡ get_or all i d → new ≡ with_line (uses_literal number text s) s.line old
    → fold (insert_key nat_cmp) old (lines_in number text (drop i all)) ≡ lines
    → fold (insert_key nat_cmp) new (lines_in number text (drop (i + 1) all)) ≡ lines
statement_step number text all i s d old new lines within is put so_far =
    ap (λ n. fold (insert_key nat_cmp) n (lines_in number text (drop (i + 1) all))) put
    ∙ one_more_statement number text s (drop (i + 1) all) old
    ∙ ap (λ ss. fold (insert_key nat_cmp) old (lines_in number text ss)) (sym (next all i s d within is)) ∙ so_far

pub statements_done : (number : ℕ) (text : List ℕ) (all : List PlacedStatement) (i : ℕ) (old lines : List ℕ) → length all ≤ i
    → fold (insert_key nat_cmp) old (lines_in number text (drop i all)) ≡ lines → old ≡ lines
statements_done number text all i old lines past so_far =
    ap (λ ss. fold (insert_key nat_cmp) old (lines_in number text ss)) (sym (drop_all i all past)) ∙ so_far
