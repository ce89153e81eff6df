-- Tables of the lines that use something.
use Rattle.std.proofs.Common.{◌≡◌, ℕ, Bool, true, false, cond, Option, Some, None, List, [], ◌∷◌, refl, sym, ◌∙◌, ap, ⊎_elim, fold, map}
use Rattle.std.specs.Prelude.{nat_eq, ◌&&◌, ◌||◌}
use Rattle.std.specs.BTreeSet.{BTreeSet, insert_key}
use Rattle.std.specs.Cmp.{IsEquivalence, first_so, second_so, nat_cmp_total, nat_eq_equiv, tied_itself}
use Rattle.std.specs.List.{filter}
use Rattle.std.specs.Map.{IsKeyTest, lookup, set_value}
use Rattle.std.specs.Option.{option_map_or}
use Rattle.std.specs.Ordering.{match_ordering, nat_cmp}
use Rattle.std.specs.Str.{bytes_eq}
use Rattle.std.specs.declared.cmp.Ordering.{Ordering}
use Rattle.std.specs.declared.cmp.Ordering.TheVariants.{Less, Equal, Greater}
use Rattle.std.proofs.lemmas.Bool.{cases_Bool, cond-true, cond-false, true≢false}
use Rattle.std.proofs.lemmas.Cmp.{nat_list_eq_equiv}
use Rattle.indexmap.specs.IndexMap.{insert_entry}
use Rattle.cx_base.specs.Facts.Tables.{insert_entry_present}
use Rattle.cx_asm_expressions.specs.Names.{is_same}
use Rattle.cx_asm_pass2.specs.Statements.{PlacedStatement}
use Rattle.cx_look_xref.specs.Literals.{uses_literal}
use Rattle.cx_look_xref.specs.Parts.Uses.{is_pool_literal, lines_for, with_line}
use Rattle.cx_look_xref.specs.declared.literals.PoolText.{PoolText}
use Rattle.cx_look_xref.specs.declared.references.Reference.{Reference}

lookup_ext : {K V : Type 0} (one other : K → Bool) → ((k : K) → one k ≡ other k) → (es : List (K × V)) → lookup one es ≡ lookup other es
lookup_ext one other same [] = refl
lookup_ext one other same (e ∷ es) = rw (same e.0, lookup_ext one other same es) refl

same_value : {V : Type 0} (test : Bool) (v old : V) (rest : Option V) → cond test (Some v) rest ≡ cond test (Some v) (cond test (Some old) rest)
same_value true v old rest = refl
same_value false v old rest = refl

other_value : {V : Type 0} (one other : Bool) (v old : V) (rest : Option V) → (one ≡ true → other ≡ false)
    → cond other (Some old) (cond one (Some v) rest) ≡ cond one (Some v) (cond other (Some old) rest)
other_value true true v old rest apart = absurd (true≢false (apart refl))
other_value true false v old rest apart = refl
other_value false other v old rest apart = refl

module _ {K : Type 0} {eq : K → K → Bool} (laws : IsEquivalence eq) (test : K → Bool) (reads : IsKeyTest eq test) where
  same_test : (j k : K) → eq k j ≡ true → test j ≡ test k
  same_test j k same = ⊎_elim
      (λ passes. sym (passes ∙ sym (reads k j passes ∙ same)))
      (λ fails. ⊎_elim (λ passes. passes ∙ sym (reads j k passes ∙ laws.symm j k ∙ same)) (λ none. none ∙ sym fails) (cases_Bool (test j)))
      (cases_Bool (test k))

  -- what a test finds once a key has a value
  lookup_put : {V : Type 0} (es : List (K × V)) (k : K) (v : V) → lookup test (insert_entry eq es k v) ≡ cond (test k) (Some v) (lookup test es)
  lookup_put [] k v = refl
  lookup_put (e ∷ es) k v = ⊎_elim
      (λ same. ap (lookup test) (cond-true _ _ _ same) ∙ rw (same_test e.0 k same) (same_value (test k) v e.1 (lookup test es)))
      (λ apart.
      ap (lookup test) (cond-false _ _ _ apart)
      ∙ ap (cond (test e.0) (Some e.1)) (lookup_put es k v)
      ∙ other_value (test k) (test e.0) v e.1 (lookup test es) (λ passes. reads k e.0 passes ∙ apart))
      (cases_Bool (eq k e.0))

  kept : (es new : List (K × BTreeSet ℕ)) (k : K) (lines : BTreeSet ℕ) (line : ℕ)
      → lookup test new ≡ cond (test k) (Some lines) (lookup test es)
      → lines.keys ≡ insert_key nat_cmp (lines_for (eq k) es) line
      → lines_for test new ≡ with_line (test k) line (lines_for test es)
  kept es new k lines line finds has = ap (λ o. option_map_or (λ (l : BTreeSet ℕ). l.keys) o []) finds ∙ go (test k) refl
    where
      go : (b : Bool) → test k ≡ b → option_map_or (λ (l : BTreeSet ℕ). l.keys) (cond b (Some lines) (lookup test es)) [] ≡ with_line b line (lines_for test es)
      go true passes =
          has
          ∙ ap (λ o. insert_key nat_cmp (option_map_or (λ (l : BTreeSet ℕ). l.keys) o []) line) (lookup_ext (eq k) test (λ j. sym (reads k j passes)) es)
      go false other = refl

  pub put_new : (es new : List (K × BTreeSet ℕ)) (k : K) (lines : BTreeSet ℕ) (line : ℕ)
      → lookup (eq k) es ≡ None → lines.keys ≡ line ∷ [] → new ≡ insert_entry eq es k lines
      → lines_for test new ≡ with_line (test k) line (lines_for test es)
  put_new es new k lines line none has is =
      kept es new k lines line (ap (lookup test) is ∙ lookup_put es k lines)
      (has ∙ ap (λ o. insert_key nat_cmp (option_map_or (λ (l : BTreeSet ℕ). l.keys) o []) line) (sym none))

  pub put_there : (es new : List (K × BTreeSet ℕ)) (k : K) (old lines : BTreeSet ℕ) (line : ℕ)
      → lookup (eq k) es ≡ Some old → lines.keys ≡ insert_key nat_cmp old.keys line → new ≡ set_value (eq k) es lines
      → lines_for test new ≡ with_line (test k) line (lines_for test es)
  put_there es new k old lines line there has is =
      kept es new k lines line (ap (lookup test) (is ∙ sym (insert_entry_present eq es k lines old there)) ∙ lookup_put es k lines)
      (has ∙ ap (λ o. insert_key nat_cmp (option_map_or (λ (l : BTreeSet ℕ). l.keys) o []) line) (sym there))

-- ---- names
pub name_reads : (name : List ℕ) → IsKeyTest is_same (is_same name)
name_reads name = nat_list_eq_equiv.congr name

pub one_more_name : (name : List ℕ) (r : Reference) (rest : List Reference) (lines : List ℕ)
    → fold (insert_key nat_cmp) (with_line (is_same name r.name) r.line lines) (map (λ r. r.line) (filter (λ r. is_same name r.name) rest))
    ≡ fold (insert_key nat_cmp) lines (map (λ r. r.line) (filter (λ r. is_same name r.name) (r ∷ rest)))
one_more_name name r rest lines = go (is_same name r.name)
  where
    others : List Reference
    others = filter (λ r. is_same name r.name) rest

    go : (uses : Bool) → fold (insert_key nat_cmp) (with_line uses r.line lines) (map (λ r. r.line) others)
        ≡ fold (insert_key nat_cmp) lines (map (λ r. r.line) (cond uses (r ∷ others) others))
    go true = refl
    go false = refl

-- ---- literals
pub literal_reads : (pool : ℕ) (text : List ℕ) → IsKeyTest (λ (x y : PoolText). nat_eq x.pool y.pool && bytes_eq x.text.now y.text.now) (is_pool_literal pool text)
literal_reads pool text x y same =
    ap (λ b. b && bytes_eq text y.text.now) (nat_eq_equiv.congr pool x.pool y.pool (first_so _ _ same))
    ∙ ap (λ b. nat_eq x.pool y.pool && b) (nat_list_eq_equiv.congr text x.text.now y.text.now (second_so _ _ same))

pub no_use : (here : Bool) (line : ℕ) (lines : List ℕ) → with_line (here && false) line lines ≡ lines
no_use true line lines = refl
no_use false line lines = refl

itself : (line : ℕ) → nat_cmp line line ≡ Equal
itself line = tied_itself nat_cmp_total line

-- a line is in a set once
again : (lines : List ℕ) (line : ℕ) → insert_key nat_cmp (insert_key nat_cmp lines line) line ≡ insert_key nat_cmp lines line
again [] line = rw (itself line) refl
again (x ∷ lines) line = go (nat_cmp line x) refl (again lines line)
  where
    go : (o : Ordering) → nat_cmp line x ≡ o → insert_key nat_cmp (insert_key nat_cmp lines line) line ≡ insert_key nat_cmp lines line
        → insert_key nat_cmp (match_ordering o (line ∷ x ∷ lines) (x ∷ lines) (x ∷ insert_key nat_cmp lines line)) line
        ≡ match_ordering o (line ∷ x ∷ lines) (x ∷ lines) (x ∷ insert_key nat_cmp lines line)
    go Less e more = rw (itself line) refl
    go Equal e more = rw e refl
    go Greater e more = rw e (ap (λ ls. x ∷ ls) more)

pub one_more_use : (here this more : Bool) (line : ℕ) (lines : List ℕ)
    → with_line (here && more) line (with_line (here && this) line lines) ≡ with_line (here && (this || more)) line lines
one_more_use false this more line lines = refl
one_more_use true true true line lines = again lines line
one_more_use true true false line lines = refl
one_more_use true false more line lines = refl

pub one_more_statement : (number : ℕ) (text : List ℕ) (s : PlacedStatement) (rest : List PlacedStatement) (lines : List ℕ)
    → fold (insert_key nat_cmp) (with_line (uses_literal number text s) s.line lines) (map (λ s. s.line) (filter (uses_literal number text) rest))
    ≡ fold (insert_key nat_cmp) lines (map (λ s. s.line) (filter (uses_literal number text) (s ∷ rest)))
one_more_statement number text s rest lines = go (uses_literal number text s)
  where
    others : List PlacedStatement
    others = filter (uses_literal number text) rest

    go : (uses : Bool) → fold (insert_key nat_cmp) (with_line uses s.line lines) (map (λ s. s.line) others)
        ≡ fold (insert_key nat_cmp) lines (map (λ s. s.line) (cond uses (s ∷ others) others))
    go true = refl
    go false = refl
