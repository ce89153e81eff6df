-- What follows line 10,001 of a source doesn't matter.
use Rattle.std.proofs.Common.{◌≡◌, ◌≤◌, ℕ, zero, suc, ◌+◌, Bool, true, false, cond, List, [], ◌∷◌, length, map, take, Option, Some, None, refl, sym, ap, ◌∙◌, arith}
use Rattle.std.specs.Prelude.{nat_lt, ◌||◌, Err, Ok, Result}
use Rattle.std.specs.Option.{option_map_or, option_or}
use Rattle.cx_source.specs.Faults.{source_fault, source_from, source_in}
use Rattle.cx_source.specs.Facts.AllFaults.{first_fault, source_is}
use Rattle.cx_source.specs.Lines.{text_of}
use Rattle.cx_source.specs.Statements.{is_continued, is_last, up_to_end}
use Rattle.cx_source.specs.declared.source.Source.{Source}
use Rattle.cx_source.specs.declared.source.SourceFault.{SourceFault}
use Rattle.cx_source.specs.declared.source.SourceFault.TheVariants.{TooLong}
use Rattle.cx_asm_build.specs.Prepared.{by_source, prepared_of}

abbrev judged : Option SourceFault → Source → Result Source SourceFault
judged fault source = option_map_or Err fault (Ok source)

abbrev texts_up_to_end : Bool → List (List ℕ) → List (List ℕ)
texts_up_to_end continues all = up_to_end continues (map text_of all)

-- the same fault, and the same lines where there is none
abbrev Same : Bool → ℕ → List (List ℕ) → List (List ℕ) → Type 0
Same continues n some all =
    (first_fault continues n some ≡ first_fault continues n all)
    × (first_fault continues n all ≡ None → texts_up_to_end continues some ≡ texts_up_to_end continues all)

-- a line past the 10,000th is faulty
or_true : (a b : Bool) → b ≡ true → (a || b) ≡ true
or_true true b e = refl
or_true false b e = e

first_is : (b : Bool) (one other : Option SourceFault) → b ≡ true → cond b one other ≡ one
first_is true one other e = refl
first_is false one other e = cc

past : (continues : Bool) (n : ℕ) (line : List ℕ) → n ≡ 10001 → source_fault continues n line ≡ Some (TooLong n)
unfolding source_fault
past continues n line e =
    let late : nat_lt 10000 n ≡ true = ap (nat_lt 10000) e in
    first_is _ _ _ (or_true (nat_lt 80 (length line)) (nat_lt 10000 n) late)

-- one line more
longer : (continues : Bool) (n : ℕ) (line : List ℕ) (some all : List (List ℕ)) (fault : Option SourceFault) (last : Bool)
    → source_fault continues n line ≡ fault → is_last continues (text_of line) ≡ last
    → (fault ≡ None → Same (is_continued continues (text_of line)) (n + 1) some all) → Same continues n (line ∷ some) (line ∷ all)
longer continues n line some all (Some fault) last f l h = (
  ap (λ o. option_or o (cond (is_last continues (text_of line)) None (first_fault (is_continued continues (text_of line)) (n + 1) some))) f
      ∙ sym (ap (λ o. option_or o (cond (is_last continues (text_of line)) None (first_fault (is_continued continues (text_of line)) (n + 1) all))) f),
  λ e. let no : Some fault ≡ None = sym (ap (λ o. option_or o (cond (is_last continues (text_of line)) None (first_fault (is_continued continues (text_of line)) (n + 1) all))) f) ∙ e in absurd (cc),
)
longer continues n line some all None true f l h = (
  ap (λ b. option_or (source_fault continues n line) (cond b None (first_fault (is_continued continues (text_of line)) (n + 1) some))) l
      ∙ sym (ap (λ b. option_or (source_fault continues n line) (cond b None (first_fault (is_continued continues (text_of line)) (n + 1) all))) l),
  λ e. ap (λ b. text_of line ∷ cond b [] (texts_up_to_end (is_continued continues (text_of line)) some)) l
      ∙ sym (ap (λ b. text_of line ∷ cond b [] (texts_up_to_end (is_continued continues (text_of line)) all)) l),
)
longer continues n line some all None false f l h =
    let rest = h refl in
    let here : first_fault continues n (line ∷ all) ≡ first_fault (is_continued continues (text_of line)) (n + 1) all =
    ap (λ o. option_or o (cond (is_last continues (text_of line)) None (first_fault (is_continued continues (text_of line)) (n + 1) all))) f
    ∙ ap (λ b. cond b None (first_fault (is_continued continues (text_of line)) (n + 1) all)) l in (
      ap (λ next. option_or (source_fault continues n line) (cond (is_last continues (text_of line)) None next)) rest.0,
      λ e. ap (λ b. text_of line ∷ cond b [] (texts_up_to_end (is_continued continues (text_of line)) some)) l
          ∙ ap (λ texts. text_of line ∷ texts) (rest.1 (sym here ∙ e))
          ∙ sym (ap (λ b. text_of line ∷ cond b [] (texts_up_to_end (is_continued continues (text_of line)) all)) l),
    )

same : (k : ℕ) (continues : Bool) (n : ℕ) (all : List (List ℕ)) → n + k ≡ 10002 → n ≤ 10001 → Same continues n (take k all) all
same zero continues n all e h = absurd (omega (arith, e, h))
same (suc k) continues n [] e h = (refl, λ f. refl)
same (suc k) continues n (line ∷ rest) e h =
    longer continues n line (take k rest) rest (source_fault continues n line) (is_last continues (text_of line)) refl refl
    (λ f. same k (is_continued continues (text_of line)) (n + 1) rest (omega (arith, e)) (early k n e h f))
  where
    early : (k n : ℕ) → n + suc k ≡ 10002 → n ≤ 10001 → source_fault continues n line ≡ None → n + 1 ≤ 10001
    early zero n e h f = let last : n ≡ 10001 = omega (arith, e) in let no : Some (TooLong n) ≡ None = sym (past continues n line last) ∙ f in absurd (cc)
    early (suc k) n e h f = omega (arith, e)

same_fault : (some all : List (List ℕ)) (fault : Option SourceFault) → first_fault false 1 all ≡ fault → Same false 1 some all
    → judged (first_fault false 1 some) (source_from (texts_up_to_end false some)) ≡ judged (first_fault false 1 all) (source_from (texts_up_to_end false all))
same_fault some all None e same =
    ap (λ o. judged o (source_from (texts_up_to_end false some))) same.0
    ∙ ap (λ texts. judged (first_fault false 1 all) (source_from texts)) (same.1 e)
same_fault some all (Some fault) e same =
    ap (λ o. judged o (source_from (texts_up_to_end false some))) (same.0 ∙ e)
    ∙ sym (ap (λ o. judged o (source_from (texts_up_to_end false all))) e)

source_kept : (all : List (List ℕ)) → source_in (take 10001 all) ≡ source_in all
source_kept all =
    source_is (take 10001 all) ∙ same_fault (take 10001 all) all (first_fault false 1 all) refl (same 10001 false 1 all refl (omega arith)) ∙ sym (source_is all)

pub prepared_kept : (listing disassembly : Bool) (all : List (List ℕ)) → prepared_of listing disassembly (take 10001 all) ≡ prepared_of listing disassembly all
unfolding prepared_of
prepared_kept listing disassembly all = ap (by_source listing disassembly) (source_kept all)
