-- Where a line stands for the byte before an address, that is in a program of a source.
use Rattle.std.proofs.Common.{refl, arith}
use Rattle.std.specs.Prelude.{◌≡◌, ◌≤◌, ◌<◌, ℕ, zero, suc, ◌+◌, ◌-◌, nat_le, nat_lt, Bool, true, false, cond, Option, None, Some, List, [], ◌∷◌, Contains, option_and_then, option_map}
use Rattle.std.proofs.lemmas.Bool.{and_parts, leb-true, ltb-true}
use Rattle.std.specs.List.{find}
use Rattle.std.specs.Map.{lookup}
use Rattle.cx_asm_expressions.specs.Names.{is_same}
use Rattle.cx_ebcdic.specs.Facts.Lookup.{find_passes}
use Rattle.cx_load.specs.declared.program.Loaded.{Loaded}
use Rattle.cx_look_symbols.specs.Laws.{IsBeforeInSource, LinesAreInSources}
use Rattle.cx_look_symbols.specs.Lines.{SourcePlaces, has_offset, line_at, line_in}
use Rattle.cx_look_symbols.specs.Places.{spot_before}
use Rattle.cx_look_symbols.specs.Parts.Places.{is_in, spot_in}
use Rattle.cx_look_symbols.specs.declared.statements.StatementPlace.{StatementPlace}

-- what is found is in the list
among : {X : Type 0} (test : X → Bool) (xs : List X) (x : X) → find test xs ≡ Some x → Contains xs x
among test [] x e = cc
among {X} test (y ∷ ys) x e = go (test y) (λ f. among test ys x f) e
  where
    go : (b : Bool) → (find test ys ≡ Some x → Contains ys x) → cond b (Some y) (find test ys) ≡ Some x → Contains (y ∷ ys) x
    go true rest e = let same : y ≡ x = cc in (0, omega arith, same)
    go false rest e = let it = rest e in (suc it.0, omega (arith, it.1), it.2)

by_statement : (sources : SourcePlaces) (programs : List (List ℕ × Loaded)) (before line : ℕ) (program : List ℕ × Loaded) (statements : List StatementPlace)
    → find (λ program. is_in before program.1) programs ≡ Some program → lookup (is_same program.0) sources ≡ Some statements
    → (o : Option StatementPlace) → find (has_offset (before - program.1.at)) statements ≡ o → option_map (λ place. place.line) o ≡ Some line
    → IsBeforeInSource sources programs (suc before) line
by_statement sources programs before line program statements f g None h e = cc
by_statement sources programs before line program statements f g (Some statement) h e =
    let there : is_in before program.1 ≡ true = find_passes (λ (program : List ℕ × Loaded). is_in before program.1) programs program f in
    let has : has_offset (before - program.1.at) statement ≡ true = find_passes (has_offset (before - program.1.at)) statements statement h in
    let p = and_parts (nat_le program.1.at before) (nat_lt before (program.1.at + program.1.len)) there in
    let q = and_parts (nat_le statement.start (before - program.1.at)) (nat_lt (before - program.1.at) statement.end) has in
    let low : program.1.at ≤ before = leb-true program.1.at before p.0 in
    let high : before < program.1.at + program.1.len = ltb-true before (program.1.at + program.1.len) p.1 in
    let from : statement.start ≤ before - program.1.at = leb-true statement.start (before - program.1.at) q.0 in
    let to : before - program.1.at < statement.end = ltb-true (before - program.1.at) statement.end q.1 in
    let line_is : statement.line ≡ line = cc in
    record {
      program = program;
      among = among (λ (program : List ℕ × Loaded). is_in before program.1) programs program f;
      starts = omega (arith, low);
      ends = omega (arith, high);
      statements = statements;
      of_source = g;
      statement = statement;
      of_statements = among (has_offset (before - program.1.at)) statements statement h;
      first = omega (arith, low, from);
      last = omega (arith, low, to);
      is = line_is;
    }

by_source : (sources : SourcePlaces) (programs : List (List ℕ × Loaded)) (before line : ℕ) (program : List ℕ × Loaded)
    → find (λ program. is_in before program.1) programs ≡ Some program
    → (o : Option (List StatementPlace)) → lookup (is_same program.0) sources ≡ o
    → option_and_then (λ places. line_at places (before - program.1.at)) o ≡ Some line → IsBeforeInSource sources programs (suc before) line
by_source sources programs before line program f None g e = cc
by_source sources programs before line program f (Some statements) g e =
    by_statement sources programs before line program statements f g (find (has_offset (before - program.1.at)) statements) refl e

by_program : (sources : SourcePlaces) (programs : List (List ℕ × Loaded)) (before line : ℕ) (o : Option (List ℕ × Loaded))
    → find (λ program. is_in before program.1) programs ≡ o
    → option_and_then (λ it. line_in sources it.program it.offset) (option_map (spot_in before) o) ≡ Some line
    → IsBeforeInSource sources programs (suc before) line
by_program sources programs before line None f e = cc
by_program sources programs before line (Some program) f e = by_source sources programs before line program f (lookup (is_same program.0) sources) refl e

pub lines_are_in_sources : LinesAreInSources
unfolding spot_before
lines_are_in_sources sources programs zero line e = cc
lines_are_in_sources sources programs (suc before) line e =
    by_program sources programs before line (find (λ program. is_in before program.1) programs) refl e
