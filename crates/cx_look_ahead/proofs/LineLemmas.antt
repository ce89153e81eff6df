-- The lines of ranges, one after another, and that they are decided.
use Rattle.std.proofs.Common.{◌≡◌, ℕ, Bool, true, false, MatchBool, List, [], ◌∷◌, ◌++◌, if◌then◌else◌, length, map, arith, refl, sym, subst, ap, ◌∙◌}
use Rattle.std.specs.List.{AllByRecursion, flat_map}
use Rattle.std.specs.Str.{bytes_eq}
use Rattle.cx_exec.specs.Advance.{Advances}
use Rattle.cx_exec.specs.Machine.{Machine}
use Rattle.cx_exec_laws.specs.Laws.Decide.{RunsDecide}
use Rattle.cx_storage.specs.Storage.{Storage}
use Rattle.cx_look_turn.specs.Traces.{Leaves}
use Rattle.cx_region_task.specs.Turn.{most_steps}
use Rattle.cx_look_lines.specs.Words.{Lines}
use Rattle.cx_look_ahead.specs.declared.rows.Row.{Row}
use Rattle.cx_look_ahead.specs.Laws.Watching.{ChangesDecide, WritersDecide}
use Rattle.cx_look_ahead.specs.Parts.Seen.{IsLastSeen, IsOfChanged, SeenRange, if_changed, run_word, seen_line, statement_lines}
use Rattle.cx_look_ahead.specs.Watching.{AreOfRange, AreOfRanges, ActionEffect, IsChange, IsOfRun, IsStatement, change_line, command_word, shown_in}
use Rattle.cx_look_ahead.specs.declared.watching.Kept.{Kept}
use Rattle.cx_look_ahead.specs.declared.writers.Work.{Work}
use Rattle.cx_look_ahead.specs.declared.writers.Work.TheVariants as work
use Rattle.cx_load.specs.declared.program.Loaded.{Loaded}
use Rattle.cx_look_symbols.specs.Sources.{Sources}

-- ---- the ranges that were changed
by_same : (effect : ActionEffect) (kept : Kept) (more changed : List Kept) (lines : Lines) (same : Bool)
    → ((rest : List Kept) (l : Lines) → rest ≡ flat_map (if_changed effect.storage) more → IsOfChanged effect rest l → AreOfRanges effect more l)
    → changed ≡ (if same then [] else kept ∷ []) ++ flat_map (if_changed effect.storage) more → IsOfChanged effect changed lines
    → (first rest : Lines) × MatchBool same (first ≡ []) (IsChange effect kept first) × AreOfRanges effect more rest × (lines ≡ first ++ rest)
unfolding IsOfChanged
by_same effect kept more changed lines true others e are = ([], lines, refl, others changed lines e are, refl)
by_same effect kept more [] lines false others e are = cc
by_same effect kept more (one ∷ changed) lines false others e (first, rest, of_one, of_more, is) =
    let head : one ≡ kept = cc in
    let tail : changed ≡ flat_map (if_changed effect.storage) more = cc in
    (first, rest, subst (λ (k : Kept). IsChange effect k first) head of_one, others changed rest tail of_more, is)

pub changed_lines : (effect : ActionEffect) (kept changed : List Kept) (lines : Lines) → changed ≡ flat_map (if_changed effect.storage) kept
    → IsOfChanged effect changed lines → AreOfRanges effect kept lines
unfolding AreOfRanges AreOfRange IsOfChanged
changed_lines effect [] [] lines e none = none
changed_lines effect [] (one ∷ changed) lines e are = cc
changed_lines effect (kept ∷ more) changed lines e are =
    by_same effect kept more changed lines (bytes_eq kept.bytes (shown_in effect.storage kept.range)) (λ rest l. changed_lines effect more rest l) e are

pub no_lines : (effect : ActionEffect) (kept changed : List Kept) (lines : Lines) → changed ≡ flat_map (if_changed effect.storage) kept → length changed ≡ 0
    → lines ≡ [] → AreOfRanges effect kept lines
unfolding IsOfChanged
no_lines effect kept [] lines e few none = changed_lines effect kept [] lines e none
no_lines effect kept (one ∷ changed) lines e few none = absurd (omega (arith, few))

-- ---- with one statement
each_line : (effect : ActionEffect) (statement : List ℕ) → ((kept : Kept) → IsStatement effect.sources effect.programs kept.range effect.done effect.storage statement)
    → (changed : List Kept) → IsOfChanged effect changed (flat_map (λ kept. change_line effect kept statement) changed)
unfolding IsOfChanged
each_line effect statement last [] = refl
each_line effect statement last (kept ∷ more) =
    (change_line effect kept statement, _, record { statement = statement; last = last kept; are = refl }, each_line effect statement last more, refl)

with_statement : (effect : ActionEffect) (changed : List Kept) (statement : List ℕ) (lines : Lines)
    → ((kept : Kept) → IsStatement effect.sources effect.programs kept.range effect.done effect.storage statement)
    → lines ≡ statement_lines effect statement changed → IsOfChanged effect changed lines
unfolding statement_lines
with_statement effect changed statement lines last is = subst (IsOfChanged effect changed) (sym is) (each_line effect statement last changed)

pub lines_of_nothing : (effect : ActionEffect) (changed : List Kept) (lines : Lines) → effect.done ≡ work.Nothing
    → lines ≡ statement_lines effect [] changed → IsOfChanged effect changed lines
unfolding IsStatement
lines_of_nothing effect changed lines e is = with_statement effect changed [] lines (λ kept. rw e refl) is

pub lines_of_command : (effect : ActionEffect) (sources : Sources) (programs : List (List ℕ × Loaded)) (changed : List Kept) (back : ℕ) (statement given : List ℕ) (lines : Lines)
    → effect.sources ≡ sources → effect.programs ≡ programs → effect.done ≡ work.Command back → given ≡ statement → statement ≡ command_word sources programs back
    → lines ≡ statement_lines effect given changed → IsOfChanged effect changed lines
unfolding IsStatement
lines_of_command effect sources programs changed back statement given lines from those e same word is =
    with_statement effect changed given lines (λ kept. rw (e, from, those) (same ∙ word)) is

-- ---- of a run
run_statement : (effect : ActionEffect) (m left : Machine) (seen : SeenRange) → effect.done ≡ work.Instructions m → IsLastSeen most_steps m seen → Leaves most_steps m left
    → IsStatement effect.sources effect.programs seen.kept.range effect.done effect.storage (run_word effect left.storage seen)
unfolding IsStatement
run_statement effect m left seen e last leaves = rw e (record { at = seen.last; last = last; left = left; leaves = leaves; is = refl })

each_seen : (effect : ActionEffect) (m left : Machine) (seen : List SeenRange) → effect.done ≡ work.Instructions m → AllByRecursion (IsLastSeen most_steps m) seen
    → Leaves most_steps m left → IsOfChanged effect (map (λ it. it.kept) seen) (flat_map (seen_line effect left.storage) seen)
unfolding IsOfChanged
each_seen effect m left [] e last leaves = refl
each_seen effect m left (it ∷ more) e (one, others) leaves = (
  seen_line effect left.storage it,
  _,
  record { statement = run_word effect left.storage it; last = run_statement effect m left it e one leaves; are = refl },
  each_seen effect m left more e others leaves,
  refl,
)

pub lines_of_run : (effect : ActionEffect) (m left : Machine) (s : Storage) (seen : List SeenRange) (changed : List Kept) (lines : Lines)
    → effect.done ≡ work.Instructions m → AllByRecursion (IsLastSeen most_steps m) seen → map (λ it. it.kept) seen ≡ changed → Leaves most_steps m left
    → s ≡ left.storage → lines ≡ flat_map (seen_line effect s) seen → IsOfChanged effect changed lines
lines_of_run effect m left s seen changed lines e last kept leaves stored is =
    let all = each_seen effect m left seen e last leaves in
    rw (is, stored) (subst (λ (l : List Kept). IsOfChanged effect l (flat_map (seen_line effect left.storage) seen)) kept all)

-- ---- decided
abbrev pub RunsAreDecided : Type 0
RunsAreDecided = (limit : ℕ) → RunsDecide (Advances limit)

left_same : RunsAreDecided → (m one other : Machine) → Leaves most_steps m one → Leaves most_steps m other → one ≡ other
left_same runs m one other p q = (runs most_steps m p.how q.how one other p.advances q.advances).1

run_same : WritersDecide → RunsAreDecided → (sources : Sources) (programs : List (List ℕ × Loaded)) (range : Row) (m : Machine) (after : Storage) (one other : List ℕ)
    → IsOfRun sources programs range m after one → IsOfRun sources programs range m after other → one ≡ other
run_same law runs sources programs range m after one other p q =
    let at = law most_steps m range p.at q.at p.last q.last in
    let left = left_same runs m p.left q.left p.leaves q.leaves in
    p.is ∙ rw (at, left) refl ∙ sym q.is

statement_same : WritersDecide → RunsAreDecided → (sources : Sources) (programs : List (List ℕ × Loaded)) (range : Row) (w : Work) (after : Storage)
    (one other : List ℕ) → IsStatement sources programs range w after one → IsStatement sources programs range w after other → one ≡ other
unfolding IsStatement
statement_same law runs sources programs range work.Nothing after one other p q = p ∙ sym q
statement_same law runs sources programs range (work.Command back) after one other p q = p ∙ sym q
statement_same law runs sources programs range (work.Instructions m) after one other p q = run_same law runs sources programs range m after one other p q

range_same : WritersDecide → RunsAreDecided → (effect : ActionEffect) (kept : Kept) (one other : Lines) (same : Bool)
    → MatchBool same (one ≡ []) (IsChange effect kept one) → MatchBool same (other ≡ []) (IsChange effect kept other) → one ≡ other
range_same law runs effect kept one other true p q = p ∙ sym q
range_same law runs effect kept one other false p q =
    let statement = statement_same law runs effect.sources effect.programs kept.range effect.done effect.storage p.statement q.statement p.last q.last in
    p.are ∙ ap (change_line effect kept) statement ∙ sym q.are

pub ranges_same : WritersDecide → RunsAreDecided → (effect : ActionEffect) (ranges : List Kept) (one other : Lines) → AreOfRanges effect ranges one → AreOfRanges effect ranges other → one ≡ other
unfolding AreOfRanges AreOfRange
ranges_same law runs effect [] one other p q = p ∙ sym q
ranges_same law runs effect (kept ∷ ranges) one other (first, rest, of_first, of_rest, are) (some, more, of_some, of_more, there) =
    let head = range_same law runs effect kept first some (bytes_eq kept.bytes (shown_in effect.storage kept.range)) of_first of_some in
    let tail = ranges_same law runs effect ranges rest more of_rest of_more in
    are ∙ ap (λ (l : Lines). l ++ rest) head ∙ ap (λ (l : Lines). some ++ l) tail ∙ sym there

pub changes_decide : WritersDecide → RunsAreDecided → ChangesDecide
changes_decide law runs effect ranges before one other p q = ranges_same law runs effect _ one other p q
