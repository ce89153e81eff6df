use Rattle.std.proofs.Common.{◌≡◌, ℕ, zero, suc, ◌<◌, fold, length, List, [], ◌∷◌, ap, refl}
use Rattle.std.specs.List.{AllByRecursion}
use Rattle.std.specs.Vec.Iter.{into_iter_items}
use Rattle.indexmap.specs.IndexMap.{set_value_at}
use Rattle.cx_region.specs.Changes.{IsNumberIn, with_terminal}
use Rattle.cx_region.specs.State.{TerminalState}
use Rattle.cx_region.specs.declared.parts.ChangedTerminal.{ChangedTerminal}
use Rattle.cx_region.proofs.parts.put_terminals.Goals as goal

same_length : (terminals : List (List ℕ × TerminalState)) (i : ℕ) (terminal : TerminalState) → length (set_value_at terminals i terminal) ≡ length terminals
same_length [] i terminal = refl
same_length (t ∷ ts) zero terminal = refl
same_length (t ∷ ts) (suc i) terminal = ap suc (same_length ts i terminal)

still_in : (one other : List (List ℕ × TerminalState)) (changes : List ChangedTerminal) → length other ≡ length one → AllByRecursion (IsNumberIn one) changes → AllByRecursion (IsNumberIn other) changes
still_in one other [] e all = tt
still_in one other (change ∷ changes) e all = let first : change.number < length other = rw e all.0 in (first, still_in one other changes e all.1)

-- the first of the changes that are left is made
one_made : (terminals made : List (List ℕ × TerminalState)) (left rest : List ChangedTerminal) (change : ChangedTerminal) → left ≡ change ∷ rest → AllByRecursion (IsNumberIn terminals) left
    → fold with_terminal terminals left ≡ made → AllByRecursion (IsNumberIn (with_terminal terminals change)) rest × (fold with_terminal (with_terminal terminals change) rest ≡ made)
one_made terminals made left rest change e all so =
    let all' = rw e at all in
    let so' = rw e at so in
    (still_in terminals (with_terminal terminals change) rest (same_length terminals change.number change.terminal) all'.1, so')

pub loop-change-preserved-in-Some : goal.loop-change-preserved-in-Some
loop-change-preserved-in-Some c =
    let so = c.loop-change.invariant in
    let next = one_made c.loop-change.terminals.entries (fold with_terminal c.args.terminals.now.entries c.args.changes.items) (into_iter_items c.loop-change.change-iterator) (into_iter_items c.next.new.self)
    c.in-Some.change c.in-Some.ensures.steps.0 so.2 so.3 in
    (tt, tt, next.0, next.1)

pub loop-change-preserved : goal.loop-change-preserved
loop-change-preserved c =
    let so = c.loop-change.invariant in
    let next = one_made c.loop-change.terminals.entries (fold with_terminal c.args.terminals.now.entries c.args.changes.items) (into_iter_items c.loop-change.change-iterator) (into_iter_items c.next.new.self)
    c.in-Some.change c.in-Some.ensures.steps.0 so.2 so.3 in
    (tt, tt, next.0, next.1)
