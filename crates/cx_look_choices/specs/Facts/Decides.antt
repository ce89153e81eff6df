-- One text is written of every list of keys.
use Rattle.std.proofs.Common.{◌≡◌, ℕ, ◌+◌, ◌≤◌, List, ◌++◌, ◌&&◌, length, Bool, true, false, Option, inl, inr, ap, refl, sym, subst, ◌∙◌, arith}
use Rattle.std.specs.Prelude.{MatchBool, not}
use Rattle.std.proofs.lemmas.Bool.{cases_order}
use Rattle.cx_search.specs.Laws.{SoonerOrders}
use Rattle.cx_search.specs.Within.{IsClosed, IsNear, IsOpen}
use Rattle.cx_look_lines.specs.Words.{Lines}
use Rattle.cx_look_tasks.specs.Laws.{WaitsTextsDecide}
use Rattle.cx_region.specs.State.{RegionState}
use Rattle.cx_orders.specs.declared.states.KeyLine.{KeyLine}
use Rattle.cx_choices.specs.Facts.Same.{same_choices, same_equivalence, same_is}
use Rattle.cx_choices.specs.Laws.{PassagesDecide}
use Rattle.cx_choices.specs.Moves.{Goes, begun}
use Rattle.cx_choices.specs.declared.states.ChoicesState.{ChoicesState}
use Rattle.cx_look_steps.specs.Facts.Items.{at_most}
use Rattle.cx_look_choices.specs.Laws.{ReportsDecide}
use Rattle.cx_look_choices.specs.Report.{ChoicesText, CutText, HasFew, HasMany, WholeText, cut_line, numbers_show, states_lines, whole_line}
use Rattle.cx_look_choices.specs.Rows.{AreRows}
use Rattle.cx_look_choices.specs.declared.rows.StateRow.{StateRow}
use Rattle.cx_look_choices.specs.Facts.Rows.{rows_decide, texts_decide}

module _ (choices : List KeyLine) (one_number : Option ℕ) (region : RegionState) where
  -- ---- how many states there are
  near_more : (near far : ℕ) → near ≤ far → (state : ChoicesState)
      → IsNear (Goes choices one_number) (begun region) near state
      → IsNear (Goes choices one_number) (begun region) far state
  near_more near far l state is = record { list = is.list; leads = is.leads; short = omega (arith, l, is.short) }

  -- lists of no more keys don't lead to more states
  many_not_few : (most near far : ℕ) → near ≤ far → HasMany choices one_number region most near
      → HasFew choices one_number region most far → ⊥
  many_not_few most near far l many few =
      let fits = at_most same_choices same_equivalence same_is many.states few.states many.near.once (λ k state at.
      let there = few.all state (near_more near far l state (many.near.each k state at)) in (there.place, there.at)) in
      omega (arith, fits, many.many, few.few)

  cuts_decide : (most one other : ℕ) → HasFew choices one_number region most one
      → HasMany choices one_number region most (one + 1) → HasFew choices one_number region most other
      → HasMany choices one_number region most (other + 1) → one ≡ other
  cuts_decide most one other few many less more = elim (cases_order one other) [
    | inl e ↦ e
    | inr (inl l) ↦ absurd (many_not_few most (one + 1) other (omega (arith, l)) many less)
    | inr (inr l) ↦ absurd (many_not_few most (other + 1) one (omega (arith, l)) more few)
  ]

  -- ---- whether lists of any length lead to no other state
  abbrev Closes : ℕ → Bool → Type 0
  Closes keys is_closed = MatchBool is_closed (IsClosed (Goes choices one_number) (begun region) keys)
      (IsOpen (Goes choices one_number) (begun region) keys)

  closed_decides : (keys : ℕ) (one other : Bool) → Closes keys one → Closes keys other → one ≡ other
  closed_decides keys true true p q = refl
  closed_decides keys false false p q = refl
  closed_decides keys true false p q = absurd (q.new (p q.list q.state q.leads))
  closed_decides keys false true p q = absurd (p.new (q p.list p.state p.leads))

module _ (decide : PassagesDecide) (sooner : SoonerOrders) (waits : WaitsTextsDecide)
    (Shows : RegionState → Lines → Type 0)
    (shown : (region : RegionState) (one other : Lines) → Shows region one → Shows region other → one ≡ other)
    (choices : List KeyLine) (one_number : Option ℕ) (region : RegionState) (edf : List (List ℕ)) where
  same_rows : (keys : ℕ) (ts us : List Lines) (ones others : List StateRow)
      → AreRows Shows choices one_number region keys ts ones → AreRows Shows choices one_number region keys us others
      → ones ≡ others
  same_rows = rows_decide decide sooner waits Shows shown choices one_number region

  same_texts : (keys : ℕ) (ts us : List Lines) (ones others : List StateRow)
      → AreRows Shows choices one_number region keys ts ones → AreRows Shows choices one_number region keys us others
      → ts ≡ us
  same_texts = texts_decide decide sooner waits Shows shown choices one_number region

  whole_decides : (keys most : ℕ) (one other : Lines) → WholeText Shows choices one_number region edf keys most one
      → WholeText Shows choices one_number region edf keys most other → one ≡ other
  whole_decides keys most one other p q =
      p.is
      ∙ ap (λ (rows : List StateRow). whole_line keys (length rows) (length p.texts) one_number (numbers_show rows)
      (p.is_closed && not (numbers_show rows)) ++ states_lines region choices edf p.texts rows)
      (same_rows keys p.texts q.texts p.rows q.rows p.are q.are)
      ∙ ap (λ (texts : List Lines). whole_line keys (length q.rows) (length texts) one_number (numbers_show q.rows)
      (p.is_closed && not (numbers_show q.rows)) ++ states_lines region choices edf texts q.rows)
      (same_texts keys p.texts q.texts p.rows q.rows p.are q.are)
      ∙ ap (λ b. whole_line keys (length q.rows) (length q.texts) one_number (numbers_show q.rows)
      (b && not (numbers_show q.rows)) ++ states_lines region choices edf q.texts q.rows)
      (closed_decides choices one_number region keys p.is_closed q.is_closed p.closed q.closed)
      ∙ sym q.is

  cut_decides : (keys most : ℕ) (one other : Lines) → CutText Shows choices one_number region edf keys most one
      → CutText Shows choices one_number region edf keys most other → one ≡ other
  cut_decides keys most one other p q =
      let at = cuts_decide choices one_number region most p.at q.at p.count p.more q.count q.more in
      let are = subst (λ n. AreRows Shows choices one_number region n p.texts p.rows) at p.are in
      p.is
      ∙ ap (λ n. cut_line most n (length p.texts) one_number (numbers_show p.rows)
      ++ states_lines region choices edf p.texts p.rows) at
      ∙ ap (λ (rows : List StateRow). cut_line most q.at (length p.texts) one_number (numbers_show rows)
      ++ states_lines region choices edf p.texts rows)
      (same_rows q.at p.texts q.texts p.rows q.rows are q.are)
      ∙ ap (λ (texts : List Lines). cut_line most q.at (length texts) one_number (numbers_show q.rows)
      ++ states_lines region choices edf texts q.rows)
      (same_texts q.at p.texts q.texts p.rows q.rows are q.are)
      ∙ sym q.is

  not_both : (keys most : ℕ) (one other : Lines) → WholeText Shows choices one_number region edf keys most one
      → CutText Shows choices one_number region edf keys most other → ⊥
  not_both keys most one other p q =
      many_not_few choices one_number region most (q.at + 1) (keys + 1) (omega (arith, q.within)) q.more p.count

  text_is_one : (keys most : ℕ) (one other : Lines) → ChoicesText Shows choices one_number region edf keys most one
      → ChoicesText Shows choices one_number region edf keys most other → one ≡ other
  text_is_one keys most one other (inl p) (inl q) = whole_decides keys most one other p q
  text_is_one keys most one other (inr p) (inr q) = cut_decides keys most one other p q
  text_is_one keys most one other (inl p) (inr q) = absurd (not_both keys most one other p q)
  text_is_one keys most one other (inr p) (inl q) = absurd (not_both keys most other one q p)

pub reports_decide : PassagesDecide → SoonerOrders → WaitsTextsDecide → (Shows : RegionState → Lines → Type 0)
    → ((region : RegionState) (one other : Lines) → Shows region one → Shows region other → one ≡ other)
    → ReportsDecide Shows
reports_decide decide sooner waits Shows shown choices one_number region edf keys most one other p q =
    text_is_one decide sooner waits Shows shown choices one_number region edf keys most one other p q
