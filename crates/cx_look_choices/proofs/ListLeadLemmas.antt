-- Where the lists lead that are written.
use Rattle.std.proofs.Common.{◌≡◌, ℕ, false, List, Option, Some, None, sym, subst, ap, ◌∙◌}
use Rattle.std.specs.List.{IsDistinct}
use Rattle.std.specs.Map.{keys_of as names_of}
use Rattle.cx_ebcdic.specs.Names.{is_name}
use Rattle.cx_look_lines.specs.Words.{Lines}
use Rattle.cx_look_tasks.specs.Laws.{WaitsTextsDecide}
use Rattle.cx_region.specs.State.{RegionState}
use Rattle.cx_orders.specs.declared.states.KeyLine.{KeyLine}
use Rattle.cx_choices.specs.declared.states.ChoicesState.{ChoicesState}
use Rattle.cx_look_steps.specs.Facts.Items.{item_too}
use Rattle.cx_look_choices.specs.Facts.Rows.{text_decides}
use Rattle.cx_look_choices.specs.Laws.{ListLeads, ListsLead, PressesAreRuns}
use Rattle.cx_look_choices.specs.Rows.{Differs, IsRow, IsSameList}
use Rattle.cx_look_choices.specs.declared.rows.StateRow.{StateRow}

module _ (runs : PressesAreRuns) (waits : WaitsTextsDecide) (Shows : RegionState → Lines → Type 0)
    (shown : (region : RegionState) (one other : Lines) → Shows region one → Shows region other → one ≡ other)
    (choices : List KeyLine) (region : RegionState) (distinct : IsDistinct is_name (names_of region.terminals))
    (states : List ChoicesState) (texts : List Lines) (state : ChoicesState) (row : StateRow) (same : row.list_differs ≡ false) where
  list_leads : (one_number : Option ℕ) → IsRow choices one_number region Shows states texts state row → ListLeads Shows choices region texts row
  unfolding Differs
  list_leads None is =
      record { real = state; run = runs choices region state row.presses distinct is.presses; text = is.text; shows = is.shows; is = is.screen }
  list_leads (Some number) is =
      let it : IsSameList Shows choices (Some number) region state row.presses =
      subst (λ b. Differs (Some number) (IsSameList Shows choices (Some number) region state row.presses) b) same is.listed in
      let text = text_decides waits Shows shown state it.same.text is.text it.same.shows is.shows in
      record {
        real = it.real;
        run = runs choices region it.real row.presses distinct it.made;
        text = it.same.text;
        shows = it.same.also;
        is = is.screen ∙ ap Some (sym text);
      }

pub lists_lead : PressesAreRuns → WaitsTextsDecide → (Shows : RegionState → Lines → Type 0)
    → ((region : RegionState) (one other : Lines) → Shows region one → Shows region other → one ≡ other) → ListsLead Shows
lists_lead runs waits Shows shown choices one_number region keys texts rows distinct are place row at same =
    let it = item_too rows are.states place row are.many at in
    list_leads runs waits Shows shown choices region distinct are.states texts it.0 row same one_number (are.each place it.0 row it.1 at)
