-- What is written for a block of CHOICES is one text.
use Rattle.std.proofs.Common.{◌≡◌, ℕ, List, Option, sym, ap, subst, ◌∙◌}
use Rattle.cx_region.specs.State.{RegionState}
use Rattle.cx_choices.specs.Laws.{PassagesDecide}
use Rattle.cx_look.specs.declared.choices.ChoicesBlock.{ChoicesBlock}
use Rattle.cx_look.specs.declared.look.Look.{Look}
use Rattle.cx_look.specs.declared.orders.Sight.{Sight}
use Rattle.cx_look_ahead.specs.Laws.{AheadDecides}
use Rattle.cx_look_ahead.specs.Laws.Afters.{AfterDecides}
use Rattle.cx_look_ahead.specs.Laws.Ats.{AtDecides}
use Rattle.cx_look_choices.specs.Facts.Decides.{reports_decide}
use Rattle.cx_look_choices.specs.Report.{ChoicesText}
use Rattle.cx_look_lines.specs.Words.{Lines, marked}
use Rattle.cx_look_tasks.specs.Laws.{ResourcesTextsDecide, TasksTextsDecide, WaitsTextsDecide}
use Rattle.cx_orders.specs.declared.states.KeyLine.{KeyLine}
use Rattle.cx_search.specs.Laws.{SoonerOrders}
use Rattle.cx_look_script.specs.Choices.{number_of}
use Rattle.cx_look_script.specs.Laws.Choices.{ChoicesAreReportedOnce}
use Rattle.cx_look_script.specs.Looking.{AreLookLines, ShowsChoices, at_region}
use Rattle.cx_look_script.specs.Orders.{AreSeen, names_with_edf, sights_of}
use Rattle.cx_look_script.specs.State.{LookState}
use Rattle.cx_look_script.proofs.MarkLemmas.{same_lines}
use Rattle.cx_look_script.proofs.OrdersLemmas.{all_decide}

module _ (state : LookState) (block : ChoicesBlock) where
  abbrev Shows : List Sight → RegionState → Lines → Type 0
  Shows sights region = AreSeen (λ (l : Look). AreLookLines l (at_region state region)) region sights

  pub choices_shown : (sights : List Sight) (choices : List KeyLine) (one_number : Option ℕ) (region : RegionState) (edf : List (List ℕ))
      (lines : Lines) (text : List ℕ)
      → ChoicesText (λ (r : RegionState). AreSeen (λ (l : Look). AreLookLines l (at_region state r)) r sights) choices one_number region edf
      block.asked.keys block.asked.most lines
      → choices ≡ block.choices → one_number ≡ number_of block region → sights ≡ sights_of block.sights region → region ≡ state.edf.region
      → edf ≡ names_with_edf state.edf → text ≡ marked lines → ShowsChoices block state text
  choices_shown sights choices one_number region edf lines text is asked numbered shown same with_edf written =
      let by_keys = subst (λ (ks : List KeyLine). ChoicesText (Shows sights) ks one_number region edf block.asked.keys block.asked.most lines) asked is in
      let by_number = subst (λ (n : Option ℕ). ChoicesText (Shows sights) block.choices n region edf block.asked.keys block.asked.most lines) numbered by_keys in
      let by_sights = subst (λ (s : List Sight). ChoicesText (Shows s) block.choices (number_of block region) region edf block.asked.keys block.asked.most lines)
      shown by_number in
      let by_region = subst
      (λ (r : RegionState). ChoicesText (Shows (sights_of block.sights r)) block.choices (number_of block r) r edf block.asked.keys block.asked.most lines)
      same by_sights in
      let by_names = subst
      (λ (n : List (List ℕ)). ChoicesText (Shows (sights_of block.sights state.edf.region)) block.choices (number_of block state.edf.region) state.edf.region n
      block.asked.keys block.asked.most lines) with_edf by_region in
      record { lines = lines; are = by_names; is = written }

pub choices_once : PassagesDecide → SoonerOrders → WaitsTextsDecide → TasksTextsDecide → ResourcesTextsDecide → AheadDecides → AtDecides → AfterDecides → ChoicesAreReportedOnce
choices_once decide sooner waits tasks resources ahead at after block state one other p q =
    let sights = sights_of block.sights state.edf.region in
    p.is
    ∙ ap marked
    (reports_decide decide sooner waits
    (λ (region : RegionState). AreSeen (λ (l : Look). AreLookLines l (at_region state region)) region sights)
    (λ (region : RegionState) (one other : Lines). all_decide (λ (l : Look). AreLookLines l (at_region state region)) region
    (λ (l : Look) (one other : Lines). same_lines tasks resources ahead at after l (at_region state region) one other) sights one other)
    block.choices (number_of block state.edf.region) state.edf.region (names_with_edf state.edf) block.asked.keys block.asked.most p.lines q.lines p.are q.are)
    ∙ sym q.is
