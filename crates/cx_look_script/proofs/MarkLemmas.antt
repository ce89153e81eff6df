-- The text of a look is marked, and determined.
use Rattle.std.proofs.Common.{◌≡◌, ap, sym, subst, ◌∙◌}
use Rattle.std.specs.Prelude.{codes}
use Rattle.cx_look.specs.declared.look.Look.{Look}
use Rattle.cx_look.specs.declared.look.Look.TheVariants as look
use Rattle.cx_look_lines.specs.Facts.Marked.{marked_is_of_looks}
use Rattle.cx_look_lines.specs.Marked.{IsOfLooks}
use Rattle.cx_look_lines.specs.Words.{Lines, marked}
use Rattle.cx_look_ahead.specs.Laws.{AheadDecides}
use Rattle.cx_look_ahead.specs.After.{fields_lines, state_lines}
use Rattle.cx_look_ahead.specs.Laws.Afters.{AfterDecides}
use Rattle.cx_look_ahead.specs.Laws.Ats.{AtDecides}
use Rattle.cx_look_tasks.specs.Laws.{ResourcesTextsDecide, TasksTextsDecide}
use Rattle.cx_look_script.specs.Looking.{AreLookLines}
use Rattle.cx_look_script.specs.Laws.Looks.{ChoicesAreMarked, LooksAreMarked, LooksAreReportedOnce, OrdersAreMarked}
use Rattle.cx_look_script.specs.State.{LookState}

pub looks_are_marked : LooksAreMarked
looks_are_marked look state text it = subst IsOfLooks (sym it.is) (marked_is_of_looks it.lines)

pub orders_are_marked : OrdersAreMarked
orders_are_marked block state text it = subst IsOfLooks (sym it.is) (marked_is_of_looks it.lines)

pub choices_are_marked : ChoicesAreMarked
choices_are_marked block state text it = subst IsOfLooks (sym it.is) (marked_is_of_looks it.lines)

-- of six looks a relation says what is written, of all others an equation
pub same_lines : TasksTextsDecide → ResourcesTextsDecide → AheadDecides → AtDecides → AfterDecides → (look : Look) (state : LookState) (one other : Lines) → AreLookLines look state one → AreLookLines look state other → one ≡ other
unfolding AreLookLines
same_lines tasks resources ahead at after look.Tasks state one other p q = tasks state.edf.region one other p q
same_lines tasks resources ahead at after look.Resources state one other p q = resources state.edf.region one other p q
same_lines tasks resources ahead at after (look.Ahead name n) state one other p q = ahead state.sources state.edf.region name n one other p q
same_lines tasks resources ahead at after (look.AheadAt name program line) state one other p q =
    at state.sources state.edf.region name (record { program = program; line = line }) one other p q
same_lines tasks resources ahead at after (look.AheadAfter name n) state one other p q =
    after state.edf.region name (codes "AFTER") n (state_lines state.sources state.edf.region.shared.programs) one other p q
same_lines tasks resources ahead at after (look.FieldsAfter name n) state one other p q =
    after state.edf.region name (codes "FIELDS AFTER") n (fields_lines state.sources state.edf.region name) one other p q
same_lines tasks resources ahead at after l state one other p q = p ∙ sym q

pub looks_are_reported_once : TasksTextsDecide → ResourcesTextsDecide → AheadDecides → AtDecides → AfterDecides → LooksAreReportedOnce
looks_are_reported_once tasks resources ahead at after look state one other p q =
    p.is ∙ ap marked (same_lines tasks resources ahead at after look state p.lines q.lines p.are q.are) ∙ sym q.is
