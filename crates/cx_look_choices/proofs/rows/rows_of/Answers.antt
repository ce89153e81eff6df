use Rattle.cx_look_choices.specs.Parts.Ways.{AreFirstRows}
use Rattle.cx_look_choices.specs.Rows.{AreRows}
use Rattle.cx_look_choices.specs.declared.rows.Rows.{Rows}
use Rattle.cx_look_steps.specs.Facts.Lists.{ok_on}
use Rattle.cx_look_choices.proofs.RowLemmas.{all_rows}
use Rattle.cx_look_choices.proofs.rows.rows_of.Goals as goal

pub first_rows-requires : goal.first_rows-requires
first_rows-requires g c = record { finds = c.requires.finds; few = c.many_within.ensures.few }

pub returns : goal.returns
returns g c =
    let shows = g.V.Seen.shows c.args.seen.now in
    let choices = c.args.choices.now.choices.items in
    let one_number = c.args.choices.now.one_number in
    let region = c.args.region.now in
    let found = c.args.found.now.states.entries in
    let many = c.many_within.result in
    ok_on (λ (rows : Rows). AreFirstRows shows choices one_number region found many many rows.texts.items rows.rows.items)
    (λ (rows : Rows). AreRows shows choices one_number region c.args.keys rows.texts.items rows.rows.items) c.first_rows.result
    (λ rows are.
    all_rows choices one_number region found c.requires.finds c.args.keys many c.many_within.ensures c.requires.all shows rows.texts.items rows.rows.items are)
    c.first_rows.ensures
