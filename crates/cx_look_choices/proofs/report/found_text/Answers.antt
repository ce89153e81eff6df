use Rattle.std.proofs.Common.{◌≡◌, subst, sym}
use Rattle.cx_look_choices.specs.Parts.Ways.{HasFound, report_of}
use Rattle.cx_look_choices.specs.Report.{ChoicesText}
use Rattle.cx_look_choices.specs.Rows.{AreRows}
use Rattle.cx_look_steps.specs.Facts.Lists.{ok_on}
use Rattle.cx_look_choices.proofs.TextLemmas.{has_found, text_of}
use Rattle.cx_look_choices.proofs.report.found_text.Goals as goal

pub rows_of-requires : goal.rows_of-requires
rows_of-requires g c =
    let choices = c.args.choices.now.choices.items in
    let one_number = c.args.choices.now.one_number in
    let found = c.args.found.now.states.entries in
    record {
      finds = c.requires.finds;
      all = subst (HasFound choices one_number c.args.region.now found) (sym c.limit_of-at.ensures)
          (has_found choices one_number c.args.region.now found c.args.found.now.links.items c.args.most c.requires.finds c.requires.few
          c.args.keys c.args.reach c.requires.reaches);
    }

pub returns : goal.returns
returns g c =
    let shows = g.V.Seen.shows c.args.seen.now in
    let choices = c.args.choices.now.choices.items in
    let one_number = c.args.choices.now.one_number in
    let region = c.args.region.now in
    let edf = c.args.edf.now in
    let found = c.args.found.now.states.entries in
    let rows = c.in_ok-rows.rows in
    let are = subst (λ at. AreRows shows choices one_number region at rows.texts.items rows.rows.items) c.limit_of-at.ensures c.in_ok-rows.ensures in
    ok_on
    (λ report. report ≡ report_of region choices one_number edf rows.texts.items rows.rows.items c.args.keys c.args.most c.args.reach)
    (ChoicesText shows choices one_number region edf c.args.keys c.args.most) c.report_of.result
    (λ report is.
    text_of choices one_number region found c.args.found.now.links.items c.args.most c.requires.finds c.requires.few c.args.keys shows edf
    rows.texts.items rows.rows.items report c.args.reach c.requires.reaches are is)
    c.report_of.ensures
