use Rattle.std.proofs.Common.{◌+◌, arith, subst, sym}
use Rattle.cx_search.specs.Found.{IsAt}
use Rattle.cx_look_choices.specs.Parts.Ways.{AreCompared, AreFirstRows}
use Rattle.cx_look_choices.specs.declared.rows.StateRow.{StateRow}
use Rattle.cx_look_choices.proofs.RowLemmas.{rows_on, some_within}
use Rattle.cx_look_choices.proofs.rows.add_row.Goals as goal

pub returns-in_default : goal.returns-in_default
returns-in_default g c =
    absurd (some_within c.args.searched.now.found.now.states.entries c.args.place
    (let l = c.requires.within in let few = c.requires.few in omega (arith, l, few)) (sym c.in_default.ensures.entry))

pub returns : goal.returns
returns g c =
    let shows = g.V.Seen.shows c.args.seen.now in
    let choices = c.args.searched.now.choices.now.choices.items in
    let one_number = c.args.searched.now.choices.now.one_number in
    let region = c.args.searched.now.region.now in
    let found = c.args.searched.now.found.now.states.entries in
    let state = c.in-Some.state.now in
    let at : IsAt found c.args.place state = record { origin = c.in-Some._origin.now; there = sym c.in-Some.ensures.entry } in
    let compared = c.in_ok-compared.compared in
    let row : StateRow = record {
      presses = c.in_ok-presses.presses;
      screen = c.in_ok-screen.screen;
      arrows = c.in_ok-arrows.arrows;
      list_differs = compared.list;
      keys_differ = compared.keys;
    } in
    let texts = c.screen_of.new.texts.items in
    subst (AreFirstRows shows choices one_number region found c.args.searched.now.many (c.args.place + 1) texts) (sym c.in_ok-push.ensures.items)
    (rows_on shows choices one_number region found c.args.searched.now.many c.args.place c.args.rows.now.texts.items texts c.in_ok-text.text
    c.args.rows.now.rows.items row c.requires.so_far
    (record {
      state = state;
      at = at;
      presses = c.in_ok-presses.ensures state c.requires.finds at;
      shows = c.in_ok-text.ensures;
      arrows = c.in_ok-arrows.ensures;
      compared = subst (λ ps. AreCompared shows choices one_number region state ps compared.list compared.keys) c.as_slice-listed.ensures
          c.in_ok-compared.ensures;
    })
    c.in_ok-screen.ensures)
