use Rattle.std.proofs.Common.{◌∙◌, subst, sym, true≢false}
use Rattle.std.specs.Prelude.{None}
use Rattle.cx_look_choices.proofs.NumberLemmas.{IsDone, done_both, done_none, done_once, other_incidents}
use Rattle.cx_look_choices.proofs.numbers.is_same_key.Goals as goal

pub returns-in_default : goal.returns-in_default
returns-in_default g c =
    done_none c.choices_decide.ensures.passages c.args.choices.now.choices.items c.args.region.now (g.V.Seen.shows c.args.seen.now)
    c.args.choices.now.one_number c.args.from.now c.args.real.now c.args.number c.in_ok-one.field-0 c.in_ok-one.ensures c.in_default.is
    c.in_ok-other.other c.in_ok-other.ensures c.is_none-neither.result c.is_none-neither.ensures

pub returns-in_default-other : goal.returns-in_default-other
returns-in_default-other g c =
    let decide = c.choices_decide.ensures.passages in
    let choices = c.args.choices.now.choices.items in
    let one_number = c.args.choices.now.one_number in
    let from = c.args.from.now in
    let done = IsDone decide choices c.args.region.now (g.V.Seen.shows c.args.seen.now) one_number from c.args.real.now c.args.number in
    done_once decide choices c.args.region.now (g.V.Seen.shows c.args.seen.now) one_number from c.args.real.now c.args.number c.in-Some.one
    (subst (λ o. done one_number from o) c.in-Some.is c.in_ok-one.ensures) c.in_ok-other.other c.in_ok-other.ensures c.in_default-other.is

pub returns-then-not-are_same_items : goal.returns-then-not-are_same_items
returns-then-not-are_same_items g c =
    let decide = c.choices_decide.ensures.passages in
    let choices = c.args.choices.now.choices.items in
    let one_number = c.args.choices.now.one_number in
    let from = c.args.from.now in
    let real = c.args.real.now in
    let done = IsDone decide choices c.args.region.now (g.V.Seen.shows c.args.seen.now) one_number from real c.args.number in
    other_incidents decide choices c.args.region.now (g.V.Seen.shows c.args.seen.now) one_number from real c.args.number c.in-Some.one
    c.in-Some-other.other (subst (λ o. done one_number from o) c.in-Some.is c.in_ok-one.ensures)
    (subst (λ o. done None real o) c.in-Some-other.is c.in_ok-other.ensures)
    (λ e. true≢false (sym (c.are_same_items.ensures.1 (c.as_slice.ensures ∙ e ∙ sym c.as_slice-2.ensures)) ∙ c.if-not-are_same_items.true))

pub returns : goal.returns
returns g c =
    let decide = c.choices_decide.ensures.passages in
    let choices = c.args.choices.now.choices.items in
    let one_number = c.args.choices.now.one_number in
    let from = c.args.from.now in
    let real = c.args.real.now in
    let done = IsDone decide choices c.args.region.now (g.V.Seen.shows c.args.seen.now) one_number from real c.args.number in
    done_both decide choices c.args.region.now (g.V.Seen.shows c.args.seen.now) one_number from real c.args.number c.in-Some.one
    c.in-Some-other.other (subst (λ o. done one_number from o) c.in-Some.is c.in_ok-one.ensures)
    (subst (λ o. done None real o) c.in-Some-other.is c.in_ok-other.ensures)
    (sym c.as_slice.ensures ∙ c.are_same_items.ensures.0 c.if-not-are_same_items.false ∙ c.as_slice-2.ensures) c.in_ok-same.same c.in_ok-same.ensures
