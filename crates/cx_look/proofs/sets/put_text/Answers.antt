use Rattle.std.proofs.Common.{◌+◌, [], drop, get_or, refl, subst, sym, ◌≤◌, ◌<◌, ◌∙◌}
use Rattle.cx_look.specs.Parts.{texts_behind}
use Rattle.cx_look.specs.Sets.{texts_meant}
use Rattle.cx_look.proofs.SetLemmas.{at_first, first_full, first_put, only_text, put_after, put_as}
use Rattle.cx_look.proofs.sets.put_text.Goals as goal

pub returns-in_default : goal.returns-in_default
returns-in_default c =
    put_as c.args.line.now.items c.args.text.now (get_or (texts_meant c.args.text.now) c.args.number []) c.put.new.line.items c.put.result
    (only_text c.args.text.now c.args.number (sym c.place_of.ensures ∙ c.in_default.is) c.requires) c.put.ensures

pub returns-then-not-put : goal.returns-then-not-put
returns-then-not-put c =
    first_full c.args.line.now.items c.split_at.result.0.now
    (get_or (texts_behind (drop (c.in-Some.place + 1) c.args.text.now)) c.args.number [])
    (get_or (texts_meant c.args.text.now) c.args.number []) c.put-2.new.line.items c.put-2.result c.if-not-put.true
    (at_first c.args.text.now c.split_at.result.0.now (drop (c.in-Some.place + 1) c.args.text.now) c.in-Some.place c.args.number
    (sym c.place_of.ensures ∙ c.in-Some.is) c.split_at.ensures.front refl c.requires).text_is
    c.put-2.ensures

pub put_behind-requires-clause-count : goal.put_behind-requires-clause-count
put_behind-requires-clause-count c =
    c.count_behind.ensures
    ∙ (at_first c.args.text.now c.split_at.result.0.now c.split_at-2.result.1.now c.in-Some.place c.args.number
    (sym c.place_of.ensures ∙ c.in-Some.is) c.split_at.ensures.front c.split_at-2.ensures.back c.requires).count

pub put_behind-requires-clause-few : goal.put_behind-requires-clause-few
put_behind-requires-clause-few c =
    let at = at_first c.args.text.now c.split_at.result.0.now c.split_at-2.result.1.now c.in-Some.place c.args.number
    (sym c.place_of.ensures ∙ c.in-Some.is) c.split_at.ensures.front c.split_at-2.ensures.back c.requires in
    subst (λ n. n ≤ 10000) (sym (c.count_behind.ensures ∙ at.count)) at.limit

pub put_behind-requires-clause-number : goal.put_behind-requires-clause-number
put_behind-requires-clause-number c =
    let at = at_first c.args.text.now c.split_at.result.0.now c.split_at-2.result.1.now c.in-Some.place c.args.number
    (sym c.place_of.ensures ∙ c.in-Some.is) c.split_at.ensures.front c.split_at-2.ensures.back c.requires in
    subst (λ n. c.args.number < n) (sym (c.count_behind.ensures ∙ at.count)) at.within

pub returns : goal.returns
returns c =
    put_after c.args.line.now.items c.split_at.result.0.now (get_or (texts_behind c.split_at-2.result.1.now) c.args.number [])
    (get_or (texts_meant c.args.text.now) c.args.number []) c.put-2.new.line.items c.put_behind.new.line.items c.put_behind.result
    (at_first c.args.text.now c.split_at.result.0.now c.split_at-2.result.1.now c.in-Some.place c.args.number
    (sym c.place_of.ensures ∙ c.in-Some.is) c.split_at.ensures.front c.split_at-2.ensures.back c.requires).text_is
    (first_put c.args.line.now.items c.split_at.result.0.now c.put-2.new.line.items c.put-2.result c.if-not-put.false c.put-2.ensures)
    c.put_behind.ensures
