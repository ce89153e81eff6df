use Rattle.std.proofs.Common.{[], ◌++◌, ap, codes, get_or, ◌∙◌}
use Rattle.cx_look.specs.Choices.{lines_meant}
use Rattle.cx_look.specs.Sets.{texts_meant}
use Rattle.cx_look.proofs.ChoiceLemmas.{after_none, after_some, at_meant, none_meant}
use Rattle.cx_look.proofs.SetLemmas.{first_put, put_after}
use Rattle.cx_look.proofs.choices.put_meant.Goals as goal

pub returns-in_default : goal.returns-in_default
returns-in_default c =
    absurd (none_meant c.args.text.now c.args.number
    (after_none c.split_word.result.1 c.args.text.now c.split_word.ensures.after c.in_default.is) c.requires.number)

pub put_text-requires : goal.put_text-requires
put_text-requires c =
    (at_meant c.args.text.now c.in-Some.rest.now c.args.number
    (after_some c.split_word.result.1 c.in-Some.rest c.args.text.now c.split_word.ensures.after c.in-Some.is) c.requires.number).within

pub returns : goal.returns
returns c =
    put_after [] (codes "KEY ") (get_or (texts_meant c.in-Some.rest.now) c.args.number [])
    (get_or (lines_meant c.args.text.now) c.args.number []) c.put.new.line.items c.put_text.new.line.items c.put_text.result
    (at_meant c.args.text.now c.in-Some.rest.now c.args.number
    (after_some c.split_word.result.1 c.in-Some.rest c.args.text.now c.split_word.ensures.after c.in-Some.is) c.requires.number).line
    (first_put c.args.line.now.items (codes "KEY ") c.put.new.line.items c.put.result c.if-not-put.false c.put.ensures
    ∙ ap (λ l. l ++ codes "KEY ") c.requires.empty)
    c.put_text.ensures
