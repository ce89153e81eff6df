use Rattle.std.proofs.Common.{[], get_or, ◌∙◌}
use Rattle.cx_look.specs.Choices.{lines_meant}
use Rattle.cx_look.proofs.ChoiceLemmas.{begins, key_begins, more_begins}
use Rattle.cx_look.proofs.SetLemmas.{first_put}
use Rattle.cx_look.proofs.choices.choice_of.Goals as goal

pub key_line_of-requires-clause-more : goal.key_line_of-requires-clause-more
key_line_of-requires-clause-more c =
    let line = begins c.args.text.now c.args.number c.requires in
    more_begins c.as_slice.result.now line.0
    (c.as_slice.ensures.value
    ∙ first_put [] (get_or (lines_meant c.args.text.now) c.args.number []) c.put_meant.new.line.items c.put_meant.result
    c.if-not-put_meant.false c.put_meant.ensures
    ∙ line.1)

pub key_line_of-requires-clause-key : goal.key_line_of-requires-clause-key
key_line_of-requires-clause-key c =
    let line = begins c.args.text.now c.args.number c.requires in
    key_begins c.as_slice.result.now line.0
    (c.as_slice.ensures.value
    ∙ first_put [] (get_or (lines_meant c.args.text.now) c.args.number []) c.put_meant.new.line.items c.put_meant.result
    c.if-not-put_meant.false c.put_meant.ensures
    ∙ line.1)
