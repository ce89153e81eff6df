use Rattle.std.proofs.Common.{[], get_or, ◌∙◌}
use Rattle.cx_look.specs.Choices.{lines_meant}
use Rattle.cx_look.proofs.ChoiceLemmas.{begins, key_begins, more_begins}
use Rattle.cx_look.proofs.SetLemmas.{first_put}
use Rattle.cx_look.proofs.choices.is_choice.Goals as goal

pub asks_key-requires-clause-more : goal.asks_key-requires-clause-more
asks_key-requires-clause-more c =
    let line = begins c.args.text.now c.args.number c.requires in
    more_begins c.as_slice.result.now line.0
    (c.as_slice.ensures.value
    ∙ first_put [] (get_or (lines_meant c.args.text.now) c.args.number []) c.put_meant.new.line.items c.put_meant.result
    c.if-not-put_meant.false c.put_meant.ensures
    ∙ line.1)

pub asks_key-requires-clause-key : goal.asks_key-requires-clause-key
asks_key-requires-clause-key c =
    let line = begins c.args.text.now c.args.number c.requires in
    key_begins c.as_slice.result.now line.0
    (c.as_slice.ensures.value
    ∙ first_put [] (get_or (lines_meant c.args.text.now) c.args.number []) c.put_meant.new.line.items c.put_meant.result
    c.if-not-put_meant.false c.put_meant.ensures
    ∙ line.1)
