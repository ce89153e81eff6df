use Rattle.cx_base.proofs.FieldLemmas.{no_more, one_more}
use Rattle.cx_base.proofs.texts.put.Goals as goal

pub returns-then-at-field-clause-holds : goal.returns-then-at-field-clause-holds
returns-then-at-field-clause-holds c = λ text h. one_more c.args.field.now text c.args.at c.args.character c.if-at-field.true h

pub returns-clause-holds : goal.returns-clause-holds
returns-clause-holds c = λ text h. no_more c.args.field.now text c.args.at c.args.character c.if-at-field.false h
