use Rattle.cx_look_script.proofs.MarkLemmas as lemmas
use Rattle.cx_look_script.proofs.laws.looks_are_marked.Goals as goal

pub returns-clause-looks : goal.returns-clause-looks
returns-clause-looks c = lemmas.looks_are_marked

pub returns-clause-orders : goal.returns-clause-orders
returns-clause-orders c = lemmas.orders_are_marked

pub returns-clause-choices : goal.returns-clause-choices
returns-clause-choices c = lemmas.choices_are_marked
