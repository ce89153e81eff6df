-- The bytes made of the instruction's parts are its spelling.
use Rattle.std.proofs.Common.{◌∙◌, ap}
use Rattle.cx_code.specs.Table.{code_of}
use Rattle.cx_code.proofs.SpellingLemmas.{made_spells}
use Rattle.cx_code.proofs.spelling.encode.Goals as goal

pub returns-clause-spells : goal.returns-clause-spells
returns-clause-spells c =
    (made_spells c.args.inst.now _ _ _ c.fields.ensures.formed (c.code.ensures ∙ ap code_of c.op.ensures) c.fields.ensures.value c.bytes_of.ensures).1
