use Rattle.std.proofs.Common.{rules}
use Rattle.cx_ebcdic.specs.Characters.{code_of}
use Rattle.cx_ebcdic.proofs.CodedLemmas.{all_coded}
use Rattle.std.specs.Str.{chars}
use Rattle.cx_ebcdic.proofs.lines.encode_line.Goals as goal

pub returns-in-None-clause-codes : goal.returns-in-None-clause-codes
returns-in-None-clause-codes c =
    let all = all_coded code_of (chars c.args.text.now) (search rules) in
    rw all (search rules)
