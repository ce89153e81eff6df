use Rattle.std.proofs.Common.{◌≤◌, length}
use Rattle.cx_script_actions.proofs.WordLemmas.{within_power}
use Rattle.cx_script_actions.proofs.words.number.Goals as goal

pub returns-clause-bound : goal.returns-clause-bound
returns-clause-bound c =
    let short : length c.args.word.now ≤ c.args.most = c.if-word-most.false in
    within_power c.decimal.result (length c.args.word.now) c.args.most c.decimal.ensures.bound short
