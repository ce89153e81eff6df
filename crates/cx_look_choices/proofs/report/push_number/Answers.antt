use Rattle.std.proofs.Common.{◌≡◌, ◌++◌, subst}
use Rattle.std.specs.Prelude.{OnOk}
use Rattle.cx_look_lines.specs.Words.{with_blanks}
use Rattle.cx_look_choices.proofs.ReportLemmas.{words_show}
use Rattle.cx_look_choices.proofs.report.push_number.Goals as goal

pub returns-then-shows : goal.returns-then-shows
returns-then-shows c =
    subst (λ words. OnOk c.push_words.result (c.push_words.new.text.items ≡ c.args.line.now.items ++ with_blanks words))
    (words_show c.args.one_number c.is_none.result c.args.shows c.is_none.ensures c.if-is_none.false c.if-shows.true) c.push_words.ensures
