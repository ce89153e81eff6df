use Rattle.std.proofs.Common.{◌≡◌, ◌∙◌, ◌++◌, [], ◌∷◌, ap, append_assoc, codes, sym}
use Rattle.std.specs.Option.{option_copied}
use Rattle.cx_look_lines.specs.Words.{look_line}
use Rattle.cx_look_orders.specs.Report.{loop_lines}
use Rattle.cx_look_steps.specs.Script.{script_lines}
use Rattle.cx_look_steps.specs.Facts.Lists.{ok_on}
use Rattle.cx_look_orders.proofs.report.loop_lines.Goals as goal

pub returns : goal.returns
returns g c =
    let region = c.args.region.now in
    let keys = c.args.keys.now in
    let edf = c.args.edf.now in
    let before = c.args.report.now in
    let line = look_line (codes "ORDERS SOME NEVER REST" ∷ []) in
    let steps = c.in-Some.steps.now in
    ok_on (λ _. c.script_lines.new.report ≡ c.line.new.self ++ script_lines region keys edf c.as_slice.result.now)
    (λ _. c.script_lines.new.report ≡ before ++ loop_lines region keys edf (option_copied c.args.steps)) c.script_lines.result
    (λ _ e.
    e ∙ ap (λ s. c.line.new.self ++ script_lines region keys edf s) c.as_slice.ensures
    ∙ ap (λ l. l ++ script_lines region keys edf steps) c.in_ok-line.ensures
    ∙ append_assoc before line (script_lines region keys edf steps)
    ∙ ap (λ o. before ++ loop_lines region keys edf o) (sym (ap option_copied c.in-Some.is)))
    c.script_lines.ensures
