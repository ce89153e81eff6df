use Rattle.std.proofs.Common.{rules, ◌≡◌, ◌∙◌, ap₂}
use Rattle.clap.specs.Words.{app_of, rule_of, with_rule}
use Rattle.cx_script_main.proofs.WordLemmas.{file_rule, script, refused_words}
use Rattle.cx_script_main.proofs.arguments.parse.Goals as goal

pub returns-in-Err-2 : goal.returns-in-Err-2
returns-in-Err-2 g c = λ _.
    let rule_is : rule_of c.action-file.result ≡ file_rule = search rules in
    let app_is : app_of c.in-Ok.command ≡ script = c.in-Ok.ensures.shape (search rules) ∙ ap₂ with_rule c.new-2.ensures.app rule_is in
    refused_words (app_of c.in-Ok.command) _ c.in-Err-2.field-0.kind app_is c.in-Err-2.ensures.passes (search rules)
