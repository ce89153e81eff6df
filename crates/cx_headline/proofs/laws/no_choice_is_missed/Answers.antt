use Rattle.cx_headline.proofs.ChoicesLemmas.{are_true, lists_lead}
use Rattle.cx_headline.specs.Laws.Choices.{SeenOfChoices}
use Rattle.cx_look_script.specs.Choices.{number_of}
use Rattle.cx_look_script.specs.Orders.{names_with_edf}
use Rattle.cx_headline.proofs.laws.no_choice_is_missed.Goals as goal

pub returns-clause-missed : goal.returns-clause-missed
returns-clause-missed g c = λ seen choices one_number region edf keys most lines.
    are_true c.off_is_the_region.ensures.exists c.presses_are_runs.ensures.lead c.presses_are_runs.ensures.runs c.scripts_ask_for_steps.ensures
    (g.V.Seen.shows seen) choices one_number region edf keys most lines

pub returns-clause-blocks : goal.returns-clause-blocks
returns-clause-blocks g c = λ block state text is.
    are_true c.off_is_the_region.ensures.exists c.presses_are_runs.ensures.lead c.presses_are_runs.ensures.runs c.scripts_ask_for_steps.ensures
    (SeenOfChoices block state) block.choices (number_of block state.edf.region) state.edf.region (names_with_edf state.edf) block.asked.keys
    block.asked.most is.lines

pub returns-clause-reported : goal.returns-clause-reported
returns-clause-reported g c = c.choices_are_reported_once.ensures

pub returns-clause-led : goal.returns-clause-led
returns-clause-led g c = lists_lead c.presses_are_runs.ensures.runs c.scripts_lead_there.ensures c.scripts_name_their_terminals.ensures
    c.keys_are_asked_by_their_lines.ensures.choices
