use Rattle.cx_region_state.proofs.CallLawLemmas.{arguments_have_places, resp_has_its_place}
use Rattle.cx_region_state.proofs.ListedLawLemmas.{labels_have_places}
use Rattle.cx_region_state.proofs.laws.arguments_have_places.Goals as goal

pub returns-clause-options : goal.returns-clause-options
returns-clause-options c = arguments_have_places c.arguments_are_found_by_name.ensures

pub returns-clause-labels : goal.returns-clause-labels
returns-clause-labels c = labels_have_places

pub returns-clause-resp : goal.returns-clause-resp
returns-clause-resp c = resp_has_its_place
