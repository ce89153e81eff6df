use Rattle.cx_look_choices.proofs.report.choices_text.Goals as goal

pub region_in-requires : goal.region_in-requires
region_in-requires g c = c.emptied.ensures

pub searched_text-requires : goal.searched_text-requires
searched_text-requires g c = record { most = c.requires; same = c.in_ok-start.ensures }
