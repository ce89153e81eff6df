use Rattle.std.specs.Prelude.{slice_index}
use Rattle.cx_load.proofs.ApartLemmas.{inside_at, inside_from, all_apart_from, pair_apart, share_none, apart_of_none}
use Rattle.cx_load.specs.Facts.Faults.{facts_of_fit, fit_of_facts}
use Rattle.cx_load.proofs.laws.facts_of_checked.Goals as goal

pub returns-clause-fit : goal.returns-clause-fit
returns-clause-fit c image = (facts_of_fit image, fit_of_facts image)

pub returns-clause-inside : goal.returns-clause-inside
returns-clause-inside c size relocs = (λ all i h. inside_at size relocs i all h, inside_from size relocs)

pub returns-clause-apart : goal.returns-clause-apart
returns-clause-apart c relocs = (
  λ all i j before h. share_none (slice_index relocs i) (slice_index relocs j) (pair_apart relocs i j all before h),
  λ none. all_apart_from relocs (λ i j before h. apart_of_none (slice_index relocs i) (slice_index relocs j) (none i j before h)),
)
