use Rattle.std.proofs.Common.{subst}
use Rattle.cx_load.specs.Laws.Fit.{FitFacts}
use Rattle.cx_load.specs.Facts.Faults.{facts_of_fit}
use Rattle.cx_load.proofs.fault.CheckedImage.image.Goals as goal

pub returns-clause-facts : goal.returns-clause-facts
returns-clause-facts c = subst FitFacts c.self.view_is (facts_of_fit _ c.self.invariant)
