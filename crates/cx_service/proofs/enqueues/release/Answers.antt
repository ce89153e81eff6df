use Rattle.std.proofs.Common.{rules}
use Rattle.indexmap.proofs.CallerLemmas.{filter-RetainsPairs}
use Rattle.cx_service.specs.Resources.{without_owner}
use Rattle.cx_service.proofs.enqueues.release.Goals as goal

pub returns : goal.returns
unfolding without_owner
returns c = filter-RetainsPairs _ _ _ (λ k v b w g call. search rules) _ _ c.retain.ensures.filtered
