use Rattle.cx_storage.specs.Facts.Spans.{span_length, span_at, span_from}
use Rattle.cx_storage.proofs.laws.span_is_bytes.Goals as goal

pub returns : goal.returns
returns c = λ s a n bytes la. (λ e. (span_length s a n bytes e, λ k h. span_at s a n bytes k la e h), λ each. span_from s a n bytes la each.0 each.1)
