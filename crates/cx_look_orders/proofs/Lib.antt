mod ListLemmas
mod StepLemmas
mod PlaceLemmas
mod OutcomeLemmas
mod HeadLemmas
