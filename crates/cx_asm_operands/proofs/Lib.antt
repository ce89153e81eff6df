mod FitLemmas
mod FaultLemmas
mod SmallLemmas
mod AddressLemmas
mod NearestLemmas
mod FormLemmas
mod LiteralLemmas
