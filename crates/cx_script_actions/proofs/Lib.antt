pub mod WordLemmas
pub mod EffectLemmas
pub mod ScreenLemmas
pub mod HexLemmas
pub mod DisplayLemmas
