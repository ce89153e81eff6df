-- Lemmas for the crates above: what always holds of a region is kept; runs that stop.
pub mod Live
pub mod SoundDefining
pub mod SoundAttach
pub mod SoundTurned
pub mod SoundAlter
pub mod Stopped
