-- What the laws state.
pub mod Joined
pub mod Read
pub mod Kept
pub mod Ascent
