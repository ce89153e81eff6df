-- Lemmas that other crates cite.
pub mod Programs
pub mod Queues
pub mod FitsParts
pub mod FitsServices
pub mod Fits
pub mod Decides
