-- Words of laws.
pub mod Cover
