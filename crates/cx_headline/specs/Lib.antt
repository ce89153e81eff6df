-- The statements of the headline.
pub mod Laws
