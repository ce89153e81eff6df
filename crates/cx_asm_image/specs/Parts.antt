-- Words of private functions.
pub mod Making
