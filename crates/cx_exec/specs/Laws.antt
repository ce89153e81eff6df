-- The statements that the module `laws` promises.
pub mod Numbers
pub mod Strings
pub mod Runs
pub mod Fetch
