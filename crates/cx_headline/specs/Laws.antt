-- Of which runs the headline holds, and its clauses.
pub mod Runs
pub mod Rows
pub mod Sources
pub mod Watching
pub mod Looks
pub mod Orders
pub mod Choices
pub mod Entries
pub mod Due
pub mod Pointers
