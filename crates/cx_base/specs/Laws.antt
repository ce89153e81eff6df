-- What the laws state.
pub mod Rows
pub mod Layouts
