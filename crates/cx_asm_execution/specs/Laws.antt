-- What the module `laws` promises.
pub mod Entry
pub mod Loaded
pub mod Pointers
