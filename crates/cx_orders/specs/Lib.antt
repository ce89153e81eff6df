-- The definitions, in reading order.
pub mod Incidents
pub mod Moves
pub mod Facts
pub mod Laws
pub mod Parts
pub use Rattle.cx_search.specs.Moves as Lists
pub use Rattle.cx_search.specs.Finds as Finds
pub use Rattle.cx_search.specs.Forever as Forever
pub use Rattle.cx_look_tasks.specs.Activities as Activities
