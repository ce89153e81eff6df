-- The definitions, in reading order.
pub mod Settling
pub mod Moves
pub mod Facts
pub mod Laws
pub use Rattle.cx_search.specs.Moves as Lists
pub use Rattle.cx_search.specs.Finds as Finds
pub use Rattle.cx_search.specs.Within as Within
pub use Rattle.cx_orders.specs.Moves as Orders
pub use Rattle.cx_look_tasks.specs.Activities as Activities
