-- The definitions, in reading order.
pub mod Queues
pub mod Programs
pub mod Terminals
pub mod Hidden
pub mod Laws
