-- The statements of laws on half-turns and on regions.
pub mod Laws
pub mod Facts
pub use Rattle.cx_region.specs.Events
pub use Rattle.cx_region.specs.Sound
pub use Rattle.cx_region_task.specs.Turn
