-- The definitions, in reading order.
pub mod State
pub mod Tables
pub mod Defining
pub mod Attach
pub mod Turn
pub mod Alter
pub mod Events
pub mod Replies
pub mod Looking
pub mod Changes
pub mod Sound
pub mod Facts
pub mod Parts
pub use Rattle.cx_region_state.specs.Eib
pub use Rattle.cx_base.specs.Commands
pub use Rattle.cx_base.specs.Conditions
pub use Rattle.cx_base.specs.Legal
pub use Rattle.cx_region_state.specs.Areas
pub use Rattle.cx_region_state.specs.Replies as TurnReplies
pub use Rattle.cx_region_state.specs.State as TaskStates
pub use Rattle.cx_storage.specs.Address
pub use Rattle.cx_storage.specs.Storage
pub use Rattle.cx_region_task.specs.Abends as Abends
pub use Rattle.cx_region_task.specs.Continuations as Continuations
pub use Rattle.cx_region_task.specs.Turn as HalfTurns
pub use Rattle.cx_region_task.specs.Sound as SoundTasks
