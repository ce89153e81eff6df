-- The definitions, in reading order.
pub mod State
pub mod Sources
pub mod Covered
pub mod Runs
pub mod Watched
pub mod Reading
pub mod Allowed
pub mod Faults
pub mod Help
pub mod Telling
pub mod Orders
pub mod Choices
pub mod Looking
pub mod Laws
pub use Rattle.cx_script_actions.specs.Actions
pub use Rattle.cx_script_actions.specs.Language
pub use Rattle.cx_script_actions.specs.Texts
pub use Rattle.cx_script_actions.specs.Effects
pub use Rattle.cx_script_blocks.specs.Shown
pub use Rattle.cx_look.specs.Looks
pub use Rattle.cx_look.specs.Orders as Blocks
pub use Rattle.cx_look.specs.Choices as ChoicesBlocks
pub use Rattle.cx_look_orders.specs.Report as OrdersReports
pub use Rattle.cx_look_choices.specs.Report as ChoicesReports
pub use Rattle.cx_look_faults.specs.Faults as FaultyLines
pub use Rattle.cx_asm_build.specs.Kinds
pub use Rattle.cx_look_lines.specs.Words
pub use Rattle.cx_look_lines.specs.Marked
pub use Rattle.cx_look_tables.specs.Queues
pub use Rattle.cx_look_tables.specs.Programs
pub use Rattle.cx_look_tables.specs.Terminals
pub use Rattle.cx_look_tables.specs.Hidden
pub use Rattle.cx_look_storage.specs.Uses
pub use Rattle.cx_look_storage.specs.Areas
pub use Rattle.cx_look_storage.specs.Bytes
pub use Rattle.cx_look_fields.specs.Levels
pub use Rattle.cx_look_fields.specs.Tasks as TasksLookedAt
pub use Rattle.cx_look_fields.specs.Fields
pub use Rattle.cx_look_fields.specs.FieldTexts
pub use Rattle.cx_look_tasks.specs.Commands
pub use Rattle.cx_look_tasks.specs.Looks as LooksAtCommands
pub use Rattle.cx_look_symbols.specs.Symbols
pub use Rattle.cx_look_symbols.specs.Texts as SymbolTexts
pub use Rattle.cx_look_symbols.specs.Places
pub use Rattle.cx_look_symbols.specs.Sources as SourcesKept
pub use Rattle.cx_look_ahead.specs.Rows
pub use Rattle.cx_look_ahead.specs.Ahead
pub use Rattle.cx_look_ahead.specs.Writers
pub use Rattle.cx_look_ahead.specs.At
pub use Rattle.cx_look_ahead.specs.Watching
pub use Rattle.cx_look_tasks.specs.Activities
pub use Rattle.cx_look_tasks.specs.Tasks
pub use Rattle.cx_look_abend.specs.Dumps
pub use Rattle.cx_look_abend.specs.Abends as LastAbends
pub use Rattle.cx_look_abend.specs.Noting
pub use Rattle.cx_look_abend.specs.Texts as AbendTexts
