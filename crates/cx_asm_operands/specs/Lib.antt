-- The definitions, in reading order.
pub mod Checking
pub mod Bases
pub mod Addresses
pub mod Context
pub mod Storage
pub mod Forms
pub mod Directives
pub mod Laws
pub use Rattle.cx_asm_expressions.specs.Faults
pub use Rattle.cx_asm_expressions.specs.Symbols
pub use Rattle.cx_asm_expressions.specs.Expressions
pub use Rattle.cx_asm_expressions.specs.Items
pub use Rattle.cx_asm_expressions.specs.Bytes
pub use Rattle.cx_code.specs.Table
pub use Rattle.cx_code.specs.Spelling
pub use Rattle.cx_asm_operations.specs.Operations
