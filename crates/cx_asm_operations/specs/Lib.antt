pub mod Operations
pub use Rattle.cx_code.specs.Table
