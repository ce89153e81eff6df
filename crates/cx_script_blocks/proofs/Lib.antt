pub mod HexLines
pub mod BlockLemmas
