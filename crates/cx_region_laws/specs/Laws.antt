-- What the definitions of a region come to; each is the contract of a public function.
pub mod Bytes
pub mod Exits
pub mod Levels
pub mod TaskMemory
pub mod Pointers
pub mod Reports
pub mod Regions
pub mod Alterations
pub mod Sound
pub mod Memory
pub mod Outcomes
pub mod Commareas
