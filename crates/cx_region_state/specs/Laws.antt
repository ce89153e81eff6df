-- What the definitions come to; each is the contract of a public function.
pub mod Calls
