pub mod Lengths
pub mod Leftovers
pub mod Examples
