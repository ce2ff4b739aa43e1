pub mod Reading
pub mod Running
pub mod Ends
pub mod Faults
pub mod Stepping
