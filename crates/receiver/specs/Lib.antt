pub mod Draws
pub mod Views
pub mod Steps
pub mod Passes
