mod Turning
mod Outcoming
pub mod Showing
pub mod Course
pub mod Moving
pub mod Passes
pub mod Replying
pub mod Serving
pub mod Keeping
