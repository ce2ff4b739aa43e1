pub mod Wire
pub mod Judging
