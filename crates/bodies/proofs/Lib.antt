pub mod Rest
pub mod Ruling
pub mod Leading
pub mod Judging
pub mod Accepting
pub mod Ending
pub mod Reaching
