pub mod Pulls
pub mod Fills
pub mod Alone
pub mod Passing
