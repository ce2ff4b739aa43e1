pub mod Calling
pub mod Outcomes
pub mod Order
pub mod Law
