mod Draws
pub mod Uses
mod Passing
pub mod Granted
pub mod Fronts
