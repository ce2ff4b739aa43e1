pub mod Fillings
mod Turns
