mod Samples
mod Turns
mod Examples
