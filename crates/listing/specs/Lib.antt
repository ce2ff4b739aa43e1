pub mod Lines
pub mod Samples
pub mod Listings
pub mod Examples
