pub mod Checksums
pub mod Reading
