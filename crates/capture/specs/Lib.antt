pub mod Pieces
pub mod Sections
pub mod Captures
pub mod Replays
pub mod Recordings
pub mod Examples
