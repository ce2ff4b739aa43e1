mod Advancing
mod Pulling
mod Leading
mod Reading
mod Deciding
