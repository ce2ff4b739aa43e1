pub mod Layout
pub mod Grammar
pub mod Told
pub mod Laws
