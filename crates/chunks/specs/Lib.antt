pub mod Machine
pub mod Decoding
pub mod Splitting
pub mod Layer
pub mod Drawing
pub mod Grammar
pub mod Laws
