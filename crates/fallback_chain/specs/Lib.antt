pub mod Along
pub mod Chain
