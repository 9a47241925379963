pub mod Registry
pub mod Subtags
pub mod Kinds
pub mod Rows
pub mod Faults
pub mod Words
