-- What follows from the definitions, for the proofs of this crate and of the crates above it.
pub mod CaseLaws
pub mod Faults
pub mod FindLaws
pub mod Flat
pub mod Forward
pub mod Grammar
pub mod Holds
pub mod KeptLaws
pub mod PartsLaws
pub mod PieceLaws
pub mod PrivateLaws
pub mod Runs
pub mod ScannedText
pub mod Unique
