pub mod Hints
pub mod Outcome
pub mod TryConcat
pub mod TryConcatLaws
