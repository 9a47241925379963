pub mod Comparing
pub mod ComparingLaws
pub mod Sharing
pub mod SoFar
pub mod SharingLaws
