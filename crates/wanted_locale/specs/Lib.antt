pub mod Laws
pub mod Normalised
pub mod Wanted
pub mod Words
