pub mod Ascii
pub mod Classes
pub mod FaultLines
