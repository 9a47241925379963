pub mod Cases
pub mod NeverBoth
pub mod TextLaws
pub mod Neither
mod OneFault
