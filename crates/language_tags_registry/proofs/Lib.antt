pub mod SubtagLemmas
pub mod Entries
pub mod TableRows
pub mod TableNumbers
pub mod RowLaws
pub mod OneFault
pub mod Filled
