pub mod Analyses
pub mod InputBits
pub mod Searchables
pub mod Printed
pub mod EntryLaws
