pub mod BoolLaws
mod Cutting
mod Different
pub mod ListLaws
pub mod NumberLaws
pub mod ResultLaws
mod Searching
