-- What contracts of this crate cite.
pub mod Items
pub mod Lines
pub mod RefusalLines
