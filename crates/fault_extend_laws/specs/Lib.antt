pub mod Uses
pub mod Expressions
pub mod Laws
pub mod SliceUses
