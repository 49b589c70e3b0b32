pub mod Pairs
pub mod Orders
pub mod ClaimSearch
