pub mod Reports
pub mod Odds
