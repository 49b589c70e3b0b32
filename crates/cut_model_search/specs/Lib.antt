pub mod CaseAnalysis
pub mod Searches
pub mod FaultyModels
pub mod MomentReading
pub mod Texts
pub mod Certifiable
pub mod Reports
