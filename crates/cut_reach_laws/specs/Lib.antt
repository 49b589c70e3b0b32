pub mod Laws
pub mod OrdersExtendedLaws
pub mod FaultlessLaws
pub mod Names
pub mod CausedLaws
pub mod CausedAnalyses
