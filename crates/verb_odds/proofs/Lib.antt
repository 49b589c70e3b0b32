pub mod OddsLaws
pub mod FoundLaws
pub mod OneRefusal
