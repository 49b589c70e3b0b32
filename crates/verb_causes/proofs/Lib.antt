pub mod CausesLaws
pub mod StagedLaws
pub mod OneRefusal
