mod CausesReads
mod CausesSpelled
mod CausesStops
mod RuleLaws
mod PathLaws
mod RuleSteps
mod ReadLaws
pub mod OneReading
