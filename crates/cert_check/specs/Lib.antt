pub mod Matter
pub mod SiteFindings
pub mod QuestionMatter
pub mod Fit
pub mod Moments
pub mod Order
pub mod Parts
