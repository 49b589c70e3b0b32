pub mod LineTexts
pub mod PackedLemmas
pub mod PieceLaws
pub mod Cutting
pub mod LineLaws
pub mod NumeralLaws
pub mod ReadingLaws
pub mod WholeLaws
